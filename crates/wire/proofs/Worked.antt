-- The worked cases hold by computing.
use Rattle.std.proofs.Common.{refl}
use Rattle.std.specs.Fmt.{digits}
use Rattle.writer.specs.Written.{written}
use Rattle.wire.specs.Worked.{WorkedCases}

pub worked_cases : WorkedCases
unfolding digits written
worked_cases = record {
  bank_text_of_1 = refl;
  bank_text_of_5 = refl;
  bank_text_of_4000000 = refl;
  bank_01_a_is_none = refl;
  bank_0_a_is_none = refl;
  bank_1_e_is_none = refl;
  empty_text_is_none = refl;
  broken_by_a_letter = refl;
  broken_twice = refl;
  one_empty_data_line = refl;
  two_empty_data_lines = refl;
  bytes_with_lf = refl;
  bytes_with_crlf = refl;
}
