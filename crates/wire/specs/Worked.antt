-- Worked cases, all in one statement.
use Rattle.std.specs.Prelude.{◌≡◌, ℕ, List, [], ◌∷◌, ◌++◌, length, None, codes}
use Rattle.events.specs.Entry.{Entry}
use Rattle.events.specs.Event.{Event}
use Rattle.events.specs.declared.line_end.LineEnd.TheVariants.{Lf, CrLf}
use Rattle.numbering.specs.Banked.{banked, banked_reading}
use Rattle.decoder.specs.Standard.{replacement, decoded}
use Rattle.reading.specs.Standard.{lines_of, events_of}
use Rattle.writer.specs.Written.{written}

-- an event of the default type, without an id
abbrev unnamed : List ℕ → Event
unnamed body = record { id = []; type = codes "message"; «data» = body }

abbrev edit : Entry
edit = record { type = codes "insert"; «data» = codes "0 17" }

pub record WorkedCases : Type 0 where
  pub bank_text_of_1 : banked 1 ≡ codes "1A"
  pub bank_text_of_5 : banked 5 ≡ codes "2A"
  pub bank_text_of_4000000 : banked 4000000 ≡ codes "1000000D"
  pub bank_01_a_is_none : banked_reading (codes "01A") ≡ None
  pub bank_0_a_is_none : banked_reading (codes "0A") ≡ None
  pub bank_1_e_is_none : banked_reading (codes "1E") ≡ None
  pub empty_text_is_none : banked_reading [] ≡ None
  -- a following byte out of its range is read again as a lead byte
  pub broken_by_a_letter : decoded (0xE2 ∷ 0x82 ∷ 0x41 ∷ []) ≡ replacement ++ codes "A"
  pub broken_twice : decoded (0xF0 ∷ 0x80 ∷ []) ≡ replacement ++ replacement
  pub one_empty_data_line : events_of (lines_of (codes "data\n\n")) ≡ unnamed [] ∷ []
  pub two_empty_data_lines : events_of (lines_of (codes "data\ndata\n\n")) ≡ unnamed (0x0A ∷ []) ∷ []
  -- event 2 in bank numbering
  pub bytes_with_lf : length (written Lf (banked 2) edit) ≡ 33
  pub bytes_with_crlf : length (written CrLf (banked 2) edit) ≡ 37
