-- The laws of `Decimal`.
use Rattle.std.specs.Prelude.{◌≡◌, ℕ, ◌^◌, ◌<◌, ◌≤◌, List, Some, decimal}
use Rattle.std.proofs.Common.{arith}
use Rattle.std.proofs.lemmas.Fmt.{decimal_nonempty, length-decimal-le}
use Rattle.numbering.specs.Meaning.{Printed, Names}
use Rattle.numbering.specs.Numeral.{numeral}
use Rattle.numbering.specs.NumeralLaws.{numeral_decimal, decimal_numeral, decimal_byte}

pub short : 10 ≤ 32
short = omega arith

pub printed : (n : ℕ) → 1 ≤ n → n ≤ 4294967295 → Printed 10 (decimal n)
printed n one last =
    let small : n < 2 ^ 64 = omega arith in
    record {
      some = decimal_nonempty n small;
      most = length-decimal-le 10 n (omega arith) (omega arith) small;
      each = λ i h. let d = decimal_byte n i small h in (omega arith, omega arith);
    }

pub back : (n : ℕ) → 1 ≤ n → n ≤ 4294967295 → numeral 4294967295 (decimal n) ≡ Some n
back n one last = numeral_decimal 4294967295 n (omega arith) one last

pub only : (t : List ℕ) (n : ℕ) → numeral 4294967295 t ≡ Some n → Names 4294967295 decimal t n
only t n e = let w = decimal_numeral 4294967295 t n (omega arith) e in record { first = w.one; last = w.last; its = w.its }
