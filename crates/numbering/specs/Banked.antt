-- Banks of four: number n is in bank (n - 1) div 4 + 1, and is its A, B, C or D for (n - 1) mod 4 = 0, 1, 2, 3. The text is the bank in base
-- ten, then the letter. There are 1,000,000 banks, and so 4,000,000 numbers.
use Rattle.std.specs.Prelude.{◌≡◌, ℕ, ◌+◌, ◌-◌, ◌*◌, ◌/◌, ◌%◌, Bool, cond, ◌&&◌, List, [], ◌∷◌, ◌++◌, length, take, Some, None, codes, decimal, Option, nat_le, slice_index, refl}
use Rattle.std.specs.Option.{option_map}
use Rattle.std.specs.Fmt.{digits}
use Rattle.numbering.specs.Numeral.{numeral}

abbrev pub bank_of : ℕ → ℕ
bank_of n = (n - 1) / 4 + 1

abbrev pub letter_of : ℕ → ℕ
letter_of n = 65 + (n - 1) % 4

abbrev pub banked : ℕ → List ℕ
banked n = decimal (bank_of n) ++ letter_of n ∷ []

abbrev pub front : List ℕ → List ℕ
front t = take (length t - 1) t

abbrev pub final : List ℕ → ℕ
final t = slice_index t (length t - 1)

-- A, B, C or D
abbrev pub letter : ℕ → Bool
letter b = nat_le 65 b && nat_le b 68

abbrev pub number_in : ℕ → ℕ → ℕ
number_in b bank = (bank - 1) * 4 + (b - 65) + 1

abbrev pub banked_reading : List ℕ → Option ℕ
banked_reading t = cond (letter (final t)) (option_map (number_in (final t)) (numeral 1000000 (front t))) None

example_first : banked 1 ≡ codes "1A"
unfolding digits
example_first = refl

example_second_bank : banked 5 ≡ codes "2A"
unfolding digits
example_second_bank = refl

example_last : banked 4000000 ≡ codes "1000000D"
unfolding digits
example_last = refl

example_read : banked_reading (codes "1000000D") ≡ Some 4000000
example_read = refl

example_zero : banked_reading (codes "01A") ≡ None
example_zero = refl

example_no_bank : banked_reading (codes "0A") ≡ None
example_no_bank = refl

example_no_letter : banked_reading (codes "1E") ≡ None
example_no_letter = refl

example_empty : banked_reading [] ≡ None
example_empty = refl
