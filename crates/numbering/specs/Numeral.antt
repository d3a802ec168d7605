-- Numbers in base ten without leading zeros. The text of n is std's `decimal n`; here is what a text is read as.
use Rattle.std.specs.Prelude.{◌≡◌, ℕ, Bool, false, cond, not, ◌&&◌, List, [], ◌∷◌, Some, None, codes, decimal, Option, ◌==◌, nat_le, refl}
use Rattle.decimal.specs.Decimal.{all_digits, value}
use Rattle.std.specs.Fmt.{digits}

-- one digit or more, the first of them not 0
abbrev pub plain : List ℕ → Bool
plain [] = false
plain (b ∷ s) = not (b == 48) && all_digits (b ∷ s)

-- the number that a text writes, if it is at most `most`
abbrev pub numeral : ℕ → List ℕ → Option ℕ
numeral most t = cond (plain t && nat_le (value t) most) (Some (value t)) None

example_text : decimal 4294967295 ≡ codes "4294967295"
unfolding digits
example_text = refl

example : numeral 4294967295 (codes "4294967295") ≡ Some 4294967295
example = refl

example_over : numeral 4294967295 (codes "4294967296") ≡ None
example_over = refl

example_zero : numeral 4294967295 (codes "07") ≡ None
example_zero = refl

example_empty : numeral 4294967295 [] ≡ None
example_empty = refl
