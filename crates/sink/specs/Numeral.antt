-- What a number is in the data of an event: digits in base ten, with no zero before others.
use Rattle.std.specs.Prelude.{◌≡◌, ℕ, Bool, true, false, cond, not, ◌&&◌, List, [], ◌∷◌, Some, None, codes, Option, ◌==◌, refl}
use Rattle.decimal.specs.Decimal.{all_digits, value}

-- something stands there, and a zero stands first only where it stands alone
abbrev pub plain : List ℕ → Bool
plain [] = false
plain (b ∷ []) = true
plain (b ∷ c ∷ s) = not (b == 48)

abbrev pub numeral : List ℕ → Option ℕ
numeral s = cond (plain s && all_digits s) (Some (value s)) None

zero_is_a_number : numeral (codes "0") ≡ Some 0
zero_is_a_number = refl

long_ones_do_not_wrap : numeral (codes "99999999999999999999") ≡ Some 99999999999999999999
long_ones_do_not_wrap = refl

no_zero_before_others : numeral (codes "01") ≡ None
no_zero_before_others = refl

no_two_zeros : numeral (codes "00") ≡ None
no_two_zeros = refl

no_sign : numeral (codes "+1") ≡ None
no_sign = refl

nothing_is_no_number : numeral (codes "") ≡ None
nothing_is_no_number = refl
