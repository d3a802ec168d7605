-- What text means as a number in base ten.
use Rattle.std.specs.Prelude.{◌≡◌, ℕ, ◌+◌, ◌-◌, ◌*◌, min, Bool, true, false, cond, not, ◌&&◌, List, [], ◌∷◌, Some, None, codes, Option, nat_le, refl}

-- an ASCII digit
abbrev pub digit : ℕ → Bool
digit b = nat_le 48 b && nat_le b 57

abbrev pub all_digits : List ℕ → Bool
all_digits [] = true
all_digits (b ∷ s) = digit b && all_digits s

abbrev pub empty : List ℕ → Bool
empty [] = true
empty (b ∷ s) = false

-- one digit or more
abbrev pub digits : List ℕ → Bool
digits s = not (empty s) && all_digits s

-- n is what the digits before these write
abbrev pub value_after : ℕ → List ℕ → ℕ
value_after n [] = n
value_after n (b ∷ s) = value_after (n * 10 + (b - 48)) s

abbrev pub value : List ℕ → ℕ
value s = value_after 0 s

-- The number that text writes, at most `most`, if it is digits.
abbrev pub capped_number : ℕ → List ℕ → Option ℕ
capped_number most s = cond (digits s) (Some (min (value s) most)) None

-- a digit more behind the number n, at most `most`, if the byte is one
abbrev pub capped_digit : ℕ → ℕ → ℕ → Option ℕ
capped_digit most n b = cond (digit b) (Some (min (n * 10 + (b - 48)) most)) None

example : capped_number 3600000 (codes "0250") ≡ Some 250
example = refl

example_capped : capped_number 63 (codes "99999999999999999999") ≡ Some 63
example_capped = refl

example_none : capped_number 63 (codes "1.5") ≡ None
example_none = refl
