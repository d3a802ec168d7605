-- What is read as no number for its length alone.
use Rattle.std.proofs.Common.{◌≡◌, ℕ, zero, suc, ◌+◌, ◌-◌, ◌*◌, ◌^◌, ◌<◌, ◌≤◌, Bool, true, false, cond, ◌&&◌, leb, List, [], ◌∷◌, length, get_or, Some, None, refl, ap, arith}
use Rattle.std.proofs.lemmas.Bool.{lt-leb}
use Rattle.decimal.specs.Decimal.{value_after}
use Rattle.numbering.specs.Numeral.{plain, numeral}

-- digits never take a number down
at_least : (n : ℕ) (s : List ℕ) → n ≤ value_after n s
at_least n [] = omega arith
at_least n (b ∷ s) = omega (arith, at_least (n * 10 + (b - 48)) s)

-- m with so many zeros behind it
abbrev tens : ℕ → ℕ → ℕ
tens m zero = m
tens m (suc k) = tens (m * 10) k

past_tens : (k m n : ℕ) (s : List ℕ) → m ≤ n → k ≤ length s → tens m k ≤ value_after n s
past_tens zero m n s h l = omega (arith, h, at_least n s)
past_tens (suc k) m n [] h l = absurd (omega arith)
past_tens (suc k) m n (b ∷ s) h l = past_tens k (m * 10) (n * 10 + (b - 48)) s (omega arith) (omega arith)

no_number : (p : Bool) (v most : ℕ) → most < v → cond (p && leb v most) (Some v) None ≡ None
no_number true v most h = ap (λ (q : Bool). cond q (Some v) None) (lt-leb v most h)
no_number false v most h = refl

-- eleven digits, the first of them not 0, are past every number of 32 bits
pub too_long : (most : ℕ) (t : List ℕ) → most < 2 ^ 32 → 49 ≤ get_or t 0 0 → 10 < length t → numeral most t ≡ None
too_long most [] m f l = absurd (omega arith)
too_long most (b ∷ s) m f l =
    let past : 10000000000 ≤ value_after (0 * 10 + (b - 48)) s = past_tens 10 1 (0 * 10 + (b - 48)) s (omega arith) (omega arith) in
    no_number (plain (b ∷ s)) (value_after (0 * 10 + (b - 48)) s) most (omega (arith, past))
