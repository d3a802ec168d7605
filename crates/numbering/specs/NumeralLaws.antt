-- Numbers in base ten without leading zeros: what is written is read back, and nothing else is read.
use Rattle.std.specs.Prelude.{◌≡◌, ℕ, ◌+◌, ◌-◌, ◌*◌, ◌^◌, ◌<◌, ◌≤◌, Bool, true, false, cond, not, ◌&&◌, leb, List, [], ◌∷◌, length, Some, None, decimal, ◌==◌, nat_eq, nat_le, slice_index, refl}
use Rattle.std.proofs.Common.{sym, ap, ◌∙◌, ⊎_elim, arith}
use Rattle.decimal.specs.Decimal.{digit, all_digits, value, value_after}
use Rattle.std.proofs.lemmas.Fmt.{decimal_nonempty, first_decimal, decimal-digits_value, decimal_is_IsNumeral, digits_decimal, digits_value-decimal}
use Rattle.std.proofs.lemmas.Str.Parse.{IsNumeralModel, IsDigitsTest, FoldsDigits, numerals_by_fold, digit_at}
use Rattle.std.proofs.lemmas.Bool.{and_parts, and_from, leb-true, le-leb, eqb-false, ne_eqb, not-true, not_from_false, cases_lt, cases_Bool, both_ways}
use Rattle.std.specs.Int.{IsInRange}
use Rattle.numbering.specs.Numeral.{plain, numeral}

-- the crate's words for digits and their value are std's
tells : IsDigitsTest (λ ds. all_digits ds ≡ true)
tells = record {
  empty = refl;
  parts = λ c cs h.
      let p = and_parts (digit c) (all_digits cs) h in
      let q = and_parts (nat_le 48 c) (nat_le c 57) p.0 in
      ((leb-true 48 c q.0, leb-true c 57 q.1), p.1);
  more = λ c cs i h. and_from (digit c) (all_digits cs) (and_from (nat_le 48 c) (nat_le c 57) (le-leb 48 c i.0) (le-leb c 57 i.1)) h;
}

folds : FoldsDigits value_after
folds = record { empty = λ n. refl; more = λ n c cs i. refl }

pub own : IsNumeralModel (λ ds. all_digits ds ≡ true) value
own = numerals_by_fold (λ ds. all_digits ds ≡ true) tells value_after folds

pub value_grows : (s : List ℕ) (n : ℕ) → n ≤ value_after n s
value_grows [] n = omega arith
value_grows (b ∷ s) n = omega (arith, value_grows s (n * 10 + (b - 48)))

plain_digits : (t : List ℕ) → plain t ≡ true → (all_digits t ≡ true) × (0 < length t) × (48 < slice_index t 0)
plain_digits [] h = absurd (both_ways false refl h)
plain_digits (b ∷ s) h =
    let p = and_parts (not (b == 48)) (all_digits (b ∷ s)) h in
    let i = (tells.parts b s p.1).0 in
    ⊎_elim
    (λ (e : nat_eq b 48 ≡ true). absurd (both_ways (b == 48) (not-true (b == 48) p.0) e))
    (λ (e : nat_eq b 48 ≡ false). (p.1, omega arith, ⊎_elim (λ (lt : 48 < b). lt) (λ (ge : b ≤ 48). absurd (eqb-false b 48 e (omega arith))) (cases_lt 48 b)))
    (cases_Bool (b == 48))

pub plain_from : (t : List ℕ) → all_digits t ≡ true → 0 < length t → 48 < slice_index t 0 → plain t ≡ true
plain_from [] a h f = absurd (omega arith)
plain_from (b ∷ s) a h f = and_from (not (b == 48)) (all_digits (b ∷ s)) (not_from_false (b == 48) (ne_eqb b 48 (λ (e : b ≡ 48). omega arith))) a

-- what is written is read back
pub numeral_decimal : (most n : ℕ) → most < 2 ^ 64 → 1 ≤ n → n ≤ most → numeral most (decimal n) ≡ Some n
numeral_decimal most n small one last =
    let h : n < 2 ^ 64 = omega arith in
    let v : value (decimal n) ≡ n = digits_value-decimal own n h in
    let p : plain (decimal n) ≡ true = plain_from (decimal n) (digits_decimal own n h) (decimal_nonempty n h) (first_decimal n one h) in
    let l : leb (value (decimal n)) most ≡ true = le-leb (value (decimal n)) most (omega arith) in
    ap (λ b. cond b (Some (value (decimal n))) None) (and_from (plain (decimal n)) (nat_le (value (decimal n)) most) p l) ∙ ap Some v

pub record Written (most : ℕ) (t : List ℕ) (n : ℕ) : Type 0 where
  pub one : 1 ≤ n
  pub last : n ≤ most
  pub its : t ≡ decimal n

from_plain : (most : ℕ) (t : List ℕ) (n : ℕ) → most < 2 ^ 64 → plain t ≡ true → nat_le (value t) most ≡ true → value t ≡ n → Written most t n
from_plain most [] n small p l e = absurd (both_ways false refl p)
from_plain most (b ∷ s) n small p l e =
    let d = plain_digits (b ∷ s) p in
    let k : value (b ∷ s) ≤ most = leb-true (value (b ∷ s)) most l in
    let g : 0 * 10 + (b - 48) ≤ value (b ∷ s) = value_grows s (0 * 10 + (b - 48)) in
    let w : decimal (value (b ∷ s)) ≡ b ∷ s = decimal-digits_value own (b ∷ s) d.0 d.1 (λ z. absurd (omega (arith, z, d.2))) (omega arith) in
    record { one = omega (arith, d.2); last = omega arith; its = sym w ∙ ap decimal e }

-- what is read is written so
pub decimal_numeral : (most : ℕ) (t : List ℕ) (n : ℕ) → most < 2 ^ 64 → numeral most t ≡ Some n → Written most t n
decimal_numeral most t n small = by (plain t) refl (nat_le (value t) most) refl
  where
    by : (p : Bool) → plain t ≡ p → (l : Bool) → nat_le (value t) most ≡ l → cond (p && l) (Some (value t)) None ≡ Some n → Written most t n
    by true ep true el e = from_plain most t n small ep el (cc e)
    by true ep false el e = let z : ◌≡◌ {A = ℕ} 0 1 = cc e in absurd (omega arith)
    by false ep l el e = let z : ◌≡◌ {A = ℕ} 0 1 = cc e in absurd (omega arith)

-- each byte of a number is a digit
pub decimal_byte : (n i : ℕ) → n < 2 ^ 64 → i < length (decimal n) → IsInRange 48 57 (slice_index (decimal n) i)
decimal_byte n i small h = digit_at (decimal n) i (decimal_is_IsNumeral n small).0.1 h
