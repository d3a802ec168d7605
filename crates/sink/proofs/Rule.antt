-- The data of an insert is a number, a space and a number, and nothing else is.
use Rattle.std.proofs.Common.{◌≡◌, ℕ, suc, ◌+◌, ◌<◌, Bool, true, false, cond, not, ◌&&◌, eqb, List, [], ◌∷◌, ◌++◌, length, get_or, take, drop, Some, None, Option, sym, refl, ap, ◌∙◌, ap₂, inl, inr, one-add, arith}
use Rattle.std.proofs.lemmas.List.{append_assoc, drop_all, drop_at, drop_more, length-append, take-append-drop, take_at}
use Rattle.std.proofs.lemmas.Bool.{and_parts, cases_lt, eqb-true}
use Rattle.std.proofs.lemmas.Bool.Decides.{nat_tests}
use Rattle.decimal.specs.Decimal.{digit, all_digits, value}
use Rattle.sink.specs.Numeral.{plain, numeral}
use Rattle.sink.specs.Chain.{insert, insert_of, insertion, to_space}

chosen : (v : Bool) (m n : ℕ) → cond v (Some m) None ≡ Some n → v ≡ true
chosen true m n e = refl
chosen false m n e = let z : ◌≡◌ {A = ℕ} 0 1 = cc in absurd (omega arith)

number_has_digits : (s : List ℕ) (n : ℕ) → numeral s ≡ Some n → all_digits s ≡ true
number_has_digits s n e = (and_parts (plain s) (all_digits s) (chosen (plain s && all_digits s) (value s) n e)).1

space_after_digits : (a b : List ℕ) → all_digits a ≡ true → to_space (a ++ 32 ∷ b) ≡ length a
space_after_digits [] b e = refl
space_after_digits (x ∷ a) b e =
    let both = and_parts (digit x) (all_digits a) e in
    let is_digit = both.0 in
    let other_byte : eqb x 32 ≡ false = grind (arith, nat_tests) in
    ap (λ (v : Bool). cond (not v) (1 + to_space (a ++ 32 ∷ b)) 0) other_byte ∙ omega (arith, space_after_digits a b both.1)

pub two_numbers_are_an_insert : (a b : List ℕ) (place code : ℕ) → numeral a ≡ Some place → numeral b ≡ Some code → insertion (a ++ 32 ∷ b) ≡ insert place code
two_numbers_are_an_insert a b place code p q =
    let s = a ++ 32 ∷ b in
    let at = space_after_digits a b (number_has_digits a place p) in
    let long : length (a ++ 32 ∷ []) ≡ length a + 1 = length-append a (32 ∷ []) in
    let first : take (to_space s) s ≡ a = ap (λ (n : ℕ). take n s) at ∙ take_at a (32 ∷ b) (length a) refl in
    let second : drop (to_space s + 1) s ≡ b = ap (λ (n : ℕ). drop (n + 1) s) at ∙ ap (drop (length a + 1)) (sym (append_assoc a (32 ∷ []) b)) ∙ drop_at (a ++ 32 ∷ []) b (length a + 1) long in
    ap₂ insert_of (ap numeral first ∙ p) (ap numeral second ∙ q)

space_found : (s : List ℕ) → to_space s < length s → get_or s (to_space s) 0 ≡ 32
space_found [] h = absurd (omega arith)
space_found (x ∷ s) h = by (eqb x 32) refl h (space_found s)
  where
    by : (v : Bool) → eqb x 32 ≡ v → cond (not v) (1 + to_space s) 0 < suc (length s) → (to_space s < length s → get_or s (to_space s) 0 ≡ 32) → get_or (x ∷ s) (cond (not v) (1 + to_space s) 0) 0 ≡ 32
    by true e _ later = eqb-true x 32 e
    by false e k later = ap (λ (n : ℕ). get_or (x ∷ s) n 0) (one-add (to_space s)) ∙ later (omega arith)

parts_of_an_insert : (x y : Option ℕ) (place code : ℕ) → insert_of x y ≡ insert place code → (x ≡ Some place) × (y ≡ Some code)
parts_of_an_insert (Some x) (Some y) place code e = (cc, cc)
parts_of_an_insert (Some x) None place code e = let z : ◌≡◌ {A = ℕ} 0 1 = cc in absurd (omega arith)
parts_of_an_insert None y place code e = let z : ◌≡◌ {A = ℕ} 0 1 = cc in absurd (omega arith)

-- a text that is an insert's data, by its two parts
pub record InsertData (s : List ℕ) (place code : ℕ) : Type 0 where
  pub before : List ℕ
  pub behind : List ℕ
  pub whole : s ≡ before ++ 32 ∷ behind
  pub place_written : numeral before ≡ Some place
  pub code_written : numeral behind ≡ Some code

pub an_insert_is_two_numbers : (s : List ℕ) (place code : ℕ) → insertion s ≡ insert place code → InsertData s place code
an_insert_is_two_numbers s place code e =
    let n = to_space s in
    let parts = parts_of_an_insert (numeral (take n s)) (numeral (drop (n + 1) s)) place code e in
    let inside : n < length s = elim (cases_lt n (length s)) [
      | inl h ↦ h
      | inr h ↦
          let empty : numeral (drop (n + 1) s) ≡ None = ap numeral (drop_all (n + 1) s (omega arith)) in
          let wrong = parts.1 in
          let z : ◌≡◌ {A = ℕ} 0 1 = cc in
          absurd (omega arith)
    ] in
    record { before = take n s; behind = drop (n + 1) s; whole = sym (take-append-drop n s) ∙ ap (λ (t : List ℕ). take n s ++ t) (drop_more s n 0 inside ∙ ap (λ (b : ℕ). b ∷ drop (n + 1) s) (space_found s inside)); place_written = parts.0; code_written = parts.1 }
