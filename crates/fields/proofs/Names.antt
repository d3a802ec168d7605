-- A line that begins with a name.
use Rattle.std.proofs.Common.{◌≡◌, ℕ, suc, ◌+◌, ◌-◌, ◌<◌, ◌≤◌, false, List, [], ◌∷◌, ◌++◌, length, get_or, take, drop, codes, sym, refl, ap, ◌∙◌, ⊎_elim, arith, ne_eqb}
use Rattle.std.specs.Str.{bytes_eq}
use Rattle.std.proofs.lemmas.Slice.Eq.{bytes_eq-Decides}
use Rattle.std.proofs.lemmas.List.{drop_more, take_rest, get_or-drop, drop_all, length-append}
use Rattle.std.proofs.lemmas.Bool.{cases_Bool}
use Rattle.std.proofs.lemmas.Bool.Decides.{eqb_tells}
use Rattle.fields.specs.Field.{Field, other, data_field, event_field, id_field, retry_field, before, unspaced, field_of}

-- p stands in s from k on
abbrev pub At : List ℕ → List ℕ → ℕ → Type 0
At [] s k = Unit {0}
At (x ∷ p) s k = (get_or s k 0 ≡ x) × At p s (suc k)

from : (p s : List ℕ) (k : ℕ) → k + length p ≤ length s → At p s k → drop k s ≡ p ++ drop (k + length p) s
from [] s k h a = let z : k ≡ k + 0 = omega arith in ap (λ n. drop n s) z
from (x ∷ p) s k h a =
    let m = drop_more s k 0 (omega arith) in
    let r = from p s (suc k) (omega arith) a.1 in
    let j : k + 1 ≡ suc k = omega arith in
    let n : suc k + length p ≡ k + suc (length p) = omega arith in
    cc (m, r, a.0, j, n)

begins : (p s : List ℕ) → length p ≤ length s → At p s 0 → s ≡ p ++ drop (length p) s
begins p s h a = let z : 0 + length p ≡ length p = omega arith in from p s 0 (omega arith) a ∙ ap (λ n. p ++ drop n s) z

shift : (p s : List ℕ) (y k : ℕ) → At p s k → At p (y ∷ s) (suc k)
shift [] s y k a = tt
shift (x ∷ p) s y k a = (a.0, shift p s y (suc k) a.1)

-- The name of s is p: it begins with p, and a colon comes next, if anything.
abbrev pub Named : List ℕ → List ℕ → Type 0
Named p s = (length p ≤ length s) × At p s 0 × (length p < length s → get_or s (length p) 0 ≡ 58)

pub named : (s p : List ℕ) → before s ≡ p → Named p s
named [] [] e = (omega arith, tt, λ h. absurd (omega arith))
named [] (x ∷ p) e = let l = ap length e in absurd (omega arith)
named (y ∷ s) [] e =
    ⊎_elim (λ t. (omega arith, tt, λ h. t.1))
    (λ f. let l = ap length (rw f.0 at e) in absurd (omega arith))
    (eqb_tells y 58)
named (y ∷ s) (x ∷ p) e =
    ⊎_elim (λ t. let l = ap length (rw t.0 at e) in absurd (omega arith))
    (λ f.
    let g : y ∷ before s ≡ x ∷ p = rw f.0 at e in
    let h : y ≡ x = cc g in
    let r : before s ≡ p = cc g in
    let n = named s p r in
    (omega (arith, n.0), (h, shift p s y 0 n.1), λ k. n.2 (omega arith)))
    (eqb_tells y 58)

-- Lines of the name p say k of their value.
pub record Keyword (p : List ℕ) (k : List ℕ → Field) : Type 0 where
  pub colon : (t : List ℕ) → field_of (p ++ 58 ∷ t) ≡ k (unspaced t)
  pub alone : field_of p ≡ k []

pub data_word : Keyword (codes "data") data_field
data_word = record { colon = λ t. refl; alone = refl }

pub event_word : Keyword (codes "event") event_field
event_word = record { colon = λ t. refl; alone = refl }

pub id_word : Keyword (codes "id") id_field
id_word = record { colon = λ t. refl; alone = refl }

pub retry_word : Keyword (codes "retry") retry_field
retry_word = record { colon = λ t. refl; alone = refl }

unspaced_same : (t : List ℕ) → (get_or t 0 0 ≡ 32 → ⊥) → unspaced t ≡ t
unspaced_same [] n = refl
unspaced_same (x ∷ t) n = rw (ne_eqb x 32 n) refl

colon_behind : (p t : List ℕ) (b : List ℕ) → (p ++ b) ++ t ≡ p ++ (b ++ t)
colon_behind [] t b = refl
colon_behind (x ∷ p) t b = ap (λ s. x ∷ s) (colon_behind p t b)

module _ {p : List ℕ} {k : List ℕ → Field} (w : Keyword p k) (s : List ℕ) where
  pub with_space : (n : ℕ) → n ≡ length (p ++ 58 ∷ 32 ∷ []) → n ≤ length s → At (p ++ 58 ∷ 32 ∷ []) s 0 → k (take (length s - n) (drop n s)) ≡ field_of s
  with_space n e h a =
      let q : s ≡ (p ++ 58 ∷ 32 ∷ []) ++ drop n s = begins (p ++ 58 ∷ 32 ∷ []) s (omega arith) a ∙ ap (λ m. (p ++ 58 ∷ 32 ∷ []) ++ drop m s) (sym e) in
      ap k (take_rest s n) ∙ sym (ap field_of (q ∙ colon_behind p (drop n s) (58 ∷ 32 ∷ [])) ∙ w.colon (32 ∷ drop n s))

  pub without_space : (n : ℕ) → n ≡ length (p ++ 58 ∷ []) → n ≤ length s → At (p ++ 58 ∷ []) s 0 → (get_or s n 0 ≡ 32 → ⊥) → k (take (length s - n) (drop n s)) ≡ field_of s
  without_space n e h a no-space =
      let q : s ≡ (p ++ 58 ∷ []) ++ drop n s = begins (p ++ 58 ∷ []) s (omega arith) a ∙ ap (λ m. (p ++ 58 ∷ []) ++ drop m s) (sym e) in
      let z : n + 0 ≡ n = omega arith in
      ap k (take_rest s n ∙ sym (unspaced_same (drop n s) (λ g. no-space (ap (λ m. get_or s m 0) (sym z) ∙ sym (get_or-drop n s 0 0) ∙ g))))
      ∙ sym (ap field_of (q ∙ colon_behind p (drop n s) (58 ∷ [])) ∙ w.colon (drop n s))

  pub name_alone : length s ≡ length p → At p s 0 → k [] ≡ field_of s
  name_alone e a =
      let q : s ≡ p ++ drop (length p) s = begins p s (omega arith) a in
      let z = drop_all (length p) s (omega arith) in
      sym (ap field_of (q ∙ ap (λ t. p ++ t) z ∙ mathlib.Core.List.append-nil p) ∙ w.alone)

pub nonempty : (s : List ℕ) → get_or s 0 0 ≡ 58 → 0 < length s
nonempty [] e = absurd (omega arith)
nonempty (x ∷ s) e = omega arith

not_same : (xs ys : List ℕ) → (xs ≡ ys → ⊥) → bytes_eq xs ys ≡ false
not_same xs ys n = ⊎_elim (λ t. absurd (n ((bytes_eq-Decides xs ys).0 t))) (λ f. f) (cases_Bool (bytes_eq xs ys))

pub no_word : (s : List ℕ) → (get_or s 0 0 ≡ 58 → ⊥) → (before s ≡ codes "data" → ⊥) → (before s ≡ codes "event" → ⊥) → (before s ≡ codes "id" → ⊥) → (before s ≡ codes "retry" → ⊥) → other ≡ field_of s
no_word s c d e i r = simp (ne_eqb (get_or s 0 0) 58 c, not_same (before s) (codes "data") d, not_same (before s) (codes "event") e, not_same (before s) (codes "id") i, not_same (before s) (codes "retry") r)

-- what the proofs of the other calls draw on
pub ruleset field_laws = (length-append)
