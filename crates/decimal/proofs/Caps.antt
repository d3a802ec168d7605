-- A number that is capped at each digit is the number capped.
use Rattle.std.proofs.Common.{◌≡◌, ℕ, ◌+◌, ◌-◌, ◌*◌, ◌<◌, ◌≤◌, min, Bool, true, false, cond, ◌&&◌, List, [], ◌∷◌, length, get_or, drop, Some, None, Option, sym, refl, ap, ◌∙◌, ⊎_elim, arith}
use Rattle.std.proofs.lemmas.Bool.{cases_lt}
use Rattle.std.proofs.lemmas.List.{at_drop_more}
use Rattle.decimal.specs.Decimal.{digit, all_digits, value_after, capped_digit, capped_number}

-- what digit by digit comes to from n
abbrev pub rest : ℕ → ℕ → List ℕ → Option ℕ
rest most n [] = Some n
rest most n (b ∷ s) = cond (digit b) (rest most (min (n * 10 + (b - 48)) most) s) None

goes_on : (most n b m : ℕ) (s : List ℕ) → Some m ≡ capped_digit most n b → rest most n (b ∷ s) ≡ rest most m s
goes_on most n b m s = by (digit b)
  where
    by : (v : Bool) → Some m ≡ cond v (Some (min (n * 10 + (b - 48)) most)) None → cond v (rest most (min (n * 10 + (b - 48)) most) s) None ≡ rest most m s
    by true e = let q : m ≡ min (n * 10 + (b - 48)) most = cc e in ap (λ k. rest most k s) (sym q)
    by false e = let z : ◌≡◌ {A = ℕ} 0 1 = cc e in absurd (omega arith)

stops : (most n b : ℕ) (s : List ℕ) → None ≡ capped_digit most n b → rest most n (b ∷ s) ≡ None
stops most n b s = by (digit b)
  where
    by : (v : Bool) → None ≡ cond v (Some (min (n * 10 + (b - 48)) most)) None → cond v (rest most (min (n * 10 + (b - 48)) most) s) None ≡ None
    by true e = let z : ◌≡◌ {A = ℕ} 0 1 = cc e in absurd (omega arith)
    by false e = refl

-- the same at a place of the text
pub goes_on_at : (most n m i : ℕ) (s : List ℕ) → i < length s → Some m ≡ capped_digit most n (get_or s i 0) → rest most m (drop (i + 1) s) ≡ rest most n (drop i s)
goes_on_at most n m i s h e = sym (goes_on most n (get_or s i 0) m (drop (i + 1) s) e) ∙ sym (at_drop_more (rest most n) s i 0 h)

pub stops_at : (most n i : ℕ) (s : List ℕ) → i < length s → None ≡ capped_digit most n (get_or s i 0) → None ≡ rest most n (drop i s)
stops_at most n i s h e = sym (stops most n (get_or s i 0) (drop (i + 1) s) e) ∙ sym (at_drop_more (rest most n) s i 0 h)

capped_step : (most n d : ℕ) → min (min n most * 10 + d) most ≡ min (n * 10 + d) most
capped_step most n d = ⊎_elim (λ (h : n < most). omega arith) (λ (h : most ≤ n). omega arith) (cases_lt n most)

capped_once : (most : ℕ) (s : List ℕ) (n : ℕ) → rest most (min n most) s ≡ cond (all_digits s) (Some (min (value_after n s) most)) None
capped_once most [] n = refl
capped_once most (b ∷ s) n = by (capped_once most s (n * 10 + (b - 48))) (digit b)
  where
    by : rest most (min (n * 10 + (b - 48)) most) s ≡ cond (all_digits s) (Some (min (value_after (n * 10 + (b - 48)) s) most)) None → (v : Bool) → cond v (rest most (min (min n most * 10 + (b - 48)) most) s) None ≡ cond (v && all_digits s) (Some (min (value_after (n * 10 + (b - 48)) s) most)) None
    by ih true = ap (λ m. rest most m s) (capped_step most n (b - 48)) ∙ ih
    by ih false = refl

pub from_nothing : (most : ℕ) (s : List ℕ) → 0 < length s → rest most 0 s ≡ capped_number most s
from_nothing most [] h = absurd (omega arith)
from_nothing most (b ∷ s) h = (let z : 0 ≡ min 0 most = omega arith in ap (λ m. rest most m (b ∷ s)) z) ∙ capped_once most (b ∷ s) 0
