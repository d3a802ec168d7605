-- A table that holds what a rule says of each place, by one test that computes.
use Rattle.std.proofs.Common.{◌≡◌, ℕ, zero, suc, ◌<◌, Bool, true, ◌&&◌, eqb, List, [], ◌∷◌, length, get_or, le_of_suc-le-suc, not-suc-le-zero}
use Rattle.std.proofs.lemmas.Bool.{eqb-true, and_parts}

abbrev pub agrees : (ℕ → ℕ) → List ℕ → Bool
agrees rule [] = true
agrees rule (x ∷ xs) = eqb x (rule 0) && agrees (λ k. rule (suc k)) xs

pub table_at : (rule : ℕ → ℕ) (xs : List ℕ) (k : ℕ) → agrees rule xs ≡ true → k < length xs → get_or xs k 0 ≡ rule k
table_at rule [] k e h = absurd (not-suc-le-zero h)
table_at rule (x ∷ xs) zero e h = eqb-true x (rule 0) (and_parts (eqb x (rule 0)) (agrees (λ k. rule (suc k)) xs) e).0
table_at rule (x ∷ xs) (suc k) e h = table_at (λ k. rule (suc k)) xs k (and_parts (eqb x (rule 0)) (agrees (λ k. rule (suc k)) xs) e).1 (le_of_suc-le-suc h)
