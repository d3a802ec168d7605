-- The place of the first item that passes a test, if one does.
use Rattle.std.proofs.Common.{◌≡◌, ℕ, ◌<◌, ◌≤◌, Bool, true, false, cond, ltb, List, length, Some, None, arith}
use Rattle.std.specs.List.{position, position_or_len}
use Rattle.std.proofs.lemmas.Bool.{ltb-true, ltb-false}

module _ {X : Type 0} (p : X → Bool) (s : List X) where
  pub found_at : (at : ℕ) → Some at ≡ position p s → (at ≡ position_or_len p s) × (at < length s)
  found_at at e = by (ltb (position_or_len p s) (length s)) (λ h. ltb-true (position_or_len p s) (length s) h) e
    where
      by : (v : Bool) → (v ≡ true → position_or_len p s < length s) → Some at ≡ cond v (Some (position_or_len p s)) None → (at ≡ position_or_len p s) × (at < length s)
      by true h q = let same : at ≡ position_or_len p s = cc q in let t : ◌≡◌ {A = Bool} true true = cc in let l = h t in (same, omega arith)
      by false h q = let z : ◌≡◌ {A = ℕ} 0 1 = cc q in absurd (omega arith)

  pub found_nowhere : None ≡ position p s → length s ≤ position_or_len p s
  found_nowhere e = by (ltb (position_or_len p s) (length s)) (λ h. ltb-false (position_or_len p s) (length s) h) e
    where
      by : (v : Bool) → (v ≡ false → length s ≤ position_or_len p s) → None ≡ cond v (Some (position_or_len p s)) None → length s ≤ position_or_len p s
      by true h q = let z : ◌≡◌ {A = ℕ} 0 1 = cc q in absurd (omega arith)
      by false h q = let t : ◌≡◌ {A = Bool} false false = cc in h t
