-- Events offered to a sink, in two parts.
use Rattle.std.proofs.Common.{◌≡◌, ℕ, Bool, true, false, cond, eqb, List, [], ◌∷◌, ◌++◌, sym, refl, ap, ◌∙◌, append_assoc, append-nil}
use Rattle.std.specs.List.{flat_map}
use Rattle.std.proofs.lemmas.Bool.{both_ways, eqb-false}
use Rattle.events.specs.Event.{Event}
use Rattle.fields.specs.Block.{Outcome, nothing, event, over}
use Rattle.reading.specs.Limits.{through, refused_in}
use Rattle.wire.specs.Scan.{within, kept_of}

pub joined_append : {A B : Type 0} (f : A → List B) (a b : List A) → flat_map f (a ++ b) ≡ flat_map f a ++ flat_map f b
joined_append f [] b = refl
joined_append f (x ∷ a) b = ap (λ t. f x ++ t) (joined_append f a b) ∙ sym (append_assoc (f x) (flat_map f a) (flat_map f b))

pub within_append : (a b : List Outcome) → within a ≡ true → within b ≡ true → within (a ++ b) ≡ true
within_append [] b p q = q
within_append (nothing ∷ a) b p q = within_append a b p q
within_append (event e ∷ a) b p q = within_append a b p q
within_append (over c ∷ a) b p q = p

pub within_parts : (a b : List Outcome) → within (a ++ b) ≡ true → (within a ≡ true) × (within b ≡ true)
within_parts [] b p = (refl, p)
within_parts (nothing ∷ a) b p = within_parts a b p
within_parts (event e ∷ a) b p = within_parts a b p
within_parts (over c ∷ a) b p = (p, absurd (both_ways false refl p))

module _ {X : Type 0} (refusal : X → Event → ℕ) (after : X → Event → X) where
  pub through_append : (x : X) (a b : List Event) → through refusal after x (a ++ b) ≡ through refusal after (through refusal after x a) b
  through_append x [] b = refl
  through_append x (e ∷ a) b = through_append (after x e) a b

  -- what becomes of a ++ b
  pub record Parts (x : X) (a b ks : List Event) (n : ℕ) : Type 0 where
    pub kept : kept_of refusal after x (a ++ b) ≡ ks
    pub refused : refused_in refusal after x (a ++ b) ≡ n

  -- where all of a is kept
  pub accepted : (x : X) (a b : List Event) → refused_in refusal after x a ≡ 0 → Parts x a b (a ++ kept_of refusal after (through refusal after x a) b) (refused_in refusal after (through refusal after x a) b)
  accepted x [] b z = record { kept = refl; refused = refl }
  accepted x (e ∷ a) b z = by (accepted (after x e) a b) (eqb (refusal x e) 0) refl z
    where
      y : X
      y = after x e

      by : (refused_in refusal after y a ≡ 0 → Parts y a b (a ++ kept_of refusal after (through refusal after y a) b) (refused_in refusal after (through refusal after y a) b)) → (v : Bool) → eqb (refusal x e) 0 ≡ v → cond v (refused_in refusal after y a) (refusal x e) ≡ 0 → Parts x (e ∷ a) b (e ∷ (a ++ kept_of refusal after (through refusal after y a) b)) (refused_in refusal after (through refusal after y a) b)
      by ih true q z = record {
        kept = ap (λ v. cond v (e ∷ kept_of refusal after y (a ++ b)) []) q ∙ ap (λ t. e ∷ t) (ih z).kept;
        refused = ap (λ v. cond v (refused_in refusal after y (a ++ b)) (refusal x e)) q ∙ (ih z).refused;
      }
      by ih false q z = absurd (eqb-false (refusal x e) 0 q z)

  -- where one of a is refused
  pub stopped_in : (x : X) (a b : List Event) → (refused_in refusal after x a ≡ 0 → ⊥) → Parts x a b (kept_of refusal after x a) (refused_in refusal after x a)
  stopped_in x [] b z = absurd (z refl)
  stopped_in x (e ∷ a) b z = by (stopped_in (after x e) a b) (eqb (refusal x e) 0) refl z
    where
      y : X
      y = after x e

      by : ((refused_in refusal after y a ≡ 0 → ⊥) → Parts y a b (kept_of refusal after y a) (refused_in refusal after y a)) → (v : Bool) → eqb (refusal x e) 0 ≡ v → (cond v (refused_in refusal after y a) (refusal x e) ≡ 0 → ⊥) → Parts x (e ∷ a) b (cond (eqb (refusal x e) 0) (e ∷ kept_of refusal after y a) []) (cond (eqb (refusal x e) 0) (refused_in refusal after y a) (refusal x e))
      by ih true q z = record {
        kept = ap (λ t. cond (eqb (refusal x e) 0) (e ∷ t) []) (ih z).kept;
        refused = ap (λ n. cond (eqb (refusal x e) 0) n (refusal x e)) (ih z).refused;
      }
      by ih false q z = record {
        kept = ap (λ v. cond v (e ∷ kept_of refusal after y (a ++ b)) []) q ∙ sym (ap (λ v. cond v (e ∷ kept_of refusal after y a) []) q);
        refused = ap (λ v. cond v (refused_in refusal after y (a ++ b)) (refusal x e)) q ∙ sym (ap (λ v. cond v (refused_in refusal after y a) (refusal x e)) q);
      }

  -- a sink that refuses none of them keeps all
  pub all_kept : (x : X) (a : List Event) → refused_in refusal after x a ≡ 0 → kept_of refusal after x a ≡ a
  all_kept x a z = sym (ap (kept_of refusal after x) (append-nil a)) ∙ (accepted x a [] z).kept ∙ append-nil a
