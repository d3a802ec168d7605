-- A stream has one outcome.
use Rattle.std.proofs.Common.{◌≡◌, ℕ, ◌+◌, ◌<◌, ◌≤◌, List, length, take, Some, None, Option, sym, refl, ap, ◌∙◌, subst, ⊎_elim, arith, length-take}
use Rattle.std.proofs.lemmas.List.{take-take}
use Rattle.std.proofs.lemmas.Bool.{cases_order}
use Rattle.events.specs.Event.{Event}
use Rattle.fields.specs.Cause.{Cause}
use Rattle.lines.specs.Reader.{Reader}
use Rattle.reading.specs.Standard.{Before, lines_of}
use Rattle.reading.specs.Limits.{over}
use Rattle.reading.specs.Outcome.{capped, Within, Stands, ReadWhole, ReadToFault, whole, to_fault}
use Rattle.reading.specs.Laws.{Agree, AStreamHasOneOutcome}

apart : {C : Type 0} {o : Option C} {c : C} → o ≡ None → o ≡ Some c → ⊥
apart p q = let z : ◌≡◌ {A = ℕ} 0 1 = cc (p, q) in omega arith

module _ {X : Type 0} (refusal : X → Event → ℕ) (after : X → Event → X) where
  module _ (b : Before) (x : X) (s : List ℕ) where
    -- a fault lies past what is within the limits
    not_within : (n m : ℕ) (c : Cause) → n < m → m ≤ length s → Within refusal after b x (take m s) → over refusal after x (take (n + 1) s) ≡ Some c → ⊥
    not_within n m c h k w o =
        let e : take (n + 1) (take m s) ≡ take (n + 1) s = take-take (n + 1) m s (omega arith) in
        apart (sym (ap (over refusal after x) e) ∙ w (n + 1) (omega (arith, length-take m s))) o

    stand_alike : (r r' : Reader) (y y' : X) (t t' : List ℕ) → t ≡ t' → Stands refusal after b x t r y → Stands refusal after b x t' r' y' → (y ≡ y') × (Rattle.lines.specs.Reader.last_id_of r ≡ Rattle.lines.specs.Reader.last_id_of r') × (Rattle.lines.specs.Reader.retry_of r ≡ Rattle.lines.specs.Reader.retry_of r')
    stand_alike r r' y y' t t' e p q =
        let p' : Stands refusal after b x t' r y = subst (λ u. Stands refusal after b x u r y) e p in
        (p'.sink ∙ sym q.sink, p'.last_id ∙ sym q.last_id, p'.retry ∙ sym q.retry)

    same_place : (r r' : Reader) (y y' : X) (p : ReadToFault refusal after b x s r y) (q : ReadToFault refusal after b x s r' y') → p.n ≡ q.n
    same_place r r' y y' p q =
        ⊎_elim (λ (e : p.n ≡ q.n). e)
        (⊎_elim (λ (lt : p.n < q.n). absurd (not_within p.n q.n p.cause lt (let h = q.some in omega arith) q.within p.over))
        (λ (gt : q.n < p.n). absurd (not_within q.n p.n q.cause gt (let h = p.some in omega arith) p.within q.over)))
        (cases_order p.n q.n)

    whole_or_not : (r r' : Reader) (y y' : X) → ReadWhole refusal after b x s r y → ReadToFault refusal after b x s r' y' → ⊥
    whole_or_not r r' y y' p q = let h = q.some in apart (p.within (q.n + 1) (omega arith)) q.over

    both_stop : (r r' : Reader) (y y' : X) (p : ReadToFault refusal after b x s r y) (q : ReadToFault refusal after b x s r' y') → Agree r y r' y'
    both_stop r r' y y' p q =
        let e = same_place r r' y y' p q in
        let o : Some p.cause ≡ Some q.cause = sym p.over ∙ ap (λ n. over refusal after x (take (n + 1) s)) e ∙ q.over in
        let c : p.cause ≡ q.cause = cc o in
        let k = stand_alike r r' y y' (take p.n s) (take q.n s) (ap (λ n. take n s) e) p.stands q.stands in
        record {
          sink = k.0;
          fault =
              p.fault
              ∙ ap (λ n. Some (record { cause = p.cause; line = capped (1 + length (lines_of (take n s))); byte = capped n })) e
              ∙ ap (λ d. Some (record { cause = d; line = capped (1 + length (lines_of (take q.n s))); byte = capped q.n })) c
              ∙ sym q.fault;
          last_id = k.1;
          retry = k.2;
        }

  pub a_stream_has_one_outcome : AStreamHasOneOutcome refusal after
  a_stream_has_one_outcome b x s r r' y y' (whole p) (whole q) = let k = stand_alike b x s r r' y y' s s refl p.stands q.stands in record { sink = k.0; fault = p.fault ∙ sym q.fault; last_id = k.1; retry = k.2 }
  a_stream_has_one_outcome b x s r r' y y' (whole p) (to_fault q) = absurd (whole_or_not b x s r r' y y' p q)
  a_stream_has_one_outcome b x s r r' y y' (to_fault p) (whole q) = absurd (whole_or_not b x s r' r y' y q p)
  a_stream_has_one_outcome b x s r r' y y' (to_fault p) (to_fault q) = both_stop b x s r r' y y' p q
