-- Reading over a sink, by what the bytes give without one: the sink is offered the events in order.
use Rattle.std.proofs.Common.{◌≡◌, ℕ, Bool, true, false, cond, eqb, List, [], ◌∷◌, ◌++◌, length, Some, None, sym, refl, ap, arith}
use Rattle.std.proofs.lemmas.Bool.{both_ways, eqb-false}
use Rattle.machine.specs.Run.{Step, run}
use Rattle.events.specs.Event.{Event}
use Rattle.decoder.specs.Standard.{Char}
use Rattle.fields.specs.Cause.{refused_by_sink}
use Rattle.fields.specs.Block.{Outcome, nothing, event, over}
use Rattle.fields.specs.Hand.{kept, faulted, Handed, hand}
use Rattle.lines.specs.Text.{Text, Ran, resumed, refused, seen, hand_chars}
use Rattle.reading.specs.Limits.{through, refused_in, cause_if}
use Rattle.wire.specs.Scan.{gives, see_char, events_given, within, kept_of}

module _ {X : Type 0} (refusal : X → Event → ℕ) (after : X → Event → X) where
  -- The events ks were kept, and then the number n came up, 0 for none.
  pub record Ends (ks : List Event) (n : ℕ) (x : X) (t : Text) (h : Ran X) : Type 0 where
    pub sink : h.sink ≡ through refusal after x ks
    pub kept : h.kept ≡ length ks
    pub stop : h.stop ≡ cause_if n
    pub text : n ≡ 0 → h.text ≡ t

  abbrev IsOffered : List Event → X → Text → Ran X → Type 0
  IsOffered es x t h = Ends (kept_of refusal after x es) (refused_in refusal after x es) x t h

  pub hands : (cs : List Char) (t : Text) (x : X) → within (run see_char t cs).out ≡ true → IsOffered (events_given (run see_char t cs).out) x (run see_char t cs).state (hand_chars refusal after t x cs)
  hands [] t x w = record { sink = refl; kept = refl; stop = refl; text = λ _. refl }
  hands (c ∷ cs) t x w = by (seen t c).outcome (hands cs (seen t c).text) w
    where
      t' : Text
      t' = (seen t c).text

      rest : Step Text Outcome
      rest = run see_char t' cs

      by_sink : (e : Event) → IsOffered (events_given rest.out) (after x e) rest.state (hand_chars refusal after t' (after x e) cs) → (v : Bool) → eqb (refusal x e) 0 ≡ v → (let h = cond {A = Handed Text X} v (record { held = t'; sink = after x e; answer = kept }) (record { held = refused t; sink = x; answer = faulted (refused_by_sink (refusal x e)) }) in Ends (cond v (e ∷ kept_of refusal after (after x e) (events_given rest.out)) []) (cond v (refused_in refusal after (after x e) (events_given rest.out)) (refusal x e)) x rest.state (resumed h h.answer (hand_chars refusal after h.held h.sink cs)))
      by_sink e ih true q = record { sink = ih.sink; kept = omega (arith, ih.kept); stop = ih.stop; text = ih.text }
      by_sink e ih false q = record {
        sink = refl;
        kept = refl;
        stop = sym (ap (λ v. cond v None (Some (refused_by_sink (refusal x e)))) q);
        text = λ z. absurd (eqb-false (refusal x e) 0 q z);
      }

      by : (o : Outcome) → ((y : X) → within rest.out ≡ true → IsOffered (events_given rest.out) y rest.state (hand_chars refusal after t' y cs)) → within (gives o ++ rest.out) ≡ true → (let h = hand refusal after t (refused t) t' x o in IsOffered (events_given (gives o ++ rest.out)) x rest.state (resumed h h.answer (hand_chars refusal after h.held h.sink cs)))
      by nothing ih k = ih x k
      by (event e) ih k = by_sink e (ih (after x e) k) (eqb (refusal x e) 0) refl
      by (over d) ih k = absurd (both_ways false refl k)
