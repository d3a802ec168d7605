-- Reading bytes over a sink, by what they give without one.
use Rattle.std.proofs.Common.{◌≡◌, ℕ, ◌+◌, Bool, true, false, eqb, List, [], ◌∷◌, ◌++◌, length, Some, None, Option, sym, refl, ap, ◌∙◌, subst, arith, length-append}
use Rattle.std.proofs.lemmas.Bool.{cond_both, eqb-true, eqb-false}
use Rattle.machine.specs.Run.{Step}
use Rattle.events.specs.Event.{Event}
use Rattle.decoder.specs.Standard.{Char}
use Rattle.decoder.specs.Machine as decoder
use Rattle.fields.specs.Cause.{Cause, refused_by_sink}
use Rattle.lines.specs.Text.{Ran, counted, hand_chars}
use Rattle.lines.specs.Reader.{Fault, Reading, reading, fault_of, Pushed, placed, push, reads}
use Rattle.lines.proofs.Pieces.{stopped_stays}
use Rattle.reading.specs.Limits.{through, refused_in, cause_if}
use Rattle.wire.specs.Scan.{scan_byte, scan, event_given, events_given, within, causes_of, kept_of}
use Rattle.wire.specs.Laws.{Offered, ASinkIsOfferedWhatBytesGive}
use Rattle.wire.proofs.Offers.{joined_append, within_parts, through_append, Parts, accepted, stopped_in, all_kept}
use Rattle.wire.proofs.Hands.{Ends, hands}

module _ {X : Type 0} (refusal : X → Event → ℕ) (after : X → Event → X) where
  abbrev IsOffered : List Event → X → Reading → Pushed X → Type 0
  IsOffered = Offered refusal after

  module _ (r : Reading) (x : X) (b : ℕ) (s : List ℕ) where
    abbrev d : Step decoder.State Char
    d = decoder.step r.decoder b

    abbrev h : Ran X
    h = hand_chars refusal after r.text x d.out

    abbrev r' : Reading
    r' = (scan_byte r b).state

    abbrev es : List Event
    es = events_given (scan_byte r b).out

    abbrev fs : List Event
    fs = events_given (scan r' s).out

    abbrev y : X
    y = through refusal after x es

    abbrev then : Pushed X → Pushed X
    then p = let q = reads refusal after p.reader p.sink s in record { reader = q.reader; sink = q.sink; kept = p.kept + q.kept }

    -- the byte is read on
    on : (o : Option Cause) → o ≡ None → h.text ≡ r'.text → h.sink ≡ y → h.kept ≡ length es → placed r d.state h o ≡ record { reader = reading r'; sink = y; kept = length es }
    on o e t k n =
        ap (placed r d.state h) e
        ∙ ap (λ u. record { reader = reading (record { decoder = d.state; text = u; byte = counted r.byte }); sink = h.sink; kept = h.kept }) t
        ∙ ap (λ u. record { reader = reading r'; sink = u; kept = h.kept }) k
        ∙ ap (λ u. record { reader = reading r'; sink = y; kept = u }) n

    goes : refused_in refusal after x es ≡ 0 → Ends refusal after (kept_of refusal after x es) (refused_in refusal after x es) x r'.text h → IsOffered fs y (scan r' s).state (reads refusal after (reading r') y s) → IsOffered (es ++ fs) x (scan r' s).state (then (push refusal after (reading r) x b))
    goes z e ih =
        let k = all_kept refusal after x es z in
        let p = accepted refusal after x es fs z in
        let q : push refusal after (reading r) x b ≡ record { reader = reading r'; sink = y; kept = length es } =
        on h.stop (e.stop ∙ ap cause_if z) (e.text z) (e.sink ∙ ap (through refusal after x) k) (e.kept ∙ ap length k) in
        subst (IsOffered (es ++ fs) x (scan r' s).state) (ap then (sym q)) (record {
          sink = ih.sink ∙ sym (through_append refusal after x es _) ∙ ap (through refusal after x) (sym p.kept);
          kept = ap (λ n. length es + n) ih.kept ∙ sym (length-append es _) ∙ ap length (sym p.kept);
          fault = ih.fault ∙ ap cause_if (sym p.refused);
          reader = λ n. ih.reader (sym p.refused ∙ n);
        })

    -- the sink refuses an event that it gives
    stops : (refused_in refusal after x es ≡ 0 → ⊥) → Ends refusal after (kept_of refusal after x es) (refused_in refusal after x es) x r'.text h → IsOffered (es ++ fs) x (scan r' s).state (then (push refusal after (reading r) x b))
    stops z e = by h.stop e.stop
      where
        n : ℕ
        n = refused_in refusal after x es

        p : Parts refusal after x es fs (kept_of refusal after x es) n
        p = stopped_in refusal after x es fs z

        cause : cause_if n ≡ Some (refused_by_sink n)
        cause = cond_both (eqb n 0) None (Some (refused_by_sink n)) (λ o. o ≡ Some (refused_by_sink n)) (λ q. absurd (z (eqb-true n 0 q))) (λ _. refl)

        by : (o : Option Cause) → o ≡ cause_if n → IsOffered (es ++ fs) x (scan r' s).state (then (placed r d.state h o))
        by None q = let w : ◌≡◌ {A = ℕ} 0 1 = cc (q, cause) in absurd (omega arith)
        by (Some c) q =
            let st = (placed r d.state h (Some c)).reader in
            let f : Fault = record { cause = c; line = h.text.number; byte = r.byte } in
            let stay = stopped_stays refusal after st f h.sink s refl in
            record {
              sink = ap (λ u. u.sink) stay ∙ e.sink ∙ ap (through refusal after x) (sym p.kept);
              kept = ap (λ u. h.kept + u.kept) stay ∙ omega (arith, e.kept, ap length p.kept);
              fault = ap (λ u. causes_of (fault_of u.reader)) stay ∙ q ∙ ap cause_if (sym p.refused);
              reader = λ k. absurd (z (sym p.refused ∙ k));
            }

    one : within (scan_byte r b).out ≡ true → IsOffered fs y (scan r' s).state (reads refusal after (reading r') y s) → IsOffered (es ++ fs) x (scan r' s).state (then (push refusal after (reading r) x b))
    one w ih = by (eqb (refused_in refusal after x es) 0) refl
      where
        e : Ends refusal after (kept_of refusal after x es) (refused_in refusal after x es) x r'.text h
        e = hands refusal after d.out r.text x w

        by : (v : Bool) → eqb (refused_in refusal after x es) 0 ≡ v → IsOffered (es ++ fs) x (scan r' s).state (then (push refusal after (reading r) x b))
        by true q = goes (eqb-true _ 0 q) e ih
        by false q = stops (eqb-false _ 0 q) e

  -- Bytes that pass no limit offer the sink the events that they give, in order.
  pub a_sink_is_offered_what_bytes_give : ASinkIsOfferedWhatBytesGive refusal after
  a_sink_is_offered_what_bytes_give [] r x w = record { sink = refl; kept = refl; fault = refl; reader = λ _. refl }
  a_sink_is_offered_what_bytes_give (b ∷ s) r x w =
      let p = within_parts (scan_byte r b).out (scan (scan_byte r b).state s).out w in
      subst (λ v. IsOffered v x (scan r (b ∷ s)).state (reads refusal after (reading r) x (b ∷ s)))
      (sym (joined_append event_given (scan_byte r b).out (scan (scan_byte r b).state s).out))
      (one r x b s p.0 (a_sink_is_offered_what_bytes_give s (scan_byte r b).state (through refusal after x (events_given (scan_byte r b).out)) p.1))
