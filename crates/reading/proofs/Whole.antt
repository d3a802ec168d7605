-- Reading a stream byte by byte comes to what the standard and the limits say of the whole stream.
use Rattle.std.proofs.Common.{◌≡◌, ℕ, ◌+◌, ◌<◌, ◌≤◌, List, [], ◌∷◌, ◌++◌, length, take, Some, None, Option, sym, refl, ap, ◌∙◌, subst, ⊎_elim, append_assoc, append-nil, arith, length-append}
use Rattle.std.proofs.lemmas.List.{take_at, take_all, take-append-le}
use Rattle.std.proofs.lemmas.Bool.{cases_lt}
use Rattle.machine.specs.Run.{run}
use Rattle.machine.proofs.Laws.{run_append}
use Rattle.events.specs.Event.{Event}
use Rattle.decoder.specs.Standard.{Char, chars}
use Rattle.decoder.specs.Machine.{fresh, step}
use Rattle.fields.specs.Cause.{Cause}
use Rattle.lines.specs.Text.{Ran, counted, hand_chars}
use Rattle.lines.specs.Reader.{Fault, Reading, Reader, reading, stopped, restarted, Pushed, placed, push, reads}
use Rattle.lines.proofs.Pieces.{stopped_stays}
use Rattle.reading.specs.Standard.{Before, lines_of}
use Rattle.reading.specs.Limits.{over}
use Rattle.reading.specs.Outcome.{capped, Within, Stands, Outcome, whole, to_fault, HasRead}
use Rattle.reading.proofs.Sayings.{held_after}
use Rattle.reading.proofs.Bounds.{Fits, fits_is_within}
use Rattle.reading.proofs.Steps.{text_after, sink_after, Goes}
use Rattle.reading.proofs.Bytes.{gives_few, chars_push, Came, characters}

-- no part of a stream is over a limit, and one byte more is not either
within_more : {C : Type 0} (o : List ℕ → Option C) (p : List ℕ) (b : ℕ) → ((n : ℕ) → n ≤ length p → o (take n p) ≡ None) → o (p ++ b ∷ []) ≡ None → (n : ℕ) → n ≤ length (p ++ b ∷ []) → o (take n (p ++ b ∷ [])) ≡ None
within_more o p b h e n k =
    ⊎_elim
    (λ (lt : length p < n). ap o (take_all n (p ++ b ∷ []) (omega (arith, length-append p (b ∷ [])))) ∙ e)
    (λ (le : n ≤ length p). ap o (take-append-le n p (b ∷ []) le) ∙ h n le)
    (cases_lt (length p) n)

module _ {X : Type 0} (refusal : X → Event → ℕ) (after : X → Event → X) (w : Before) (x : X) where
  -- where the reader stands after a stream that is within the limits
  abbrev reading_after : List ℕ → Reading
  reading_after p = record { decoder = (run step fresh p).state; text = text_after refusal after w x (chars p); byte = capped (length p) }

  abbrev stands_at : List ℕ → X
  stands_at p = sink_after refusal after w x (chars p)

  -- the fault at the byte behind p
  abbrev fault_behind : List ℕ → Cause → Fault
  fault_behind p d = record { cause = d; line = capped (1 + length (lines_of p)); byte = capped (length p) }

  abbrev stopped_behind : List ℕ → Cause → Reader
  stopped_behind p d = stopped (held_after w (lines_of p)).last_id (held_after w (lines_of p)).retry (fault_behind p d)

  data Pushes (p : List ℕ) (b : ℕ) (q : Pushed X) : Type 0 where
    on : q.reader ≡ reading (reading_after (p ++ b ∷ [])) → q.sink ≡ stands_at (p ++ b ∷ []) → Fits refusal after x (chars (p ++ b ∷ [])) → Pushes p b q
    off : (d : Cause) → over refusal after x (p ++ b ∷ []) ≡ Some d → q.reader ≡ stopped_behind p d → q.sink ≡ stands_at p → Pushes p b q

  module _ (p : List ℕ) (b : ℕ) where
    abbrev gives : List Char
    gives = (step (run step fresh p).state b).out

    abbrev ran : Ran X
    ran = hand_chars refusal after (text_after refusal after w x (chars p)) (stands_at p) gives

    moved : (g : Goes refusal after w x (chars p ++ gives) ran.text ran.sink) → reading (record { decoder = (step (run step fresh p).state b).state; text = ran.text; byte = counted (capped (length p)) }) ≡ reading (reading_after (p ++ b ∷ []))
    moved g =
        let n : counted (capped (length p)) ≡ capped (length (p ++ b ∷ [])) = omega (arith, length-append p (b ∷ [])) in
        ap (λ d. reading (record { decoder = d; text = ran.text; byte = counted (capped (length p)) })) (sym (ap (λ t. t.state) (run_append step p (b ∷ []) fresh)))
        ∙ ap (λ t. reading (record { decoder = (run step fresh (p ++ b ∷ [])).state; text = t; byte = counted (capped (length p)) })) (g.text ∙ ap (text_after refusal after w x) (sym (chars_push p b)))
        ∙ ap (λ k. reading (record { decoder = (run step fresh (p ++ b ∷ [])).state; text = text_after refusal after w x (chars (p ++ b ∷ [])); byte = k })) n

    by_stop : (o : Option Cause) → Came refusal after w x (chars p) gives ran o → Pushes p b (placed (reading_after p) (step (run step fresh p).state b).state ran o)
    by_stop None g = on (moved g) (g.sink ∙ ap (sink_after refusal after w x) (sym (chars_push p b))) (subst (Fits refusal after x) (sym (chars_push p b)) g.fits)
    by_stop (Some d) g =
        off d (ap (Rattle.reading.specs.Limits.over_text refusal after x) (chars_push p b) ∙ g.over)
        (ap (λ i. stopped i ran.text.held.retry (record { cause = d; line = ran.text.number; byte = capped (length p) })) g.last_id
        ∙ ap (λ t. stopped (held_after w (lines_of p)).last_id t (record { cause = d; line = ran.text.number; byte = capped (length p) })) g.retry
        ∙ ap (λ n. stopped (held_after w (lines_of p)).last_id (held_after w (lines_of p)).retry (record { cause = d; line = n; byte = capped (length p) })) g.number)
        g.sink

    one_byte : Fits refusal after x (chars p) → Pushes p b (push refusal after (reading (reading_after p)) (stands_at p) b)
    one_byte f = by_stop ran.stop (characters refusal after w x (chars p) gives (gives_few (run step fresh p).state b) f)

  -- from p on
  abbrev Follows : List ℕ → List ℕ → Reader → X → Type 0
  Follows p s r y = Outcome refusal after w x (p ++ s) (reads refusal after r y s).reader (reads refusal after r y s).sink

  at_end : (p : List ℕ) → Within refusal after w x p → Follows p [] (reading (reading_after p)) (stands_at p)
  at_end p h = subst (λ s. Outcome refusal after w x s (reading (reading_after p)) (stands_at p)) (sym (append-nil p)) (whole (record { within = h; fault = refl; stands = record { sink = refl; last_id = refl; retry = refl } }))

  -- the fault at b, with s unread
  at_fault : (p : List ℕ) (b : ℕ) (s : List ℕ) (d : Cause) → Within refusal after w x p → over refusal after x (p ++ b ∷ []) ≡ Some d → Outcome refusal after w x (p ++ b ∷ s) (stopped_behind p d) (stands_at p)
  at_fault p b s d h o =
      let all = p ++ b ∷ s in
      let front : take (length p) all ≡ p = take_at p (b ∷ s) (length p) refl in
      let size : length (p ++ b ∷ []) ≡ length p + 1 = length-append p (b ∷ []) in
      let more : take (length p + 1) all ≡ p ++ b ∷ [] = ap (take (length p + 1)) (sym (append_assoc p (b ∷ []) s)) ∙ take_at (p ++ b ∷ []) s (length p + 1) size in
      to_fault (record {
        n = length p;
        some = omega (arith, length-append p (b ∷ s));
        cause = d;
        within = subst (Within refusal after w x) (sym front) h;
        over = ap (over refusal after x) more ∙ o;
        fault = ap (λ q. Some (record { cause = d; line = capped (1 + length (lines_of q)); byte = capped (length p) })) (sym front);
        stands = subst (λ q. Stands refusal after w x q (stopped_behind p d) (stands_at p)) (sym front) (record { sink = refl; last_id = refl; retry = refl });
      })

  pub follows : (s p : List ℕ) → Fits refusal after x (chars p) → Within refusal after w x p → Follows p s (reading (reading_after p)) (stands_at p)
  follows [] p f h = at_end p h
  follows (b ∷ s) p f h = by (push refusal after (reading (reading_after p)) (stands_at p) b) (one_byte p b f) (follows s (p ++ b ∷ []))
    where
      by : (q : Pushed X) → Pushes p b q → (Fits refusal after x (chars (p ++ b ∷ [])) → Within refusal after w x (p ++ b ∷ []) → Follows (p ++ b ∷ []) s (reading (reading_after (p ++ b ∷ []))) (stands_at (p ++ b ∷ []))) → Outcome refusal after w x (p ++ b ∷ s) (reads refusal after q.reader q.sink s).reader (reads refusal after q.reader q.sink s).sink
      by q (on er ey g) ih =
          subst (λ r. Outcome refusal after w x (p ++ b ∷ s) (reads refusal after r q.sink s).reader (reads refusal after r q.sink s).sink) (sym er)
          (subst (λ y. Outcome refusal after w x (p ++ b ∷ s) (reads refusal after (reading (reading_after (p ++ b ∷ []))) y s).reader (reads refusal after (reading (reading_after (p ++ b ∷ []))) y s).sink) (sym ey)
          (subst (λ t. Outcome refusal after w x t (reads refusal after (reading (reading_after (p ++ b ∷ []))) (stands_at (p ++ b ∷ [])) s).reader (reads refusal after (reading (reading_after (p ++ b ∷ []))) (stands_at (p ++ b ∷ [])) s).sink) (append_assoc p (b ∷ []) s)
          (ih g (within_more (over refusal after x) p b h (fits_is_within refusal after x (chars (p ++ b ∷ [])) g)))))
      by q (off d o er ey) ih =
          subst (λ r. Outcome refusal after w x (p ++ b ∷ s) (reads refusal after r q.sink s).reader (reads refusal after r q.sink s).sink) (sym er)
          (subst (λ y. Outcome refusal after w x (p ++ b ∷ s) (reads refusal after (stopped_behind p d) y s).reader (reads refusal after (stopped_behind p d) y s).sink) (sym ey)
          (subst (λ (t : Pushed X). Outcome refusal after w x (p ++ b ∷ s) t.reader t.sink) (sym (stopped_stays refusal after (stopped_behind p d) (fault_behind p d) (stands_at p) s refl))
          (at_fault p b s d h o)))

  nothing_fits : Fits refusal after x []
  nothing_fits = record { line = refl; id = refl; type = refl; «data» = refl; sink = refl }

  nothing_within : Within refusal after w x []
  nothing_within n h = let z : n ≡ 0 = omega arith in ap (λ k. over refusal after x (take k [])) z

  pub outcome : (s : List ℕ) → Outcome refusal after w x s (reads refusal after (restarted w.last_id w.retry) x s).reader (reads refusal after (restarted w.last_id w.retry) x s).sink
  outcome s = follows s [] nothing_fits nothing_within

  pub read_outcome : (s : List ℕ) (r : Reader) (y : X) → HasRead refusal after w x s r y → Outcome refusal after w x s r y
  read_outcome s r y h = subst (λ q. Outcome refusal after w x s q y) (sym h.0) (subst (Outcome refusal after w x s (reads refusal after (restarted w.last_id w.retry) x s).reader) (sym h.1) (outcome s))

  -- reading s and then t is reading s followed by t
  pub in_turn : (s t : List ℕ) (r : Reader) (y : X) → ((reads refusal after r y (s ++ t)).reader ≡ (reads refusal after (reads refusal after r y s).reader (reads refusal after r y s).sink t).reader) × ((reads refusal after r y (s ++ t)).sink ≡ (reads refusal after (reads refusal after r y s).reader (reads refusal after r y s).sink t).sink)
  in_turn [] t r y = (refl, refl)
  in_turn (b ∷ s) t r y = in_turn s t (push refusal after r y b).reader (push refusal after r y b).sink

  pub reads_on : (s t : List ℕ) (r r' : Reader) (y y' : X) → r' ≡ (reads refusal after r y t).reader → y' ≡ (reads refusal after r y t).sink → HasRead refusal after w x s r y → HasRead refusal after w x (s ++ t) r' y'
  reads_on s t r r' y y' er ey h =
      let start = restarted w.last_id w.retry in
      let q = in_turn s t start x in (
        er ∙ ap (λ a. (reads refusal after a y t).reader) h.0 ∙ ap (λ a. (reads refusal after (reads refusal after start x s).reader a t).reader) h.1 ∙ sym q.0,
        ey ∙ ap (λ a. (reads refusal after a y t).sink) h.0 ∙ ap (λ a. (reads refusal after (reads refusal after start x s).reader a t).sink) h.1 ∙ sym q.1,
      )
