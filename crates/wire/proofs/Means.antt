-- What a stream of what was sent means, by the standard.
use Rattle.std.proofs.Common.{◌≡◌, ℕ, List, [], ◌∷◌, ◌++◌, sym, refl, ap, ◌∙◌, subst, append_assoc, append-nil, arith}
use Rattle.events.specs.Event.{Event}
use Rattle.events.specs.declared.line_end.LineEnd.{LineEnd}
use Rattle.lines.specs.Reader.{Reader, reading, stopped, restarted, reads}
use Rattle.reading.specs.Standard.{Before, new, lines_of, events_of}
use Rattle.reading.specs.Limits.{through, refused_in}
use Rattle.reading.specs.Outcome.{Outcome, whole, to_fault, ReadWhole}
use Rattle.reading.proofs.Whole.{outcome}
use Rattle.wire.specs.Boundary.{AtBoundary}
use Rattle.writer.specs.Written.{written}
use Rattle.wire.specs.Sent.{Sent, event, AllLawful, stream, events_in}
use Rattle.wire.specs.Laws.{unrefused, unmoved, Means, AStreamMeansWhatWasSent, AWrittenEventIsReadAlone}
use Rattle.wire.proofs.Offers.{all_kept}
use Rattle.wire.proofs.Sends.{what_was_sent_is_read}

-- a new stream begins where a block may begin
pub at_start : (b : Before) → AtBoundary (restarted b.last_id b.retry)
at_start b = record { decoder = refl; line = refl; data_buffer = refl; type_buffer = refl }

whole_at : {X : Type 0} (refusal : X → Event → ℕ) (after : X → Event → X) (b : Before) (x : X) (s : List ℕ) (r : Reader) (y : X) → AtBoundary r → Outcome refusal after b x s r y → ReadWhole refusal after b x s r y
whole_at refusal after b x s r y a (whole w) = w
whole_at refusal after b x s (reading q) y a (to_fault f) = let z : ◌≡◌ {A = ℕ} 0 1 = cc f.fault in absurd (omega arith)
whole_at refusal after b x s (stopped i t g) y a (to_fault f) = absurd a

-- A sink that keeps all, and is the list of what it kept.
abbrev none : List Event → Event → ℕ
none es e = 0

abbrev noted : List Event → Event → List Event
noted es e = es ++ e ∷ []

none_refused : {X : Type 0} (after : X → Event → X) (x : X) (es : List Event) → refused_in (λ _ _. 0) after x es ≡ 0
none_refused after x [] = refl
none_refused after x (e ∷ es) = none_refused after (after x e) es

all_noted : (es fs : List Event) → through none noted es fs ≡ es ++ fs
all_noted es [] = sym (append-nil es)
all_noted es (f ∷ fs) = all_noted (es ++ f ∷ []) fs ∙ append_assoc es (f ∷ []) fs

module _ (e : LineEnd) (items : List Sent) (l : AllLawful items) where
  -- all is read, by a sink that refuses none
  read_whole : {X : Type 0} (after : X → Event → X) (b : Before) (x : X) → (let q = reads (λ _ _. 0) after (restarted b.last_id b.retry) x (stream e items) in ReadWhole (λ _ _. 0) after b x (stream e items) q.reader q.sink)
  read_whole after b x =
      let k = what_was_sent_is_read (λ _ _. 0) after e items l (restarted b.last_id b.retry) x (at_start b) in
      let d = k.0.drained (none_refused after x (events_in items)) in
      whole_at (λ _ _. 0) after b x (stream e items) _ _ d.boundary (outcome (λ _ _. 0) after b x (stream e items))

  events_are : events_of (lines_of (stream e items)) ≡ events_in items
  events_are =
      let w = read_whole noted new [] in
      let k = what_was_sent_is_read none noted e items l (restarted [] 3000) [] (at_start new) in
      sym (all_noted [] (events_of (lines_of (stream e items))))
      ∙ sym w.stands.sink
      ∙ k.0.sink
      ∙ ap (through none noted []) (all_kept none noted [] (events_in items) (none_refused noted [] (events_in items)))
      ∙ all_noted [] (events_in items)

  means : Means (stream e items) items
  means = record {
    events = events_are;
    last_id = λ b.
        let k = what_was_sent_is_read unrefused unmoved e items l (restarted b.last_id b.retry) tt (at_start b) in
        sym (read_whole unmoved b tt).stands.last_id ∙ (k.0.drained (none_refused unmoved tt (events_in items))).last_id;
    retry = λ b.
        let k = what_was_sent_is_read unrefused unmoved e items l (restarted b.last_id b.retry) tt (at_start b) in
        sym (read_whole unmoved b tt).stands.retry ∙ (k.0.drained (none_refused unmoved tt (events_in items))).retry;
    within = λ b. (read_whole unmoved b tt).within;
  }

pub a_stream_means_what_was_sent : AStreamMeansWhatWasSent
a_stream_means_what_was_sent e items l = means e items l

pub a_written_event_is_read_alone : AWrittenEventIsReadAlone
a_written_event_is_read_alone e i x l = subst (λ s. Means s (event i x ∷ [])) (append-nil (written e i x)) (means e (event i x ∷ []) (l, tt))
