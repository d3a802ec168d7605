-- Pieces of a stream, one after another, from any reader on.
use Rattle.std.proofs.Common.{◌≡◌, ℕ, List, ◌++◌, sym, ap, ◌∙◌, subst}
use Rattle.events.specs.Event.{Event}
use Rattle.events.specs.declared.line_end.LineEnd.{LineEnd}
use Rattle.lines.specs.Reader.{Reader, reads}
use Rattle.reading.specs.Standard.{new}
use Rattle.reading.proofs.Whole.{in_turn}
use Rattle.wire.specs.Boundary.{AtBoundary}
use Rattle.wire.specs.Sent.{Sent, AllLawful, stream}
use Rattle.wire.specs.Laws.{ReadAsSent}
use Rattle.wire.proofs.Sends.{what_was_sent_is_read}

module _ {X : Type 0} (refusal : X → Event → ℕ) (after : X → Event → X) where
  -- From the reader r and the sink x, s has led to r' and y.
  pub record HasRead (r : Reader) (x : X) (s : List ℕ) (r' : Reader) (y : X) : Type 0 where
    pub reader : r' ≡ (reads refusal after r x s).reader
    pub sink : y ≡ (reads refusal after r x s).sink

  pub has_read_more : (r : Reader) (x : X) (s t : List ℕ) (r' r'' : Reader) (y z : X) → HasRead r x s r' y → r'' ≡ (reads refusal after r' y t).reader → z ≡ (reads refusal after r' y t).sink → HasRead r x (s ++ t) r'' z
  has_read_more r x s t r' r'' y z h er ez =
      let q = in_turn refusal after new x s t r x in
      let p = reads refusal after r x s in
      record {
        reader = er ∙ ap (λ a. (reads refusal after a y t).reader) h.reader ∙ ap (λ a. (reads refusal after p.reader a t).reader) h.sink ∙ sym q.0;
        sink = ez ∙ ap (λ a. (reads refusal after a y t).sink) h.reader ∙ ap (λ a. (reads refusal after p.reader a t).sink) h.sink ∙ sym q.1;
      }

  pub as_sent : (r : Reader) (x : X) (s : List ℕ) (r' : Reader) (y : X) → HasRead r x s r' y → (e : LineEnd) (items : List Sent) → AllLawful items → s ≡ stream e items → AtBoundary r → ReadAsSent refusal after items r x r' y
  as_sent r x s r' y h e items l q b =
      let k = (what_was_sent_is_read refusal after e items l r x b).0 in
      subst (λ a. ReadAsSent refusal after items r x a y) (sym (h.reader ∙ ap (λ t. (reads refusal after r x t).reader) q))
      (subst (ReadAsSent refusal after items r x (reads refusal after r x (stream e items)).reader) (sym (h.sink ∙ ap (λ t. (reads refusal after r x t).sink) q)) k)
