-- The reader of a stream, byte by byte: decoder, lines and fields, with the place in the stream.
use Rattle.std.specs.Prelude.{ℕ, ◌+◌, List, [], ◌∷◌, Some, None, Option}
use Rattle.events.specs.Event.{Event}
use Rattle.decoder.specs.Machine as decoder
use Rattle.fields.specs.Cause.{Cause}
use Rattle.fields.specs.Block.{unread}
use Rattle.lines.specs.Text.{Text, begun, counted, Ran, hand_chars}

-- A fault: why, in which line from 1, and at which byte of the stream from 0.
pub record Fault : Type 0 where
  pub cause : Cause
  pub line : ℕ
  pub byte : ℕ

pub record Reading : Type 0 where
  pub decoder : decoder.State
  pub text : Text
  pub byte : ℕ

-- Reading, or stopped at a fault, with the last event ID and the reconnection time as they were then.
pub data Reader : Type 0 where
  reading : Reading → Reader
  stopped : (last_id : List ℕ) → (retry : ℕ) → Fault → Reader

abbrev pub fault_of : Reader → Option Fault
fault_of (reading r) = None
fault_of (stopped i t f) = Some f

abbrev pub last_id_of : Reader → List ℕ
last_id_of (reading r) = r.text.held.last_id
last_id_of (stopped i t f) = i

abbrev pub retry_of : Reader → ℕ
retry_of (reading r) = r.text.held.retry
retry_of (stopped i t f) = t

-- A new stream, of which nothing is read: all but the last event ID and the reconnection time starts anew.
abbrev pub restarted : List ℕ → ℕ → Reader
restarted i t = reading (record { decoder = decoder.fresh; text = begun (record { data_buffer = []; type_buffer = []; id_buffer = []; last_id = i; retry = t }); byte = 0 })

abbrev pub fresh : Reader
fresh = restarted unread.last_id unread.retry

-- The reader, the sink, and how many events were kept.
pub record Pushed (X : Type 0) : Type 0 where
  pub reader : Reader
  pub sink : X
  pub kept : ℕ

-- What came of the characters of a byte at the place where r stood.
abbrev pub placed : {X : Type 0} → Reading → decoder.State → Ran X → Option Cause → Pushed X
placed r d h None = record { reader = reading (record { decoder = d; text = h.text; byte = counted r.byte }); sink = h.sink; kept = h.kept }
placed r d h (Some c) = record {
  reader = stopped h.text.held.last_id h.text.held.retry (record { cause = c; line = h.text.number; byte = r.byte });
  sink = h.sink;
  kept = h.kept;
}

module _ {X : Type 0} (refusal : X → Event → ℕ) (after : X → Event → X) where
  -- One byte more. A reader that has stopped reads nothing.
  abbrev pub push : Reader → X → ℕ → Pushed X
  push (reading r) x b =
      let d = decoder.step r.decoder b in
      let h = hand_chars refusal after r.text x d.out in
      placed r d.state h h.stop
  push (stopped i t f) x b = record { reader = stopped i t f; sink = x; kept = 0 }

  -- bytes, one after another
  abbrev pub reads : Reader → X → List ℕ → Pushed X
  reads r x [] = record { reader = r; sink = x; kept = 0 }
  reads r x (b ∷ s) =
      let p = push r x b in
      let q = reads p.reader p.sink s in
      record { reader = q.reader; sink = q.sink; kept = p.kept + q.kept }
