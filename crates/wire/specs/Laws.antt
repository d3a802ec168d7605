-- What holds of all that a sender sends, each promise named by what it says.
use Rattle.std.specs.Prelude.{◌≡◌, ℕ, true, List, [], ◌∷◌, map, length}
use Rattle.events.specs.Event.{Event}
use Rattle.events.specs.Entry.{Entry}
use Rattle.events.specs.declared.line_end.LineEnd.{LineEnd}
use Rattle.fields.specs.Block as block
use Rattle.lines.specs.Reader as reader
use Rattle.lines.specs.Reader.{Reading, Reader, reading, Pushed, fault_of, reads}
use Rattle.reading.specs.Standard.{Before, lines_of, events_of, last_id_of, retry_of}
use Rattle.reading.specs.Limits.{through, refused_in, cause_if}
use Rattle.reading.specs.Outcome.{Within}
use Rattle.wire.specs.Scan.{scan, events_given, within, causes_of, kept_of}
use Rattle.wire.specs.Boundary.{Boundary, AtBoundary}
use Rattle.writer.specs.Written.{written}
use Rattle.wire.specs.Sent.{Sent, event, Lawful, AllLawful, stream, events_in, last_id_after, retry_after}

-- no sink, and so no refusal
abbrev pub unrefused : Unit {0} → Event → ℕ
unrefused u e = 0

abbrev pub unmoved : Unit {0} → Event → Unit {0}
unmoved u e = u

-- The standard reads the whole stream s as the events of what was sent, in order and nothing else, and none of our limits is passed anywhere in it.
pub record Means (s : List ℕ) (items : List Sent) : Type 0 where
  pub events : events_of (lines_of s) ≡ events_in items
  pub last_id : (b : Before) → last_id_of b (lines_of s) ≡ last_id_after b.last_id items
  pub retry : (b : Before) → retry_of b (lines_of s) ≡ retry_after b.retry items
  pub within : (b : Before) → Within unrefused unmoved b tt s

abbrev pub AStreamMeansWhatWasSent : Type 0
AStreamMeansWhatWasSent = (e : LineEnd) (items : List Sent) → AllLawful items → Means (stream e items) items

-- What is written for an event, alone on a fresh stream, is that event alone.
abbrev pub AWrittenEventIsReadAlone : Type 0
AWrittenEventIsReadAlone = (e : LineEnd) (i : List ℕ) (x : Entry) → Lawful (event i x) → Means (written e i x) (event i x ∷ [])

-- Without a sink: from a block boundary on, s gives exactly the events sent, no mark of a limit, and ends at a block boundary.
pub record Gives (items : List Sent) (r : Reading) (s : List ℕ) : Type 0 where
  pub out : (scan r s).out ≡ map block.event (events_in items)
  pub boundary : Boundary (scan r s).state
  pub last_id : (scan r s).state.text.held.last_id ≡ last_id_after r.text.held.last_id items
  pub retry : (scan r s).state.text.held.retry ≡ retry_after r.text.held.retry items

abbrev pub WhatWasSentGivesItsEvents : Type 0
WhatWasSentGivesItsEvents = (e : LineEnd) (items : List Sent) → AllLawful items → (r : Reading) → Boundary r → Gives items r (stream e items)

module _ {X : Type 0} (refusal : X → Event → ℕ) (after : X → Event → X) where
  -- A sink that stood at x was offered the events es in order, up to the first that it refused; that came to p. Where it refused none, reading stands at r.
  pub record Offered (es : List Event) (x : X) (r : Reading) (p : Pushed X) : Type 0 where
    pub sink : p.sink ≡ through refusal after x (kept_of refusal after x es)
    pub kept : p.kept ≡ length (kept_of refusal after x es)
    pub fault : causes_of (fault_of p.reader) ≡ cause_if (refused_in refusal after x es)
    pub reader : refused_in refusal after x es ≡ 0 → p.reader ≡ reading r

  -- .. by whatever bytes that pass no limit
  abbrev pub ASinkIsOfferedWhatBytesGive : Type 0
  ASinkIsOfferedWhatBytesGive = (s : List ℕ) (r : Reading) (x : X) → within (scan r s).out ≡ true → Offered (events_given (scan r s).out) x (scan r s).state (reads refusal after (reading r) x s)

  -- The reader has read all that was sent, and stands where a block may begin.
  pub record Drained (items : List Sent) (x : X) (r r' : Reader) : Type 0 where
    pub all : kept_of refusal after x (events_in items) ≡ events_in items
    pub boundary : AtBoundary r'
    pub last_id : reader.last_id_of r' ≡ last_id_after (reader.last_id_of r) items
    pub retry : reader.retry_of r' ≡ retry_after (reader.retry_of r) items

  -- From the reader r and the sink x on, what was sent has led to r' and y: the sink was offered exactly the events sent, in order, up to the first that it refused.
  pub record ReadAsSent (items : List Sent) (r : Reader) (x : X) (r' : Reader) (y : X) : Type 0 where
    pub sink : y ≡ through refusal after x (kept_of refusal after x (events_in items))
    pub fault : causes_of (fault_of r') ≡ cause_if (refused_in refusal after x (events_in items))
    pub drained : refused_in refusal after x (events_in items) ≡ 0 → Drained items x r r'

  -- .. from every reader at a block boundary
  abbrev pub WhatWasSentIsRead : Type 0
  WhatWasSentIsRead = (e : LineEnd) (items : List Sent) → AllLawful items → (r : Reader) (x : X) → AtBoundary r → (let q = reads refusal after r x (stream e items) in ReadAsSent items r x q.reader q.sink × (q.kept ≡ length (kept_of refusal after x (events_in items))))
