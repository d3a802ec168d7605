-- What reading a stream comes to, by the standard and the limits: all of it, or up to the first byte that takes it over a limit.
use Rattle.std.specs.Prelude.{◌≡◌, ℕ, ◌+◌, ◌<◌, ◌≤◌, min, List, length, take, Some, None}
use Rattle.events.specs.Event.{Event}
use Rattle.fields.specs.Cause.{Cause}
use Rattle.lines.specs.Reader.{Fault, Reader, Pushed, fault_of, restarted, reads}
use Rattle.lines.specs.Reader as reader
use Rattle.reading.specs.Standard.{Before, lines_of, events_of, last_id_of, retry_of}
use Rattle.reading.specs.Limits.{through, over}

-- where counts of lines and bytes stop
abbrev pub capped : ℕ → ℕ
capped n = min n 4294967295

module _ {X : Type 0} (refusal : X → Event → ℕ) (after : X → Event → X) (b : Before) (x : X) where
  -- No part of the stream from its start is over a limit.
  abbrev pub Within : List ℕ → Type 0
  Within s = (n : ℕ) → n ≤ length s → over refusal after x (take n s) ≡ None

  -- A reader and a sink stand as the standard has it after the stream s, where the sink stood at x before.
  pub record Stands (s : List ℕ) (r : Reader) (y : X) : Type 0 where
    pub sink : y ≡ through refusal after x (events_of (lines_of s))
    pub last_id : reader.last_id_of r ≡ last_id_of b (lines_of s)
    pub retry : reader.retry_of r ≡ retry_of b (lines_of s)

  -- All of the stream is read, and within the limits.
  pub record ReadWhole (s : List ℕ) (r : Reader) (y : X) : Type 0 where
    pub within : Within s
    pub fault : fault_of r ≡ None
    pub stands : Stands s r y

  -- Byte n is the first that takes the stream over a limit: all stands as after the n bytes before it.
  pub record ReadToFault (s : List ℕ) (r : Reader) (y : X) : Type 0 where
    pub n : ℕ
    pub some : n < length s
    pub cause : Cause
    pub within : Within (take n s)
    pub over : over refusal after x (take (n + 1) s) ≡ Some cause
    pub fault : fault_of r ≡ Some (record { cause = cause; line = capped (1 + length (lines_of (take n s))); byte = capped n })
    pub stands : Stands (take n s) r y

  pub data Outcome (s : List ℕ) (r : Reader) (y : X) : Type 0 where
    whole : ReadWhole s r y → Outcome s r y
    to_fault : ReadToFault s r y → Outcome s r y

  -- The reader and the sink that have read s, from a new stream on.
  abbrev pub HasRead : List ℕ → Reader → X → Type 0
  HasRead s r y = (r ≡ (reads refusal after (restarted b.last_id b.retry) x s).reader) × (y ≡ (reads refusal after (restarted b.last_id b.retry) x s).sink)
