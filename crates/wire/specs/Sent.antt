-- What a sender sends, one item after another: events with their id texts, comments and reconnection times; its bytes, and what they mean.
use Rattle.std.specs.Prelude.{◌≡◌, ℕ, ◌^◌, ◌<◌, min, List, [], ◌∷◌, None}
use Rattle.std.specs.List.{flat_map}
use Rattle.events.specs.Checks.{flaw}
use Rattle.events.specs.Entry.{Entry}
use Rattle.events.specs.Event.{Event}
use Rattle.events.specs.declared.line_end.LineEnd.{LineEnd}
use Rattle.numbering.specs.Meaning.{Printed}
use Rattle.writer.specs.Written.{written, comment_line, retry_line}

pub data Sent : Type 0 where
  event : List ℕ → Entry → Sent
  comment : Sent
  retry : ℕ → Sent

-- The id is a text that a numbering may give, the event has passed the checks, and a time is a number of 64 bits.
abbrev pub Lawful : Sent → Type 0
Lawful (event i x) = Printed 32 i × (flaw x.type x.«data» ≡ None)
Lawful comment = Unit {0}
Lawful (retry n) = n < 2 ^ 64

abbrev pub AllLawful : List Sent → Type 0
AllLawful [] = Unit {0}
AllLawful (a ∷ rest) = Lawful a × AllLawful rest

-- the bytes
abbrev pub bytes_of : LineEnd → Sent → List ℕ
bytes_of e (event i x) = written e i x
bytes_of e comment = comment_line e
bytes_of e (retry n) = retry_line e n

abbrev pub stream : LineEnd → List Sent → List ℕ
stream e = flat_map (bytes_of e)

-- an entry with its id text, as a sink is handed it
abbrev pub numbered : List ℕ → Entry → Event
numbered i x = record { id = i; type = x.type; «data» = x.«data» }

abbrev pub event_in : Sent → List Event
event_in (event i x) = numbered i x ∷ []
event_in comment = []
event_in (retry n) = []

abbrev pub events_in : List Sent → List Event
events_in = flat_map event_in

-- The last event ID and the reconnection time, which stops at an hour, after what was sent.
abbrev pub id_after : List ℕ → Sent → List ℕ
id_after old (event i x) = i
id_after old comment = old
id_after old (retry n) = old

abbrev pub last_id_after : List ℕ → List Sent → List ℕ
last_id_after old [] = old
last_id_after old (a ∷ rest) = last_id_after (id_after old a) rest

abbrev pub time_after : ℕ → Sent → ℕ
time_after old (event i x) = old
time_after old comment = old
time_after old (retry n) = min n 3600000

abbrev pub retry_after : ℕ → List Sent → ℕ
retry_after old [] = old
retry_after old (a ∷ rest) = retry_after (time_after old a) rest
