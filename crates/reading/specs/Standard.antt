-- What a stream means, over the whole stream and without limits, as the HTML standard has it: decode, lines, fields, blocks.
use Rattle.std.specs.Prelude.{◌≡◌, ℕ, List, [], ◌∷◌, codes, refl}
use Rattle.events.specs.Event.{Event}
use Rattle.decoder.specs.Standard.{chars}
use Rattle.reading.specs.Lines.{lines}
use Rattle.reading.specs.Blocks.{Line, times, last_or, parted, events_from, last_id_after}

-- What was remembered before the stream.
pub record Before : Type 0 where
  pub last_id : List ℕ
  pub retry : ℕ

-- a new receiver
abbrev pub new : Before
new = record { last_id = []; retry = 3000 }

-- The finished lines of a stream, and what they mean.
abbrev pub lines_of : List ℕ → List Line
lines_of s = lines (chars s)

abbrev pub events_of : List Line → List Event
events_of ls = events_from [] (parted ls).finished

abbrev pub last_id_of : Before → List Line → List ℕ
last_id_of b ls = last_id_after b.last_id (parted ls).finished

abbrev pub retry_of : Before → List Line → ℕ
retry_of b ls = last_or b.retry (times ls)

abbrev event : List ℕ → List ℕ → List ℕ → Event
event i t d = record { id = i; type = t; «data» = d }

-- a comment, two events, and an unfinished block
abbrev stream : List ℕ
stream = codes ":hi\nid: 1A\nevent: insert\ndata: 0 17\n\nretry: 10\ndata\ndata: b\n\ndata: c\n"

example_events : events_of (lines_of stream) ≡ event (codes "1A") (codes "insert") (codes "0 17") ∷ event (codes "1A") (codes "message") (0x0A ∷ codes "b") ∷ []
example_events = refl

example_last : last_id_of new (lines_of stream) ≡ codes "1A"
example_last = refl

example_retry : retry_of new (lines_of stream) ≡ 10
example_retry = refl

example_empty_data : events_of (lines_of (codes "data\n\n")) ≡ event [] (codes "message") [] ∷ []
example_empty_data = refl
