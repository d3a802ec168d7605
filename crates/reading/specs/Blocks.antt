-- What lines say: blocks, each ended by a blank line, and their events.
use Rattle.std.specs.Prelude.{ℕ, cond, List, [], ◌∷◌, ◌++◌, Some, None, Option}
use Rattle.std.specs.List.{flat_map}
use Rattle.decimal.specs.Decimal.{capped_number}
use Rattle.events.specs.Event.{Event}
use Rattle.fields.specs.Field.{Field, comment, other, data_field, event_field, id_field, retry_field, field_of}
use Rattle.fields.specs.Block.{has_nul, typed}

abbrev pub Line : Type 0
Line = List ℕ

-- The values that a field gives, by the field's name.
abbrev pub data_of : Field → List (List ℕ)
data_of comment = []
data_of other = []
data_of (data_field v) = v ∷ []
data_of (event_field v) = []
data_of (id_field v) = []
data_of (retry_field v) = []

abbrev pub type_of : Field → List (List ℕ)
type_of comment = []
type_of other = []
type_of (data_field v) = []
type_of (event_field v) = v ∷ []
type_of (id_field v) = []
type_of (retry_field v) = []

-- an id with a NUL in it is ignored
abbrev pub id_of : Field → List (List ℕ)
id_of comment = []
id_of other = []
id_of (data_field v) = []
id_of (event_field v) = []
id_of (id_field v) = cond (has_nul v) [] (v ∷ [])
id_of (retry_field v) = []

-- a time is digits, and stops at an hour
abbrev pub times_of : Option ℕ → List ℕ
times_of None = []
times_of (Some t) = t ∷ []

abbrev pub time_of : Field → List ℕ
time_of comment = []
time_of other = []
time_of (data_field v) = []
time_of (event_field v) = []
time_of (id_field v) = []
time_of (retry_field v) = times_of (capped_number 3600000 v)

-- .. and those that lines give, in their order
abbrev pub datas : List Line → List (List ℕ)
datas = flat_map (λ (l : Line). data_of (field_of l))

abbrev pub types : List Line → List (List ℕ)
types = flat_map (λ (l : Line). type_of (field_of l))

abbrev pub ids : List Line → List (List ℕ)
ids = flat_map (λ (l : Line). id_of (field_of l))

abbrev pub times : List Line → List ℕ
times = flat_map (λ (l : Line). time_of (field_of l))

-- the last of a list, or what stood before it
abbrev pub last_or : {A : Type 0} → A → List A → A
last_or a [] = a
last_or a (b ∷ bs) = last_or b bs

-- lists with an LF between
abbrev pub between : List ℕ → List (List ℕ) → List ℕ
between v [] = v
between v (w ∷ ws) = v ++ 0x0A ∷ between w ws

-- A block is its lines, without the blank line that ends it.
pub record Blocks : Type 0 where
  pub finished : List (List Line)
  pub begun : List Line

abbrev pub parted_after : List Line → List Line → Blocks
parted_after block [] = record { finished = []; begun = block }
parted_after block ([] ∷ ls) = record { finished = block ∷ (parted_after [] ls).finished; begun = (parted_after [] ls).begun }
parted_after block ((b ∷ l) ∷ ls) = parted_after (block ++ (b ∷ l) ∷ []) ls

abbrev pub parted : List Line → Blocks
parted = parted_after []

-- A block with data is an event: its data with an LF between its lines' values, its last type, or `message`, and the id i.
abbrev pub event_with : List ℕ → List (List ℕ) → List (List ℕ) → List Event
event_with i ts [] = []
event_with i ts (v ∷ vs) = record { id = i; type = typed (last_or [] ts); «data» = between v vs } ∷ []

-- The id of a block is the last in it, or else that of the block before.
abbrev pub events_from : List ℕ → List (List Line) → List Event
events_from i [] = []
events_from i (b ∷ bs) = event_with (last_or i (ids b)) (types b) (datas b) ++ events_from (last_or i (ids b)) bs

abbrev pub id_after : List ℕ → List (List Line) → List ℕ
id_after i [] = i
id_after i (b ∷ bs) = id_after (last_or i (ids b)) bs

-- The last event ID is that of the last block; before any block has ended it is what it was before the stream.
abbrev pub last_id_after : List ℕ → List (List Line) → List ℕ
last_id_after old [] = old
last_id_after old (b ∷ bs) = id_after [] (b ∷ bs)
