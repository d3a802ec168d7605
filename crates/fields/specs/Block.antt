-- What a finished line does to the block of fields that is being read. No sink is in it: a line gives nothing, an event,
-- or the mark that a limit is passed.
use Rattle.std.specs.Prelude.{ℕ, ◌-◌, Bool, false, cond, ◌||◌, List, [], ◌∷◌, ◌++◌, length, take, Some, None, codes, Option, ◌==◌, nat_le}
use Rattle.decimal.specs.Decimal.{capped_number}
use Rattle.events.specs.Event.{Event}
use Rattle.fields.specs.Cause.{Cause, id_too_long, type_too_long, data_too_long}
use Rattle.fields.specs.Field.{Field, comment, other, data_field, event_field, id_field, retry_field, field_of}

-- The three buffers of the block, and what outlives a stream: the last event ID and the reconnection time in milliseconds.
pub record Held : Type 0 where
  pub data_buffer : List ℕ
  pub type_buffer : List ℕ
  pub id_buffer : List ℕ
  pub last_id : List ℕ
  pub retry : ℕ

-- before anything was read
abbrev pub unread : Held
unread = record { data_buffer = []; type_buffer = []; id_buffer = []; last_id = []; retry = 3000 }

-- All three buffers start each stream empty.
abbrev pub renewed : Held → Held
renewed h = record { data_buffer = []; type_buffer = []; id_buffer = []; last_id = h.last_id; retry = h.retry }

pub data Outcome : Type 0 where
  nothing : Outcome
  event : Event → Outcome
  over : Cause → Outcome

pub record Said : Type 0 where
  pub held : Held
  pub outcome : Outcome

abbrev pub quietly : Held → Said
quietly h = record { held = h; outcome = nothing }

-- past a limit, where nothing changes any more
abbrev pub past : Held → Cause → Said
past h c = record { held = h; outcome = over c }

-- `data`: the value and an LF join the data buffer, which may hold 513 bytes.
abbrev pub joined : List ℕ → List ℕ → List ℕ
joined buffer v = buffer ++ (v ++ 0x0A ∷ [])

abbrev pub says_data : Held → List ℕ → Said
says_data h v =
    cond (nat_le (length (joined h.data_buffer v)) 513)
    (quietly (record { data_buffer = joined h.data_buffer v; type_buffer = h.type_buffer; id_buffer = h.id_buffer; last_id = h.last_id; retry = h.retry }))
    (past h data_too_long)

-- `event`: the value becomes the type buffer, which may hold 32 bytes.
abbrev pub says_event : Held → List ℕ → Said
says_event h v =
    cond (nat_le (length v) 32)
    (quietly (record { data_buffer = h.data_buffer; type_buffer = v; id_buffer = h.id_buffer; last_id = h.last_id; retry = h.retry }))
    (past h type_too_long)

abbrev pub has_nul : List ℕ → Bool
has_nul [] = false
has_nul (b ∷ s) = b == 0 || has_nul s

-- `id`: the value becomes the id buffer, which may hold 32 bytes, unless a NUL is in it.
abbrev pub says_id : Held → List ℕ → Said
says_id h v =
    cond (nat_le (length v) 32)
    (quietly (record { data_buffer = h.data_buffer; type_buffer = h.type_buffer; id_buffer = cond (has_nul v) h.id_buffer v; last_id = h.last_id; retry = h.retry }))
    (past h id_too_long)

-- `retry`: digits set the reconnection time, which stops at an hour; any other value is ignored.
abbrev pub time_said : ℕ → Option ℕ → ℕ
time_said old None = old
time_said old (Some t) = t

abbrev pub says_retry : Held → List ℕ → Said
says_retry h v = quietly (record { data_buffer = h.data_buffer; type_buffer = h.type_buffer; id_buffer = h.id_buffer; last_id = h.last_id; retry = time_said h.retry (capped_number 3600000 v) })

abbrev pub says : Held → Field → Said
says h comment = quietly h
says h (data_field v) = says_data h v
says h (event_field v) = says_event h v
says h (id_field v) = says_id h v
says h (retry_field v) = says_retry h v
says h other = quietly h

-- An empty type becomes `message`.
abbrev pub typed : List ℕ → List ℕ
typed [] = codes "message"
typed (b ∷ t) = b ∷ t

-- The event of a block: one final LF is taken from the data.
abbrev pub block_event : Held → Event
block_event h = record { id = h.id_buffer; type = typed h.type_buffer; «data» = take (length h.data_buffer - 1) h.data_buffer }

-- data and type buffers emptied
abbrev pub emptied : Held → Held
emptied h = record { data_buffer = []; type_buffer = []; id_buffer = h.id_buffer; last_id = h.last_id; retry = h.retry }

-- .. and the last event ID moved on to the id buffer
abbrev pub moved : Held → Held
moved h = record { data_buffer = []; type_buffer = []; id_buffer = h.id_buffer; last_id = h.id_buffer; retry = h.retry }

-- The blank line: with an empty data buffer the last event ID becomes the id buffer; otherwise the block is an event.
abbrev pub blank_outcome : Held → List ℕ → Outcome
blank_outcome h [] = nothing
blank_outcome h (b ∷ s) = event (block_event h)

abbrev pub blank : Held → Said
blank h = record { held = moved h; outcome = blank_outcome h h.data_buffer }

abbrev pub said : Held → List ℕ → Said
said h [] = blank h
said h (b ∷ s) = says h (field_of (b ∷ s))
