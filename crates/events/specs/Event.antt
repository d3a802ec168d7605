-- An event by its three parts: id text, type and data, each a list of bytes.
use Rattle.std.specs.Prelude.{ℕ, List}
use Rattle.events.specs.declared.Event.{Event as Lent}

pub record Event : Type 0 where
  pub id : List ℕ
  pub type : List ℕ
  pub «data» : List ℕ

abbrev pub event_of : Lent → Event
event_of e = record { id = e.id.now; type = e.event_type.now; «data» = e.«data».now }
