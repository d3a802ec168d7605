-- What a line says that should give an event by its type and its data.
use Rattle.std.specs.Prelude.{◌≡◌, ℕ, List, Some, None, codes, Option, refl}
use Rattle.events.specs.Checks.{flaw}
use Rattle.events.specs.Entry.{Entry}
use Rattle.events.specs.declared.refusal.Refusal.{Refusal}
use Rattle.events.specs.declared.refusal.Refusal.TheVariants.{TypeLength}
use Rattle.script.specs.Texts.{Texts, two_texts}

pub data Said : Type 0 where
  event : Entry → Said
  refused : Refusal → Said
  unreadable : Said

-- an event, unless a check finds a flaw
abbrev pub checked : Option Refusal → Entry → Said
checked None e = event e
checked (Some cause) e = refused cause

abbrev pub said_by : Option Texts → Said
said_by None = unreadable
said_by (Some t) = checked (flaw t.first t.second) (record { type = t.first; «data» = t.second })

abbrev pub event_said : List ℕ → Said
event_said line = said_by (two_texts line)

example_no_type : event_said (codes "\"\" \"0 17\"") ≡ refused TypeLength
unfolding flaw
example_no_type = refl

example_no_data : event_said (codes "\"insert\"") ≡ unreadable
example_no_data = refl
