-- Reading without a sink: what bytes give, events and marks where a limit is passed, and where the reader then stands. And what a sink makes of events that
-- are offered to it one after another.
use Rattle.std.specs.Prelude.{ℕ, Bool, true, false, cond, List, [], ◌∷◌, Some, None, Option, ◌==◌}
use Rattle.std.specs.List.{flat_map}
use Rattle.machine.specs.Run.{Step, run}
use Rattle.events.specs.Event.{Event}
use Rattle.decoder.specs.Standard.{Char}
use Rattle.decoder.specs.Machine as decoder
use Rattle.fields.specs.Cause.{Cause}
use Rattle.fields.specs.Block.{Outcome, nothing, event, over}
use Rattle.lines.specs.Text.{Text, counted, seen}
use Rattle.lines.specs.Reader.{Fault, Reading}

-- nothing is not given
abbrev pub gives : Outcome → List Outcome
gives nothing = []
gives (event e) = event e ∷ []
gives (over c) = over c ∷ []

abbrev pub see_char : Text → Char → Step Text Outcome
see_char t c = record { state = (seen t c).text; out = gives (seen t c).outcome }

abbrev pub scan_byte : Reading → ℕ → Step Reading Outcome
scan_byte r b =
    let d = decoder.step r.decoder b in
    let u = run see_char r.text d.out in
    record { state = record { decoder = d.state; text = u.state; byte = counted r.byte }; out = u.out }

abbrev pub scan : Reading → List ℕ → Step Reading Outcome
scan = run scan_byte

-- the events of what is given
abbrev pub event_given : Outcome → List Event
event_given nothing = []
event_given (event e) = e ∷ []
event_given (over c) = []

abbrev pub events_given : List Outcome → List Event
events_given = flat_map event_given

-- no limit is passed
abbrev pub within : List Outcome → Bool
within [] = true
within (nothing ∷ os) = within os
within (event e ∷ os) = within os
within (over c ∷ os) = false

-- why reading stopped, if it did
abbrev pub causes_of : Option Fault → Option Cause
causes_of None = None
causes_of (Some f) = Some f.cause

module _ {X : Type 0} (refusal : X → Event → ℕ) (after : X → Event → X) where
  -- The events that a sink keeps of those that are offered: all before the first that it refuses.
  abbrev pub kept_of : X → List Event → List Event
  kept_of x [] = []
  kept_of x (e ∷ es) = cond (refusal x e == 0) (e ∷ kept_of (after x e) es) []
