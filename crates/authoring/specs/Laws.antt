-- What is written for lines is read as what they say.
use Rattle.std.specs.Prelude.{ℕ, ◌+◌, cond, List, [], ◌∷◌, ◌++◌, Some, None, Option}
use Rattle.events.specs.declared.line_end.LineEnd.{LineEnd}
use Rattle.numbering.specs.Meaning.{has_text}
use Rattle.script.specs.Events.{Said, event, refused, unreadable, event_said}
use Rattle.wire.specs.Sent as sent
use Rattle.wire.specs.Sent.{Sent}
use Rattle.wire.specs.Laws.{Means}
use Rattle.script.specs.declared.event.Cause.{Cause}
use Rattle.authoring.specs.Stream.{cause_of, outcome}

-- what is sent for a line with the number n
abbrev pub sent_for : ℕ → (ℕ → List ℕ) → ℕ → Said → List Sent
sent_for greatest text n (event x) = cond (has_text greatest n) (sent.event (text n) x ∷ []) []
sent_for greatest text n (refused cause) = []
sent_for greatest text n unreadable = []

abbrev pub unless_stopped : Option Cause → List Sent → List Sent → List Sent
unless_stopped None items rest = items ++ rest
unless_stopped (Some cause) items rest = []

-- .. and for the lines from line n on, up to the first that stops it
abbrev pub sent_by : ℕ → (ℕ → List ℕ) → ℕ → List (List ℕ) → List Sent
sent_by greatest text n [] = []
sent_by greatest text n (l ∷ ls) = unless_stopped (cause_of greatest n (event_said l)) (sent_for greatest text n (event_said l)) (sent_by greatest text (n + 1) ls)

-- By the standard, the stream that is written for lines is exactly the events that they say, numbered from 1 on, up to the first line that stops it.
abbrev pub WhatLinesSayIsRead : ℕ → (ℕ → List ℕ) → Type 0
WhatLinesSayIsRead greatest text = (e : LineEnd) (ls : List (List ℕ)) → Means (outcome greatest text e 1 ls).bytes (sent_by greatest text 1 ls)
