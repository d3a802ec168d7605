-- The text of a stream, character by character: lines, and what they say. No sink is in `seen`; `hand_char` hands what it
-- gives to one.
use Rattle.std.specs.Prelude.{ℕ, ◌+◌, min, List, [], ◌∷◌, Some, None, Option}
use Rattle.events.specs.Event.{Event}
use Rattle.decoder.specs.Standard.{Char}
use Rattle.fields.specs.Cause.{Cause, line_too_long}
use Rattle.fields.specs.Block.{Held, Outcome, nothing, over, renewed, emptied, said}
use Rattle.fields.specs.Hand.{Answer, quiet, kept, faulted, Handed, hand}
use Rattle.lines.specs.Line.{Line, no_line, Turn, goes_on, ended, too_long, turn}

-- Counts of lines and bytes stop here.
abbrev pub counted : ℕ → ℕ
counted n = min (n + 1) 4294967295

-- The line being built and its number, and the block.
pub record Text : Type 0 where
  pub line : Line
  pub number : ℕ
  pub held : Held

-- at the start of a stream
abbrev pub begun : Held → Text
begun h = record { line = no_line; number = 1; held = renewed h }

pub record Seen : Type 0 where
  pub text : Text
  pub outcome : Outcome

abbrev pub turned : Text → Turn → Seen
turned t (goes_on l) = record { text = record { line = l; number = t.number; held = t.held }; outcome = nothing }
turned t (ended l s) = record { text = record { line = l; number = counted t.number; held = (said t.held s).held }; outcome = (said t.held s).outcome }
turned t too_long = record { text = t; outcome = over line_too_long }

-- what a character does
abbrev pub seen : Text → Char → Seen
seen t c = turned t (turn t.line c)

-- Where the sink refuses an event, its block is emptied.
abbrev pub refused : Text → Text
refused t = record { line = t.line; number = t.number; held = emptied t.held }

-- What characters came to: the text, the sink, how many events were kept, and why reading stopped, if it did.
pub record Ran (X : Type 0) : Type 0 where
  pub text : Text
  pub sink : X
  pub kept : ℕ
  pub stop : Option Cause

-- what comes after a character, unless it was a fault
abbrev pub resumed : {X : Type 0} → Handed Text X → Answer Cause → Ran X → Ran X
resumed h quiet r = r
resumed h kept r = record { text = r.text; sink = r.sink; kept = r.kept + 1; stop = r.stop }
resumed h (faulted d) r = record { text = h.held; sink = h.sink; kept = 0; stop = Some d }

module _ {X : Type 0} (refusal : X → Event → ℕ) (after : X → Event → X) where
  -- what a character does, and the sink
  abbrev pub hand_turn : Text → X → Turn → Handed Text X
  hand_turn t x u = hand refusal after t (refused t) (turned t u).text x (turned t u).outcome

  abbrev pub hand_char : Text → X → Char → Handed Text X
  hand_char t x c = hand_turn t x (turn t.line c)

  -- characters, up to the first fault
  abbrev pub hand_chars : Text → X → List Char → Ran X
  hand_chars t x [] = record { text = t; sink = x; kept = 0; stop = None }
  hand_chars t x (c ∷ cs) =
      let h = hand_char t x c in
      resumed h h.answer (hand_chars h.held h.sink cs)
