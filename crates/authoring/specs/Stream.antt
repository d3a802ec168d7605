-- What lines that say events come to. Each event is written under the next number, from 1 on, up to the first line that stops this: one that says no
-- event, or whose event is refused, or has no number.
use Rattle.std.specs.Prelude.{◌≡◌, ℕ, ◌+◌, ◌^◌, ◌<◌, cond, List, [], ◌∷◌, ◌++◌, Some, None, codes, Option, refl}
use Rattle.std.proofs.Math.Utf8.{encode}
use Rattle.std.specs.Str.{chars}
use Rattle.events.specs.Checks.{flaw, is_text}
use Rattle.events.specs.declared.line_end.LineEnd.{LineEnd}
use Rattle.events.specs.declared.line_end.LineEnd.TheVariants.{Lf}
use Rattle.events.specs.declared.refusal.Refusal.TheVariants.{TypeLength, NumbersUsed}
use Rattle.numbering.specs.Meaning.{has_text}
use Rattle.script.specs.Events.{Said, event, refused, unreadable, event_said}
use Rattle.writer.specs.Written.{written}
use Rattle.script.specs.declared.event.Cause.{Cause}
use Rattle.script.specs.declared.event.Cause.TheVariants.{Refused, Unreadable}
use Rattle.authoring.specs.declared.stop.Stop.{Stop}

-- why a line stops the writing, if it does
abbrev pub cause_of : ℕ → ℕ → Said → Option Cause
cause_of greatest n (event x) = cond (has_text greatest n) None (Some (Refused NumbersUsed))
cause_of greatest n (refused cause) = Some (Refused cause)
cause_of greatest n unreadable = Some Unreadable

-- what is written for it
abbrev pub bytes_of : ℕ → (ℕ → List ℕ) → LineEnd → ℕ → Said → List ℕ
bytes_of greatest text e n (event x) = cond (has_text greatest n) (written e (text n) x) []
bytes_of greatest text e n (refused cause) = []
bytes_of greatest text e n unreadable = []

pub record Outcome : Type 0 where
  pub bytes : List ℕ
  pub stop : Option Stop

-- line n, then what follows unless it stops
abbrev pub onward : ℕ → Option Cause → List ℕ → Outcome → Outcome
onward n None bytes o = record { bytes = bytes ++ o.bytes; stop = o.stop }
onward n (Some cause) bytes o = record { bytes = []; stop = Some (record { line = n; cause = cause }) }

-- the lines from line n on
abbrev pub outcome : ℕ → (ℕ → List ℕ) → LineEnd → ℕ → List (List ℕ) → Outcome
outcome greatest text e n [] = record { bytes = []; stop = None }
outcome greatest text e n (l ∷ ls) = onward n (cause_of greatest n (event_said l)) (bytes_of greatest text e n (event_said l)) (outcome greatest text e (n + 1) ls)

-- a numbering of nine numbers, each a digit
abbrev digit : ℕ → List ℕ
digit n = (48 + n) ∷ []

example_stops : outcome 9 digit Lf 1 (codes "\"a\" \"b\"" ∷ codes "\"c\"" ∷ codes "\"d\" \"e\"" ∷ []) ≡ record { bytes = codes "id: 1\nevent: a\ndata: b\n\n"; stop = Some (record { line = 2; cause = Unreadable }) }
unfolding flaw is_text chars encode written
example_stops = refl

example_refused : outcome 9 digit Lf 1 (codes "\"\" \"b\"" ∷ []) ≡ record { bytes = []; stop = Some (record { line = 1; cause = Refused TypeLength }) }
unfolding flaw
example_refused = refl

example_no_number : outcome 0 digit Lf 1 (codes "\"a\" \"b\"" ∷ []) ≡ record { bytes = []; stop = Some (record { line = 1; cause = Refused NumbersUsed }) }
unfolding flaw is_text chars encode
example_no_number = refl

-- what writing what a line says leaves, where it did not run out of memory
pub record Wrote (greatest : ℕ) (text : ℕ → List ℕ) (e : LineEnd) (n : ℕ) (said : Said) (before after : List ℕ) (stop : Option Cause) : Type 0 where
  pub why : stop ≡ cause_of greatest n said
  pub stream : after ≡ before ++ bytes_of greatest text e n said
  pub small : stop ≡ None → n < 2 ^ 32
