-- What a program says of a line that stops the writing.
use Rattle.std.specs.Prelude.{◌≡◌, ℕ, List, ◌++◌, codes, decimal, refl}
use Rattle.std.specs.Fmt.{digits}
use Rattle.events.specs.Refusal.{number}
use Rattle.events.specs.declared.refusal.Refusal.TheVariants.{DataLength}
use Rattle.script.specs.declared.event.Cause.{Cause}
use Rattle.script.specs.declared.event.Cause.TheVariants.{Refused, Unreadable}
use Rattle.authoring.specs.declared.stop.Stop.{Stop}

abbrev pub told : Cause → ℕ → List ℕ
told (Refused refusal) line = codes "refused " ++ (decimal (number refusal) ++ (codes " at line " ++ decimal line))
told Unreadable line = codes "error: line " ++ (decimal line ++ codes " is not a type and data between quotes")

abbrev pub stop_told : Stop → List ℕ
stop_told s = told s.cause s.line

example : stop_told (record { line = 12; cause = Refused DataLength }) ≡ codes "refused 2 at line 12"
unfolding digits
example = refl
