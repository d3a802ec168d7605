-- What the sinks for programs hold, and what a tally does with an event.
use Rattle.std.specs.Prelude.{ℕ, ◌+◌, ◌-◌, ◌^◌, min, List, vec_items}
use Rattle.events.specs.Event.{Event}
use Rattle.notation.specs.declared.page.Transcript.{Transcript}
use Rattle.notation.specs.declared.tally.Tally.{Tally}

abbrev pub text_of : Transcript → List ℕ
text_of t = vec_items t.text

abbrev pub kept_of : Tally → ℕ
kept_of t = t.kept

-- one more, up to the greatest number that it holds
abbrev pub tally_after : ℕ → Event → ℕ
tally_after n e = min (n + 1) (2 ^ 64 - 1)
