-- What a transcript does with an event: its line is added to the text, or refused with 29 where the two are longer than 262144 bytes.
use Rattle.std.specs.Prelude.{ℕ, ◌+◌, ◌-◌, cond, List, ◌++◌, length, take, nat_le}
use Rattle.events.specs.Event.{Event}
use Rattle.notation.specs.Quoted.{event_line}

abbrev pub transcript_after : List ℕ → Event → List ℕ
transcript_after text e = text ++ event_line e

abbrev pub transcript_refusal : List ℕ → Event → ℕ
transcript_refusal text e = cond (nat_le (length text + length (event_line e)) 262144) 0 29

-- the text with as much of `more` as the memory takes: one byte over the capacity, so that a text past it shows
abbrev pub clipped : List ℕ → List ℕ → List ℕ
clipped text more = text ++ take (262145 - length text) more
