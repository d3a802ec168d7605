-- What reading gives, handed to a sink by its meaning: an event goes to the sink, and what reads moves on only if the sink
-- accepts it; at a limit, or where the sink refuses, reading stops.
use Rattle.std.specs.Prelude.{ℕ, cond, List, ◌==◌}
use Rattle.events.specs.Event.{Event}
use Rattle.fields.specs.Cause.{Cause, refused_by_sink}
use Rattle.fields.specs.Block.{Held, Outcome, nothing, event, over, emptied, said}

-- no event, an event kept, or a fault
pub data Answer (F : Type 0) : Type 0 where
  quiet kept : Answer F
  faulted : F → Answer F

-- What reads (as it is then), the sink, and the answer.
pub record Handed (H X : Type 0) : Type 0 where
  pub held : H
  pub sink : X
  pub answer : Answer Cause

module _ {X : Type 0} (refusal : X → Event → ℕ) (after : X → Event → X) where
  -- From h, where a refusal by the sink leaves `refused`, and h' is what comes next.
  abbrev pub hand : {H : Type 0} → (h refused h' : H) → X → Outcome → Handed H X
  hand h refused h' x nothing = record { held = h'; sink = x; answer = quiet }
  hand h refused h' x (event e) =
      cond (refusal x e == 0)
      (record { held = h'; sink = after x e; answer = kept })
      (record { held = refused; sink = x; answer = faulted (refused_by_sink (refusal x e)) })
  hand h refused h' x (over c) = record { held = h; sink = x; answer = faulted c }

  -- a finished line
  abbrev pub hand_line : Held → X → List ℕ → Handed Held X
  hand_line h x line = hand h (emptied h) (said h line).held x (said h line).outcome
