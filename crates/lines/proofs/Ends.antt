-- What the end of a line comes to, from what the line does to the block.
use Rattle.std.proofs.Common.{◌≡◌, ℕ, Bool, true, false, cond, eqb, List, ap, ◌∙◌, refl}
use Rattle.events.specs.Event.{Event}
use Rattle.fields.specs.Cause.{Cause, refused_by_sink}
use Rattle.fields.specs.Block.{Held, Outcome, nothing, event, over, emptied, said}
use Rattle.fields.specs.Hand.{Answer, quiet, kept, faulted, Handed, hand, hand_line}
use Rattle.lines.specs.Line.{Line, ended}
use Rattle.lines.specs.Text.{Text, counted, refused, hand_turn}

module _ {X : Type 0} (refusal : X → Event → ℕ) (after : X → Event → X) (t : Text) (x : X) (l : Line) where
  -- the text after a line that led to the block h
  abbrev lifted : Held → Answer Cause → Text
  lifted h quiet = record { line = l; number = counted t.number; held = h }
  lifted h kept = record { line = l; number = counted t.number; held = h }
  lifted h (faulted c) = record { line = t.line; number = t.number; held = h }

  abbrev shown : Handed Held X → Handed Text X
  shown f = record { held = lifted f.held f.answer; sink = f.sink; answer = f.answer }

  lifts : (h' : Held) (o : Outcome) → shown (hand refusal after t.held (emptied t.held) h' x o) ≡ hand refusal after t (refused t) (record { line = l; number = counted t.number; held = h' }) x o
  lifts h' nothing = refl
  lifts h' (event e) = by (eqb (refusal x e) 0)
    where
      by : (v : Bool) → shown (cond v (record { held = h'; sink = after x e; answer = kept }) (record { held = emptied t.held; sink = x; answer = faulted (refused_by_sink (refusal x e)) })) ≡ cond v (record { held = record { line = l; number = counted t.number; held = h' }; sink = after x e; answer = kept }) (record { held = refused t; sink = x; answer = faulted (refused_by_sink (refusal x e)) })
      by true = refl
      by false = refl
  lifts h' (over c) = refl

  joined : (h : Held) (y : X) (a : Answer Cause) (f : Handed Held X) → h ≡ f.held → y ≡ f.sink → a ≡ f.answer → record { held = h; sink = y; answer = a } ≡ f
  joined h y a f eh ey ea =
      ap (λ v. record { held = v; sink = y; answer = a }) eh
      ∙ ap (λ v. record { held = f.held; sink = v; answer = a }) ey
      ∙ ap (λ v. record { held = f.held; sink = f.sink; answer = v }) ea

  pub ends_at_fault : (s : List ℕ) (h : Held) (y : X) (c : Cause) → h ≡ (hand_line refusal after t.held x s).held → y ≡ (hand_line refusal after t.held x s).sink → faulted c ≡ (hand_line refusal after t.held x s).answer → record { held = record { line = t.line; number = t.number; held = h }; sink = y; answer = faulted c } ≡ hand_turn refusal after t x (ended l s)
  ends_at_fault s h y c eh ey ea = ap shown (joined h y (faulted c) (hand_line refusal after t.held x s) eh ey ea) ∙ lifts (said t.held s).held (said t.held s).outcome
