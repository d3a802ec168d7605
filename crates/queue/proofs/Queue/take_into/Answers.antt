use Rattle.std.proofs.Common.{◌<◌, length, take, ◌∙◌, rules}
use Rattle.queue.specs.Items.{items}
use Rattle.queue.proofs.Steps.{first_left, taken_more, left_more, never_none}
use Rattle.queue.proofs.Queue.take_into.Goals as goal
use Rattle.queue.proofs.Queue.take_into.Goals.{in-Some, in_default}

pub loop-place-preserved : goal.loop-place-preserved
loop-place-preserved g c =
    let all = items c.args.self.now in
    let part = take c.min-taken.result c.args.out.now in
    let i = c.loop-place.place-index in
    let some : i < length all = search rules in
    elim c.match-pop_front.branch [
      | in-Some w ↦
          let e = first_left all (items c.loop-place.self) i w.in-Some.x some c.loop-place.invariant.1 w.in-Some.ensures.first in (
            w.place-items-is ∙ taken_more all part c.loop-place.place-items i w.in-Some.x some c.loop-place-test.true e c.loop-place.invariant.0,
            left_more all (items c.loop-place.self) _ i c.loop-place.invariant.1 c.pop_front.ensures.items,
            c.pop_front.ensures.capacity ∙ c.loop-place.invariant.2,
          )
      | in_default w ↦ absurd (never_none all (items c.loop-place.self) i some c.loop-place.invariant.1 w.in_default.ensures.first)
    ]
