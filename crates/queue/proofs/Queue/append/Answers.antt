use Rattle.std.proofs.Common.{take, ◌∙◌, rules}
use Rattle.queue.specs.Items.{items, capacity_of}
use Rattle.queue.proofs.Steps.{append_more}
use Rattle.queue.proofs.Queue.append.Goals as goal

pub loop-x-preserved : goal.loop-x-preserved
loop-x-preserved g c = (
  append_more c.push.result (items c.loop-x.self) _ (items c.args.self.now) (take c.min-n.result c.args.xs.now) c.loop-x.x-index (capacity_of c.loop-x.self) c.x-item.result
      c.push.ensures.test c.push.ensures.items c.loop-x.invariant.0 c.x-item.is (search rules) (search rules),
  c.push.ensures.capacity ∙ c.loop-x.invariant.1,
)
