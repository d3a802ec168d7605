use Rattle.std.proofs.Common.{◌≡◌, ◌++◌, take}
use Rattle.queue.specs.Items.{items, capacity_of}
use Rattle.queue.proofs.Queue.append.Given as goal

-- the items so far stand behind what was there
abbrev pub invariant-loop-x : goal.invariant-loop-x
invariant-loop-x g l = (items l.self ≡ items l.fn.self ++ take l.x-index (take l.n l.xs)) × (capacity_of l.self ≡ capacity_of l.fn.self)
