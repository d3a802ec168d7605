use Rattle.std.proofs.Common.{◌≡◌, ◌++◌, take, drop}
use Rattle.queue.specs.Items.{items, capacity_of}
use Rattle.queue.proofs.Queue.take_into.Given as goal

-- the first items stand in front of what was there
abbrev pub invariant-loop-place : goal.invariant-loop-place
invariant-loop-place g l =
    (l.place-items ≡ take l.place-index (items l.fn.self) ++ drop l.place-index (take l.taken l.fn.out)) ×
    (items l.self ≡ drop l.place-index (items l.fn.self)) ×
    (capacity_of l.self ≡ capacity_of l.fn.self)
