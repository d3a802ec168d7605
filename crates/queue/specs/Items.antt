-- What a queue holds, first item first, and how much it can hold.
use Rattle.std.specs.Prelude.{ℕ, List, length}
use Rattle.queue.specs.Ring.{ring}
use Rattle.queue.specs.declared.Queue.{Queue}

abbrev pub items : {T : Type 0} → Queue T → List T
items q = ring q.mem.now q.start q.len

abbrev pub capacity_of : {T : Type 0} → Queue T → ℕ
capacity_of q = length q.mem.now
