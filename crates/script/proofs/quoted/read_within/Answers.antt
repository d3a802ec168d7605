use Rattle.std.proofs.Common.{vec_items}
use Rattle.script.specs.Unquoted.{within}
use Rattle.script.proofs.Within.{read_more, read_all}
use Rattle.script.proofs.quoted.read_within.Goals as goal

pub loop-byte-preserved : goal.loop-byte-preserved
loop-byte-preserved c =
    read_more (within 0 c.args.inner.now) (vec_items c.loop-byte.bytes) c.loop-byte.rest.now c.loop-byte.invariant c.in-Some-Byte.byte c.in-Some-Byte.length (vec_items c.push.new.self) (rw c.in-Some-Byte.field-0-is at c.in-Some-Byte.ensures) c.in_ok-push-in-Some-Byte.ensures.items

pub returns-in-Some-Close : goal.returns-in-Some-Close
returns-in-Some-Close c = read_all (within 0 c.args.inner.now) (vec_items c.loop-byte.bytes) c.loop-byte.rest.now c.loop-byte.invariant (rw c.in-Some-Close.field-0-is at c.in-Some-Close.ensures)
