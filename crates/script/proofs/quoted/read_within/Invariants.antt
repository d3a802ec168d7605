use Rattle.std.proofs.Common.{◌≡◌, length, vec_items}
use Rattle.std.specs.Option.{option_map}
use Rattle.script.specs.Unquoted.{after, within}
use Rattle.script.proofs.quoted.read_within.Given as goal

abbrev pub invariant-loop-byte : goal.invariant-loop-byte
invariant-loop-byte l = within 0 l.inner ≡ option_map (after (vec_items l.bytes)) (within 0 l.rest)

abbrev pub decreases-loop-byte : goal.decreases-loop-byte
decreases-loop-byte l = length l.rest
