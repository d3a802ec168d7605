use Rattle.reading.proofs.Drops.{unfinished_blocks_are_dropped}
use Rattle.reading.proofs.laws.unfinished_blocks_are_dropped.Goals as goal

pub returns : goal.returns
returns c = unfinished_blocks_are_dropped
