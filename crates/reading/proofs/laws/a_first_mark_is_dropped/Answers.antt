use Rattle.reading.proofs.Drops.{a_first_mark_is_dropped}
use Rattle.reading.proofs.laws.a_first_mark_is_dropped.Goals as goal

pub returns : goal.returns
returns c = a_first_mark_is_dropped
