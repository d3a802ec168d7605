use Rattle.reading.proofs.Drops.{line_ends_may_be_exchanged}
use Rattle.reading.proofs.laws.line_ends_may_be_exchanged.Goals as goal

pub returns : goal.returns
returns c = line_ends_may_be_exchanged
