use Rattle.wire.proofs.Worked.{worked_cases}
use Rattle.wire.proofs.laws.worked_cases.Goals as goal

pub returns : goal.returns
returns c = worked_cases
