use Rattle.decoder.proofs.Related.{same_rule}
use Rattle.decoder.proofs.laws.rule_stands.Goals as goal

pub returns : goal.returns
returns c = same_rule
