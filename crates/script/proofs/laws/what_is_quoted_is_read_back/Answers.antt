use Rattle.script.proofs.Back.{what_is_quoted_is_read_back}
use Rattle.script.proofs.laws.what_is_quoted_is_read_back.Goals as goal

pub returns : goal.returns
returns c = what_is_quoted_is_read_back
