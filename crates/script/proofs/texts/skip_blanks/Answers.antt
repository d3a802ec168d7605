use Rattle.script.proofs.Cuts.{behind_blanks}
use Rattle.script.proofs.texts.skip_blanks.Goals as goal

pub returns : goal.returns
returns c = behind_blanks c.args.text.now c.blank_count.result c.blank_count.ensures.count
