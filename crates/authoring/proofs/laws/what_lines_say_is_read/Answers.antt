use Rattle.authoring.proofs.Meanings.{what_lines_say_is_read}
use Rattle.authoring.proofs.laws.what_lines_say_is_read.Goals as goal

pub returns : goal.returns
returns g c = let k = g.N.Numbering in what_lines_say_is_read k.GREATEST k.LONGEST k.text k.short k.printed
