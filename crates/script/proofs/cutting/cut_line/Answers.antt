use Rattle.std.proofs.Common.{sym}
use Rattle.script.proofs.Cuts.{before_lf, behind_lf, without_lf, none_behind}
use Rattle.script.proofs.cutting.cut_line.Goals as goal

pub returns-in-Some-clause-line : goal.returns-in-Some-clause-line
returns-in-Some-clause-line c = before_lf c.args.text.now c.in-Some.end (sym c.in-Some.ensures.first)

pub returns-in-Some-clause-rest : goal.returns-in-Some-clause-rest
returns-in-Some-clause-rest c = behind_lf c.args.text.now c.in-Some.end (sym c.in-Some.ensures.first)

pub returns-in-None-clause-line : goal.returns-in-None-clause-line
returns-in-None-clause-line c = without_lf c.args.text.now (sym c.in-None.ensures.first)

pub returns-in-None-clause-rest : goal.returns-in-None-clause-rest
returns-in-None-clause-rest c = none_behind c.args.text.now (sym c.in-None.ensures.first)
