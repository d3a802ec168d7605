use Rattle.wire.proofs.Numbered.{lawful, alone}
use Rattle.wire.proofs.writes.write_numbered.Goals as goal

pub returns-clause-lawful : goal.returns-clause-lawful
returns-clause-lawful g c = let k = g.N.Numbering in λ p q. lawful k.LONGEST (k.text c.args.number) c.args.event.now k.short (k.printed c.args.number p q)

pub returns-clause-alone : goal.returns-clause-alone
returns-clause-alone g c = let k = g.N.Numbering in λ p q. alone k.LONGEST c.args.end (k.text c.args.number) c.args.event.now k.short (k.printed c.args.number p q)

pub returns-in_err-len-clause-lawful : goal.returns-in_err-len-clause-lawful
returns-in_err-len-clause-lawful g c = let k = g.N.Numbering in λ p q. lawful k.LONGEST (k.text c.args.number) c.args.event.now k.short (k.printed c.args.number p q)

pub returns-in_err-len-clause-alone : goal.returns-in_err-len-clause-alone
returns-in_err-len-clause-alone g c = let k = g.N.Numbering in λ p q. alone k.LONGEST c.args.end (k.text c.args.number) c.args.event.now k.short (k.printed c.args.number p q)
