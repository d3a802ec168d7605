use Rattle.std.proofs.Common.{◌-◌, length, vec_items}
use Rattle.events.specs.Entry.{entry_of}
use Rattle.writer.specs.Written.{written}
use Rattle.authoring.proofs.Parts.{SoFar}
use Rattle.authoring.proofs.writing.Form.append.Given as goal

abbrev pub invariant-loop-count : goal.invariant-loop-count
invariant-loop-count g l =
    SoFar g.N.Numbering.GREATEST l.number (written l.self.end (g.N.Numbering.text l.number) (entry_of l.event)) (vec_items l.initial.stream) (vec_items l.stream) (length l.part) l.from

abbrev pub decreases-loop-count : goal.decreases-loop-count
decreases-loop-count g l = length (written l.self.end (g.N.Numbering.text l.number) (entry_of l.event)) - l.from
