use Rattle.std.proofs.Common.{◌+◌, vec_items}
use Rattle.std.specs.Iterator.Adapters.{enumerate_source, enumerate_count}
use Rattle.script.specs.Code.{lines_left}
use Rattle.script.specs.Lines.{all_lines}
use Rattle.authoring.specs.Stream.{outcome}
use Rattle.authoring.proofs.Steps.{SoFar}
use Rattle.authoring.proofs.writing.write_lines.Given as goal

abbrev pub invariant-loop-before : goal.invariant-loop-before
invariant-loop-before g l =
    (goal.iterator-loop-before g).can_next l.before-iterator ×
    (goal.iterator-loop-before g).is_finite l.before-iterator ×
    SoFar g.N.Numbering.GREATEST g.N.Numbering.text l.fn.end (outcome g.N.Numbering.GREATEST g.N.Numbering.text l.fn.end 1 (all_lines l.fn.text)) (vec_items l.fn.stream) (vec_items l.stream) (lines_left (enumerate_source l.before-iterator)) (enumerate_count l.before-iterator + 1)
