use Rattle.std.proofs.Common.{codes}
use Rattle.std.specs.List.{flat_map}
use Rattle.writer.specs.Views.{Puts}
use Rattle.writer.specs.Written.{field_line}
use Rattle.writer.proofs.window.Window.put_data.Given as goal

-- the lines of the pieces so far are written
abbrev pub invariant-loop-piece : goal.invariant-loop-piece
invariant-loop-piece l = Puts l.initial.self l.self (flat_map (λ piece. field_line l.initial.self.end (codes "data") piece.now) l.yielded)
