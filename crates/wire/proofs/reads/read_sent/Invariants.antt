use Rattle.std.proofs.Common.{take}
use Rattle.std.specs.List.{flat_map}
use Rattle.lines.specs.Code.{reader_of}
use Rattle.wire.proofs.Turns.{HasRead}
use Rattle.wire.proofs.reads.read_sent.Given as goal

-- the pieces so far are read
abbrev pub invariant-loop-piece : goal.invariant-loop-piece
invariant-loop-piece g l = HasRead g.S.Sink.refusal g.S.Sink.after (reader_of l.initial.reader) (g.S.Sink.state l.initial.sink) (flat_map (λ p. p.now) (take l.piece-index l.pieces)) (reader_of l.reader) (g.S.Sink.state l.sink)
