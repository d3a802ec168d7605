use Rattle.std.proofs.Common.{◌≤◌, drop}
use Rattle.lines.specs.Reader.{reads}
use Rattle.lines.specs.Code.{reader_of}
use Rattle.lines.proofs.Pieces.{Leads}
use Rattle.lines.proofs.reader.Reader.read.Given as goal

-- what is left of the piece leads where all of it leads from the start
abbrev pub invariant-loop-byte : goal.invariant-loop-byte
invariant-loop-byte g l =
    let k = g.S.Sink in
    (l.kept ≤ l.byte-index) × Leads k.refusal k.after (reads k.refusal k.after (reader_of l.initial.self) (k.state l.initial.sink) l.piece) (reader_of l.self) (k.state l.sink) l.kept (drop l.byte-index l.piece)
