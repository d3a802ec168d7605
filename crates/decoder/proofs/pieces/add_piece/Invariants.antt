use Rattle.std.proofs.Common.{drop, vec_items}
use Rattle.machine.specs.Run.{run}
use Rattle.machine.proofs.Laws.{Leads}
use Rattle.decoder.specs.Machine.{reads}
use Rattle.decoder.specs.Code.{state_of}
use Rattle.decoder.proofs.pieces.add_piece.Given as goal

-- what is left of the piece leads where all of it leads from the start
abbrev pub invariant-loop-byte : goal.invariant-loop-byte
invariant-loop-byte l =
    Leads reads (run reads (state_of l.initial.decoder) l.piece) (vec_items l.initial.out) (state_of l.decoder) (vec_items l.out) (drop l.byte-index l.piece)
