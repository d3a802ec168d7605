use Rattle.std.proofs.Common.{[], drop, vec_items}
use Rattle.std.specs.List.{flat_map}
use Rattle.machine.specs.Run.{run}
use Rattle.machine.proofs.Laws.{Leads}
use Rattle.decoder.specs.Machine.{reads, fresh}
use Rattle.decoder.specs.Code.{state_of}
use Rattle.decoder.proofs.pieces.decode_pieces.Given as goal

-- what is left of the pieces leads where all of them lead from the start
abbrev pub invariant-loop-piece : goal.invariant-loop-piece
invariant-loop-piece l =
    Leads reads (run reads fresh (flat_map (λ p. p.now) l.pieces)) [] (state_of l.decoder) (vec_items l.out) (flat_map (λ p. p.now) (drop l.piece-index l.pieces))
