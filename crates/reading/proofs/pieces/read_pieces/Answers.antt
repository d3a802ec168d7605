use Rattle.std.proofs.Common.{take, sym, refl, ap, subst}
use Rattle.std.specs.List.{flat_map}
use Rattle.std.proofs.lemmas.List.{take_all}
use Rattle.lines.specs.Code.{reader_of}
use Rattle.reading.specs.Standard.{new}
use Rattle.reading.specs.Outcome.{HasRead}
use Rattle.reading.proofs.Lists.{joined_next}
use Rattle.reading.proofs.Whole.{read_outcome}
use Rattle.reading.proofs.pieces.read_pieces.Goals as goal

pub loop-piece-init : goal.loop-piece-init
loop-piece-init g c = (c.new-reader.ensures, refl)

pub loop-piece-preserved : goal.loop-piece-preserved
loop-piece-preserved g c =
    let k = g.S.Sink in
    let ps = c.args.pieces.now in
    let i = c.loop-piece.piece-index in
    let x = k.state c.args.sink.now in
    subst (λ s. HasRead k.refusal k.after new x s (reader_of c.read_on.new.reader) (k.state c.read_on.new.sink))
    (sym (joined_next (λ p. p.now) ps i _ c.loop-piece-test.true))
    (c.read_on.ensures.joins new x (flat_map (λ p. p.now) (take i ps)) c.loop-piece.invariant)

pub returns : goal.returns
returns g c =
    let k = g.S.Sink in
    let ps = c.args.pieces.now in
    let x = k.state c.args.sink.now in
    let h = subst (λ s. HasRead k.refusal k.after new x s (reader_of c.loop-piece.reader) (k.state c.loop-piece.sink)) (ap (flat_map (λ p. p.now)) (take_all c.loop-piece.piece-index ps c.loop-piece-test.false)) c.loop-piece.invariant in
    record { standard = read_outcome k.refusal k.after new x (flat_map (λ p. p.now) ps) (reader_of c.loop-piece.reader) (k.state c.loop-piece.sink) h }
