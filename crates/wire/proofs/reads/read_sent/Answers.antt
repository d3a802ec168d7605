use Rattle.std.proofs.Common.{take, sym, refl, ap, subst}
use Rattle.std.specs.List.{flat_map}
use Rattle.std.proofs.lemmas.List.{take_all}
use Rattle.lines.specs.Code.{reader_of}
use Rattle.reading.proofs.Lists.{joined_next}
use Rattle.wire.proofs.Turns.{HasRead, has_read_more, as_sent}
use Rattle.wire.proofs.reads.read_sent.Goals as goal

pub loop-piece-init : goal.loop-piece-init
loop-piece-init g c = record { reader = refl; sink = refl }

pub loop-piece-preserved : goal.loop-piece-preserved
loop-piece-preserved g c =
    let k = g.S.Sink in
    let ps = c.args.pieces.now in
    let i = c.loop-piece.piece-index in
    let r = reader_of c.args.reader.now in
    let x = k.state c.args.sink.now in
    subst (λ s. HasRead k.refusal k.after r x s (reader_of c.read_on.new.reader) (k.state c.read_on.new.sink))
    (sym (joined_next (λ p. p.now) ps i _ c.loop-piece-test.true))
    (has_read_more k.refusal k.after r x (flat_map (λ p. p.now) (take i ps)) _ (reader_of c.loop-piece.reader) (reader_of c.read_on.new.reader) (k.state c.loop-piece.sink) (k.state c.read_on.new.sink) c.loop-piece.invariant c.read_on.ensures.reader c.read_on.ensures.sink)

pub returns : goal.returns
returns g c =
    let k = g.S.Sink in
    let ps = c.args.pieces.now in
    let r = reader_of c.args.reader.now in
    let x = k.state c.args.sink.now in
    let r' = reader_of c.loop-piece.reader in
    let y = k.state c.loop-piece.sink in
    let h = subst (λ s. HasRead k.refusal k.after r x s r' y) (ap (flat_map (λ p. p.now)) (take_all c.loop-piece.piece-index ps c.loop-piece-test.false)) c.loop-piece.invariant in
    record { reader = h.reader; sink = h.sink; sent = as_sent k.refusal k.after r x (flat_map (λ p. p.now) ps) r' y h }
