use Rattle.std.proofs.Common.{IsUtf8, sym, refl, ap, ◌∙◌, subst}
use Rattle.std.specs.List.{flat_map}
use Rattle.std.proofs.lemmas.List.{at_drop_more, at_drop_all}
use Rattle.machine.proofs.Laws.{Leads, run_more, ends}
use Rattle.decoder.specs.Machine.{reads}
use Rattle.decoder.proofs.Whole.{text_so_far}
use Rattle.decoder.proofs.Valid.{decoded_text_is_well_formed}
use Rattle.decoder.proofs.pieces.decode_pieces.Goals as goal

pub loop-piece-preserved : goal.loop-piece-preserved
loop-piece-preserved c =
    let told = c.in_ok-add_piece.ensures refl in
    run_more _ _ _ _ (ap (λ t. t.state) told) (ap (λ t. t.out) told)
    (subst (Leads reads _ _ _ _) (at_drop_more (flat_map (λ p. p.now)) _ _ _ c.loop-piece-test.true) c.loop-piece.invariant)

pub returns : goal.returns
returns c =
    let s = flat_map (λ p. p.now) c.args.pieces.now in
    let e = (ends (subst (Leads reads _ _ _ _) (at_drop_all (flat_map (λ p. p.now)) _ _ c.loop-piece-test.false) c.loop-piece.invariant)).1 ∙ text_so_far s in
    record { text = e; utf8 = subst IsUtf8 (sym e) (decoded_text_is_well_formed s) }
