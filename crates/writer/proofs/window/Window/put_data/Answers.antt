use Rattle.std.proofs.Common.{[], ◌==◌, codes, sym, ap, ◌∙◌, rules, tests}
use Rattle.std.specs.List.{flat_map}
use Rattle.std.proofs.lemmas.Iterator.Consumers.{YieldsList-end}
use Rattle.std.proofs.lemmas.Iterator.Splits.{YieldsList-from_slice_split}
use Rattle.std.proofs.lemmas.List.{flat_map_more}
use Rattle.std.proofs.lemmas.List.Folds.{flat_map-map}
use Rattle.writer.specs.Written.{field_line}
use Rattle.writer.proofs.Onto.{puts_then, puts_same, puts_nothing}
use Rattle.writer.proofs.window.Window.put_data.Goals as goal

pub loop-piece-init : goal.loop-piece-init
loop-piece-init c = puts_nothing c.args.self.now

pub loop-piece-preserved : goal.loop-piece-preserved
loop-piece-preserved c =
    let line = puts_then c.loop-piece.invariant c.put_field.ensures in
    puts_same (rw c.loop-piece.invariant.end at line) (flat_map_more (λ piece. field_line c.args.self.now.end (codes "data") piece.now) [] c.loop-piece.yielded c.in-Some.piece)

pub returns : goal.returns
returns c =
    let line = field_line c.args.self.now.end (codes "data") in
    let cut = YieldsList-end (YieldsList-from_slice_split _ (λ b. b == 10) c.args.«data».now (cc) (cc) (cc) (λ x b q k. search (rules, tests))) c.loop-piece.yielded _ c.loop-piece.yielded_by _ _ c.in-None.is c.next.ensures.steps in
    puts_same c.loop-piece.invariant (sym (flat_map-map line (λ piece. piece.now) c.loop-piece.yielded) ∙ ap (flat_map line) cut.0)
