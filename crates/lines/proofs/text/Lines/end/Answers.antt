use Rattle.std.proofs.Common.{[], ap, ◌∙◌, Err}
use Rattle.std.proofs.lemmas.Result.{err_from_is_err_and}
use Rattle.fields.specs.Code.{cause_of, held_of}
use Rattle.lines.specs.declared.text.Lines.{Lines}
use Rattle.lines.specs.Line.{Line, ended}
use Rattle.lines.specs.Text.{hand_turn}
use Rattle.lines.specs.Code.{text_of, handed}
use Rattle.lines.proofs.Ends.{ends_at_fault}
use Rattle.lines.proofs.text.Lines.end.Goals as goal

pub returns-in_err-kept : goal.returns-in_err-kept
returns-in_err-kept g c =
    let k = g.S.Sink in
    let t = text_of c.args.self.now in
    let x = k.state c.args.sink.now in
    let y = k.state c.line.new.sink in
    let l : Line = record { after_cr = c.args.cr; built = [] } in
    let self : Lines = record { line = c.args.self.now.line; after_cr = c.args.self.now.after_cr; number = c.args.self.now.number; fields = c.line.new.self } in
    let told = c.in_err-kept.ensures in
    let p = err_from_is_err_and c.from_residual.result c.from_residual.ensures.1 in
    ap (handed self y) p.1 ∙ ap (λ e. handed self y (Err e)) p.2
    ∙ ends_at_fault k.refusal k.after t x l c.as_slice.result.now (held_of c.line.new.self) y (cause_of c.in_err-kept.field-0.0) told.held told.sink told.answer
    ∙ ap (λ s. hand_turn k.refusal k.after t x (ended l s)) c.as_slice.ensures
