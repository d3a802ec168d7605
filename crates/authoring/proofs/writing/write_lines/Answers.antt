use Rattle.std.proofs.Common.{◌≡◌, ◌+◌, ◌<◌, ◌^◌, ◌∷◌, length, vec_items, ap, ◌∙◌, rules, arith}
use Rattle.std.specs.Iterator.Adapters.{enumerate_source, enumerate_count}
use Rattle.script.specs.Code.{lines_left}
use Rattle.script.specs.Lines.{all_lines}
use Rattle.authoring.specs.Stream.{outcome}
use Rattle.authoring.proofs.Steps.{lines_are_few, stopped}
use Rattle.authoring.proofs.writing.write_lines.Goals as goal

pub loop-before-init : goal.loop-before-init
loop-before-init g c =
    let few = lines_are_few c.args.text.now in
    let it = c.into_iter-before-iterator in
    let left : lines_left (enumerate_source it.result) ≡ all_lines c.args.text.now = ap (λ e. lines_left (enumerate_source e)) it.ensures.into_iter_gives ∙ ap lines_left c.enumerate-before-items.ensures.source ∙ c.new.ensures in
    let none : enumerate_count it.result ≡ 0 = ap enumerate_count it.ensures.into_iter_gives ∙ c.enumerate-before-items.ensures.count in
    let fits : enumerate_count it.result + length (lines_left (enumerate_source it.result)) < 2 ^ 64 = omega (arith, ap length left) in
    search rules

pub returns-in-Err : goal.returns-in-Err
returns-in-Err g c =
    let it = c.loop-before.before-iterator in
    let next : lines_left (enumerate_source it) ≡ c.in-Some.text.now ∷ lines_left (enumerate_source c.next.new.self) = search rules in
    let place : c.in-Some.before + 1 ≡ enumerate_count it + 1 = search rules in
    stopped g.N.Numbering.GREATEST g.N.Numbering.text c.args.end (outcome g.N.Numbering.GREATEST g.N.Numbering.text c.args.end 1 (all_lines c.args.text.now)) (vec_items c.args.stream.now) (vec_items c.loop-before.stream) (lines_left (enumerate_source it)) (enumerate_count it + 1) c.loop-before.invariant.2 c.in-Some.text.now (lines_left (enumerate_source c.next.new.self)) next (c.in-Some.before + 1) place (vec_items c.write_line.new.stream) c.in-Err.cause (rw c.in-Err.is at c.in_ok-cause.ensures)
