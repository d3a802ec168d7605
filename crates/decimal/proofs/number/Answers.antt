use Rattle.std.proofs.Common.{◌<◌, length, sym, ◌∙◌, rules}
use Rattle.std.proofs.lemmas.List.{at_drop_all}
use Rattle.decimal.proofs.Caps.{rest, goes_on_at, stops_at, from_nothing}
use Rattle.decimal.proofs.number.Goals as goal

pub returns-in_err-number : goal.returns-in_err-number
returns-in_err-number c =
    let some : 0 < length c.args.text.now = search rules in
    let e = stops_at 18446744073709551615 c.loop-byte.number c.loop-byte.byte-index c.args.text.now c.loop-byte-test.true c.in_err-number.ensures
    ∙ c.loop-byte.invariant ∙ from_nothing 18446744073709551615 c.args.text.now some in
    search (rules, e)

pub loop-byte-preserved : goal.loop-byte-preserved
loop-byte-preserved c =
    goes_on_at 18446744073709551615 c.loop-byte.number c.in_ok-number.number c.loop-byte.byte-index c.args.text.now c.loop-byte-test.true c.in_ok-number.ensures
    ∙ c.loop-byte.invariant

pub returns : goal.returns
returns c =
    let some : 0 < length c.args.text.now = search rules in
    sym (at_drop_all (rest 18446744073709551615 c.loop-byte.number) c.args.text.now c.loop-byte.byte-index c.loop-byte-test.false)
    ∙ c.loop-byte.invariant ∙ from_nothing 18446744073709551615 c.args.text.now some
