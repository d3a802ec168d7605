use Rattle.std.proofs.Common.{◌≤◌, ◌<◌, length, decimal, arith}
use Rattle.std.proofs.lemmas.Grind.{common_steps}
use Rattle.std.proofs.lemmas.Bool.Decides.{nat_tests}
use Rattle.std.proofs.lemmas.List.{length_push}
use Rattle.numbering.specs.Banked.{bank_of, letter_of}
use Rattle.numbering.proofs.Writing.{behind}
use Rattle.numbering.proofs.banks.BankNumbering.write.Goals as goal

pub returns-clause-out : goal.returns-clause-out
returns-clause-out c =
    let d = decimal (bank_of c.args.n) in
    let out = c.args.out.now in
    let last = c.in_ok-last.last in
    let some : last < length out = grind (arith, common_steps) in
    let fit : length d ≤ last = grind (arith, common_steps, nat_tests, c.in_ok-len.ensures.count) in
    let put = behind d out (letter_of c.args.n) last fit some in
    let long = length_push d (letter_of c.args.n) in
    grind (arith, common_steps, nat_tests, c.in_ok-len.ensures.count)
