use Rattle.std.proofs.Common.{◌-◌, length, take, sym, arith}
use Rattle.numbering.specs.NumeralLaws.{decimal_numeral}
use Rattle.numbering.proofs.banks.BankNumbering.read.Goals as goal

-- a bank is at least 1
pub overflow_sub-result : goal.overflow_sub-result
overflow_sub-result c =
    let bytes = c.args.bytes.now in
    (decimal_numeral 1000000 (take (length bytes - 1) bytes) c.in_ok-bank.bank (omega arith) (sym c.in_ok-bank.ensures)).one
