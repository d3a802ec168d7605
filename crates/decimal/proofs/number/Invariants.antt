use Rattle.std.proofs.Common.{◌≡◌, drop}
use Rattle.decimal.proofs.Caps.{rest}
use Rattle.decimal.proofs.number.Given as goal

abbrev pub invariant-loop-byte : goal.invariant-loop-byte
invariant-loop-byte l = rest 18446744073709551615 l.number (drop l.byte-index l.text) ≡ rest 18446744073709551615 0 l.text
