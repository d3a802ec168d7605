-- What `keep` answers for a refusal number: 0 is none.
use Rattle.std.specs.Prelude.{ℕ, cond, Ok, Err, Result, ◌==◌}
use Rattle.sink.specs.declared.fault.SinkFault.{SinkFault}

abbrev pub answer : ℕ → Result (Unit {0}) SinkFault
answer n = cond (n == 0) (Ok tt) (Err (record { number = n }))
