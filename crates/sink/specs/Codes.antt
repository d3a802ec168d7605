-- The codes in a chain: those of its places that are in use.
use Rattle.std.specs.Prelude.{ℕ, List, take}
use Rattle.sink.specs.declared.row.Chain.{Chain}

abbrev pub codes_of : Chain → List ℕ
codes_of c = take c.count c.places
