-- What is written between quotes is read back, whatever bytes it is made of and whatever follows it.
use Rattle.std.specs.Prelude.{◌≡◌, ℕ, ◌<◌, List, ◌++◌, Some}
use Rattle.std.specs.List.{AllByRecursion}
use Rattle.notation.specs.Quoted.{quoted}
use Rattle.script.specs.Unquoted.{unquoted}

abbrev pub WhatIsQuotedIsReadBack : Type 0
WhatIsQuotedIsReadBack = (s rest : List ℕ) → AllByRecursion (λ b. b < 256) s → unquoted (quoted s ++ rest) ≡ Some (record { bytes = s; rest = rest })
