-- An edit as it is read, if there is one: a number over 64 stands as 64, which is past every place and every code.
use Rattle.std.specs.Prelude.{ℕ, min, Some, None, Option}
use Rattle.sink.specs.Chain.{Edit, insert, remove, other}
use Rattle.sink.specs.declared.edit.Edit.{Edit as ReadEdit}
use Rattle.sink.specs.declared.edit.Edit.TheVariants.{Insert, Remove}

abbrev pub cap64 : ℕ → ℕ
cap64 n = min n 64

abbrev pub capped : Edit → Option ReadEdit
capped (insert place code) = Some (Insert (cap64 place) (cap64 code))
capped (remove place) = Some (Remove (cap64 place))
capped other = None
