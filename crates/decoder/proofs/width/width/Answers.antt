use Rattle.std.proofs.Common.{◌≡◌, ℕ, ◌<◌, true, List, length, get_or, rules}
use Rattle.decoder.specs.Standard.{width_of}
use Rattle.decoder.proofs.Table.{agrees, table_at}
use Rattle.decoder.proofs.width.width.Goals as goal

width_at : (xs : List ℕ) (b : ℕ) → agrees width_of xs ≡ true → b < length xs → get_or xs b 0 ≡ width_of b
width_at xs b e h = table_at width_of xs b e h

pub returns : goal.returns
returns c = search (rules, width_at)
