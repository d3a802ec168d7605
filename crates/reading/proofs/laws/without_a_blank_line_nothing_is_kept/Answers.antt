use Rattle.reading.proofs.Drops.{without_a_blank_line_nothing_is_kept}
use Rattle.reading.proofs.laws.without_a_blank_line_nothing_is_kept.Goals as goal

pub returns : goal.returns
returns c = without_a_blank_line_nothing_is_kept
