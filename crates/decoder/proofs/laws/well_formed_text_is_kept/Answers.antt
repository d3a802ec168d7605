use Rattle.decoder.proofs.Kept.{well_formed_text_is_kept}
use Rattle.decoder.proofs.laws.well_formed_text_is_kept.Goals as goal

pub returns : goal.returns
returns c = well_formed_text_is_kept
