use Rattle.decoder.proofs.Valid.{decoded_text_is_well_formed}
use Rattle.decoder.proofs.laws.decoded_text_is_well_formed.Goals as goal

pub returns : goal.returns
returns c = decoded_text_is_well_formed
