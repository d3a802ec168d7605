use Rattle.wire.proofs.Sends.{what_was_sent_is_read}
use Rattle.wire.proofs.laws.what_was_sent_is_read.Goals as goal

pub returns : goal.returns
returns g c = what_was_sent_is_read g.S.Sink.refusal g.S.Sink.after
