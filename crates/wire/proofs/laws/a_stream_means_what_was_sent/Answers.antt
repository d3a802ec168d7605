use Rattle.wire.proofs.Means.{a_stream_means_what_was_sent}
use Rattle.wire.proofs.laws.a_stream_means_what_was_sent.Goals as goal

pub returns : goal.returns
returns c = a_stream_means_what_was_sent
