use Rattle.wire.proofs.Scans.{a_sink_is_offered_what_bytes_give}
use Rattle.wire.proofs.laws.a_sink_is_offered_what_bytes_give.Goals as goal

pub returns : goal.returns
returns g c = a_sink_is_offered_what_bytes_give g.S.Sink.refusal g.S.Sink.after
