use Rattle.reading.proofs.Once.{a_stream_has_one_outcome}
use Rattle.reading.proofs.laws.a_stream_has_one_outcome.Goals as goal

pub returns : goal.returns
returns g c = a_stream_has_one_outcome g.S.Sink.refusal g.S.Sink.after
