use Rattle.wire.proofs.Sends.{what_was_sent_gives_its_events}
use Rattle.wire.proofs.laws.what_was_sent_gives_its_events.Goals as goal

pub returns : goal.returns
returns c = what_was_sent_gives_its_events
