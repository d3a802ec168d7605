use Rattle.std.proofs.Common.{◌-◌, length}
use Rattle.pedalfeed.proofs.journals.tell_events.Given as goal

abbrev pub decreases-loop-stored : goal.decreases-loop-stored
decreases-loop-stored l = length l.reader.bytes.now - l.reader.place
