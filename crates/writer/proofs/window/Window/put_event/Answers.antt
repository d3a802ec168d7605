use Rattle.writer.specs.Written.{written}
use Rattle.writer.proofs.Onto.{puts_then}
use Rattle.writer.proofs.window.Window.put_event.Goals as goal

pub returns : goal.returns
unfolding written
returns c =
    let p = puts_then c.put_field.ensures (puts_then c.put_type.ensures (puts_then c.put_data.ensures c.put_end.ensures)) in
    rw (c.put_data.ensures.end, c.put_type.ensures.end, c.put_field.ensures.end, c.event_type.ensures, c.«data».ensures) at p
