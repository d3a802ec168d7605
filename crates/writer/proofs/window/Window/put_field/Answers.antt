use Rattle.writer.proofs.Onto.{puts_then, puts_same}
use Rattle.writer.proofs.window.Window.put_field.Goals as goal

pub returns : goal.returns
returns c = puts_same (puts_then c.put.ensures (puts_then c.put-2.ensures (puts_then c.put-3.ensures c.put_end.ensures))) (cc)
