use Rattle.writer.specs.Written.{comment_line}
use Rattle.writer.proofs.Onto.{puts_then, puts_same}
use Rattle.writer.proofs.window.Window.put_comment.Goals as goal

pub returns : goal.returns
unfolding comment_line
returns c = puts_same (puts_then c.put.ensures c.put_end.ensures) (cc)
