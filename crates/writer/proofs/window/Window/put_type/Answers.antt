use Rattle.std.proofs.Common.{Bool, cond, [], codes, ap}
use Rattle.writer.specs.Written.{field_line}
use Rattle.writer.proofs.Onto.{puts_nothing, puts_same}
use Rattle.writer.proofs.window.Window.put_type.Goals as goal

pub returns-else-not-is_message : goal.returns-else-not-is_message
returns-else-not-is_message c =
    let line = field_line c.args.self.now.end (codes "event") c.args.event_type.now in
    puts_same (puts_nothing c.args.self.now) (ap (λ (b : Bool). cond b [] line) c.if-not-is_message.ensures)
