use Rattle.std.proofs.Common.{refl}
use Rattle.writer.specs.Views.{view_of}
use Rattle.writer.proofs.Onto.{copied}
use Rattle.writer.proofs.window.Window.put.Goals as goal

pub returns : goal.returns
unfolding view_of
returns c =
    let w = c.args.self.now in record {
      view = copied (view_of w) w.out.now c.args.bytes.now c.copy_from_slice.new.self w.at c.min-from.result c.done-at.result c.min-n.result c.done-at.ensures c.min-from.ensures c.min-n.ensures refl refl c.copy_from_slice.ensures.after;
      buffer = refl;
      end = refl;
    }
