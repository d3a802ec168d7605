use Rattle.notation.specs.Kept.{text_of}
use Rattle.notation.specs.Quoted.{escaped}
use Rattle.notation.proofs.Clipping.{clip_each}
use Rattle.notation.proofs.page.Transcript.put_quoted.Goals as goal

pub loop-byte-preserved : goal.loop-byte-preserved
loop-byte-preserved c =
    clip_each escaped (text_of c.put.new.self) (text_of c.loop-byte.self) (text_of c.put_escaped.new.self) c.args.bytes.now c.loop-byte.byte-index c.loop-byte.invariant c.loop-byte-test.true c.put_escaped.ensures
