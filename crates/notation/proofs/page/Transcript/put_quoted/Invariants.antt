use Rattle.std.proofs.Common.{◌≡◌, take}
use Rattle.std.specs.List.{flat_map}
use Rattle.notation.specs.Kept.{text_of}
use Rattle.notation.specs.Quoted.{escaped}
use Rattle.notation.specs.Transcript.{clipped}
use Rattle.notation.proofs.page.Transcript.put_quoted.Given as goal

abbrev pub invariant-loop-byte : goal.invariant-loop-byte
invariant-loop-byte l = text_of l.self ≡ clipped (text_of l.initial.self) (flat_map escaped (take l.byte-index l.bytes))
