-- A fault in words: its number, its layer and its place.
use Rattle.std.specs.Prelude.{◌≡◌, ℕ, List, ◌++◌, codes, decimal, refl}
use Rattle.std.specs.Fmt.{digits}
use Rattle.fields.specs.Cause.{Layer, line, field, sink}
use Rattle.lines.specs.Reader.{Fault}

abbrev pub layer_name : Layer → List ℕ
layer_name line = codes "line"
layer_name field = codes "field"
layer_name sink = codes "sink"

abbrev pub fault_text : Fault → List ℕ
fault_text f =
    codes "fault " ++ (decimal f.cause.number ++ (codes " " ++ (layer_name f.cause.layer ++ (codes " line " ++ (decimal f.line ++ (codes " byte " ++ decimal f.byte))))))

example : fault_text (record { cause = record { number = 11; layer = field }; line = 3; byte = 640 }) ≡ codes "fault 11 field line 3 byte 640"
unfolding digits
example = refl
