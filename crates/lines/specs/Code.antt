-- What the program's values stand for.
use Rattle.std.specs.Prelude.{ℕ, Bool, true, false, cond, Some, None, Ok, Err, Option, Result}
use Rattle.buffer.specs.Bytes.{bytes_of}
use Rattle.decoder.specs.Code.{state_of}
use Rattle.fields.specs.Cause as cause
use Rattle.fields.specs.Cause.{Cause, line_too_long}
use Rattle.fields.specs.Code.{cause_of, held_of}
use Rattle.fields.specs.Block.{Outcome, nothing, over}
use Rattle.fields.specs.Hand.{Answer, quiet, kept, faulted, Handed}
use Rattle.lines.specs.declared.fault.Fault.{Fault as Stop}
use Rattle.lines.specs.declared.fault.Layer.{Layer}
use Rattle.lines.specs.declared.fault.Layer.TheVariants as layer
use Rattle.lines.specs.declared.fault.LineFault.{LineFault}
use Rattle.lines.specs.declared.fault.LineFault.TheVariants.{Long, Field}
use Rattle.lines.specs.declared.text.Lines.{Lines}
use Rattle.lines.specs.declared.reader.Reader.{Reader as Board}
use Rattle.lines.specs.Text.{Text, Seen, Ran}
use Rattle.lines.specs.Reader.{Fault, Reader, reading, stopped, Pushed}

-- Each fault with its number and layer.
abbrev pub line_cause : LineFault → Cause
line_cause Long = line_too_long
line_cause (Field f) = cause_of f

abbrev pub layer_said : Layer → cause.Layer
layer_said layer.Line = cause.line
layer_said layer.Field = cause.field
layer_said layer.Sink = cause.sink

abbrev pub fault_said : Stop → Fault
fault_said f = record { cause = line_cause f.cause; line = f.line; byte = f.byte }

abbrev pub faults_said : Option Stop → Option Fault
faults_said None = None
faults_said (Some f) = Some (fault_said f)

-- A character's answer: whether an event was kept, or the fault.
abbrev pub line_answer : Result Bool LineFault → Answer Cause
line_answer (Ok true) = kept
line_answer (Ok false) = quiet
line_answer (Err f) = faulted (line_cause f)

-- What text comes to that ends no line.
abbrev pub text_outcome : Result (Unit {0}) LineFault → Outcome
text_outcome (Ok u) = nothing
text_outcome (Err f) = over (line_cause f)

-- How many events were kept, at most one, and why reading stopped, if it did.
abbrev pub kept_of : {F : Type 0} → Result Bool F → ℕ
kept_of (Ok k) = cond k 1 0
kept_of (Err f) = 0

abbrev pub stop_of : {F C : Type 0} → (F → C) → Result Bool F → Option C
stop_of said (Ok k) = None
stop_of said (Err f) = Some (said f)

abbrev pub text_of : Lines → Text
text_of l = record { line = record { after_cr = l.after_cr; built = bytes_of l.line }; number = l.number; held = held_of l.fields }

abbrev pub standing : Board → Option Stop → Reader
standing r None = reading (record { decoder = state_of r.decoder; text = text_of r.lines; byte = r.byte })
standing r (Some f) = stopped (held_of r.lines.fields).last_id (held_of r.lines.fields).retry (fault_said f)

abbrev pub reader_of : Board → Reader
reader_of r = standing r r.fault

-- What a call came to, with the sink as it is then.
abbrev pub appended : Lines → Result (Unit {0}) LineFault → Seen
appended l r = record { text = text_of l; outcome = text_outcome r }

abbrev pub handed : {X : Type 0} → Lines → X → Result Bool LineFault → Handed Text X
handed l x r = record { held = text_of l; sink = x; answer = line_answer r }

abbrev pub ran : {X : Type 0} → Lines → X → Result Bool LineFault → Ran X
ran l x r = record { text = text_of l; sink = x; kept = kept_of r; stop = stop_of line_cause r }

abbrev pub pushed : {X : Type 0} → Board → X → Result Bool Stop → Pushed X
pushed r x a = record { reader = reader_of r; sink = x; kept = kept_of a }
