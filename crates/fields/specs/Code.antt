-- What the program's values stand for.
use Rattle.std.specs.Prelude.{Bool, true, false, Ok, Err, Result}
use Rattle.buffer.specs.Bytes.{bytes_of}
use Rattle.fields.specs.declared.field.Field.{Field as Said}
use Rattle.fields.specs.declared.field.Field.TheVariants.{Comment, Data, Event, Id, Retry, Other}
use Rattle.fields.specs.declared.fault.FieldFault.{FieldFault}
use Rattle.fields.specs.declared.fault.FieldFault.TheVariants.{LongId, LongType, LongData, Sink}
use Rattle.fields.specs.declared.block.Fields.{Fields}
use Rattle.fields.specs.Field.{Field, comment, other, data_field, event_field, id_field, retry_field}
use Rattle.fields.specs.Cause.{Cause, id_too_long, type_too_long, data_too_long, refused_by_sink}
use Rattle.fields.specs.Block.{Held, Outcome, nothing, event, over}
use Rattle.fields.specs.Hand.{Answer, quiet, kept, faulted}

abbrev pub field_said : Said → Field
field_said Comment = comment
field_said (Data v) = data_field v.now
field_said (Event v) = event_field v.now
field_said (Id v) = id_field v.now
field_said (Retry v) = retry_field v.now
field_said Other = other

-- Each fault with its number and layer.
abbrev pub cause_of : FieldFault → Cause
cause_of LongId = id_too_long
cause_of LongType = type_too_long
cause_of LongData = data_too_long
cause_of (Sink f) = refused_by_sink f.number

-- A line's answer: whether an event was kept, or the fault.
abbrev pub answer_of : Result Bool FieldFault → Answer Cause
answer_of (Ok true) = kept
answer_of (Ok false) = quiet
answer_of (Err f) = faulted (cause_of f)

-- .. of a field alone, which keeps no event
abbrev pub field_answer : Result (Unit {0}) FieldFault → Answer Cause
field_answer (Ok u) = quiet
field_answer (Err f) = faulted (cause_of f)

abbrev pub held_of : Fields → Held
held_of f = record { data_buffer = bytes_of f.«data»; type_buffer = bytes_of f.event_type; id_buffer = bytes_of f.id; last_id = bytes_of f.last; retry = f.retry }

-- what a field's outcome answers
abbrev pub field_told : Outcome → Answer Cause
field_told nothing = quiet
field_told (event e) = kept
field_told (over c) = faulted c
