-- What the values that the functions answer stand for.
use Rattle.std.specs.Prelude.{ℕ, List, Result, Ok, Err, vec_items}
use Rattle.events.specs.Entry.{entry_of}
use Rattle.events.specs.declared.entry.Entry.{Entry}
use Rattle.script.specs.declared.cutting.Lines.{Lines}
use Rattle.script.specs.declared.event.Cause.{Cause}
use Rattle.script.specs.declared.event.Cause.TheVariants.{Refused, Unreadable}
use Rattle.script.specs.declared.quoted.Unquoted.{Unquoted}
use Rattle.script.specs.declared.texts.TwoTexts.{TwoTexts}
use Rattle.script.specs.Events.{Said, event, refused, unreadable}
use Rattle.script.specs.Lines.{all_lines}
use Rattle.script.specs.Texts.{Texts}
use Rattle.script.specs.Unquoted.{Reading}

abbrev pub reading_of : Unquoted → Reading
reading_of u = record { bytes = vec_items u.bytes; rest = u.rest.now }

abbrev pub texts_of : TwoTexts → Texts
texts_of t = record { first = vec_items t.first; second = vec_items t.second }

abbrev pub said_of : Result Entry Cause → Said
said_of (Ok e) = event (entry_of e)
said_of (Err (Refused cause)) = refused cause
said_of (Err Unreadable) = unreadable

abbrev pub lines_left : Lines → List (List ℕ)
lines_left l = all_lines l.rest.now
