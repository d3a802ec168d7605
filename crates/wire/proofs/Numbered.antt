-- An event under the text of a number.
use Rattle.std.proofs.Common.{◌≡◌, ℕ, ◌≤◌, true, false, List, [], ◌∷◌, is_some, Some, None, Option, refl, arith}
use Rattle.std.proofs.lemmas.Bool.{both_ways}
use Rattle.events.specs.Entry.{entry_of}
use Rattle.events.specs.declared.entry.Entry.{Entry as Stored}
use Rattle.numbering.specs.Meaning.{Printed}
use Rattle.events.specs.declared.line_end.LineEnd.{LineEnd}
use Rattle.writer.specs.Written.{written}
use Rattle.wire.specs.Laws.{Means}
use Rattle.wire.specs.Sent.{event, Lawful}
use Rattle.wire.proofs.Means.{a_written_event_is_read_alone}

is_none : {A : Type 0} (o : Option A) → is_some o ≡ false → o ≡ None
is_none None h = refl
is_none (Some a) h = absurd (both_ways true h refl)

-- a text, and an entry, which has passed the checks
pub lawful : (longest : ℕ) (i : List ℕ) (x : Stored) → longest ≤ 32 → Printed longest i → Lawful (event i (entry_of x))
lawful longest i x short p = (record { some = p.some; most = omega (arith, p.most); each = p.each }, is_none _ x.sound)

-- and what is written for it is read as that event alone
pub alone : (longest : ℕ) (e : LineEnd) (i : List ℕ) (x : Stored) → longest ≤ 32 → Printed longest i → Means (written e i (entry_of x)) (event i (entry_of x) ∷ [])
alone longest e i x short p = a_written_event_is_read_alone e i (entry_of x) (lawful longest i x short p)
