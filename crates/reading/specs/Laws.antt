-- Laws by which the definition of reading can be checked, each named by what it says.
use Rattle.std.specs.Prelude.{◌≡◌, ℕ, Bool, true, false, ◌||◌, List, [], ◌∷◌, ◌++◌, map}
use Rattle.std.specs.List.{flat_map}
use Rattle.events.specs.Event.{Event}
use Rattle.decoder.specs.Standard.{Char, chars, chars_after, text}
use Rattle.lines.specs.Line.{is_lf, is_cr}
use Rattle.lines.specs.Reader as reader
use Rattle.lines.specs.Reader.{Reader, fault_of}
use Rattle.reading.specs.Lines.{lines}
use Rattle.reading.specs.Blocks.{Line}
use Rattle.reading.specs.Standard.{Before, lines_of, events_of, last_id_of}
use Rattle.reading.specs.Limits.{any}
use Rattle.reading.specs.Outcome.{Outcome}

-- The three ends of a line.
pub data LineEnd : Type 0 where
  lf crlf cr : LineEnd

abbrev pub end_chars : LineEnd → List Char
end_chars lf = (0x0A ∷ []) ∷ []
end_chars crlf = (0x0D ∷ []) ∷ (0x0A ∷ []) ∷ []
end_chars cr = (0x0D ∷ []) ∷ []

-- lines of characters, each with that end
abbrev pub with_ends : LineEnd → List (List Char) → List Char
with_ends e = flat_map (λ (l : List Char). l ++ end_chars e)

-- a line end stands in it
abbrev pub has_end : List Char → Bool
has_end cs = any (λ (c : Char). is_lf c || is_cr c) cs

-- The same lines with LF, CR LF or CR are those lines, so they mean the same.
abbrev pub LineEndsMayBeExchanged : Type 0
LineEndsMayBeExchanged = (e : LineEnd) (ls : List (List Char)) → any has_end ls ≡ false → lines (with_ends e ls) ≡ map text ls

abbrev pub blank : Line → Bool
blank [] = true
blank (b ∷ l) = false

-- A block that no blank line ends is dropped: lines without a blank line add no event, and leave the last event ID.
pub record AddsNothing (b : Before) (ls ms : List Line) : Type 0 where
  pub events : events_of (ls ++ ms) ≡ events_of ls
  pub last_id : last_id_of b (ls ++ ms) ≡ last_id_of b ls

abbrev pub UnfinishedBlocksAreDropped : Type 0
UnfinishedBlocksAreDropped = (b : Before) (ls ms : List Line) → any blank ms ≡ false → AddsNothing b ls ms

abbrev pub WithoutABlankLineNothingIsKept : Type 0
WithoutABlankLineNothingIsKept = (s : List ℕ) → any blank (lines_of s) ≡ false → events_of (lines_of s) ≡ []

-- U+FEFF at the start of a stream is passed over, and the stream read as without it.
abbrev pub AFirstMarkIsDropped : Type 0
AFirstMarkIsDropped = (s : List ℕ) → chars (0xEF ∷ 0xBB ∷ 0xBF ∷ s) ≡ chars_after 0 s

-- A stream has one outcome: the sink's state, the fault with its place, the last event ID and the time.
pub record Agree {X : Type 0} (r : Reader) (y : X) (r' : Reader) (y' : X) : Type 0 where
  pub sink : y ≡ y'
  pub fault : fault_of r ≡ fault_of r'
  pub last_id : reader.last_id_of r ≡ reader.last_id_of r'
  pub retry : reader.retry_of r ≡ reader.retry_of r'

abbrev pub AStreamHasOneOutcome : {X : Type 0} → (X → Event → ℕ) → (X → Event → X) → Type 0
AStreamHasOneOutcome {X} refusal after = (b : Before) (x : X) (s : List ℕ) (r r' : Reader) (y y' : X) → Outcome refusal after b x s r y → Outcome refusal after b x s r' y' → Agree r y r' y'
