-- The line that is being built, character by character.
use Rattle.std.specs.Prelude.{ℕ, Bool, true, false, cond, List, [], ◌∷◌, ◌++◌, length, nat_le}
use Rattle.std.specs.Str.{bytes_eq}
use Rattle.decoder.specs.Standard.{Char}

abbrev pub is_lf : Char → Bool
is_lf c = bytes_eq c (0x0A ∷ [])

abbrev pub is_cr : Char → Bool
is_cr c = bytes_eq c (0x0D ∷ [])

-- The line so far, and whether the character before was a CR.
pub record Line : Type 0 where
  pub after_cr : Bool
  pub built : List ℕ

abbrev pub no_line : Line
no_line = record { after_cr = false; built = [] }

-- What a character does to the line: it goes on, it has ended and is this, or it is over 1,024 bytes.
pub data Turn : Type 0 where
  goes_on : Line → Turn
  ended : Line → List ℕ → Turn
  too_long : Turn

-- A line ends at LF, but the LF right after a CR is dropped.
abbrev pub at_lf : Bool → List ℕ → Turn
at_lf true built = goes_on (record { after_cr = false; built = built })
at_lf false built = ended no_line built

-- Any other character joins the line, which may hold 1,024 bytes.
abbrev pub longer : Line → Char → Turn
longer l c = cond (nat_le (length (l.built ++ c)) 1024) (goes_on (record { after_cr = false; built = l.built ++ c })) too_long

-- A line ends at CR, without waiting for an LF.
abbrev pub turn : Line → Char → Turn
turn l c = cond (is_lf c) (at_lf l.after_cr l.built) (cond (is_cr c) (ended (record { after_cr = true; built = [] }) l.built) (longer l c))
