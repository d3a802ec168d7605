-- What holds of every numbering. Each number from 1 to the greatest has a text of 1 to 32 bytes, each from 0x21 to 0x7E, and a text that is
-- read as n is the text of n.
use Rattle.std.specs.Prelude.{◌≡◌, ℕ, ◌<◌, ◌≤◌, Bool, ◌&&◌, List, length, nat_le, slice_index}

-- one byte or more, at most `longest`, each of them printed
pub record Printed (longest : ℕ) (t : List ℕ) : Type 0 where
  pub some : 1 ≤ length t
  pub most : length t ≤ longest
  pub each : (i : ℕ) → i < length t → (33 ≤ slice_index t i) × (slice_index t i ≤ 126)

-- t is the text of n, and n is one of the numbers that have one
pub record Names (greatest : ℕ) (text : ℕ → List ℕ) (t : List ℕ) (n : ℕ) : Type 0 where
  pub first : 1 ≤ n
  pub last : n ≤ greatest
  pub its : t ≡ text n

-- whether n has a text
abbrev pub has_text : ℕ → ℕ → Bool
has_text greatest n = nat_le 1 n && nat_le n greatest

-- whether n has a text, `long` bytes of it, that goes into so much space
abbrev pub fits : ℕ → ℕ → ℕ → ℕ → Bool
fits greatest long n space = nat_le 1 n && (nat_le n greatest && nat_le long space)
