-- How a stream of bytes is decoded as UTF-8, over the whole stream.
use Rattle.std.specs.Prelude.{◌≡◌, ℕ, zero, suc, Bool, false, cond, ◌&&◌, List, [], ◌∷◌, take, ◌==◌, nat_le, nat_lt, refl}
use Rattle.std.specs.List.{flat_map}

-- The length of the character that a byte begins, 0 where none begins.
abbrev pub width_of : ℕ → ℕ
width_of b =
    cond (nat_le b 0x7F) 1
    (cond (nat_lt b 0xC2) 0
    (cond (nat_le b 0xDF) 2
    (cond (nat_le b 0xEF) 3
    (cond (nat_le b 0xF4) 4 0))))

-- Where a byte that follows has to lie.
pub record Range : Type 0 where
  pub low : ℕ
  pub high : ℕ

abbrev pub lies : Range → ℕ → Bool
lies r b = nat_le r.low b && nat_le b r.high

abbrev pub following : Range
following = record { low = 0x80; high = 0xBF }

-- The range of the first byte after the lead byte b.
abbrev pub second : ℕ → Range
second b =
    cond (b == 0xE0) (record { low = 0xA0; high = 0xBF })
    (cond (b == 0xED) (record { low = 0x80; high = 0x9F })
    (cond (b == 0xF0) (record { low = 0x90; high = 0xBF })
    (cond (b == 0xF4) (record { low = 0x80; high = 0x8F }) following)))

-- Where a character may begin: the ranges of the bytes that follow its lead byte, or none begins there.
pub data Lead : Type 0 where
  lead : List Range → Lead
  stray : Lead

abbrev pub led : ℕ → ℕ → Lead
led zero b = stray
led (suc n) b = lead (take n (second b ∷ following ∷ following ∷ []))

abbrev pub lead_of : ℕ → Lead
lead_of b = led (width_of b) b

-- What comes where bytes in some ranges are looked for: all of them, or, after some, a byte out of its range, or the
-- stream's end.
pub data Found : Type 0 where
  whole broken : ℕ → Found
  short : Found

abbrev pub further : Found → Found
further (whole n) = whole (suc n)
further (broken n) = broken (suc n)
further short = short

abbrev pub look : List Range → List ℕ → Found
look [] s = whole 0
look (r ∷ rs) [] = short
look (r ∷ rs) (b ∷ s) = cond (lies r b) (further (look rs s)) (broken 0)

abbrev pub look_from : Lead → List ℕ → Found
look_from (lead rs) s = look rs s
look_from stray s = broken 0

-- A character is its bytes.
abbrev pub Char : Type 0
Char = List ℕ

-- U+FFFD
abbrev pub replacement : Char
replacement = 0xEF ∷ 0xBF ∷ 0xBD ∷ []

-- The characters of a stream, of which the first `skip` bytes belong to one that came before.
-- An unfinished one at its end gives nothing.
abbrev pub chars_after : ℕ → List ℕ → List Char
chars_after skip [] = []
chars_after (suc skip) (b ∷ s) = chars_after skip s
chars_after zero (b ∷ s) =
    elim (look_from (lead_of b) s) [
      | whole n ↦ (b ∷ take n s) ∷ chars_after n s
      | broken n ↦ replacement ∷ chars_after n s
      | short ↦ []
    ]

-- U+FEFF
abbrev pub is_mark : Char → Bool
is_mark [] = false
is_mark (a ∷ []) = false
is_mark (a ∷ b ∷ []) = false
is_mark (a ∷ b ∷ c ∷ []) = a == 0xEF && (b == 0xBB && c == 0xBF)
is_mark (a ∷ b ∷ c ∷ d ∷ s) = false

-- U+FEFF as the first character is dropped.
abbrev pub unmarked : List Char → List Char
unmarked [] = []
unmarked (c ∷ cs) = cond (is_mark c) cs (c ∷ cs)

-- The characters that a stream has given so far, and their bytes.
abbrev pub chars : List ℕ → List Char
chars s = unmarked (chars_after 0 s)

abbrev pub text : List Char → List ℕ
text = flat_map (λ (c : Char). c)

abbrev pub decoded : List ℕ → List ℕ
decoded s = text (chars s)

-- A following byte out of its range is read again, as a lead byte.
broken_by_a : decoded (0xE2 ∷ 0x82 ∷ 0x41 ∷ []) ≡ 0xEF ∷ 0xBF ∷ 0xBD ∷ 0x41 ∷ []
broken_by_a = refl

broken_twice : chars (0xF0 ∷ 0x80 ∷ []) ≡ replacement ∷ replacement ∷ []
broken_twice = refl

-- The stream may go on, so what is unfinished is not judged yet.
unfinished : decoded (0x41 ∷ 0xF0 ∷ 0x9F ∷ 0x98 ∷ []) ≡ 0x41 ∷ []
unfinished = refl

-- Only the first U+FEFF of a stream is dropped, and only as its first character.
mark_first : decoded (0xEF ∷ 0xBB ∷ 0xBF ∷ 0x41 ∷ 0xEF ∷ 0xBB ∷ 0xBF ∷ []) ≡ 0x41 ∷ 0xEF ∷ 0xBB ∷ 0xBF ∷ []
mark_first = refl

mark_second : decoded (0x80 ∷ 0xEF ∷ 0xBB ∷ 0xBF ∷ []) ≡ 0xEF ∷ 0xBF ∷ 0xBD ∷ 0xEF ∷ 0xBB ∷ 0xBF ∷ []
mark_second = refl

-- Neither above U+10FFFF, nor a surrogate, nor longer than it need be.
ill_formed : chars (0xF4 ∷ 0x90 ∷ 0xED ∷ 0xA0 ∷ 0xE0 ∷ 0x9F ∷ 0xC1 ∷ []) ≡ replacement ∷ replacement ∷ replacement ∷ replacement ∷ replacement ∷ replacement ∷ replacement ∷ []
ill_formed = refl
