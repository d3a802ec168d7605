-- The lines of a text. Each ends at an LF, which is not part of it; the last may lack it.
use Rattle.std.specs.Prelude.{◌≡◌, ℕ, suc, cond, List, [], ◌∷◌, take, drop, codes, ◌==◌, refl}

-- how many bytes stand before the first LF
abbrev pub line_length : List ℕ → ℕ
line_length [] = 0
line_length (b ∷ s) = cond (b == 10) 0 (suc (line_length s))

-- the first line
abbrev pub line_of : List ℕ → List ℕ
line_of s = take (line_length s) s

-- what is behind it and its LF
abbrev pub behind_line : List ℕ → List ℕ
behind_line s = drop 1 (drop (line_length s) s)

-- one byte more before the first line
abbrev pub lengthened : ℕ → List (List ℕ) → List (List ℕ)
lengthened b [] = (b ∷ []) ∷ []
lengthened b (l ∷ ls) = (b ∷ l) ∷ ls

-- all lines
abbrev pub all_lines : List ℕ → List (List ℕ)
all_lines [] = []
all_lines (b ∷ s) = cond (b == 10) ([] ∷ all_lines s) (lengthened b (all_lines s))

example_lines : all_lines (codes "a b\n\nc") ≡ codes "a b" ∷ [] ∷ codes "c" ∷ []
example_lines = refl

example_last_lf : all_lines (codes "c\n") ≡ codes "c" ∷ []
example_last_lf = refl

example_line : line_of (codes "a b\nc\n") ≡ codes "a b"
example_line = refl

example_behind : behind_line (codes "a b\nc\n") ≡ codes "c\n"
example_behind = refl

example_empty : line_of (codes "\nc") ≡ []
example_empty = refl

example_last : line_of (codes "c") ≡ codes "c"
example_last = refl

example_behind_the_last : behind_line (codes "c") ≡ []
example_behind_the_last = refl
