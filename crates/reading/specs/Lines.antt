-- The lines of a text, over the whole text. A line ends at LF, at CR LF, or at CR alone.
use Rattle.std.specs.Prelude.{◌≡◌, ℕ, zero, suc, cond, List, [], ◌∷◌, ◌++◌, refl}
use Rattle.decoder.specs.Standard.{Char}
use Rattle.lines.specs.Line.{is_lf, is_cr}

-- Whether a line ends at a character, and how many of the characters behind it belong to its end.
pub data End : Type 0 where
  within : End
  ends : ℕ → End

abbrev pub feeds : List Char → ℕ
feeds [] = 0
feeds (c ∷ cs) = cond (is_lf c) 1 0

abbrev pub end_at : Char → List Char → End
end_at c cs = cond (is_lf c) (ends 0) (cond (is_cr c) (ends (feeds cs)) within)

-- The finished lines of a text, of which the first `skip` characters belong to an end that came before, and then `line` goes on.
abbrev pub lines_after : ℕ → List ℕ → List Char → List (List ℕ)
lines_after skip line [] = []
lines_after (suc skip) line (c ∷ cs) = lines_after skip line cs
lines_after zero line (c ∷ cs) =
    elim (end_at c cs) [
      | within ↦ lines_after zero (line ++ c) cs
      | ends n ↦ line ∷ lines_after n [] cs
    ]

abbrev pub lines : List Char → List (List ℕ)
lines cs = lines_after 0 [] cs

-- what stands behind the last end of a line
abbrev pub rest_after : ℕ → List ℕ → List Char → List ℕ
rest_after skip line [] = line
rest_after (suc skip) line (c ∷ cs) = rest_after skip line cs
rest_after zero line (c ∷ cs) =
    elim (end_at c cs) [
      | within ↦ rest_after zero (line ++ c) cs
      | ends n ↦ rest_after n [] cs
    ]

abbrev pub unfinished : List Char → List ℕ
unfinished cs = rest_after 0 [] cs

abbrev ascii : List ℕ → List Char
ascii [] = []
ascii (b ∷ s) = (b ∷ []) ∷ ascii s

example : lines (ascii (0x61 ∷ 0x0D ∷ 0x0A ∷ 0x62 ∷ 0x0D ∷ 0x0D ∷ 0x0A ∷ 0x0A ∷ 0x63 ∷ [])) ≡ (0x61 ∷ []) ∷ (0x62 ∷ []) ∷ [] ∷ [] ∷ []
example = refl

example_rest : unfinished (ascii (0x61 ∷ 0x0D ∷ 0x0A ∷ 0x62 ∷ [])) ≡ 0x62 ∷ []
example_rest = refl
