-- The three ends of a line, as bytes and by their names.
use Rattle.std.specs.Prelude.{◌≡◌, ℕ, cond, List, [], ◌∷◌, Some, None, codes, Option, refl}
use Rattle.std.specs.Str.{bytes_eq}
use Rattle.events.specs.declared.line_end.LineEnd.{LineEnd}
use Rattle.events.specs.declared.line_end.LineEnd.TheVariants.{Lf, CrLf, Cr}

abbrev pub end_bytes : LineEnd → List ℕ
end_bytes Lf = 0x0A ∷ []
end_bytes CrLf = 0x0D ∷ 0x0A ∷ []
end_bytes Cr = 0x0D ∷ []

-- the line end that a word names
abbrev pub end_named : List ℕ → Option LineEnd
end_named word =
    cond (bytes_eq word (codes "lf")) (Some Lf)
    (cond (bytes_eq word (codes "crlf")) (Some CrLf)
    (cond (bytes_eq word (codes "cr")) (Some Cr) None))

example : end_named (codes "crlf") ≡ Some CrLf
example = refl
