-- What is promised of decoding as a whole.
use Rattle.std.specs.Prelude.{◌≡◌, ℕ, List, [], ◌∷◌, take, IsUtf8, ◌≢◌}
use Rattle.decoder.specs.Standard.{Char, chars_after, decoded}
use Rattle.decoder.specs.Relation.{Chars}

-- The function and the relation say the same.
abbrev pub SameRule : Type 0
SameRule = (s : List ℕ) (cs : List Char) → (Chars s cs → chars_after 0 s ≡ cs) × (chars_after 0 s ≡ cs → Chars s cs)

abbrev pub DecodedTextIsWellFormed : Type 0
DecodedTextIsWellFormed = (s : List ℕ) → IsUtf8 (decoded s)

-- Well-formed text that does not begin with U+FEFF is decoded to itself.
abbrev pub WellFormedTextIsKept : Type 0
WellFormedTextIsKept = (s : List ℕ) → IsUtf8 s → (take 3 s ≢ 0xEF ∷ 0xBB ∷ 0xBF ∷ []) → decoded s ≡ s
