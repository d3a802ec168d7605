-- The same rule as a relation, with no look-ahead and no skipping: how a stream falls into characters.
use Rattle.std.specs.Prelude.{◌≡◌, ℕ, true, false, List, [], ◌∷◌, ◌++◌}
use Rattle.decoder.specs.Standard.{Range, lies, lead, stray, lead_of, Char, replacement}

-- Each byte lies in its range.
pub data Fits : List Range → List ℕ → Type 0 where
  none : Fits [] []
  one : {r : Range} {rs : List Range} {b : ℕ} {s : List ℕ} → lies r b ≡ true → Fits rs s → Fits (r ∷ rs) (b ∷ s)

-- Each byte lies in its range, and at least one range is left, of which r is the first.
pub data Partly : List Range → List ℕ → Range → Type 0 where
  stops : {r : Range} {rs : List Range} → Partly (r ∷ rs) [] r
  goes : {r q : Range} {rs : List Range} {b : ℕ} {s : List ℕ} → lies r b ≡ true → Partly rs s q → Partly (r ∷ rs) (b ∷ s) q

-- The stream falls into these characters.
pub data Chars : List ℕ → List Char → Type 0 where
  done : Chars [] []
  -- a lead byte with all its following bytes
  character : {b : ℕ} {rs : List Range} {fs s : List ℕ} {cs : List Char} → lead_of b ≡ lead rs → Fits rs fs → Chars s cs → Chars (b ∷ (fs ++ s)) ((b ∷ fs) ∷ cs)
  -- a byte that leads nothing
  alone : {b : ℕ} {s : List ℕ} {cs : List Char} → lead_of b ≡ stray → Chars s cs → Chars (b ∷ s) (replacement ∷ cs)
  -- some of its following bytes, and then a byte out of its range, which is read as a lead byte
  broken : {b c : ℕ} {rs : List Range} {r : Range} {fs s : List ℕ} {cs : List Char} → lead_of b ≡ lead rs → Partly rs fs r → lies r c ≡ false → Chars (c ∷ s) cs → Chars (b ∷ (fs ++ c ∷ s)) (replacement ∷ cs)
  -- some of its following bytes, and then the end
  unfinished : {b : ℕ} {rs : List Range} {r : Range} {fs : List ℕ} → lead_of b ≡ lead rs → Partly rs fs r → Chars (b ∷ fs) []
