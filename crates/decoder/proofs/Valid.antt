-- What is decoded is UTF-8.
use Rattle.std.proofs.Common.{◌≡◌, ℕ, ◌+◌, ◌-◌, ◌*◌, ◌<◌, ◌≤◌, ◌⊎◌, List, [], ◌∷◌, IsUtf8, sym, subst, inl, inr, ⊎_elim, arith}
use Rattle.std.proofs.lemmas.Bool.{cond_both, cases_order, cases_eq}
use Rattle.std.proofs.lemmas.Str.{IsUtf8-append, IsUtf8-nil}
use Rattle.std.proofs.str.Valid.{of_one, of_two, of_three, of_four}
use Rattle.decoder.specs.Standard.{following, second, Lead, lead, stray, led, Char, replacement, is_mark, unmarked, chars, text}
use Rattle.decoder.specs.Relation.{Fits, none, one, Chars, done, character, alone, broken, unfinished}
use Rattle.decoder.specs.Laws.{DecodedTextIsWellFormed}
use Rattle.decoder.proofs.Ranges.{View, begins0, begins1, begins2, begins3, begins4, view, in_range, second_in}
use Rattle.decoder.proofs.Related.{related}

abbrev Fitting : Lead → List ℕ → Type 0
Fitting (lead rs) fs = Fits rs fs
Fitting stray fs = ⊥

well1 : (b : ℕ) {fs : List ℕ} → b ≤ 127 → Fits [] fs → IsUtf8 (b ∷ fs)
well1 b p none = of_one (b ∷ []) 0 (omega arith) (omega arith)

well2 : (b : ℕ) {fs : List ℕ} → 194 ≤ b → b ≤ 223 → Fits (second b ∷ []) fs → IsUtf8 (b ∷ fs)
well2 b p q (one {b = y} e none) = let k = second_in b y e in of_two (b ∷ y ∷ []) 0 (omega arith) (omega arith) (omega arith)

well3 : (b : ℕ) {fs : List ℕ} → 224 ≤ b → b ≤ 239 → Fits (second b ∷ following ∷ []) fs → IsUtf8 (b ∷ fs)
well3 b p q (one {b = y} e (one {b = z} f none)) =
    let j = second_in b y e in
    let k = in_range following z f in
    let s : ((b - 224) * 4096 + (y - 128) * 64 + (z - 128) < 55296) ⊎ (57344 ≤ (b - 224) * 4096 + (y - 128) * 64 + (z - 128)) =
    ⊎_elim (λ (eq : b ≡ 237). inl (omega arith)) (⊎_elim (λ (lt : b < 237). inl (omega arith)) (λ (gt : 237 < b). inr (omega arith))) (cases_order b 237) in
    let lo : 2048 ≤ (b - 224) * 4096 + (y - 128) * 64 + (z - 128) = ⊎_elim (λ (eq : b ≡ 224). omega arith) (λ (ne : b ≡ 224 → ⊥). omega arith) (cases_eq b 224) in
    of_three (b ∷ y ∷ z ∷ []) 0 (omega arith) (omega arith) (omega arith) (omega arith) lo s

well4 : (b : ℕ) {fs : List ℕ} → 240 ≤ b → b ≤ 244 → Fits (second b ∷ following ∷ following ∷ []) fs → IsUtf8 (b ∷ fs)
well4 b p q (one {b = y} e (one {b = z} f (one {b = w} g none))) =
    let j = second_in b y e in
    let k = in_range following z f in
    let l = in_range following w g in
    let lo : 16 ≤ (b - 240) * 64 + (y - 128) = ⊎_elim (λ (eq : b ≡ 240). omega arith) (λ (ne : b ≡ 240 → ⊥). omega arith) (cases_eq b 240) in
    let hi : (b - 240) * 64 + (y - 128) < 272 = ⊎_elim (λ (eq : b ≡ 244). omega arith) (λ (ne : b ≡ 244 → ⊥). omega arith) (cases_eq b 244) in
    of_four (b ∷ y ∷ z ∷ w ∷ []) 0 (omega arith) (omega arith) (omega arith) (omega arith) (omega arith) (lo, hi)

well : (b : ℕ) {w : ℕ} (fs : List ℕ) → View b w → Fitting (led w b) fs → IsUtf8 (b ∷ fs)
well b fs (begins1 p) h = well1 b p h
well b fs (begins2 p q) h = well2 b p q h
well b fs (begins3 p q) h = well3 b p q h
well b fs (begins4 p q) h = well4 b p q h
well b fs begins0 h = absurd h

replacement_valid : IsUtf8 replacement
replacement_valid = of_three replacement 0 (omega arith) (omega arith) (omega arith) (omega arith) (omega arith) (inr (omega arith))

abbrev AllValid : List Char → Type 0
AllValid [] = Unit {0}
AllValid (c ∷ cs) = IsUtf8 c × AllValid cs

chars_valid : {s : List ℕ} {cs : List Char} → Chars s cs → AllValid cs
chars_valid done = tt
chars_valid (character {b = b} {fs = fs} l h k) = (well b fs (view b) (subst (λ x. Fitting x fs) (sym l) h), chars_valid k)
chars_valid (alone l k) = (replacement_valid, chars_valid k)
chars_valid (broken l h n k) = (replacement_valid, chars_valid k)
chars_valid (unfinished l h) = tt

unmarked_valid : (cs : List Char) → AllValid cs → AllValid (unmarked cs)
unmarked_valid [] h = tt
unmarked_valid (c ∷ cs) h = cond_both (is_mark c) cs (c ∷ cs) AllValid (λ _. h.1) (λ _. h)

text_valid : (cs : List Char) → AllValid cs → IsUtf8 (text cs)
text_valid [] h = IsUtf8-nil
text_valid (c ∷ cs) h = IsUtf8-append c (text cs) h.0 (text_valid cs h.1)

pub decoded_text_is_well_formed : DecodedTextIsWellFormed
decoded_text_is_well_formed s = text_valid (chars s) (unmarked_valid _ (chars_valid (related s 0)))
