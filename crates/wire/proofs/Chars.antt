-- Well-formed text as characters.
use Rattle.std.proofs.Common.{◌≡◌, ℕ, false, ◌&&◌, ◌||◌, eqb, List, [], ◌∷◌, ◌++◌, map, IsUtf8, refl, ap, ◌∙◌, subst}
use lib.Utf8.{encode}
use Rattle.std.proofs.lemmas.List.{map-append}
use Rattle.std.proofs.lemmas.Bool.{or_parts}
use Rattle.std.proofs.lemmas.Str.{chars-append as decodes-append, encodes-chars, scalars-chars}
use Rattle.std.specs.Str.{chars, bytes_eq}
use Rattle.machine.specs.Run.{run}
use Rattle.events.specs.Checks.{holds}
use Rattle.decoder.specs.Standard.{Char, text}
use Rattle.decoder.specs.Machine.{between, State, kept, moved, step}
use Rattle.decoder.proofs.Kept.{text_encodes}
use Rattle.decoder.proofs.Through.{goes_through}

abbrev pub chars_of : List ℕ → List Char
chars_of s = map encode (chars s)

pub chars_append : (a b : List ℕ) → IsUtf8 a → chars_of (a ++ b) ≡ chars_of a ++ chars_of b
chars_append a b u = ap (map encode) (decodes-append a b u) ∙ map-append encode (chars a) (chars b)

pub text_chars : (s : List ℕ) → IsUtf8 s → text (chars_of s) ≡ s
text_chars s u = text_encodes (chars s) ∙ encodes-chars s u

-- From between two characters, and where no mark is dropped, the decoder gives these characters and is between two again.
pub decodes_to : (s : List ℕ) → IsUtf8 s → (st : State) → st.reading ≡ between → kept st.started (chars_of s) ≡ chars_of s → run step st s ≡ record { state = record { started = moved st.started (chars_of s); reading = between }; out = chars_of s }
decodes_to s u st b k =
    let P : List ℕ → Type 0 = λ x. run step st x ≡ record { state = record { started = moved st.started (chars_of s); reading = between }; out = chars_of s } in
    subst P (encodes-chars s u) (goes_through (chars s) (scalars-chars s u) st b k)

-- bytes without b, in two parts
pub holds_append : (b : ℕ) (s t : List ℕ) → holds b s ≡ false → holds b t ≡ false → holds b (s ++ t) ≡ false
holds_append b [] t p q = q
holds_append b (x ∷ s) t p q =
    let r = or_parts (eqb x b) (holds b s) p in
    ap (λ v. v || holds b (s ++ t)) r.0 ∙ holds_append b s t r.1 q

pub holds_parts : (b : ℕ) (s t : List ℕ) → holds b (s ++ t) ≡ false → (holds b s ≡ false) × (holds b t ≡ false)
holds_parts b [] t p = (refl, p)
holds_parts b (x ∷ s) t p =
    let r = or_parts (eqb x b) (holds b (s ++ t)) p in
    let ih = holds_parts b s t r.1 in
    (ap (λ v. v || holds b s) r.0 ∙ ih.0, ih.1)

-- without b, it is not b alone
pub not_alone : (b : ℕ) (c : Char) → holds b c ≡ false → bytes_eq c (b ∷ []) ≡ false
not_alone b [] p = refl
not_alone b (x ∷ c) p = ap (λ v. v && bytes_eq c []) (or_parts (eqb x b) (holds b c) p).0
