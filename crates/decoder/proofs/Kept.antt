-- Well-formed text falls into its characters, and so is decoded to itself.
use Rattle.std.proofs.Common.{◌≡◌, ℕ, ◌+◌, ◌/◌, ◌<◌, ◌≤◌, true, ◌&&◌, eqb, ◌⊎◌, List, [], ◌∷◌, ◌++◌, map, take, sym, refl, ap, ◌∙◌, subst, inl, inr, arith}
use lib.Utf8.{scalar, scalars, next, encode, encodes, scalar_cases}
use Rattle.std.proofs.lemmas.Bool.{cond_both, eqb-true, and_parts}
use Rattle.std.proofs.str.Laws.{Scalar, order}
use Rattle.std.proofs.str.Laws as utf8
use Rattle.decoder.specs.Standard.{Range, lies, following, lead, lead_of, Char, is_mark, unmarked, text, decoded}
use Rattle.decoder.specs.Relation.{Fits, none, one, Chars, done, character}
use Rattle.decoder.specs.Laws.{WellFormedTextIsKept}
use Rattle.decoder.proofs.Ranges.{Second, leads1, leads2, leads3, leads4, following_lies, second_lies}
use Rattle.decoder.proofs.Related.{unique}

-- a lead byte with all its following bytes
pub data Whole : List ℕ → Type 0 where
  whole : {b : ℕ} {rs : List Range} {fs : List ℕ} → lead_of b ≡ lead rs → Fits rs fs → Whole (b ∷ fs)

next_lies : (x : ℕ) → lies following (next x) ≡ true
next_lies x = following_lies (next x) (omega arith) (omega arith)

-- the first following byte of a character of three bytes, and of one of four
second3 : (c : ℕ) → 2048 ≤ c → c < 65536 → Scalar c → Second (224 + c / 4096) (next (c / 64))
second3 c l h (inl s) = record { low = omega arith; high = omega arith; e0 = λ e. omega arith; ed = λ e. omega arith; f0 = λ e. absurd (omega arith); f4 = λ e. absurd (omega arith) }
second3 c l h (inr s) = record { low = omega arith; high = omega arith; e0 = λ e. omega arith; ed = λ e. absurd (omega arith); f0 = λ e. absurd (omega arith); f4 = λ e. absurd (omega arith) }

second4 : (c : ℕ) → 65536 ≤ c → c < 1114112 → Second (240 + c / 262144) (next (c / 4096))
second4 c l h = record { low = omega arith; high = omega arith; e0 = λ e. absurd (omega arith); ed = λ e. absurd (omega arith); f0 = λ e. omega arith; f4 = λ e. omega arith }

below : (c : ℕ) → Scalar c → c < 1114112
below c (inl h) = omega arith
below c (inr h) = h.1

pub encode_whole : (c : ℕ) → Scalar c → Whole (encode c)
encode_whole c s = by (order c 128) (order c 2048) (order c 65536)
  where
    by : (c < 128) ⊎ (128 ≤ c) → (c < 2048) ⊎ (2048 ≤ c) → (c < 65536) ⊎ (65536 ≤ c) → Whole (encode c)
    by (inl h) _ _ = subst Whole (sym (utf8.one c h)) (whole (leads1 c (omega arith)) none)
    by (inr l) (inl h) _ =
        let b = 192 + c / 64 in
        let f : Second b (next c) = omega arith in
        subst Whole (sym (utf8.two c l h)) (whole (leads2 b (omega arith) (omega arith)) (one (second_lies b (next c) f) none))
    by (inr _) (inr l) (inl h) =
        let b = 224 + c / 4096 in
        let y = next (c / 64) in
        let f : Second b y = second3 c l h s in
        subst Whole (sym (utf8.three c l h)) (whole (leads3 b (omega arith) (omega arith)) (one (second_lies b y f) (one (next_lies c) none)))
    by (inr _) (inr _) (inr l) =
        let b = 240 + c / 262144 in
        let y = next (c / 4096) in
        let m : c < 1114112 = below c s in
        let f : Second b y = second4 c l m in
        subst Whole (sym (utf8.four c l)) (whole (leads4 b (omega arith) (omega arith)) (one (second_lies b y f) (one (next_lies (c / 64)) (one (next_lies c) none))))

characters : (cs : List ℕ) → scalars cs ≡ true → Chars (encodes cs) (map encode cs)
characters [] e = done
characters (c ∷ cs) e = let p = and_parts (scalar c) (scalars cs) e in before (encode_whole c (scalar_cases c p.0)) (characters cs p.1)
  where
    before : {x s : List ℕ} {ds : List Char} → Whole x → Chars s ds → Chars (x ++ s) (x ∷ ds)
    before (whole l h) k = character l h k

pub text_encodes : (cs : List ℕ) → text (map encode cs) ≡ encodes cs
text_encodes [] = refl
text_encodes (c ∷ cs) = ap (λ t. encode c ++ t) (text_encodes cs)

abbrev mark : List ℕ
mark = 0xEF ∷ 0xBB ∷ 0xBF ∷ []

begins_with_mark : (c s : List ℕ) → is_mark c ≡ true → take 3 (c ++ s) ≡ mark
begins_with_mark [] s e = cc
begins_with_mark (a ∷ []) s e = cc
begins_with_mark (a ∷ b ∷ []) s e = cc
begins_with_mark (a ∷ b ∷ c ∷ []) s e =
    let p = and_parts (eqb a 0xEF) (eqb b 0xBB && eqb c 0xBF) e in
    let q = and_parts (eqb b 0xBB) (eqb c 0xBF) p.1 in
    cc (eqb-true a 0xEF p.0, eqb-true b 0xBB q.0, eqb-true c 0xBF q.1)
begins_with_mark (a ∷ b ∷ c ∷ d ∷ t) s e = cc

pub unmarked_same : (cs : List Char) → (take 3 (text cs) ≡ mark → ⊥) → unmarked cs ≡ cs
unmarked_same [] h = refl
unmarked_same (c ∷ cs) h = cond_both (is_mark c) cs (c ∷ cs) (λ x. x ≡ c ∷ cs) (λ e. absurd (h (begins_with_mark c (text cs) e))) (λ _. refl)

kept : (cs : List ℕ) → scalars cs ≡ true → (take 3 (encodes cs) ≡ mark → ⊥) → decoded (encodes cs) ≡ encodes cs
kept cs e h =
    let t = text_encodes cs in
    ap (λ x. text (unmarked x)) (unique (characters cs e))
    ∙ ap text (unmarked_same (map encode cs) (λ m. h (subst (λ x. take 3 x ≡ mark) t m)))
    ∙ t

pub well_formed_text_is_kept : WellFormedTextIsKept
well_formed_text_is_kept s u h = subst (λ x. (take 3 x ≡ mark → ⊥) → decoded x ≡ x) u.1.1 (kept u.0 u.1.0) h
