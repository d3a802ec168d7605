-- The pieces of data between LFs: they are text without line ends, and with an LF behind each they are the data with one behind it.
use Rattle.std.proofs.Common.{◌≡◌, ℕ, zero, suc, ◌<◌, Bool, true, false, cond, ◌||◌, eqb, ◌⊎◌, List, [], ◌∷◌, ◌++◌, length, get_or, IsUtf8, sym, refl, ap, ◌∙◌, subst, inl, inr, ⊎_elim, append-nil, arith}
use lib.Utf8.{scalar, scalars, encode, encodes}
use Rattle.std.proofs.lemmas.Bool.{and_parts, or_parts, eqb-true, cases_Bool, cases_eq}
use Rattle.std.proofs.lemmas.Str.{encode_ascii, inside_one, IsUtf8-append, IsUtf8-encode, IsUtf8-nil}
use Rattle.std.specs.List.{flat_map, onto_first}
use Rattle.events.specs.Checks.{holds}
use Rattle.writer.specs.Written.{pieces}
use Rattle.wire.proofs.Chars.{holds_append, holds_parts}

-- where a byte stands
pub holds_at : (b : ℕ) (s : List ℕ) → holds b s ≡ true → (k : ℕ) × (k < length s) × (get_or s k 0 ≡ b)
holds_at b [] h = let z : ◌≡◌ {A = ℕ} 0 1 = cc h in absurd (omega arith)
holds_at b (x ∷ s) h = by (eqb x b) refl h (holds_at b s)
  where
    by : (v : Bool) → eqb x b ≡ v → (v || holds b s) ≡ true → (holds b s ≡ true → (k : ℕ) × (k < length s) × (get_or s k 0 ≡ b)) → (k : ℕ) × (k < length (x ∷ s)) × (get_or (x ∷ s) k 0 ≡ b)
    by true e h ih = (zero, omega arith, eqb-true x b e)
    by false e h ih = let p = ih h in (suc p.0, omega (arith, p.1), p.2)

pub lacks : (b : ℕ) (s : List ℕ) → ((k : ℕ) → k < length s → get_or s k 0 ≡ b → ⊥) → holds b s ≡ false
lacks b s h = ⊎_elim (λ (e : holds b s ≡ true). let p = holds_at b s e in absurd (h p.0 p.1 p.2)) (λ (e : holds b s ≡ false). e) (cases_Bool (holds b s))

-- a character holds no byte below 128 but itself
no_byte : (b c : ℕ) → b < 128 → (c ≡ b → ⊥) → holds b (encode c) ≡ false
no_byte b c h n = lacks b (encode c) (λ k l e. n (inside_one c [] (encode c) k (sym (append-nil (encode c))) l (omega arith) ∙ e))

-- A piece is text without line ends.
pub record Piece (p : List ℕ) : Type 0 where
  pub utf8 : IsUtf8 p
  pub lf : holds 10 p ≡ false
  pub cr : holds 13 p ≡ false

abbrev pub AllPieces : List (List ℕ) → Type 0
AllPieces [] = Unit {0}
AllPieces (p ∷ ps) = Piece p × AllPieces ps

-- some bytes more before the first piece
before_first : (x s p : List ℕ) (ps : List (List ℕ)) → holds 10 x ≡ false → pieces s ≡ p ∷ ps → pieces (x ++ s) ≡ (x ++ p) ∷ ps
before_first [] s p ps h e = e
before_first (b ∷ x) s p ps h e =
    let q = or_parts (eqb b 10) (holds 10 x) h in
    ap (λ v. cond v ([] ∷ pieces (x ++ s)) (onto_first b (pieces (x ++ s)))) q.0 ∙ ap (onto_first b) (before_first x s p ps q.1 e)

pub record Split (s : List ℕ) : Type 0 where
  pub first : List ℕ
  pub rest : List (List ℕ)
  pub pieces : pieces s ≡ first ∷ rest
  pub each : AllPieces (first ∷ rest)

split_chars : (cs : List ℕ) → scalars cs ≡ true → holds 13 (encodes cs) ≡ false → Split (encodes cs)
split_chars [] u h = record { first = []; rest = []; pieces = refl; each = (record { utf8 = IsUtf8-nil; lf = refl; cr = refl }, tt) }
split_chars (c ∷ cs) u h = by (split_chars cs v.1 r.1) (cases_eq c 10)
  where
    v : (scalar c ≡ true) × (scalars cs ≡ true)
    v = and_parts (scalar c) (scalars cs) u

    r : (holds 13 (encode c) ≡ false) × (holds 13 (encodes cs) ≡ false)
    r = holds_parts 13 (encode c) (encodes cs) h

    by : Split (encodes cs) → (c ≡ 10) ⊎ (c ≡ 10 → ⊥) → Split (encode c ++ encodes cs)
    by p (inl e) = record {
      first = [];
      rest = p.first ∷ p.rest;
      pieces = ap (λ x. pieces (x ++ encodes cs)) (ap encode e ∙ encode_ascii 10 (omega arith)) ∙ ap (λ ps. [] ∷ ps) p.pieces;
      each = (record { utf8 = IsUtf8-nil; lf = refl; cr = refl }, p.each);
    }
    by p (inr n) =
        let f = p.each.0 in
        let lf = no_byte 10 c (omega arith) n in
        record {
          first = encode c ++ p.first;
          rest = p.rest;
          pieces = before_first (encode c) (encodes cs) p.first p.rest lf p.pieces;
          each = (record { utf8 = IsUtf8-append (encode c) p.first (IsUtf8-encode c v.0) f.utf8; lf = holds_append 10 (encode c) p.first lf f.lf; cr = holds_append 13 (encode c) p.first r.0 f.cr }, p.each.1);
        }

pub split : (s : List ℕ) → IsUtf8 s → holds 13 s ≡ false → Split s
split s u h = subst (λ x. holds 13 x ≡ false → Split x) u.1.1 (split_chars u.0 u.1.0) h

abbrev pub with_lf : List ℕ → List ℕ
with_lf p = p ++ 0x0A ∷ []

-- One byte more before the first piece, where there is one.
onto_first_lf : (b : ℕ) (ps : List (List ℕ)) (s : List ℕ) → flat_map with_lf ps ≡ with_lf s → flat_map with_lf (onto_first b ps) ≡ b ∷ with_lf s
onto_first_lf b [] [] e = let z : ◌≡◌ {A = ℕ} 0 1 = cc e in absurd (omega arith)
onto_first_lf b [] (x ∷ s) e = let z : ◌≡◌ {A = ℕ} 0 1 = cc e in absurd (omega arith)
onto_first_lf b (p ∷ ps) s e = ap (λ t. b ∷ t) e

pub pieces_lf : (s : List ℕ) → flat_map with_lf (pieces s) ≡ with_lf s
pieces_lf [] = refl
pieces_lf (b ∷ s) = by (eqb b 0x0A) refl (pieces_lf s)
  where
    by : (v : Bool) → eqb b 0x0A ≡ v → flat_map with_lf (pieces s) ≡ with_lf s → flat_map with_lf (cond v ([] ∷ pieces s) (onto_first b (pieces s))) ≡ b ∷ with_lf s
    by true e ih = ap (λ t. 0x0A ∷ t) ih ∙ ap (λ x. x ∷ with_lf s) (sym (eqb-true b 0x0A e))
    by false e ih = onto_first_lf b (pieces s) s ih
