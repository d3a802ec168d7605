-- The function and the relation say the same.
use Rattle.std.proofs.Common.{◌≡◌, ℕ, zero, suc, Bool, true, false, cond, List, [], ◌∷◌, ◌++◌, length, take, drop, refl, ap, ◌∙◌, subst}
use Rattle.std.proofs.Math.Seq.{take-append_seam, drop-append_seam}
use Rattle.decoder.specs.Standard.{Range, lies, Lead, lead, stray, lead_of, Char, replacement, Found, further, look, look_from, chars_after}
use Rattle.decoder.specs.Standard as std
use Rattle.decoder.specs.Relation.{Fits, none, one, Partly, stops, goes, Chars, done, character, alone, broken, unfinished}
use Rattle.decoder.specs.Laws.{SameRule}

-- what `look` finds
data Looked : List Range → List ℕ → Found → Type 0 where
  all : {rs : List Range} {fs : List ℕ} (s : List ℕ) → Fits rs fs → Looked rs (fs ++ s) (std.whole (length fs))
  not : {rs : List Range} {r : Range} {fs : List ℕ} (c : ℕ) (s : List ℕ) → Partly rs fs r → lies r c ≡ false → Looked rs (fs ++ c ∷ s) (std.broken (length fs))
  end : {rs : List Range} {r : Range} {fs : List ℕ} → Partly rs fs r → Looked rs fs std.short

longer : {rs : List Range} {s : List ℕ} {f : Found} (r : Range) (b : ℕ) → lies r b ≡ true → Looked rs s f → Looked (r ∷ rs) (b ∷ s) (further f)
longer r b e (all s h) = all s (one e h)
longer r b e (not c s h n) = not c s (goes e h) n
longer r b e (end h) = end (goes e h)

looked : (rs : List Range) (s : List ℕ) → Looked rs s (look rs s)
looked [] s = all s none
looked (r ∷ rs) [] = end stops
looked (r ∷ rs) (b ∷ s) = by (looked rs s) (lies r b) refl
  where
    by : Looked rs s (look rs s) → (v : Bool) → lies r b ≡ v → Looked (r ∷ rs) (b ∷ s) (cond v (further (look rs s)) (std.broken 0))
    by ih true e = longer r b e ih
    by ih false e = not b s stops e

abbrev shown : ℕ → List ℕ → Found → List Char
shown b s f = elim f [ std.whole n ↦ (b ∷ take n s) ∷ chars_after n s | std.broken n ↦ replacement ∷ chars_after n s | std.short ↦ [] ]

-- the first character, and the rest, as its induction gives it
first : (b : ℕ) {rs : List Range} {s : List ℕ} {f : Found} → lead_of b ≡ lead rs → Looked rs s f → ((k : ℕ) → Chars (drop k s) (chars_after k s)) → Chars (b ∷ s) (shown b s f)
first b l (all {fs = fs} s h) ih = rw (take-append_seam fs s) (character l h (subst (λ t. Chars t (chars_after (length fs) (fs ++ s))) (drop-append_seam fs s) (ih (length fs))))
first b l (not {fs = fs} c s h n) ih = broken l h n (subst (λ t. Chars t (chars_after (length fs) (fs ++ c ∷ s))) (drop-append_seam fs (c ∷ s)) (ih (length fs)))
first b l (end h) ih = unfinished l h

pub related : (s : List ℕ) (skip : ℕ) → Chars (drop skip s) (chars_after skip s)
related [] zero = done
related [] (suc k) = done
related (b ∷ s) (suc k) = related s k
related (b ∷ s) zero = by (related s) (lead_of b) refl
  where
    by : ((k : ℕ) → Chars (drop k s) (chars_after k s)) → (l : Lead) → lead_of b ≡ l → Chars (b ∷ s) (shown b s (look_from l s))
    by ih (lead rs) q = first b q (looked rs s) ih
    by ih stray q = alone q (ih 0)

-- and no other characters fit
fits : {rs : List Range} {fs : List ℕ} → Fits rs fs → (s : List ℕ) → look rs (fs ++ s) ≡ std.whole (length fs)
fits none s = refl
fits (one e h) s = rw e (ap further (fits h s))

breaks : {rs : List Range} {fs : List ℕ} {r : Range} → Partly rs fs r → (c : ℕ) (s : List ℕ) → lies r c ≡ false → look rs (fs ++ c ∷ s) ≡ std.broken (length fs)
breaks stops c s n = rw n
breaks (goes e h) c s n = rw e (ap further (breaks h c s n))

lacks : {rs : List Range} {fs : List ℕ} {r : Range} → Partly rs fs r → look rs fs ≡ std.short
lacks stops = refl
lacks (goes e h) = rw e (ap further (lacks h))

passes : (fs s : List ℕ) → chars_after (length fs) (fs ++ s) ≡ chars_after 0 s
passes [] s = refl
passes (f ∷ fs) s = passes fs s

found : (b : ℕ) (s : List ℕ) {rs : List Range} {f : Found} → lead_of b ≡ lead rs → look rs s ≡ f → chars_after 0 (b ∷ s) ≡ shown b s f
found b s l q = ap (λ x. shown b s (look_from x s)) l ∙ ap (shown b s) q

pub unique : {s : List ℕ} {cs : List Char} → Chars s cs → chars_after 0 s ≡ cs
unique done = refl
unique (character {b = b} {fs = fs} {s = s} l h k) = found b (fs ++ s) l (fits h s) ∙ simp (take-append_seam, passes, unique k)
unique (alone {b = b} {s = s} l k) = ap (λ x. shown b s (look_from x s)) l ∙ ap (λ t. replacement ∷ t) (unique k)
unique (broken {b = b} {c = c} {fs = fs} {s = s} l h n k) = found b (fs ++ c ∷ s) l (breaks h c s n) ∙ ap (λ t. replacement ∷ t) (passes fs (c ∷ s) ∙ unique k)
unique (unfinished {b = b} {fs = fs} l h) = found b fs l (lacks h)

pub same_rule : SameRule
same_rule s cs = (unique, λ q. subst (Chars s) q (related s 0))
