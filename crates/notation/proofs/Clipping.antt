-- Writing in pieces, each clipped to the memory, is writing their whole.
use Rattle.std.proofs.Common.{◌≡◌, ℕ, ◌+◌, ◌-◌, ◌<◌, ◌≤◌, Bool, true, false, cond, eqb, leb, List, [], ◌∷◌, ◌++◌, length, get_or, take, is_ok, Result, sym, refl, ap, ◌∙◌, inl, inr, arith}
use lib.Seq.{take-append-le, take-append-add}
use Rattle.std.specs.List.{flat_map}
use Rattle.std.proofs.lemmas.List.{append_assoc, append-nil, length-append, length-take, flat_map_more, take_all, take_at, take_more}
use Rattle.std.proofs.lemmas.Bool.{cases_lt}
use Rattle.notation.specs.Transcript.{clipped}

pub clip_nothing : (t : List ℕ) → clipped t [] ≡ t
clip_nothing t = ap (λ (x : List ℕ). t ++ x) (take_all (262145 - length t) [] (omega arith)) ∙ append-nil t

pub clip_one : (t : List ℕ) (b : ℕ) → length t < 262145 → t ++ b ∷ [] ≡ clipped t (b ∷ [])
clip_one t b h = ap (λ (x : List ℕ). t ++ x) (sym (take_all (262145 - length t) (b ∷ []) (omega arith)))

take_append : (n : ℕ) (a b : List ℕ) → take n (a ++ b) ≡ take n a ++ take (n - length a) b
take_append n a b =
    elim (cases_lt n (length a)) [
      | inl h ↦ let none : n - length a ≡ 0 = omega arith in take-append-le n a b (omega arith) ∙ sym (ap (λ (k : ℕ). take n a ++ take k b) none ∙ append-nil (take n a))
      | inr h ↦
          let more : n ≡ length a + (n - length a) = omega arith in
          ap (λ (k : ℕ). take k (a ++ b)) more ∙ take-append-add a b (n - length a) ∙ ap (λ (x : List ℕ). x ++ take (n - length a) b) (sym (take_all n a h))
    ]

pub clip_more : (t a b : List ℕ) → clipped (clipped t a) b ≡ clipped t (a ++ b)
clip_more t a b =
    let r = 262145 - length t in
    let left : 262145 - length (t ++ take r a) ≡ r - length a = omega (arith, length-append t (take r a), length-take r a) in
    append_assoc t (take r a) (take (262145 - length (t ++ take r a)) b) ∙ ap (λ (x : List ℕ). t ++ x) (ap (λ (k : ℕ). take r a ++ take k b) left ∙ sym (take_append r a b))

-- a loop that writes each byte by `f`
pub clip_each : (f : ℕ → List ℕ) (t u v s : List ℕ) (i : ℕ) → u ≡ clipped t (flat_map f (take i s)) → i < length s → v ≡ clipped u (f (get_or s i 0)) → v ≡ clipped t (flat_map f (take (i + 1) s))
clip_each f t u v s i so_far h p =
    p ∙ ap (λ (x : List ℕ). clipped x (f (get_or s i 0))) so_far ∙ clip_more t (flat_map f (take i s)) (f (get_or s i 0))
    ∙ ap (clipped t) (flat_map_more f [] (take i s) (get_or s i 0) ∙ ap (flat_map f) (sym (take_more s i 0 h)))

-- bytes as they stand
pub joined_single : (s : List ℕ) → flat_map (λ b. b ∷ []) s ≡ s
joined_single [] = refl
joined_single (b ∷ s) = ap (λ (x : List ℕ). b ∷ x) (joined_single s)

-- what the proofs of the writing calls draw on
pub ruleset clipping_laws = (clip_nothing, clip_one, clip_more, length-append, length-take, take_more, take_all, flat_map_more, joined_single)
