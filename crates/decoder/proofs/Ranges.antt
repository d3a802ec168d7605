-- What the widths of lead bytes and the ranges of following bytes say in numbers, both ways round.
use Rattle.std.proofs.Common.{◌≡◌, ℕ, ◌≤◌, true, eqb, ltb, leb, [], ◌∷◌, ap, arith, rules}
use Rattle.std.proofs.lemmas.Bool.{cond_both, leb-true, leb-false, ltb-false, eqb-true, eqb-false, and_parts}
use Rattle.decoder.specs.Standard.{Range, lies, following, second, lead, led, lead_of, width_of}

-- what kind of byte b is, by its width
pub data View (b : ℕ) : ℕ → Type 0 where
  begins1 : b ≤ 127 → View b 1
  begins2 : 194 ≤ b → b ≤ 223 → View b 2
  begins3 : 224 ≤ b → b ≤ 239 → View b 3
  begins4 : 240 ≤ b → b ≤ 244 → View b 4
  begins0 : View b 0

pub view : (b : ℕ) → View b (width_of b)
view b =
    cond_both (leb b 127) _ _ (View b) (λ e. begins1 (leb-true b 127 e)) (λ p.
    cond_both (ltb b 194) _ _ (View b) (λ e. begins0) (λ q.
    cond_both (leb b 223) _ _ (View b) (λ e. begins2 (ltb-false b 194 q) (leb-true b 223 e)) (λ u.
    cond_both (leb b 239) _ _ (View b) (λ e. begins3 (leb-false b 223 u) (leb-true b 239 e)) (λ v.
    cond_both (leb b 244) _ _ (View b) (λ e. begins4 (leb-false b 239 v) (leb-true b 244 e)) (λ w. begins0)))))

pub in_range : (r : Range) (b : ℕ) → lies r b ≡ true → (r.low ≤ b) × (b ≤ r.high)
in_range r b e = let h = and_parts (leb r.low b) (leb b r.high) e in (leb-true _ _ h.0, leb-true _ _ h.1)

-- what the range of the first following byte says
pub record Second (b y : ℕ) : Type 0 where
  pub low : 128 ≤ y
  pub high : y ≤ 191
  pub e0 : b ≡ 224 → 160 ≤ y
  pub ed : b ≡ 237 → y ≤ 159
  pub f0 : b ≡ 240 → 144 ≤ y
  pub f4 : b ≡ 244 → y ≤ 143

pub second_in : (b y : ℕ) → lies (second b) y ≡ true → Second b y
second_in b y =
    let P : Range → Type 0 = λ r. lies r y ≡ true → Second b y in
    cond_both (eqb b 224) _ _ P (λ q h. let k = in_range _ y h in let z = eqb-true b 224 q in omega arith) (λ q1.
    cond_both (eqb b 237) _ _ P (λ q h. let k = in_range _ y h in let z = eqb-true b 237 q in omega arith) (λ q2.
    cond_both (eqb b 240) _ _ P (λ q h. let k = in_range _ y h in let z = eqb-true b 240 q in omega arith) (λ q3.
    cond_both (eqb b 244) _ _ P (λ q h. let k = in_range _ y h in let z = eqb-true b 244 q in omega arith) (λ q4 h.
    let k = in_range _ y h in
    let n1 = eqb-false b 224 q1 in let n2 = eqb-false b 237 q2 in let n3 = eqb-false b 240 q3 in let n4 = eqb-false b 244 q4 in omega arith))))

-- the lead bytes of each width
pub leads1 : (b : ℕ) → b ≤ 127 → lead_of b ≡ lead []
leads1 b h = let w : width_of b ≡ 1 = search rules in ap (λ n. led n b) w

pub leads2 : (b : ℕ) → 194 ≤ b → b ≤ 223 → lead_of b ≡ lead (second b ∷ [])
leads2 b l h = let w : width_of b ≡ 2 = search rules in ap (λ n. led n b) w

pub leads3 : (b : ℕ) → 224 ≤ b → b ≤ 239 → lead_of b ≡ lead (second b ∷ following ∷ [])
leads3 b l h = let w : width_of b ≡ 3 = search rules in ap (λ n. led n b) w

pub leads4 : (b : ℕ) → 240 ≤ b → b ≤ 244 → lead_of b ≡ lead (second b ∷ following ∷ following ∷ [])
leads4 b l h = let w : width_of b ≡ 4 = search rules in ap (λ n. led n b) w

pub following_lies : (b : ℕ) → 128 ≤ b → b ≤ 191 → lies following b ≡ true
following_lies b l h = search rules

pub second_lies : (b y : ℕ) → Second b y → lies (second b) y ≡ true
second_lies b y h = search rules
