-- One turn of the loops over a ring.
use Rattle.std.proofs.Common.{◌≡◌, ℕ, ◌+◌, ◌-◌, ◌<◌, true, cond, ltb, List, [], ◌∷◌, ◌++◌, length, get_or, take, drop, set, is_ok, Some, None, Result, sym, refl, ap, ◌∙◌, arith}
use Rattle.std.proofs.lemmas.List.{take_more, drop_more, length-append, length-take-le, append_assoc, drop-drop, length-drop, set-append_right}
use Rattle.std.proofs.lemmas.Bool.{lt-ltb}
use Rattle.std.specs.List.{slice_get}

-- with room for it, one item more stands behind those before it
pub append_more : {T E : Type 0} (r : Result (Unit {0}) E) (was next start xs : List T) (i cap : ℕ) (x : T) →
    is_ok r ≡ ltb (length was) cap → next ≡ cond (is_ok r) (was ++ x ∷ []) was → was ≡ start ++ take i xs → x ≡ get_or xs i x → i < length xs → i < cap - length start → next ≡ start ++ take (i + 1) xs
append_more r was next start xs i cap x t n w e hi hc =
    let k : length (take i xs) ≡ i = length-take-le i xs (omega arith) in
    let l : length was ≡ length start + length (take i xs) = ap length w ∙ length-append start (take i xs) in
    let ok : is_ok r ≡ true = t ∙ lt-ltb (length was) cap (omega arith) in
    n ∙ ap (λ b. cond b (was ++ x ∷ []) was) ok ∙ ap (λ s. s ++ x ∷ []) w ∙ append_assoc start (take i xs) (x ∷ [])
    ∙ ap (λ s. start ++ s) (ap (λ y. take i xs ++ y ∷ []) e ∙ sym (take_more xs i x hi))

-- the first of what is left of a list
pub first_left : {T : Type 0} (all was : List T) (i : ℕ) (x : T) → i < length all → was ≡ drop i all → Some x ≡ slice_get was 0 → x ≡ get_or all i x
first_left all was i x h w e = let f = ap (λ l. slice_get l 0) (w ∙ drop_more all i x h) in cc (e, f)

-- one item more stands in front of what was there
pub taken_more : {T : Type 0} (all o out : List T) (i : ℕ) (x : T) → i < length all → i < length o → x ≡ get_or all i x → out ≡ take i all ++ drop i o → set out i x ≡ take (i + 1) all ++ drop (i + 1) o
taken_more all o out i x h k e f =
    let n : length (take i all) ≡ i = length-take-le i all (omega arith) in
    ap (λ l. set l i x) f
    ∙ set-append_right (take i all) (drop i o) i i x n (omega arith)
    ∙ ap (λ m. take i all ++ set (drop i o) m x) (let z : i - i ≡ 0 = omega arith in z)
    ∙ ap (λ l. take i all ++ set l 0 x) (drop_more o i x k)
    ∙ sym (append_assoc (take i all) (x ∷ []) (drop (i + 1) o))
    ∙ ap (λ l. l ++ drop (i + 1) o) (ap (λ y. take i all ++ y ∷ []) e ∙ sym (take_more all i x h))

pub left_more : {T : Type 0} (all was next : List T) (i : ℕ) → was ≡ drop i all → next ≡ drop 1 was → next ≡ drop (i + 1) all
left_more all was next i w n = n ∙ ap (drop 1) w ∙ drop-drop 1 i all

-- where items are left, there is a first
empty_from_none : {T : Type 0} (xs : List T) → None ≡ slice_get xs 0 → length xs ≡ 0
empty_from_none [] e = refl
empty_from_none (x ∷ xs) e = let z : ◌≡◌ {A = ℕ} 0 1 = cc e in absurd (omega arith)

pub never_none : {T : Type 0} (all was : List T) (i : ℕ) → i < length all → was ≡ drop i all → None ≡ slice_get was 0 → ⊥
never_none all was i h w e = omega (arith, empty_from_none was e, ap length w ∙ length-drop i all)
