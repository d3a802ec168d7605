-- The laws of a ring.
use Rattle.std.proofs.Common.{◌≡◌, ℕ, zero, suc, ◌+◌, ◌-◌, ◌<◌, ◌≤◌, min, ◌≢◌, ◌⊎◌, List, [], ◌∷◌, ◌++◌, length, get_or, take, drop, set, Some, None, sym, refl, ap, ◌∙◌, ⊎_elim, arith}
use Rattle.std.proofs.lemmas.List.{places, same_lists, length-take, length-drop, take_all, length-append, get_or_append_left, get_or-set_same, get_or-set_other, length-set, length_push, get_or_push, get_or_default}
use Rattle.std.proofs.lemmas.Option.{slice_get-get_or, slice_get_past}
use Rattle.std.specs.List.{slice_get}
use Rattle.queue.specs.Ring.{ring, place_of}

pub length_ring : {T : Type 0} (mem : List T) (s len : ℕ) → length (ring mem s len) ≡ min len (length mem)
unfolding ring
length_ring mem s len = simp (length-take, length-append, length-drop) (omega arith)

pub place_lt : (n s i : ℕ) → i < n → place_of n s i < n
unfolding place_of
place_lt n s i hi = grind arith

pub place_apart : (n s i j : ℕ) → i < j → j < n → place_of n s i ≢ place_of n s j
unfolding place_of
place_apart n s i j hi hj = grind arith

pub get_d_ring : {T : Type 0} (mem : List T) (s len k : ℕ) (d : T) → len ≤ length mem → k < len → get_or (ring mem s len) k d ≡ get_or mem (place_of (length mem) s k) d
unfolding ring place_of
get_d_ring mem s len k d hl hk = grind (arith, places)

pub ring_none : {T : Type 0} (mem : List T) (s : ℕ) → ring mem s 0 ≡ []
unfolding ring
ring_none mem s = refl

place_pop : (n s k : ℕ) → suc k < n → place_of n (place_of n s 0 + 1) k ≡ place_of n s (suc k)
unfolding place_of
place_pop n s k hk = grind arith

sides : (a n : ℕ) → (a < n) ⊎ (n ≤ a)
sides a n = grind arith

split : (k n : ℕ) → k < n + 1 → (k < n) ⊎ (k ≡ n)
split k n h = grind arith

pub ring_push : {T : Type 0} (mem : List T) (s len : ℕ) (x : T) → len < length mem → ring (set mem (place_of (length mem) s len) x) s (len + 1) ≡ ring mem s len ++ x ∷ []
ring_push mem s len x hl =
    let p = place_of (length mem) s len in
    let hp : p < length mem = place_lt (length mem) s len hl in
    let n : length (set mem p x) ≡ length mem = length-set mem p x in
    let a : length (ring (set mem p x) s (len + 1)) ≡ min (len + 1) (length (set mem p x)) = length_ring (set mem p x) s (len + 1) in
    let a' : length (ring (set mem p x) s (len + 1)) ≡ len + 1 = omega arith in
    let b : length (ring mem s len) ≡ min len (length mem) = length_ring mem s len in
    let b' : length (ring mem s len) ≡ len = omega arith in
    same_lists _ _ (a' ∙ ap (λ m. m + 1) (sym b') ∙ sym (length_push (ring mem s len) x))
    (λ k d h.
    let hk : k < len + 1 = omega arith in
    let e = get_d_ring (set mem p x) s (len + 1) k d (omega arith) hk in
    ⊎_elim
    (λ (lt : k < len).
    let f = get_d_ring mem s len k d (omega arith) lt in
    let ne : place_of (length mem) s k ≢ p = place_apart (length mem) s k len lt hl in
    let o = get_or-set_other mem p (place_of (length mem) s k) x d ne in
    let q = get_or_append_left (ring mem s len) (x ∷ []) d k (omega arith) in
    cc (e, f, o, q, n))
    (λ (eq : k ≡ len).
    let o = get_or-set_same mem p x d hp in
    let q = get_or_push (ring mem s len) x d k (omega arith) in
    cc (e, o, q, n, eq))
    (split k len (omega arith)))

take_min : {T : Type 0} (n : ℕ) (xs : List T) → take n xs ≡ take (min n (length xs)) xs
take_min n xs =
    ⊎_elim
    (λ (lt : n < length xs). ap (λ m. take m xs) (omega arith))
    (λ (ge : length xs ≤ n). take_all n xs ge ∙ sym (take_all (min n (length xs)) xs (omega arith)))
    (sides n (length xs))

-- more than all is all
pub ring_all : {T : Type 0} (mem : List T) (s len : ℕ) → ring mem s len ≡ ring mem s (min len (length mem))
unfolding ring
ring_all mem s len =
    let n : length (drop s mem ++ take s mem) ≡ length mem = simp (length-take, length-append, length-drop) (omega arith) in
    ap (λ m. take m (drop s mem ++ take s mem)) refl ∙ take_min len (drop s mem ++ take s mem) ∙ ap (λ m. take (min len m) (drop s mem ++ take s mem)) n

pop_at : {T : Type 0} (mem : List T) (s len : ℕ) (d : T) → len ≤ length mem → 0 < len → (k : ℕ) (d' : T) → k < len → get_or (ring mem s len) k d' ≡ get_or (get_or mem (place_of (length mem) s 0) d ∷ ring mem (place_of (length mem) s 0 + 1) (len - 1)) k d'
pop_at mem s len d hl h0 zero d' h =
    get_d_ring mem s len 0 d' hl h0 ∙ get_or_default mem (place_of (length mem) s 0) d' d (place_lt (length mem) s 0 (omega arith))
pop_at mem s len d hl h0 (suc k) d' h =
    get_d_ring mem s len (suc k) d' hl h ∙ ap (λ m. get_or mem m d') (sym (place_pop (length mem) s k (omega arith)))
    ∙ sym (get_d_ring mem (place_of (length mem) s 0 + 1) (len - 1) k d' (omega arith) (omega arith))

ring_pop_in : {T : Type 0} (mem : List T) (s len : ℕ) (d : T) → len ≤ length mem → 0 < len → ring mem s len ≡ get_or mem (place_of (length mem) s 0) d ∷ ring mem (place_of (length mem) s 0 + 1) (len - 1)
ring_pop_in mem s len d hl h0 =
    let p = place_of (length mem) s 0 in
    let a : length (ring mem s len) ≡ min len (length mem) = length_ring mem s len in
    let b : length (ring mem (p + 1) (len - 1)) ≡ min (len - 1) (length mem) = length_ring mem (p + 1) (len - 1) in
    same_lists _ _ (omega arith) (λ k d' h. pop_at mem s len d hl h0 k d' (omega arith))

pub ring_pop : {T : Type 0} (mem : List T) (s len n : ℕ) (d : T) → n ≡ min len (length mem) → 0 < n → ring mem s len ≡ get_or mem (place_of (length mem) s 0) d ∷ ring mem (place_of (length mem) s 0 + 1) (n - 1)
ring_pop mem s len n d e h0 = ring_all mem s len ∙ ap (ring mem s) (sym e) ∙ ring_pop_in mem s n d (omega arith) h0

pub ring_empty : {T : Type 0} (mem : List T) (s len : ℕ) → min len (length mem) ≡ 0 → ring mem s len ≡ []
ring_empty mem s len e = ring_all mem s len ∙ ap (ring mem s) e ∙ ring_none mem s

-- the item at i is what lies at its place; past the last there is none
pub ring_get : {T : Type 0} (mem : List T) (s len n i : ℕ) (x : T) → n ≡ min len (length mem) → i < n → x ≡ get_or mem (place_of (length mem) s i) x → Some x ≡ slice_get (ring mem s len) i
ring_get mem s len n i x e h f =
    let k : i < length (ring mem s n) = omega (arith, length_ring mem s n) in
    ap Some (f ∙ sym (get_d_ring mem s n i x (omega arith) h)) ∙ sym (slice_get-get_or (ring mem s n) i x k) ∙ ap (λ m. slice_get (ring mem s m) i) e ∙ ap (λ l. slice_get l i) (sym (ring_all mem s len))

pub ring_past : {T : Type 0} (mem : List T) (s len i : ℕ) → min len (length mem) ≤ i → None ≡ slice_get (ring mem s len) i
ring_past mem s len i h = sym (slice_get_past (ring mem s len) i (omega (arith, length_ring mem s len)))

-- without its first item, a ring begins one place on
pub ring_rest : {T : Type 0} (mem : List T) (s len n p : ℕ) → n ≡ min len (length mem) → 0 < n → p ≡ place_of (length mem) s 0 → (d : T) → ring mem (p + 1) (n - 1) ≡ drop 1 (ring mem s len)
ring_rest mem s len n p e h q d = ap (λ m. ring mem (m + 1) (n - 1)) q ∙ sym (ap (drop 1) (ring_pop mem s len n d e h))

pub ring_rest_none : {T : Type 0} (mem : List T) (s len : ℕ) → min len (length mem) ≡ 0 → ring mem s len ≡ drop 1 (ring mem s len)
ring_rest_none mem s len e = let q = ring_empty mem s len e in q ∙ sym (ap (drop 1) q)

-- what each call's proof draws on
pub ruleset ring_laws = (length_ring, ring_none, ring_get, ring_past, ring_push, ring_rest, ring_rest_none)
