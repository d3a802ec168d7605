-- A list in a ring of memory: it begins at a place `start`, goes on to the end of the memory, and then from its front.
use Rattle.std.specs.Prelude.{◌≡◌, ℕ, ◌+◌, ◌-◌, cond, List, [], ◌∷◌, ◌++◌, take, drop, nat_lt, refl}

-- the items of a ring, as many as `len` says and the memory has
unfoldable pub ring : {T : Type 0} → List T → ℕ → ℕ → List T
ring mem start len = take len (drop start mem ++ take start mem)

-- where the item at i lies, in n places
unfoldable pub place_of : ℕ → ℕ → ℕ → ℕ
place_of n start i = cond (nat_lt i (n - start)) (start + i) (i - (n - start))

example : ring {T = ℕ} (4 ∷ 5 ∷ 6 ∷ 7 ∷ []) 3 2 ≡ 7 ∷ 4 ∷ []
unfolding ring
example = refl

example_place : place_of 4 3 1 ≡ 0
unfolding place_of
example_place = refl
