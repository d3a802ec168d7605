-- Lists, one item longer at their end.
use Rattle.std.proofs.Common.{◌≡◌, ℕ, ◌+◌, ◌<◌, Bool, true, false, ◌||◌, List, [], ◌∷◌, ◌++◌, length, get_or, take, sym, refl, ap, ◌∙◌, append_assoc, append-nil}
use Rattle.std.specs.List.{flat_map}
use Rattle.std.proofs.lemmas.List.{take_more}
use Rattle.reading.specs.Blocks.{last_or}
use Rattle.reading.specs.Limits.{any}

pub joined_push : {A B : Type 0} (f : A → List B) (xs : List A) (a : A) → flat_map f (xs ++ a ∷ []) ≡ flat_map f xs ++ f a
joined_push f [] a = append-nil (f a)
joined_push f (b ∷ bs) a = ap (λ t. f b ++ t) (joined_push f bs a) ∙ sym (append_assoc (f b) (flat_map f bs) (f a))

pub joined_next : {A B : Type 0} (f : A → List B) (xs : List A) (i : ℕ) (d : A) → i < length xs → flat_map f (take (i + 1) xs) ≡ flat_map f (take i xs) ++ f (get_or xs i d)
joined_next f xs i d h = ap (flat_map f) (take_more xs i d h) ∙ joined_push f (take i xs) (get_or xs i d)

pub any_append : {A : Type 0} (f : A → Bool) (xs ys : List A) → any f (xs ++ ys) ≡ (any f xs || any f ys)
any_append f [] ys = refl
any_append f (x ∷ xs) ys = by (any_append f xs ys) (f x)
  where
    by : any f (xs ++ ys) ≡ (any f xs || any f ys) → (v : Bool) → (v || any f (xs ++ ys)) ≡ ((v || any f xs) || any f ys)
    by ih true = refl
    by ih false = ih

pub last_append : {A : Type 0} (a : A) (bs cs : List A) → last_or a (bs ++ cs) ≡ last_or (last_or a bs) cs
last_append a [] cs = refl
last_append a (b ∷ bs) cs = last_append b bs cs
