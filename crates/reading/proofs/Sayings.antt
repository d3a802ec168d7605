-- What a finished line does to the block that is being read is what the standard says of the lines with it.
use Rattle.std.proofs.Common.{◌≡◌, ℕ, Bool, true, false, cond, ltb, leb, List, [], ◌∷◌, ◌++◌, length, Some, None, Option, refl, ap, ◌∙◌, subst, append-nil}
use Rattle.std.specs.List.{flat_map}
use Rattle.std.proofs.lemmas.Bool.{cond_both, leb-true, leb-false, le-ltb, lt-ltb}
use Rattle.decimal.specs.Decimal.{capped_number}
use Rattle.fields.specs.Cause.{id_too_long, type_too_long, data_too_long}
use Rattle.fields.specs.Field.{Field, comment, other, data_field, event_field, id_field, retry_field}
use Rattle.fields.specs.Block.{Held, Said, quietly, past, time_said, has_nul, says}
use Rattle.reading.specs.Blocks.{Line, data_of, type_of, id_of, times_of, time_of, datas, types, ids, times, last_or, parted, id_after, last_id_after}
use Rattle.reading.specs.Standard.{Before}
use Rattle.reading.specs.Limits.{over_id, over_type}
use Rattle.reading.proofs.Lists.{joined_push, last_append}

-- the data buffer for values
abbrev pub buffer : List (List ℕ) → List ℕ
buffer = flat_map (λ (v : List ℕ). v ++ 0x0A ∷ [])

-- The block by the values that its lines gave, in their order.
abbrev pub holds : List (List ℕ) → List (List ℕ) → List ℕ → List (List ℕ) → List ℕ → ℕ → List ℕ → Held
holds ds ts i is l r rs = record { data_buffer = buffer ds; type_buffer = last_or [] ts; id_buffer = last_or i is; last_id = l; retry = last_or r rs }

abbrev pub held_after : Before → List Line → Held
held_after b ls =
    let p = parted ls in
    holds (datas p.begun) (types p.begun) (id_after [] p.finished) (ids p.begun) (last_id_after b.last_id p.finished) b.retry (times ls)

not_over : (n m : ℕ) → leb n m ≡ true → ltb m n ≡ false
not_over n m e = le-ltb m n (leb-true n m e)

is_over : (n m : ℕ) → leb n m ≡ false → ltb m n ≡ true
is_over n m e = lt-ltb m n (leb-false n m e)

-- What a field does: its values join the others, or it is over a limit.
module _ (ds ts : List (List ℕ)) (i : List ℕ) (is : List (List ℕ)) (l : List ℕ) (r : ℕ) (rs : List ℕ) where
  abbrev h : Held
  h = holds ds ts i is l r rs

  abbrev pub joined_by : Field → Held
  joined_by f = holds (ds ++ data_of f) (ts ++ type_of f) i (is ++ id_of f) l r (rs ++ time_of f)

  pub data Says (f : Field) : Said → Type 0 where
    fine : over_id f ≡ false → over_type f ≡ false → ltb 513 (length (buffer (ds ++ data_of f))) ≡ false → Says f (quietly (joined_by f))
    long_id : over_id f ≡ true → Says f (past h id_too_long)
    long_type : over_id f ≡ false → over_type f ≡ true → Says f (past h type_too_long)
    long_data : over_id f ≡ false → over_type f ≡ false → ltb 513 (length (buffer (ds ++ data_of f))) ≡ true → Says f (past h data_too_long)

  same_data : ltb 513 (length (buffer ds)) ≡ false → ltb 513 (length (buffer (ds ++ []))) ≡ false
  same_data e = ap (λ s. ltb 513 (length (buffer s))) (append-nil ds) ∙ e

  pub says_told : (f : Field) → ltb 513 (length (buffer ds)) ≡ false → Says f (says h f)
  says_told comment e = subst (Says comment) (simp append-nil) (fine refl refl (same_data e))
  says_told other e = subst (Says other) (simp append-nil) (fine refl refl (same_data e))
  says_told (data_field v) e =
      let q : buffer (ds ++ v ∷ []) ≡ buffer ds ++ (v ++ 0x0A ∷ []) = joined_push (λ (w : List ℕ). w ++ 0x0A ∷ []) ds v in
      let n = length (buffer ds ++ (v ++ 0x0A ∷ [])) in
      cond_both (leb n 513) _ _ (Says (data_field v))
      (λ k. subst (Says (data_field v)) (simp (append-nil, q)) (fine refl refl (ap (λ s. ltb 513 (length s)) q ∙ not_over n 513 k)))
      (λ k. long_data refl refl (ap (λ s. ltb 513 (length s)) q ∙ is_over n 513 k))
  says_told (event_field v) e =
      cond_both (leb (length v) 32) _ _ (Says (event_field v))
      (λ k. subst (Says (event_field v)) (simp (append-nil, last_append)) (fine refl (not_over (length v) 32 k) (same_data e)))
      (λ k. long_type refl (is_over (length v) 32 k))
  says_told (id_field v) e =
      cond_both (leb (length v) 32) _ _ (Says (id_field v))
      (λ k. subst (Says (id_field v)) (simp (append-nil, kept)) (fine (not_over (length v) 32 k) refl (same_data e)))
      (λ k. long_id (is_over (length v) 32 k))
    where
      by : (b : Bool) → last_or i (is ++ cond b [] (v ∷ [])) ≡ cond b (last_or i is) v
      by true = ap (last_or i) (append-nil is)
      by false = last_append i is (v ∷ [])

      kept : last_or i (is ++ cond (has_nul v) [] (v ∷ [])) ≡ cond (has_nul v) (last_or i is) v
      kept = by (has_nul v)
  says_told (retry_field v) e = subst (Says (retry_field v)) (simp (append-nil, by (capped_number 3600000 v))) (fine refl refl (same_data e))
    where
      by : (o : Option ℕ) → last_or r (rs ++ times_of o) ≡ time_said (last_or r rs) o
      by None = ap (last_or r) (append-nil rs)
      by (Some t) = last_append r rs (t ∷ [])
