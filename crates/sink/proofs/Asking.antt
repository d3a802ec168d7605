-- In a row of at most 8, an edit whose numbers are capped at 64 does what the edit itself does.
use Rattle.std.proofs.Common.{◌≡◌, ℕ, ◌≤◌, Bool, true, false, cond, ◌&&◌, ltb, leb, List, length, Some, None, refl, ap, ◌∙◌, ap₂, arith}
use Rattle.std.specs.List.{insert as inserted, remove as removed}
use Rattle.std.proofs.lemmas.Bool.{and_parts, leb-true, ltb-true}
use Rattle.std.proofs.lemmas.Bool.Decides.{nat_tests}
use Rattle.sink.specs.Chain.{Edit, insert, remove, other, lawful, edited, refused}
use Rattle.sink.specs.Capped.{cap64, capped}
use Rattle.sink.proofs.Places.{inserts_one, removes_one, lawful_after_insert, lawful_after_remove, lawful_in_front}
use Rattle.sink.proofs.Reading.{reads_the_pair, no_pair_without_a_space}
use Rattle.std.proofs.lemmas.List.{length-take}
use Rattle.sink.specs.declared.edit.Edit.TheVariants.{Insert, Remove}

-- two choices by one test, whose first ways are equal where it holds
same_choice : {X : Type 0} (v : Bool) (x y z : X) → (v ≡ true → x ≡ y) → cond v x z ≡ cond v y z
same_choice true x y z e = e refl
same_choice false x y z e = refl

module _ (row : List ℕ) (few : length row ≤ 8) where
  lawful_capped : (place code : ℕ) → lawful row (cap64 place) (cap64 code) ≡ lawful row place code
  lawful_capped place code = grind (arith, nat_tests)

  -- a lawful insert's numbers are below the cap
  inserted_capped : (place code : ℕ) → lawful row place code ≡ true → inserted row (cap64 place) (cap64 code) ≡ inserted row place code
  inserted_capped place code h =
      let both = and_parts (leb place (length row)) (leb code 63) h in
      let p : cap64 place ≡ place = omega (arith, leb-true place (length row) both.0) in
      let c : cap64 code ≡ code = omega (arith, leb-true code 63 both.1) in
      ap₂ (inserted row) p c

  insert_capped : (place code : ℕ) →
      (refused row (insert (cap64 place) (cap64 code)) ≡ refused row (insert place code)) × (edited row (insert (cap64 place) (cap64 code)) ≡ edited row (insert place code))
  insert_capped place code =
      let l = lawful_capped place code in
      (ap (λ (b : Bool). cond (b && leb 8 (length row)) 28 0) l, ap (λ (b : Bool). cond b (inserted row (cap64 place) (cap64 code)) row) l ∙ same_choice (lawful row place code) _ _ row (inserted_capped place code))

  remove_capped : (place : ℕ) → edited row (remove (cap64 place)) ≡ edited row (remove place)
  remove_capped place =
      let l : ltb (cap64 place) (length row) ≡ ltb place (length row) = grind (arith, nat_tests) in
      let r : ltb place (length row) ≡ true → removed row (cap64 place) ≡ removed row place = λ h. let p : cap64 place ≡ place = omega (arith, ltb-true place (length row) h) in ap (removed row) p in
      ap (λ (b : Bool). cond b (removed row (cap64 place)) row) l ∙ same_choice (ltb place (length row)) _ _ row r

  pub as_the_insert_read : (e : Edit) (place code : ℕ) → Some (Insert place code) ≡ capped e → (refused row (insert place code) ≡ refused row e) × (edited row (insert place code) ≡ edited row e)
  as_the_insert_read (insert p c) place code q =
      let ep : place ≡ cap64 p = cc in
      let ec : code ≡ cap64 c = cc in
      let same = insert_capped p c in
      (ap₂ (λ (m n : ℕ). refused row (insert m n)) ep ec ∙ same.0, ap₂ (λ (m n : ℕ). edited row (insert m n)) ep ec ∙ same.1)
  as_the_insert_read (remove p) place code q = let z : ◌≡◌ {A = ℕ} 0 1 = cc in absurd (omega arith)
  as_the_insert_read other place code q = let z : ◌≡◌ {A = ℕ} 0 1 = cc in absurd (omega arith)

  pub as_the_remove_read : (e : Edit) (place : ℕ) → Some (Remove place) ≡ capped e → (0 ≡ refused row e) × (edited row (remove place) ≡ edited row e)
  as_the_remove_read (insert p c) place q = let z : ◌≡◌ {A = ℕ} 0 1 = cc in absurd (omega arith)
  as_the_remove_read (remove p) place q =
      let ep : place ≡ cap64 p = cc in
      (refl, ap (λ (m : ℕ). edited row (remove m)) ep ∙ remove_capped p)
  as_the_remove_read other place q = let z : ◌≡◌ {A = ℕ} 0 1 = cc in absurd (omega arith)

  pub as_nothing_read : (e : Edit) → None ≡ capped e → (0 ≡ refused row e) × (row ≡ edited row e)
  as_nothing_read (insert p c) q = let z : ◌≡◌ {A = ℕ} 0 1 = cc in absurd (omega arith)
  as_nothing_read (remove p) q = let z : ◌≡◌ {A = ℕ} 0 1 = cc in absurd (omega arith)
  as_nothing_read other q = (refl, refl)

-- what the proofs of the calls draw on
pub ruleset sink_laws = (as_the_insert_read, as_the_remove_read, as_nothing_read, inserts_one, removes_one, lawful_after_insert, lawful_after_remove, lawful_in_front, reads_the_pair, no_pair_without_a_space, length-take)
