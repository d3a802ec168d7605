-- What moving the codes of a part by one place makes of the row.
use Rattle.std.proofs.Common.{◌≡◌, ℕ, suc, ◌+◌, ◌-◌, ◌<◌, ◌≤◌, List, ◌∷◌, ◌++◌, length, get_or, take, drop, set, sym, ap, ◌∙◌, ap₂, inl, inr, add-one, arith}
use borrow.Rule.Slice.PartMut.{put_mid}
use Rattle.std.specs.List.{insert, remove, between}
use Rattle.std.proofs.lemmas.List.Edits.{length-between, get_or-insert_at, get_or-insert_below, get_or-insert_above, get_or-remove_below, get_or-remove_above}
use Rattle.std.proofs.lemmas.List.{append_assoc, get_or-take, length-append, length-drop, length-set, length-take, length-take-le, set_split, drop_at, drop-drop, take_at, take-take}
use Rattle.std.proofs.lemmas.Bool.{cases_lt, cases_order}
use Rattle.std.proofs.lemmas.Slice.{between_is, take-put_mid}

module _ (xs ys : List ℕ) (n p : ℕ) where
  pub inserts_one : (code : ℕ) → p ≤ n → n < length xs → length ys ≡ length (between p (n + 1) xs) → ys ≡ drop (length (between p (n + 1) xs) - 1) (between p (n + 1) xs) ++ take (length (between p (n + 1) xs) - 1) (between p (n + 1) xs) →
      take (n + 1) (put_mid p (n + 1 - p) xs (set ys 0 code)) ≡ insert (take n xs) p code
  inserts_one code le room same turned =
      let part = between p (n + 1) xs in
      let k = length part - 1 in
      let size : length part ≡ n + 1 - p = length-between xs p (n + 1) (omega arith) in
      let short : k ≡ n - p = omega arith in
      let one : length (drop k part) ≡ 1 = simp length-drop (omega arith) in
      let rest : drop 1 ys ≡ drop p (take n xs) = ap (drop 1) turned ∙ drop_at (drop k part) (take k part) 1 one ∙ take-take k (n + 1 - p) (drop p xs) (omega arith) ∙ ap (λ (m : ℕ). take m (drop p xs)) short ∙ between_is xs p n in
      take-put_mid p (n + 1 - p) xs (set ys 0 code) (n + 1) (omega (arith, length-set ys 0 code)) (omega arith)
      ∙ ap₂ ◌++◌ (sym (take-take p n xs le)) (set_split ys 0 code (omega arith) ∙ ap (λ (t : List ℕ). code ∷ t) rest)

  pub removes_one : p < n → n ≤ length xs → length ys ≡ length (between p n xs) → ys ≡ drop 1 (between p n xs) ++ take 1 (between p n xs) →
      take (n - 1) (put_mid p (n - p) xs ys) ≡ remove (take n xs) p
  removes_one lt fits same turned =
      let part = between p n xs in
      let size : length part ≡ n - p = length-between xs p n fits in
      let front = take p xs ++ drop 1 part in
      let long : length front ≡ n - 1 = length-append (take p xs) (drop 1 part) ∙ omega (arith, length-drop 1 part, length-take-le p xs (omega arith)) in
      let whole : take n (put_mid p (n - p) xs ys) ≡ take p xs ++ ys = take-put_mid p (n - p) xs ys n (omega arith) (omega arith) in
      let rest : drop 1 part ≡ drop (suc p) (take n xs) = ap (drop 1) (between_is xs p n) ∙ drop-drop 1 p (take n xs) ∙ ap (λ (m : ℕ). drop m (take n xs)) (add-one p) in
      sym (take-take (n - 1) n (put_mid p (n - p) xs ys) (omega arith))
      ∙ ap (take (n - 1)) (whole ∙ ap (λ (t : List ℕ). take p xs ++ t) turned ∙ sym (append_assoc (take p xs) (drop 1 part) (take 1 part)))
      ∙ take_at front (take 1 part) (n - 1) long
      ∙ ap₂ ◌++◌ (sym (take-take p n xs (omega arith))) rest

-- codes stay at most 63
module _ (xs ys : List ℕ) (n p : ℕ) (fits : n ≤ length xs) (all : (k : ℕ) → k < n → get_or xs k 0 ≤ 63) where
  in_row : (k : ℕ) → k < n → get_or (take n xs) k 0 ≤ 63
  in_row k h = omega (arith, get_or-take n xs k 0 h, all k h)

  pub lawful_after_insert : (code : ℕ) → code ≤ 63 → p ≤ n → take (n + 1) ys ≡ insert (take n xs) p code → (k : ℕ) → k < n + 1 → get_or ys k 0 ≤ 63
  lawful_after_insert code small le made k h =
      let row = take n xs in
      let long : length row ≡ n = length-take-le n xs fits in
      let read : get_or ys k 0 ≡ get_or (insert row p code) k 0 = sym (get_or-take (n + 1) ys k 0 h) ∙ ap (λ (l : List ℕ). get_or l k 0) made in
      elim (cases_order k p) [
        | inl same ↦ omega (arith, read, ap (λ (m : ℕ). get_or (insert row p code) m 0) same, get_or-insert_at row p code 0 (omega arith))
        | inr rest ↦
            elim rest [
              | inl below ↦ omega (arith, read, get_or-insert_below row p code 0 k below (omega arith), in_row k (omega arith))
              | inr above ↦
                  let next : k ≡ k - 1 + 1 = omega arith in
                  omega (arith, read, ap (λ (m : ℕ). get_or (insert row p code) m 0) next, get_or-insert_above row p code 0 (k - 1) (omega arith) (omega arith), in_row (k - 1) (omega arith))
            ]
      ]

  pub lawful_after_remove : p < n → take (n - 1) ys ≡ remove (take n xs) p → (k : ℕ) → k < n - 1 → get_or ys k 0 ≤ 63
  lawful_after_remove lt made k h =
      let row = take n xs in
      let long : length row ≡ n = length-take-le n xs fits in
      let read : get_or ys k 0 ≡ get_or (remove row p) k 0 = sym (get_or-take (n - 1) ys k 0 h) ∙ ap (λ (l : List ℕ). get_or l k 0) made in
      elim (cases_lt k p) [
        | inl below ↦ omega (arith, read, get_or-remove_below row p 0 k below (omega arith), in_row k (omega arith))
        | inr above ↦ omega (arith, read, get_or-remove_above row p 0 k above (omega arith), in_row (k + 1) (omega arith))
      ]

pub lawful_in_front : (xs : List ℕ) (n m : ℕ) → m ≤ n → ((k : ℕ) → k < n → get_or xs k 0 ≤ 63) → (k : ℕ) → k < length (take m xs) → get_or (take m xs) k 0 ≤ 63
lawful_in_front xs n m le all k h =
    let short : k < m = omega (arith, length-take m xs) in
    omega (arith, get_or-take m xs k 0 short, all k (omega arith))
