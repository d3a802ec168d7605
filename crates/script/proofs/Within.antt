-- Reading within quotes, item by item.
use Rattle.std.proofs.Common.{◌≡◌, ℕ, zero, suc, ◌-◌, ◌≤◌, ◌&&◌, ◌||◌, eqb, leb, List, [], ◌∷◌, ◌++◌, length, take, drop, Some, None, Option, sym, refl, ap, ◌∙◌, subst, ap₂, arith}
use Rattle.std.proofs.lemmas.List.{take_rest, append_assoc, append-nil}
use Rattle.std.proofs.lemmas.Bool.{cond_both}
use Rattle.std.specs.Option.{option_map}
use Rattle.script.specs.declared.items.Item.{Item}
use Rattle.script.specs.declared.items.Item.TheVariants.{Byte, Close}
use Rattle.script.specs.Items.{hex_value, numbered, hex_item, marked_item, item_of}
use Rattle.script.specs.Unquoted.{Reading, after, within}

-- an item lies within n bytes
abbrev pub Lies : ℕ → Option Item → Type 0
Lies n (Some (Byte b k)) = (1 ≤ k) × (k ≤ n)
Lies n (Some Close) = 1 ≤ n
Lies n None = Unit {0}

numbered_lies : (n : ℕ) (a b : Option ℕ) → 4 ≤ n → Lies n (numbered a b)
numbered_lies n (Some a) (Some b) h = (omega arith, h)
numbered_lies n (Some a) None h = tt
numbered_lies n None b h = tt

hex_lies : (s : List ℕ) → Lies (suc (suc (length s))) (hex_item s)
hex_lies [] = tt
hex_lies (a ∷ []) = tt
hex_lies (a ∷ b ∷ s) = numbered_lies (suc (suc (length (a ∷ b ∷ s)))) (hex_value a) (hex_value b) (omega arith)

marked_lies : (s : List ℕ) → Lies (suc (length s)) (marked_item s)
marked_lies [] = tt
marked_lies (b ∷ s) =
    let P : Option Item → Type 0 = Lies (suc (length (b ∷ s))) in
    cond_both (eqb b 34 || eqb b 92) _ _ P (λ _. (omega arith, omega arith))
    (λ _. cond_both (eqb b 110) _ _ P (λ _. (omega arith, omega arith))
    (λ _. cond_both (eqb b 114) _ _ P (λ _. (omega arith, omega arith))
    (λ _. cond_both (eqb b 120) _ _ P (λ _. hex_lies s) (λ _. tt))))

pub item_lies : (s : List ℕ) → Lies (length s) (item_of s)
item_lies [] = tt
item_lies (b ∷ s) =
    let P : Option Item → Type 0 = Lies (length (b ∷ s)) in
    cond_both (eqb b 34) _ _ P (λ _. omega arith)
    (λ _. cond_both (eqb b 92) _ _ P (λ _. marked_lies s)
    (λ _. cond_both (leb 0x20 b && leb b 0x7e) _ _ P (λ _. (omega arith, omega arith)) (λ _. tt)))

within_drop : (k : ℕ) (s : List ℕ) → within k s ≡ within 0 (drop k s)
within_drop zero s = refl
within_drop (suc k) [] = refl
within_drop (suc k) (b ∷ s) = within_drop k s

abbrev go_on : List ℕ → Option Item → Option Reading
go_on s i =
    elim i [
      | Some (Byte x length) ↦ option_map (after (x ∷ [])) (within (length - 1) s)
      | Some Close ↦ Some (record { bytes = []; rest = s })
      | None ↦ None
    ]

-- what is within quotes, by its first item
abbrev pub By : List ℕ → Option Item → Type 0
By s (Some (Byte b n)) = within 0 s ≡ option_map (after (b ∷ [])) (within 0 (drop n s))
By s (Some Close) = within 0 s ≡ Some (record { bytes = []; rest = drop 1 s })
By s None = within 0 s ≡ None

by_item : (b : ℕ) (s : List ℕ) (i : Option Item) → item_of (b ∷ s) ≡ i → Lies (length (b ∷ s)) i → By (b ∷ s) i
by_item b s (Some (Byte x zero)) e h = absurd (omega arith)
by_item b s (Some (Byte x (suc n))) e h =
    let one : suc n - 1 ≡ n = omega arith in
    ap (go_on s) e ∙ ap (option_map (after (x ∷ []))) (ap (λ (k : ℕ). within k s) one ∙ within_drop n s)
by_item b s (Some Close) e h = ap (go_on s) e
by_item b s None e h = ap (go_on s) e

pub by_first : (s : List ℕ) → By s (item_of s)
by_first [] = refl
by_first (b ∷ s) = by_item b s (item_of (b ∷ s)) refl (item_lies (b ∷ s))

after_more : (bs cs : List ℕ) (o : Option Reading) → option_map (after bs) (option_map (after cs) o) ≡ option_map (after (bs ++ cs)) o
after_more bs cs (Some r) = ap (λ (x : List ℕ). Some (record { bytes = x; rest = r.rest })) (sym (append_assoc bs cs r.bytes))
after_more bs cs None = refl

-- a loop that has read the bytes bs, and goes on with s
module _ (o : Option Reading) (bs s : List ℕ) (so_far : o ≡ option_map (after bs) (within 0 s)) where
  pub read_more : (b n : ℕ) (bs' : List ℕ) → Some (Byte b n) ≡ item_of s → bs' ≡ bs ++ b ∷ [] → o ≡ option_map (after bs') (within 0 (take (length s - n) (drop n s)))
  read_more b n bs' e p =
      let step : By s (Some (Byte b n)) = subst (By s) (sym e) (by_first s) in
      so_far ∙ ap (option_map (after bs)) step ∙ after_more bs (b ∷ []) (within 0 (drop n s)) ∙ ap (λ (x : List ℕ). option_map (after x) (within 0 (drop n s))) (sym p)
      ∙ ap (λ (x : List ℕ). option_map (after bs') (within 0 x)) (sym (take_rest s n))

  pub read_all : Some Close ≡ item_of s → Some (record { bytes = bs; rest = take (length s - 1) (drop 1 s) }) ≡ o
  read_all e =
      let step : By s (Some Close) = subst (By s) (sym e) (by_first s) in
      sym (so_far ∙ ap (option_map (after bs)) step ∙ ap₂ (λ (x y : List ℕ). Some (record { bytes = x; rest = y })) (append-nil bs) (sym (take_rest s 1)))

pub byte_lies : (s : List ℕ) (b n : ℕ) → Some (Byte b n) ≡ item_of s → (1 ≤ n) × (n ≤ length s)
byte_lies s b n e = subst (Lies (length s)) (sym e) (item_lies s)
