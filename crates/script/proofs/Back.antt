-- What is written between quotes is read back.
use Rattle.std.proofs.Common.{◌≡◌, ℕ, ◌+◌, ◌-◌, ◌*◌, ◌/◌, ◌%◌, ◌<◌, ◌≤◌, ◌&&◌, ◌||◌, eqb, ltb, leb, List, [], ◌∷◌, ◌++◌, drop, Some, sym, refl, ap, ◌∙◌, subst, ap₂, arith}
use Rattle.std.proofs.lemmas.List.{append_assoc}
use Rattle.std.proofs.lemmas.Bool.{cond_both, cond-true, cond-false, and_from, and_right, or_parts, le-leb, lt-leb, ltb-true, ltb-false, eqb-true}
use Rattle.std.specs.Option.{option_map}
use Rattle.std.specs.List.{flat_map, AllByRecursion}
use Rattle.notation.specs.Quoted.{hex_of, escaped}
use Rattle.script.specs.declared.items.Item.TheVariants.{Byte}
use Rattle.script.specs.Items.{hex_value, numbered, item_of}
use Rattle.script.specs.Laws.{WhatIsQuotedIsReadBack}
use Rattle.script.specs.Unquoted.{after, within}
use Rattle.script.proofs.Within.{By, by_first}

digit_back : (d : ℕ) → d < 16 → hex_value (hex_of d) ≡ Some d
digit_back d h =
    cond_both (ltb d 10) (48 + d) (87 + d) (λ x. hex_value x ≡ Some d)
    (λ e.
    let lt : d < 10 = ltb-true d 10 e in
    let same : 48 + d - 48 ≡ d = omega arith in
    cond-true _ _ _ (and_from _ _ (le-leb 48 (48 + d) (omega arith)) (le-leb (48 + d) 57 (omega arith))) ∙ ap Some same)
    (λ e.
    let ge : 10 ≤ d = ltb-false d 10 e in
    let same : 87 + d - 97 + 10 ≡ d = omega arith in
    cond-false _ _ _ (and_right (leb 48 (87 + d)) _ (lt-leb (87 + d) 57 (omega arith)))
    ∙ cond-true _ _ _ (and_from _ _ (le-leb 97 (87 + d) (omega arith)) (le-leb (87 + d) 102 (omega arith)))
    ∙ ap Some same)

digits_back : (b : ℕ) → b < 256 → numbered (hex_value (hex_of (b / 16))) (hex_value (hex_of (b % 16))) ≡ Some (Byte b 4)
digits_back b h =
    let whole : b / 16 * 16 + b % 16 ≡ b = omega arith in
    ap₂ numbered (digit_back (b / 16) (omega arith)) (digit_back (b % 16) (omega arith)) ∙ ap (λ (x : ℕ). Some (Byte x 4)) whole

-- an item that stands for b is read as b
item_read : (b n : ℕ) (s t : List ℕ) → item_of s ≡ Some (Byte b n) → drop n s ≡ t → within 0 s ≡ option_map (after (b ∷ [])) (within 0 t)
item_read b n s t e d =
    let step : By s (Some (Byte b n)) = subst (By s) e (by_first s) in
    step ∙ ap (λ (x : List ℕ). option_map (after (b ∷ [])) (within 0 x)) d

byte_back : (b : ℕ) (t : List ℕ) → b < 256 → within 0 (escaped b ++ t) ≡ option_map (after (b ∷ [])) (within 0 t)
byte_back b t h =
    let P : List ℕ → Type 0 = λ x. within 0 (x ++ t) ≡ option_map (after (b ∷ [])) (within 0 t) in
    cond_both (eqb b 34 || eqb b 92) _ _ P
    (λ e. item_read b 2 (92 ∷ b ∷ t) t (cond-true _ _ _ e) refl)
    (λ ne. cond_both (eqb b 10) _ _ P
    (λ e. item_read b 2 (92 ∷ 110 ∷ t) t (ap (λ (x : ℕ). Some (Byte x 2)) (sym (eqb-true b 10 e))) refl)
    (λ _. cond_both (eqb b 13) _ _ P
    (λ e. item_read b 2 (92 ∷ 114 ∷ t) t (ap (λ (x : ℕ). Some (Byte x 2)) (sym (eqb-true b 13 e))) refl)
    (λ _. cond_both (leb 0x20 b && leb b 0x7e) _ _ P
    (λ e. let p = or_parts (eqb b 34) (eqb b 92) ne in item_read b 1 (b ∷ t) t (cond-false _ _ _ p.0 ∙ cond-false _ _ _ p.1 ∙ cond-true _ _ _ e) refl)
    (λ _. item_read b 4 (92 ∷ 120 ∷ hex_of (b / 16) ∷ hex_of (b % 16) ∷ t) t (digits_back b h) refl))))

bytes_back : (s rest : List ℕ) → AllByRecursion (λ b. b < 256) s → within 0 (flat_map escaped s ++ 34 ∷ rest) ≡ Some (record { bytes = s; rest = rest })
bytes_back [] rest h = refl
bytes_back (b ∷ s) rest h =
    ap (within 0) (append_assoc (escaped b) (flat_map escaped s) (34 ∷ rest)) ∙ byte_back b (flat_map escaped s ++ 34 ∷ rest) h.0
    ∙ ap (option_map (after (b ∷ []))) (bytes_back s rest h.1)

pub what_is_quoted_is_read_back : WhatIsQuotedIsReadBack
what_is_quoted_is_read_back s rest h = ap (within 0) (append_assoc (flat_map escaped s) (34 ∷ []) rest) ∙ bytes_back s rest h
