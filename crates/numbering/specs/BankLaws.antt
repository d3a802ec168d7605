-- The laws of `Bank`.
use Rattle.std.specs.Prelude.{◌≡◌, ℕ, ◌+◌, ◌-◌, ◌^◌, ◌<◌, ◌≤◌, Bool, true, false, cond, List, [], ◌∷◌, ◌++◌, length, take, Some, None, decimal, Option, nat_le, slice_index, refl}
use Rattle.std.proofs.Common.{sym, ap, ap₂, ◌∙◌, ⊎_elim, arith}
use Rattle.std.proofs.lemmas.Fmt.{length-decimal-le}
use Rattle.std.proofs.lemmas.List.{length_push, take_at, get_or_push, take_more, take_all, get_or_append_left}
use Rattle.std.proofs.lemmas.Bool.{and_parts, and_from, leb-true, le-leb, cases_lt}
use Rattle.std.specs.Option.{option_map}
use Rattle.numbering.specs.Banked.{bank_of, letter_of, banked, front, final, letter, number_in, banked_reading}
use Rattle.numbering.specs.Meaning.{Printed, Names}
use Rattle.numbering.specs.Numeral.{numeral}
use Rattle.numbering.specs.NumeralLaws.{numeral_decimal, decimal_numeral, decimal_byte}

pub short : 8 ≤ 32
short = omega arith

printed_push : (xs : List ℕ) (y k : ℕ) → length xs ≤ k → ((i : ℕ) → i < length xs → (33 ≤ slice_index xs i) × (slice_index xs i ≤ 126)) → 33 ≤ y → y ≤ 126 → Printed (k + 1) (xs ++ y ∷ [])
printed_push xs y k most each low high =
    let l = length_push xs y in
    record {
      some = omega arith;
      most = omega arith;
      each = λ i h.
          ⊎_elim
          (λ (lt : i < length xs). let e = get_or_append_left xs (y ∷ []) 0 i lt in let p = each i lt in (omega arith, omega arith))
          (λ (ge : length xs ≤ i). let e = get_or_push xs y 0 i (omega arith) in (omega arith, omega arith))
          (cases_lt i (length xs));
    }

pub printed : (n : ℕ) → 1 ≤ n → n ≤ 4000000 → Printed 8 (banked n)
printed n one last =
    let small : bank_of n < 2 ^ 64 = omega arith in
    printed_push (decimal (bank_of n)) (letter_of n) 7 (length-decimal-le 7 (bank_of n) (omega arith) (omega arith) small)
    (λ i h. let d = decimal_byte (bank_of n) i small h in (omega arith, omega arith))
    (omega arith) (omega arith)

front_push : (xs : List ℕ) (y : ℕ) → front (xs ++ y ∷ []) ≡ xs
front_push xs y = take_at xs (y ∷ []) _ (omega (arith, length_push xs y))

final_push : (xs : List ℕ) (y : ℕ) → final (xs ++ y ∷ []) ≡ y
final_push xs y = get_or_push xs y 0 _ (omega (arith, length_push xs y))

number_again : (n : ℕ) → 1 ≤ n → number_in (letter_of n) (bank_of n) ≡ n
number_again n one = omega arith

pub back : (n : ℕ) → 1 ≤ n → n ≤ 4000000 → banked_reading (banked n) ≡ Some n
back n one last =
    let xs = decimal (bank_of n) in
    let r : numeral 1000000 xs ≡ Some (bank_of n) = numeral_decimal 1000000 (bank_of n) (omega arith) (omega arith) (omega arith) in
    let l : letter (letter_of n) ≡ true = and_from (nat_le 65 (letter_of n)) (nat_le (letter_of n) 68) (le-leb 65 (letter_of n) (omega arith)) (le-leb (letter_of n) 68 (omega arith)) in
    ap₂ (λ (y : ℕ) (f : List ℕ). cond (letter y) (option_map (number_in y) (numeral 1000000 f)) None) (final_push xs (letter_of n)) (front_push xs (letter_of n))
    ∙ ap (λ (b : Bool). cond b (option_map (number_in (letter_of n)) (numeral 1000000 xs)) None) l
    ∙ ap (option_map (number_in (letter_of n))) r
    ∙ ap Some (number_again n one)

-- a text with a last byte is its front and that byte
parts : (t : List ℕ) → 0 < length t → t ≡ front t ++ final t ∷ []
parts t h =
    let k : length t - 1 < length t = omega arith in
    let e : length t - 1 + 1 ≡ length t = omega arith in
    sym (take_all (length t) t (omega arith)) ∙ ap (λ m. take m t) (sym e) ∙ take_more t (length t - 1) 0 k

some_final : (t : List ℕ) → letter (final t) ≡ true → 0 < length t
some_final [] h = let z : ◌≡◌ {A = Bool} false true = h in absurd (omega (arith, leb-true 65 0 (and_parts (nat_le 65 0) (nat_le 0 68) h).0))
some_final (b ∷ s) h = omega arith

from_parts : (t : List ℕ) (bank n : ℕ) → letter (final t) ≡ true → numeral 1000000 (front t) ≡ Some bank → number_in (final t) bank ≡ n → Names 4000000 banked t n
from_parts t bank n l r e =
    let w = decimal_numeral 1000000 (front t) bank (omega arith) r in
    let p = and_parts (nat_le 65 (final t)) (nat_le (final t) 68) l in
    let low = leb-true 65 (final t) p.0 in
    let high = leb-true (final t) 68 p.1 in
    let one : 1 ≤ bank = w.one in
    let last : bank ≤ 1000000 = w.last in
    let same-bank : bank ≡ bank_of n = omega arith in
    let same-letter : final t ≡ letter_of n = omega arith in
    record {
      first = omega arith;
      last = omega arith;
      its = parts t (some_final t l) ∙ ap₂ (λ (f : List ℕ) (y : ℕ). f ++ y ∷ []) (w.its ∙ ap decimal same-bank) same-letter;
    }

pub only : (t : List ℕ) (n : ℕ) → banked_reading t ≡ Some n → Names 4000000 banked t n
only t n = by (letter (final t)) refl (numeral 1000000 (front t)) refl
  where
    by : (b : Bool) → letter (final t) ≡ b → (o : Option ℕ) → numeral 1000000 (front t) ≡ o → cond b (option_map (number_in (final t)) o) None ≡ Some n → Names 4000000 banked t n
    by true l (Some bank) r e = from_parts t bank n l r (cc e)
    by true l None r e = let z : ◌≡◌ {A = ℕ} 0 1 = cc e in absurd (omega arith)
    by false l o r e = let z : ◌≡◌ {A = ℕ} 0 1 = cc e in absurd (omega arith)
