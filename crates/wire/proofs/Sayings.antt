-- What each line of a sender says.
use Rattle.std.proofs.Common.{◌≡◌, ℕ, ◌^◌, ◌<◌, ◌≤◌, min, true, false, cond, not, ◌||◌, eqb, List, [], ◌∷◌, ◌++◌, length, Some, None, codes, decimal, refl, ap, ◌∙◌, arith}
use Rattle.std.proofs.lemmas.Fmt.{decimal_nonempty, digits_decimal, digits_value-decimal}
use Rattle.std.proofs.lemmas.Bool.{and_from, le-leb}
use Rattle.decimal.specs.Decimal.{empty, all_digits, value, capped_number}
use Rattle.numbering.specs.NumeralLaws.{own}
use Rattle.events.specs.Checks.{holds}
use Rattle.fields.specs.Block.{Held, quietly, past, joined, has_nul, time_said, said}
use Rattle.fields.specs.Cause.{id_too_long, type_too_long, data_too_long}

abbrev pub with_id : Held → List ℕ → Held
with_id h i = record { data_buffer = h.data_buffer; type_buffer = h.type_buffer; id_buffer = i; last_id = h.last_id; retry = h.retry }

abbrev pub with_type : Held → List ℕ → Held
with_type h t = record { data_buffer = h.data_buffer; type_buffer = t; id_buffer = h.id_buffer; last_id = h.last_id; retry = h.retry }

abbrev pub with_data : Held → List ℕ → Held
with_data h d = record { data_buffer = d; type_buffer = h.type_buffer; id_buffer = h.id_buffer; last_id = h.last_id; retry = h.retry }

abbrev pub with_retry : Held → ℕ → Held
with_retry h n = record { data_buffer = h.data_buffer; type_buffer = h.type_buffer; id_buffer = h.id_buffer; last_id = h.last_id; retry = n }

nul_holds : (s : List ℕ) → has_nul s ≡ holds 0 s
nul_holds [] = refl
nul_holds (b ∷ s) = ap (λ v. eqb b 0 || v) (nul_holds s)

pub id_said : (h : Held) (i : List ℕ) → length i ≤ 32 → holds 0 i ≡ false → said h (codes "id: " ++ i) ≡ quietly (with_id h i)
id_said h i l n =
    ap (λ v. cond v (quietly (with_id h (cond (has_nul i) h.id_buffer i))) (past h id_too_long)) (le-leb (length i) 32 l)
    ∙ ap (λ v. quietly (with_id h (cond v h.id_buffer i))) (nul_holds i ∙ n)

pub type_said : (h : Held) (t : List ℕ) → length t ≤ 32 → said h (codes "event: " ++ t) ≡ quietly (with_type h t)
type_said h t l = ap (λ v. cond v (quietly (with_type h t)) (past h type_too_long)) (le-leb (length t) 32 l)

pub data_said : (h : Held) (v : List ℕ) → length (joined h.data_buffer v) ≤ 513 → said h (codes "data: " ++ v) ≡ quietly (with_data h (joined h.data_buffer v))
data_said h v l = ap (λ b. cond b (quietly (with_data h (joined h.data_buffer v))) (past h data_too_long)) (le-leb (length (joined h.data_buffer v)) 513 l)

pub comment_said : (h : Held) → said h (codes ":") ≡ quietly h
comment_said h = refl

not_empty : (s : List ℕ) → 0 < length s → not (empty s) ≡ true
not_empty [] h = absurd (omega arith)
not_empty (b ∷ s) h = refl

number_said : (n : ℕ) → n < 2 ^ 64 → capped_number 3600000 (decimal n) ≡ Some (min n 3600000)
number_said n h =
    ap (λ v. cond v (Some (min (value (decimal n)) 3600000)) None) (and_from (not (empty (decimal n))) (all_digits (decimal n)) (not_empty (decimal n) (decimal_nonempty n h)) (digits_decimal own n h))
    ∙ ap (λ v. Some (min v 3600000)) (digits_value-decimal own n h)

pub retry_said : (h : Held) (n : ℕ) → n < 2 ^ 64 → said h (codes "retry: " ++ decimal n) ≡ quietly (with_retry h (min n 3600000))
retry_said h n l = ap (λ o. quietly (with_retry h (time_said h.retry o))) (number_said n l)
