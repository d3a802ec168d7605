-- The chain of effects: up to 8 codes from 0 to 63 in a row, which the events of type `insert` and `remove` edit.
use Rattle.std.specs.Prelude.{◌≡◌, ℕ, ◌+◌, Bool, cond, not, ◌&&◌, List, [], ◌∷◌, length, take, drop, Some, None, codes, Option, ◌==◌, nat_le, nat_lt, refl}
use Prim.Native.String.{String}
use Rattle.std.specs.List.{insert as inserted, remove as removed, prefix_len}
use Rattle.std.specs.Str.{bytes_eq}
use Rattle.events.specs.Event.{Event}
use Rattle.sink.specs.Numeral.{numeral}

-- what an event asks of a chain
pub data Edit : Type 0 where
  insert : (place code : ℕ) → Edit
  remove : (place : ℕ) → Edit
  other : Edit

-- how many bytes stand before the first space
abbrev pub to_space : List ℕ → ℕ
to_space s = prefix_len (λ b. not (b == 32)) s

abbrev pub insert_of : Option ℕ → Option ℕ → Edit
insert_of (Some place) (Some code) = insert place code
insert_of (Some place) None = other
insert_of None code = other

abbrev pub remove_of : Option ℕ → Edit
remove_of (Some place) = remove place
remove_of None = other

-- a number on either side of a space
abbrev pub insertion : List ℕ → Edit
insertion s = insert_of (numeral (take (to_space s) s)) (numeral (drop (to_space s + 1) s))

-- a number alone
abbrev pub removal : List ℕ → Edit
removal s = remove_of (numeral s)

abbrev pub edit_of : Event → Edit
edit_of e = cond (bytes_eq e.type (codes "insert")) (insertion e.«data») (cond (bytes_eq e.type (codes "remove")) (removal e.«data») other)

-- the row has that place or ends there, and the code is one
abbrev pub lawful : List ℕ → ℕ → ℕ → Bool
lawful row place code = nat_le place (length row) && nat_le code 63

abbrev pub edited : List ℕ → Edit → List ℕ
edited row (insert place code) = cond (lawful row place code) (inserted row place code) row
edited row (remove place) = cond (nat_lt place (length row)) (removed row place) row
edited row other = row

-- only a lawful insert into a full row is refused
abbrev pub refused : List ℕ → Edit → ℕ
refused row (insert place code) = cond (lawful row place code && nat_le 8 (length row)) 28 0
refused row (remove place) = 0
refused row other = 0

-- the row that keeping an event leads to
abbrev pub chain_after : List ℕ → Event → List ℕ
chain_after row e = edited row (edit_of e)

-- the number that an event is refused with, or 0
abbrev pub chain_refusal : List ℕ → Event → ℕ
chain_refusal row e = refused row (edit_of e)

abbrev asks : String → String → Event
asks t d = record { id = []; type = codes t; «data» = codes d }

inserts_into_the_empty_row : chain_after [] (asks "insert" "0 17") ≡ 17 ∷ []
inserts_into_the_empty_row = refl

moves_the_later_ones_up : chain_after (4 ∷ 5 ∷ []) (asks "insert" "1 9") ≡ 4 ∷ 9 ∷ 5 ∷ []
moves_the_later_ones_up = refl

takes_one_out : chain_after (4 ∷ 5 ∷ 6 ∷ []) (asks "remove" "1") ≡ 4 ∷ 6 ∷ []
takes_one_out = refl

passes_an_unlawful_code : chain_after [] (asks "insert" "0 64") ≡ []
passes_an_unlawful_code = refl

refuses_the_ninth : chain_refusal (1 ∷ 2 ∷ 3 ∷ 4 ∷ 5 ∷ 6 ∷ 7 ∷ 8 ∷ []) (asks "insert" "8 9") ≡ 28
refuses_the_ninth = refl

passes_an_unlawful_ninth : chain_refusal (1 ∷ 2 ∷ 3 ∷ 4 ∷ 5 ∷ 6 ∷ 7 ∷ 8 ∷ []) (asks "insert" "9 9") ≡ 0
passes_an_unlawful_ninth = refl
