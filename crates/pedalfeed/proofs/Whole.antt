-- A journal's reader goes on past each whole event, so it comes to an end.
use Rattle.std.proofs.Common.{◌≡◌, ℕ, ◌+◌, ◌*◌, ◌-◌, ◌<◌, List, [], ◌∷◌, length, drop, Ok, Err, Result, ap, ◌∙◌, arith}
use Rattle.std.proofs.lemmas.List.{length-drop}
use Rattle.events.specs.Event.{Event}
use Rattle.events.specs.declared.refusal.Refusal.{Refusal}
use Rattle.journal.specs.Reading.{whole, type_at, type_size, id_at, data_at, with_data, with_type, with_id, read_one, place_after}

by_data : (id type : List ℕ) (before : ℕ) (s : List ℕ) (r : Result ℕ Refusal) (e : Event) (n : ℕ) → with_data id type before s r ≡ whole e n → 0 < n
by_data id type before s (Ok count) e n p = let size : before + 34 * count + 3 ≡ n = cc p in omega arith
by_data id type before s (Err x) e n p = cc p

by_type : (id : List ℕ) (before : ℕ) (s : List ℕ) (r : Result (List ℕ) Refusal) (e : Event) (n : ℕ) → with_type id before s r ≡ whole e n → 0 < n
by_type id before s (Ok type) e n p = by_data id type before s (data_at 16 0 0 s) e n p
by_type id before s (Err x) e n p = cc p

by_id : (default s : List ℕ) (r : Result (List ℕ) Refusal) (e : Event) (n : ℕ) → with_id default s r ≡ whole e n → 0 < n
by_id default s (Ok id) e n p = by_type id (34 + type_size s) (drop (type_size s) s) (type_at default s) e n p
by_id default s (Err x) e n p = cc p

some_bytes : (default s : List ℕ) (e : Event) (n : ℕ) → read_one default s ≡ whole e n → (0 < length s) × (0 < n)
some_bytes default [] e n p = cc p
some_bytes default (b ∷ s) e n p = (omega arith, by_id default (drop 34 (b ∷ s)) (id_at (b ∷ s)) e n p)

pub less_is_left : (default bytes : List ℕ) (place after : ℕ) (e : Event) (n : ℕ) → read_one default (drop place bytes) ≡ whole e n → after ≡ place_after place (read_one default (drop place bytes)) → length bytes - after < length bytes - place
less_is_left default bytes place after e n p q =
    let some = some_bytes default (drop place bytes) e n p in
    let next : after ≡ place + n = q ∙ ap (place_after place) p in
    omega (arith, length-drop place bytes)
