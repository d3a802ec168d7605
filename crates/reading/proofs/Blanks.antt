-- Blocks, one line longer: a line that joins the block being read, and the blank line that ends it.
use Rattle.std.proofs.Common.{◌≡◌, ℕ, ◌-◌, List, [], ◌∷◌, ◌++◌, length, take, sym, refl, ap, ◌∙◌, append_assoc, append-nil, arith, length-append}
use Rattle.std.proofs.lemmas.List.{take_at}
use Rattle.events.specs.Event.{Event}
use Rattle.fields.specs.Field.{Field, field_of}
use Rattle.fields.specs.Block.{Held, Outcome, nothing, event, typed, block_event, moved, blank_outcome}
use Rattle.reading.specs.Blocks.{Line, data_of, type_of, id_of, time_of, datas, types, ids, times, last_or, between, Blocks, parted_after, parted, event_with, events_from, id_after, last_id_after}
use Rattle.reading.specs.Standard.{Before, events_of}
use Rattle.reading.proofs.Lists.{joined_push}
use Rattle.reading.proofs.Sayings.{buffer, holds, held_after, joined_by}

parted_blank_after : (k ls : List Line) → parted_after k (ls ++ [] ∷ []) ≡ record { finished = (parted_after k ls).finished ++ (parted_after k ls).begun ∷ []; begun = [] }
parted_blank_after k [] = refl
parted_blank_after k ([] ∷ ls) = ap (λ (p : Blocks). record { finished = k ∷ p.finished; begun = p.begun }) (parted_blank_after [] ls)
parted_blank_after k ((b ∷ l) ∷ ls) = parted_blank_after (k ++ (b ∷ l) ∷ []) ls

parted_line_after : (k ls : List Line) (b : ℕ) (l : Line) → parted_after k (ls ++ (b ∷ l) ∷ []) ≡ record { finished = (parted_after k ls).finished; begun = (parted_after k ls).begun ++ (b ∷ l) ∷ [] }
parted_line_after k [] b l = refl
parted_line_after k ([] ∷ ls) b l = ap (λ (p : Blocks). record { finished = k ∷ p.finished; begun = p.begun }) (parted_line_after [] ls b l)
parted_line_after k ((c ∷ m) ∷ ls) b l = parted_line_after (k ++ (c ∷ m) ∷ []) ls b l

pub parted_blank : (ls : List Line) → parted (ls ++ [] ∷ []) ≡ record { finished = (parted ls).finished ++ (parted ls).begun ∷ []; begun = [] }
parted_blank = parted_blank_after []

pub parted_line : (ls : List Line) (b : ℕ) (l : Line) → parted (ls ++ (b ∷ l) ∷ []) ≡ record { finished = (parted ls).finished; begun = (parted ls).begun ++ (b ∷ l) ∷ [] }
parted_line = parted_line_after []

-- a line that joins the block
pub held_line : (w : Before) (ls : List Line) (b : ℕ) (l : Line) → held_after w (ls ++ (b ∷ l) ∷ []) ≡ (let p = parted ls in joined_by (datas p.begun) (types p.begun) (id_after [] p.finished) (ids p.begun) (last_id_after w.last_id p.finished) w.retry (times ls) (field_of (b ∷ l)))
held_line w ls b l =
    let n = ls ++ (b ∷ l) ∷ [] in
    let p = parted ls in
    let f : Line → Field = field_of in
    let at : Blocks → List ℕ → Held = λ q rs. record { data_buffer = buffer (datas q.begun); type_buffer = last_or [] (types q.begun); id_buffer = last_or (id_after [] q.finished) (ids q.begun); last_id = last_id_after w.last_id q.finished; retry = last_or w.retry rs } in
    ap (λ (q : Blocks). at q (times n)) (parted_line ls b l)
    ∙ simp (joined_push (λ (x : Line). data_of (field_of x)) p.begun (b ∷ l), joined_push (λ (x : Line). type_of (field_of x)) p.begun (b ∷ l), joined_push (λ (x : Line). id_of (field_of x)) p.begun (b ∷ l), joined_push (λ (x : Line). time_of (field_of x)) ls (b ∷ l))

pub events_line : (ls : List Line) (b : ℕ) (l : Line) → events_of (ls ++ (b ∷ l) ∷ []) ≡ events_of ls
events_line ls b l = ap (λ (p : Blocks). events_from [] p.finished) (parted_line ls b l)

-- the blank line
id_push : (i : List ℕ) (bs : List (List Line)) (b : List Line) → id_after i (bs ++ b ∷ []) ≡ last_or (id_after i bs) (ids b)
id_push i [] b = refl
id_push i (c ∷ bs) b = id_push (last_or i (ids c)) bs b

last_push : (old : List ℕ) (bs : List (List Line)) (b : List Line) → last_id_after old (bs ++ b ∷ []) ≡ last_or (id_after [] bs) (ids b)
last_push old [] b = refl
last_push old (c ∷ bs) b = id_push [] (c ∷ bs) b

events_push : (i : List ℕ) (bs : List (List Line)) (b : List Line) → events_from i (bs ++ b ∷ []) ≡ events_from i bs ++ event_with (last_or (id_after i bs) (ids b)) (types b) (datas b)
events_push i [] b = append-nil (event_with (last_or i (ids b)) (types b) (datas b))
events_push i (c ∷ bs) b =
    let e = event_with (last_or i (ids c)) (types c) (datas c) in
    ap (λ t. e ++ t) (events_push (last_or i (ids c)) bs b) ∙ sym (append_assoc e _ _)

pub held_blank : (w : Before) (ls : List Line) → held_after w (ls ++ [] ∷ []) ≡ moved (held_after w ls)
held_blank w ls =
    let p = parted ls in
    let at : Blocks → List ℕ → Held = λ q rs. record { data_buffer = buffer (datas q.begun); type_buffer = last_or [] (types q.begun); id_buffer = last_or (id_after [] q.finished) (ids q.begun); last_id = last_id_after w.last_id q.finished; retry = last_or w.retry rs } in
    ap (λ (q : Blocks). at q (times (ls ++ [] ∷ []))) (parted_blank ls)
    ∙ simp (id_push [] p.finished p.begun, last_push w.last_id p.finished p.begun, joined_push (λ (x : Line). time_of (field_of x)) ls [], append-nil)

pub events_blank : (ls : List Line) → (let p = parted ls in events_of (ls ++ [] ∷ []) ≡ events_of ls ++ event_with (last_or (id_after [] p.finished) (ids p.begun)) (types p.begun) (datas p.begun))
events_blank ls = ap (λ (p : Blocks). events_from [] p.finished) (parted_blank ls) ∙ events_push [] (parted ls).finished (parted ls).begun

-- the data buffer is the data with a final LF
buffer_between : (v : List ℕ) (vs : List (List ℕ)) → buffer (v ∷ vs) ≡ between v vs ++ 0x0A ∷ []
buffer_between v [] = append-nil (v ++ 0x0A ∷ [])
buffer_between v (w ∷ ws) = append_assoc v (0x0A ∷ []) (buffer (w ∷ ws)) ∙ ap (λ t. v ++ 0x0A ∷ t) (buffer_between w ws) ∙ sym (append_assoc v (0x0A ∷ between w ws) (0x0A ∷ []))

pub less_one : (s : List ℕ) → take (length (s ++ 0x0A ∷ []) - 1) (s ++ 0x0A ∷ []) ≡ s
less_one s = let n : length s ≡ length (s ++ 0x0A ∷ []) - 1 = omega (arith, length-append s (0x0A ∷ [])) in take_at s (0x0A ∷ []) _ n

-- an event or none, as an outcome
abbrev pub outcome_of : List Event → Outcome
outcome_of [] = nothing
outcome_of (e ∷ es) = event e

module _ (ts : List (List ℕ)) (i : List ℕ) (is : List (List ℕ)) (l : List ℕ) (r : ℕ) (rs : List ℕ) where
  its_event : (v : List ℕ) (vs : List (List ℕ)) → event (block_event (holds (v ∷ vs) ts i is l r rs)) ≡ outcome_of (event_with (last_or i is) ts (v ∷ vs))
  its_event v vs = ap (λ d. event (record { id = last_or i is; type = typed (last_or [] ts); «data» = d })) (ap (λ s. take (length s - 1) s) (buffer_between v vs) ∙ less_one (between v vs))

  -- The blank line gives the block's event.
  pub blank_gives : (ds : List (List ℕ)) → blank_outcome (holds ds ts i is l r rs) (buffer ds) ≡ outcome_of (event_with (last_or i is) ts ds)
  blank_gives [] = refl
  blank_gives ([] ∷ vs) = its_event [] vs
  blank_gives ((a ∷ v) ∷ vs) = its_event (a ∷ v) vs
