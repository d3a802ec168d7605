-- When a stream so far is over a limit of ours, and with which cause.
use Rattle.std.specs.Prelude.{ℕ, Bool, false, cond, ◌||◌, ltb, List, [], ◌∷◌, ◌++◌, length, Some, None, Option, ◌==◌, nat_lt}
use Rattle.std.specs.List.{flat_map}
use Rattle.events.specs.Event.{Event}
use Rattle.decoder.specs.Standard.{Char, chars}
use Rattle.fields.specs.Cause.{Cause, line_too_long, id_too_long, type_too_long, data_too_long, refused_by_sink}
use Rattle.fields.specs.Field.{Field, comment, other, data_field, event_field, id_field, retry_field, field_of}
use Rattle.reading.specs.Lines.{lines, unfinished}
use Rattle.reading.specs.Blocks.{Line, datas, Blocks, parted}
use Rattle.reading.specs.Standard.{events_of}

abbrev pub any : {A : Type 0} → (A → Bool) → List A → Bool
any f [] = false
any f (a ∷ rest) = f a || any f rest

-- some line, finished or being built, has over 1,024 bytes
abbrev pub long_line : List Char → Bool
long_line cs = any (λ (l : Line). ltb 1024 (length l)) (lines cs ++ unfinished cs ∷ [])

-- some id has over 32 bytes
abbrev pub over_id : Field → Bool
over_id comment = false
over_id other = false
over_id (data_field v) = false
over_id (event_field v) = false
over_id (id_field v) = nat_lt 32 (length v)
over_id (retry_field v) = false

abbrev pub long_id : List Line → Bool
long_id = any (λ (l : Line). over_id (field_of l))

-- some type has over 32 bytes
abbrev pub over_type : Field → Bool
over_type comment = false
over_type other = false
over_type (data_field v) = false
over_type (event_field v) = nat_lt 32 (length v)
over_type (id_field v) = false
over_type (retry_field v) = false

abbrev pub long_type : List Line → Bool
long_type = any (λ (l : Line). over_type (field_of l))

-- some block, finished or not, has data of over 513 bytes, with an LF behind each line's value
abbrev pub data_of_block : List Line → List ℕ
data_of_block b = flat_map (λ (v : List ℕ). v ++ 0x0A ∷ []) (datas b)

abbrev pub over_data : List Line → Bool
over_data b = nat_lt 513 (length (data_of_block b))

abbrev pub long_data : Blocks → Bool
long_data p = any over_data (p.finished ++ p.begun ∷ [])

abbrev pub cause_if : ℕ → Option Cause
cause_if n = cond (n == 0) None (Some (refused_by_sink n))

module _ {X : Type 0} (refusal : X → Event → ℕ) (after : X → Event → X) where
  -- the sink after events that it keeps
  abbrev pub through : X → List Event → X
  through x [] = x
  through x (e ∷ es) = through (after x e) es

  -- the number of the first refusal, 0 for none
  abbrev pub refused_in : X → List Event → ℕ
  refused_in x [] = 0
  refused_in x (e ∷ es) = cond (refusal x e == 0) (refused_in (after x e) es) (refusal x e)

  -- Text so far that is over a limit, over a sink that stood at x: the smallest number first.
  abbrev pub over_text : X → List Char → Option Cause
  over_text x cs =
      cond (long_line cs) (Some line_too_long)
      (cond (long_id (lines cs)) (Some id_too_long)
      (cond (long_type (lines cs)) (Some type_too_long)
      (cond (long_data (parted (lines cs))) (Some data_too_long)
      (cause_if (refused_in x (events_of (lines cs)))))))

  abbrev pub over : X → List ℕ → Option Cause
  over x s = over_text x (chars s)
