-- The decoder that reads byte by byte.
use Rattle.std.specs.Prelude.{ℕ, Bool, true, false, cond, ◌&&◌, List, [], ◌∷◌, ◌++◌, ◌==◌}
use Rattle.machine.specs.Run.{Step, also}
use Rattle.decoder.specs.Standard.{width_of, Range, lies, Lead, lead, stray, lead_of, Char, replacement, unmarked, text}

-- Between two characters, or inside one: the bytes so far, the range of the next, and those of the others.
pub data Reading : Type 0 where
  between : Reading
  inside : List ℕ → Range → List Range → Reading

abbrev pub is_between : Reading → Bool
is_between between = true
is_between (inside seen r rs) = false

abbrev pub wanting : List ℕ → List Range → Step Reading Char
wanting seen [] = record { state = between; out = seen ∷ [] }
wanting seen (r ∷ rs) = record { state = inside seen r rs; out = [] }

abbrev pub begun : Lead → ℕ → Step Reading Char
begun (lead rs) b = wanting (b ∷ []) rs
begun stray b = record { state = between; out = replacement ∷ [] }

abbrev pub advance : Reading → ℕ → Step Reading Char
advance between b = begun (lead_of b) b
advance (inside seen r rs) b =
    cond (lies r b) (wanting (seen ++ b ∷ []) rs) (also (replacement ∷ []) (begun (lead_of b) b))

-- A mark is dropped until a character has come.
pub record State : Type 0 where
  pub started : Bool
  pub reading : Reading

abbrev pub fresh : State
fresh = record { started = false; reading = between }

abbrev pub kept : Bool → List Char → List Char
kept true cs = cs
kept false cs = unmarked cs

abbrev pub moved : Bool → List Char → Bool
moved true cs = true
moved false [] = false
moved false (c ∷ cs) = true

abbrev pub step : State → ℕ → Step State Char
step st b =
    let t = advance st.reading b in
    record { state = record { started = moved st.started t.out; reading = t.state }; out = kept st.started t.out }

-- Whether a byte is a character as it stands: one of one byte, after others.
abbrev pub passes : State → ℕ → Bool
passes st b = st.started && (is_between st.reading && width_of b == 1)

-- What a byte gives, as the bytes of the characters.
abbrev pub reads : State → ℕ → Step State ℕ
reads st b = record { state = (step st b).state; out = text (step st b).out }
