-- The field of a line. A line that begins with a colon is a comment. Otherwise the name is what stands before the first
-- colon, and the value what stands after it less one leading space; without a colon the line is the name, the value empty.
use Rattle.std.specs.Prelude.{◌≡◌, ℕ, cond, List, [], ◌∷◌, codes, ◌==◌, slice_index, refl}
use Rattle.std.specs.Str.{bytes_eq}

pub data Field : Type 0 where
  comment other : Field
  data_field event_field id_field retry_field : List ℕ → Field

-- what stands before the first colon
abbrev pub before : List ℕ → List ℕ
before [] = []
before (b ∷ s) = cond (b == 0x3A) [] (b ∷ before s)

-- what stands after the first colon
abbrev pub after : List ℕ → List ℕ
after [] = []
after (b ∷ s) = cond (b == 0x3A) s (after s)

-- less one leading space
abbrev pub unspaced : List ℕ → List ℕ
unspaced [] = []
unspaced (b ∷ s) = cond (b == 0x20) s (b ∷ s)

abbrev pub value : List ℕ → List ℕ
value line = unspaced (after line)

-- Names match exactly.
abbrev pub named : List ℕ → List ℕ → Field
named name v =
    cond (bytes_eq name (codes "data")) (data_field v)
    (cond (bytes_eq name (codes "event")) (event_field v)
    (cond (bytes_eq name (codes "id")) (id_field v)
    (cond (bytes_eq name (codes "retry")) (retry_field v) other)))

abbrev pub field_of : List ℕ → Field
field_of line = cond (slice_index line 0 == 0x3A) comment (named (before line) (value line))

example : field_of (codes "data: a: b") ≡ data_field (codes "a: b")
example = refl

example_two_spaces : field_of (codes "id:  x") ≡ id_field (codes " x")
example_two_spaces = refl

example_name_alone : field_of (codes "event") ≡ event_field []
example_name_alone = refl

example_comment : field_of (codes ":data: a") ≡ comment
example_comment = refl

example_other : field_of (codes "Data: a") ≡ other
example_other = refl
