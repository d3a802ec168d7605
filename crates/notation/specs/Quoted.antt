-- The text form of an event: a line with its three parts, each quoted.
use Rattle.std.specs.Prelude.{◌≡◌, ℕ, ◌+◌, ◌/◌, ◌%◌, cond, ◌&&◌, ◌||◌, List, [], ◌∷◌, ◌++◌, codes, ◌==◌, nat_le, nat_lt, refl}
use Rattle.std.specs.List.{flat_map}
use Rattle.events.specs.Event.{Event}

-- a digit of base sixteen, in lower case
abbrev pub hex_of : ℕ → ℕ
hex_of d = cond (nat_lt d 10) (48 + d) (87 + d)

-- a byte within quotes: a backslash stands before a quote (34), before another (92), and before the letters that mean other bytes
abbrev pub escaped : ℕ → List ℕ
escaped b =
    cond (b == 34 || b == 92) (92 ∷ b ∷ [])
    (cond (b == 10) (codes "\\n")
    (cond (b == 13) (codes "\\r")
    (cond (nat_le 0x20 b && nat_le b 0x7e) (b ∷ [])
    (92 ∷ 120 ∷ hex_of (b / 16) ∷ hex_of (b % 16) ∷ []))))

-- a text between quotes
abbrev pub quoted : List ℕ → List ℕ
quoted s = 34 ∷ flat_map escaped s ++ 34 ∷ []

-- a line of a word and a text between quotes
abbrev pub note_line : List ℕ → List ℕ → List ℕ
note_line word s = word ++ (32 ∷ quoted s ++ 10 ∷ [])

-- the line of an event: that word, then the id, the type and the data
abbrev pub event_line : Event → List ℕ
event_line e = codes "event " ++ (quoted e.id ++ (32 ∷ quoted e.type ++ (32 ∷ quoted e.«data» ++ 10 ∷ [])))

quotes_a_word : quoted (codes "hi") ≡ codes "\"hi\""
quotes_a_word = refl

marks_quote_and_backslash : quoted (codes "a\"\\") ≡ codes "\"a\\\"\\\\\""
marks_quote_and_backslash = refl

names_the_line_ends : quoted (10 ∷ 13 ∷ []) ≡ codes "\"\\n\\r\""
names_the_line_ends = refl

numbers_the_others : quoted (0 ∷ 127 ∷ 171 ∷ []) ≡ codes "\"\\x00\\x7f\\xab\""
numbers_the_others = refl

writes_a_line : event_line (record { id = codes "7"; type = codes "insert"; «data» = codes "0 17" }) ≡ codes "event \"7\" \"insert\" \"0 17\"\n"
writes_a_line = refl
