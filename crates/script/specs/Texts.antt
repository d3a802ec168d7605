-- A line of quoted texts. Blanks, which are spaces and tabs, may stand around them, and at least one stands between two.
use Rattle.std.specs.Prelude.{◌≡◌, ℕ, suc, Bool, true, false, cond, ◌||◌, List, [], ◌∷◌, drop, Some, None, codes, Option, ◌==◌, refl}
use Rattle.script.specs.Unquoted.{Reading, unquoted}

abbrev pub blank : ℕ → Bool
blank b = b == 32 || b == 9

-- how many blanks stand in front
abbrev pub blanks : List ℕ → ℕ
blanks [] = 0
blanks (b ∷ s) = cond (blank b) (suc (blanks s)) 0

-- without them
abbrev pub unblanked : List ℕ → List ℕ
unblanked s = drop (blanks s) s

-- whether a word ends where s goes on
abbrev pub word_ends : List ℕ → Bool
word_ends [] = true
word_ends (b ∷ s) = blank b

abbrev pub is_end : List ℕ → Bool
is_end [] = true
is_end (b ∷ s) = false

abbrev pub a_word : Option Reading → Option Reading
a_word None = None
a_word (Some r) = cond (word_ends r.rest) (Some r) None

-- the next word, if it is a quoted text
abbrev pub next_text : List ℕ → Option Reading
next_text s = a_word (unquoted (unblanked s))

pub record Texts : Type 0 where
  pub first : List ℕ
  pub second : List ℕ

abbrev pub second_text : List ℕ → Option Reading → Option Texts
second_text first None = None
second_text first (Some r) = cond (is_end (unblanked r.rest)) (Some (record { first = first; second = r.bytes })) None

abbrev pub first_text : Option Reading → Option Texts
first_text None = None
first_text (Some r) = second_text r.bytes (next_text r.rest)

-- the two texts of a line that holds these and no more
abbrev pub two_texts : List ℕ → Option Texts
two_texts line = first_text (next_text line)

example : two_texts (codes "\"insert\" \"0 17\"") ≡ Some (record { first = codes "insert"; second = codes "0 17" })
example = refl

example_blanks : two_texts (codes " \t\"a\"\t \"\" ") ≡ Some (record { first = codes "a"; second = [] })
example_blanks = refl

example_together : two_texts (codes "\"a\"\"b\"") ≡ None
example_together = refl

example_one : two_texts (codes "\"a\" ") ≡ None
example_one = refl

example_three : two_texts (codes "\"a\" \"b\" c") ≡ None
example_three = refl

example_empty : two_texts [] ≡ None
example_empty = refl
