-- A text in a buffer, from one of its bytes on: as much of it as the buffer has places for, at the buffer's front. What the buffer held
-- behind it stays. There may be nothing left of the text.
use Rattle.std.specs.Prelude.{◌≡◌, ℕ, min, List, ◌++◌, length, take, drop, codes, refl}

-- how many bytes of the text come into the buffer
unfoldable pub count_of : ℕ → List ℕ → List ℕ → ℕ
count_of from text before = min (length before) (length (drop from text))

-- what the buffer holds then
unfoldable pub filled : ℕ → List ℕ → List ℕ → List ℕ
filled from text before = take (length before) (drop from text) ++ drop (length (drop from text)) before

example_front : filled 0 (codes "abcd") (codes "..") ≡ codes "ab"
unfolding filled
example_front = refl

example_end : filled 3 (codes "abcd") (codes "..") ≡ codes "d."
unfolding filled
example_end = refl

example_past : filled 9 (codes "abcd") (codes "..") ≡ codes ".."
unfolding filled
example_past = refl

example_count : count_of 3 (codes "abcd") (codes "..") ≡ 1
unfolding count_of
example_count = refl
