-- A text that is written part by part through a buffer of 4096 bytes.
use Rattle.std.proofs.Common.{◌≡◌, ℕ, ◌+◌, ◌-◌, ◌<◌, ◌≤◌, min, Bool, true, false, cond, ◌⊎◌, List, ◌++◌, length, take, drop, Some, None, sym, refl, ap, ◌∙◌, ap₂, inl, inr, arith, take-add}
use Rattle.std.proofs.lemmas.List.{append_assoc, append-nil, length-append, length-take, length-drop, take_all, take_at}
use Rattle.writer.specs.Filled.{count_of, filled}
use Rattle.numbering.specs.Meaning.{has_text}

-- `from` bytes of the text w stand behind what was in the stream before; more than none only if the number has a text
pub record SoFar (greatest number : ℕ) (w before stream : List ℕ) (space from : ℕ) : Type 0 where
  pub whole : space ≡ 4096
  pub within : from ≤ length w
  pub stands : stream ≡ before ++ take from w
  pub begun : (from ≡ 0) ⊎ (has_text greatest number ≡ true)

pub none_yet : (greatest number : ℕ) (w before : List ℕ) (space : ℕ) → space ≡ 4096 → SoFar greatest number w before before space 0
none_yet greatest number w before space e = record { whole = e; within = omega arith; stands = sym (append-nil before); begun = inl refl }

-- the call that fills the buffer from byte `from` on
module _ (greatest number : ℕ) (w before stream out out' : List ℕ) (from count : ℕ) (so_far : SoFar greatest number w before stream (length out) from) where
  pub record Part : Type 0 where
    pub yes : has_text greatest number ≡ true
    pub fill : count ≡ min 4096 (length w - from)
    pub room : length out' ≡ 4096
    pub front : take count out' ≡ take 4096 (drop from w)

  filled_so : has_text greatest number ≡ true → count ≡ count_of from w out → out' ≡ filled from w out → Part
  unfolding count_of filled
  filled_so e n h =
      let rest = drop from w in
      let size : length (take (length out) rest) ≡ count = length-take (length out) rest ∙ sym n in
      let long : count ≡ min 4096 (length w - from) = omega (arith, n, so_far.whole, length-drop from w) in
      record {
        yes = e;
        fill = long;
        room = omega (arith, ap length h, length-append (take (length out) rest) (drop (length rest) out), length-take (length out) rest, length-drop (length rest) out, so_far.whole);
        front = ap (take count) h ∙ take_at (take (length out) rest) (drop (length rest) out) count size ∙ ap (λ (k : ℕ). take k rest) so_far.whole;
      }

  by : (b : Bool) → has_text greatest number ≡ b → Some count ≡ cond b (Some (count_of from w out)) None → out' ≡ cond b (filled from w out) out → Part
  by true e s h = filled_so e (cc s) h
  by false e s h = let z : ◌≡◌ {A = ℕ} 0 1 = cc s in absurd (omega arith)

  pub part : Some count ≡ cond (has_text greatest number) (Some (count_of from w out)) None → out' ≡ cond (has_text greatest number) (filled from w out) out → Part
  part s h = by (has_text greatest number) refl s h

  joined_on : (stream' : List ℕ) → Part → stream' ≡ stream ++ take count out' → stream' ≡ before ++ take (from + 4096) w
  joined_on stream' p e =
      e ∙ ap₂ (λ (a b : List ℕ). a ++ b) so_far.stands p.front ∙ append_assoc before (take from w) (take 4096 (drop from w)) ∙ ap (λ (x : List ℕ). before ++ x) (sym (take-add from 4096 w))

  pub one_more : (stream' : List ℕ) → Part → 4096 ≤ count → stream' ≡ stream ++ take count out' → SoFar greatest number w before stream' (length out') (from + count)
  one_more stream' p h e =
      let full : count ≡ 4096 = omega (arith, p.fill) in
      record {
        whole = p.room;
        within = omega (arith, p.fill, so_far.within);
        stands = joined_on stream' p e ∙ ap (λ (k : ℕ). before ++ take (from + k) w) (sym full);
        begun = inr p.yes;
      }

  pub all : (stream' : List ℕ) → Part → count < 4096 → stream' ≡ stream ++ take count out' → stream' ≡ before ++ w
  all stream' p h e = joined_on stream' p e ∙ ap (λ (x : List ℕ). before ++ x) (take_all (from + 4096) w (omega (arith, p.fill, so_far.within)))
