-- Where a text is cut: behind its first line, behind the blanks at its front.
use Rattle.std.proofs.Common.{◌≡◌, ℕ, suc, ◌+◌, ◌-◌, ◌<◌, ◌≤◌, Bool, true, false, cond, eqb, ltb, List, [], ◌∷◌, length, take, drop, Some, None, sym, refl, ap, ◌∙◌, arith}
use Rattle.std.proofs.lemmas.Bool.{ltb-false}
use Rattle.std.proofs.lemmas.List.{drop-drop, drop_all, take_all, take_rest}
use Rattle.std.proofs.lemmas.List.Folds.{length-prefix_len}
use Rattle.std.proofs.lemmas.List.Recursion.{is_position_or_len}
use Rattle.std.specs.List.{prefix_len, position_or_len, position}
use Rattle.script.specs.Lines.{line_length, line_of, behind_line, lengthened, all_lines}
use Rattle.script.specs.Texts.{blank, blanks, unblanked}

one_more : (n : ℕ) → suc n ≡ 1 + n
one_more n = omega arith

-- the first line goes up to the first LF
line_is : (s : List ℕ) → line_length s ≡ position_or_len (λ b. eqb b 10) s
line_is s = is_position_or_len line_length (λ b. eqb b 10) refl (λ b t. ap (cond (eqb b 10) 0) (one_more (line_length t))) s

by_place : (v : Bool) (n i : ℕ) → cond v (Some n) None ≡ Some i → n ≡ i
by_place true n i e = cc e
by_place false n i e = cc e

no_place : (v : Bool) (n : ℕ) → cond v (Some n) None ≡ None → v ≡ false
no_place true n e = cc e
no_place false n e = refl

module _ (s : List ℕ) where
  cut_at : (i : ℕ) → position (λ b. eqb b 10) s ≡ Some i → i ≡ line_length s
  cut_at i e = sym (line_is s ∙ by_place (ltb (position_or_len (λ b. eqb b 10) s) (length s)) _ i e)

  uncut : position (λ b. eqb b 10) s ≡ None → length s ≤ line_length s
  uncut e = let h = ltb-false (position_or_len (λ b. eqb b 10) s) (length s) (no_place _ (position_or_len (λ b. eqb b 10) s) e) in omega (arith, line_is s)

  pub before_lf : (i : ℕ) → position (λ b. eqb b 10) s ≡ Some i → take i s ≡ line_of s
  before_lf i e = ap (λ (n : ℕ). take n s) (cut_at i e)

  pub behind_lf : (i : ℕ) → position (λ b. eqb b 10) s ≡ Some i → take (length s - (i + 1)) (drop (i + 1) s) ≡ behind_line s
  behind_lf i e = take_rest s (i + 1) ∙ sym (drop-drop 1 i s) ∙ ap (λ (n : ℕ). drop 1 (drop n s)) (cut_at i e)

  pub without_lf : position (λ b. eqb b 10) s ≡ None → s ≡ line_of s
  without_lf e = sym (take_all (line_length s) s (uncut e))

  pub none_behind : position (λ b. eqb b 10) s ≡ None → [] ≡ behind_line s
  none_behind e = sym (ap (drop 1) (drop_all (line_length s) s (uncut e)))

by_first : (b : ℕ) (s : List ℕ) (v : Bool) → lengthened b (all_lines s) ≡ (b ∷ line_of s) ∷ all_lines (behind_line s) → cond v ([] ∷ all_lines s) (lengthened b (all_lines s)) ≡ take (cond v 0 (suc (line_length s))) (b ∷ s) ∷ all_lines (drop 1 (drop (cond v 0 (suc (line_length s))) (b ∷ s)))
by_first b s true e = refl
by_first b s false e = e

first_line : (b : ℕ) (s : List ℕ) → all_lines (b ∷ s) ≡ line_of (b ∷ s) ∷ all_lines (behind_line (b ∷ s))
first_line b [] = by_first b [] (eqb b 10) refl
first_line b (c ∷ s) = by_first b (c ∷ s) (eqb b 10) (ap (lengthened b) (first_line c s))

-- all lines are the first and then those behind it
pub some_line : (s : List ℕ) → 0 < length s → all_lines s ≡ line_of s ∷ all_lines (behind_line s)
some_line [] h = absurd (omega arith)
some_line (b ∷ s) h = first_line b s

blanks_are : (s : List ℕ) → blanks s ≡ prefix_len blank s
blanks_are [] = refl
blanks_are (b ∷ s) = ap (λ (n : ℕ). cond (blank b) n 0) (one_more (blanks s) ∙ ap (λ (n : ℕ). 1 + n) (blanks_are s))

-- the blanks at the front, counted, are left out
pub behind_blanks : (s : List ℕ) (n : ℕ) → n ≡ length (take (prefix_len blank s) s) → take (length s - n) (drop n s) ≡ unblanked s
behind_blanks s n e = take_rest s n ∙ ap (λ (k : ℕ). drop k s) (e ∙ length-prefix_len blank s ∙ sym (blanks_are s))
