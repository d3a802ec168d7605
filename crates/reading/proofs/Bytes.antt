-- One byte more, with the characters that it gives: none, one, or U+FFFD and one.
use Rattle.std.proofs.Common.{◌≡◌, ℕ, ◌+◌, ◌<◌, Bool, true, false, cond, leb, List, [], ◌∷◌, ◌++◌, length, Some, None, Option, sym, refl, ap, ◌∙◌, subst, append_assoc, append-nil, arith, length-append}
use Rattle.std.proofs.lemmas.Bool.{cond_both, lt-ltb}
use Rattle.machine.specs.Run.{Step, run}
use Rattle.machine.proofs.Laws.{run_append}
use Rattle.events.specs.Event.{Event}
use Rattle.decoder.specs.Standard.{Range, lies, Lead, lead, stray, lead_of, Char, replacement, is_mark, chars}
use Rattle.decoder.specs.Machine.{Reading, between, inside, wanting, begun, advance, kept, State, fresh, step}
use Rattle.decoder.proofs.Whole.{chars_so_far}
use Rattle.fields.specs.Cause.{Cause}
use Rattle.fields.specs.Hand as hand
use Rattle.fields.specs.Hand.{Answer, Handed}
use Rattle.lines.specs.Line.{Line, is_lf, is_cr, goes_on, too_long}
use Rattle.lines.specs.Text.{Text, Ran, resumed, hand_turn, hand_char, hand_chars}
use Rattle.reading.specs.Lines.{lines, unfinished}
use Rattle.reading.specs.Blocks as blocks
use Rattle.reading.specs.Standard.{Before, events_of}
use Rattle.reading.specs.Limits.{any, long_line, through, over_text}
use Rattle.reading.specs.Outcome.{capped}
use Rattle.reading.proofs.Splits.{split, fed, other, line_after, built_is_unfinished, grows, Told, told}
use Rattle.reading.proofs.Sayings.{held_after}
use Rattle.reading.proofs.Bounds.{long, push_true, still_true, Fits, line_is_over}
use Rattle.reading.proofs.Steps.{text_after, sink_after, Goes, Halts, Stepped, turn_goes_on, turn_is_too_long}
use Rattle.reading.proofs.Ended.{one_more}

-- what one byte can give
pub data Shape : List Char → Type 0 where
  none : Shape []
  one : (c : Char) → Shape (c ∷ [])
  two : (c : Char) → Shape (replacement ∷ c ∷ [])

data Small : List Char → Type 0 where
  none : Small []
  one : (c : Char) → Small (c ∷ [])

small_shape : {cs : List Char} → Small cs → Shape cs
small_shape Small.none = Shape.none
small_shape (Small.one c) = Shape.one c

replaced_shape : {cs : List Char} → Small cs → Shape (replacement ∷ cs)
replaced_shape Small.none = Shape.one replacement
replaced_shape (Small.one c) = two c

wanted : (seen : List ℕ) (rs : List Range) → Small (wanting seen rs).out
wanted seen [] = Small.one seen
wanted seen (r ∷ rs) = Small.none

begun_small : (l : Lead) (b : ℕ) → Small (begun l b).out
begun_small (lead rs) b = wanted (b ∷ []) rs
begun_small stray b = Small.one replacement

advance_shape : (q : Reading) (b : ℕ) → Shape (advance q b).out
advance_shape between b = small_shape (begun_small (lead_of b) b)
advance_shape (inside seen r rs) b = cond_both (lies r b) _ _ (λ (t : Step Reading Char). Shape t.out) (λ _. small_shape (wanted (seen ++ b ∷ []) rs)) (λ _. replaced_shape (begun_small (lead_of b) b))

kept_shape : (v : Bool) {cs : List Char} → Shape cs → Shape (kept v cs)
kept_shape true s = s
kept_shape false Shape.none = Shape.none
kept_shape false (Shape.one c) = cond_both (is_mark c) [] (c ∷ []) Shape (λ _. Shape.none) (λ _. Shape.one c)
kept_shape false (two c) = two c

pub gives_few : (st : State) (b : ℕ) → Shape (step st b).out
gives_few st b = kept_shape st.started (advance_shape st.reading b)

-- one byte more gives its characters
pub chars_push : (p : List ℕ) (b : ℕ) → chars (p ++ b ∷ []) ≡ chars p ++ (step (run step fresh p).state b).out
chars_push p b =
    let o = (step (run step fresh p).state b).out in
    sym (chars_so_far (p ++ b ∷ [])) ∙ ap (λ t. t.out) (run_append step p (b ∷ []) fresh)
    ∙ ap (λ cs. (run step fresh p).out ++ cs) (append-nil o)
    ∙ ap (λ cs. cs ++ o) (chars_so_far p)

-- A line that is too long stays so.
long_stays : (cs : List Char) (c : Char) → 1024 < length (unfinished cs) → long_line (cs ++ c ∷ []) ≡ true
long_stays cs c h =
    let t = split (line_after cs) c in
    ap (λ n. any long (n ++ unfinished (cs ++ c ∷ []) ∷ [])) (grows cs c).lines
    ∙ ap (λ u. any long ((lines cs ++ t.out) ++ u ∷ [])) (grows cs c).rest
    ∙ by (is_lf c) (line_after cs).after_cr (is_cr c)
  where
    ls : List blocks.Line
    ls = lines cs

    built : List ℕ
    built = (line_after cs).built

    is_long : long (line_after cs).built ≡ true
    is_long = let e = ap length (built_is_unfinished cs) in lt-ltb 1024 (length (line_after cs).built) (omega arith)

    longer : long ((line_after cs).built ++ c) ≡ true
    longer = let e = ap length (built_is_unfinished cs) in let k = length-append (line_after cs).built c in lt-ltb 1024 (length ((line_after cs).built ++ c)) (omega arith)

    by : (v a w : Bool) → (let t = cond v (fed a (line_after cs).built) (other c (line_after cs).built w) in any long ((lines cs ++ t.out) ++ t.state.built ∷ []) ≡ true)
    by true true w = push_true long (lines cs ++ []) (line_after cs).built is_long
    by true false w = still_true long (lines cs ++ (line_after cs).built ∷ []) ([] ∷ []) (push_true long (lines cs) (line_after cs).built is_long)
    by false a true = still_true long (lines cs ++ (line_after cs).built ∷ []) ([] ∷ []) (push_true long (lines cs) (line_after cs).built is_long)
    by false a false = push_true long (lines cs ++ []) ((line_after cs).built ++ c) longer

module _ {X : Type 0} (refusal : X → Event → ℕ) (after : X → Event → X) (w : Before) (x : X) where
  -- a fault within the characters gs behind cs
  pub record Off (cs gs : List Char) (r : Ran X) (d : Cause) : Type 0 where
    pub over : over_text refusal after x (cs ++ gs) ≡ Some d
    pub sink : r.sink ≡ sink_after refusal after w x cs
    pub last_id : r.text.held.last_id ≡ (held_after w (lines cs)).last_id
    pub retry : r.text.held.retry ≡ (held_after w (lines cs)).retry
    pub number : r.text.number ≡ capped (1 + length (lines cs))

  abbrev pub Came : List Char → List Char → Ran X → Option Cause → Type 0
  Came cs gs r None = Goes refusal after w x (cs ++ gs) r.text r.sink
  Came cs gs r (Some d) = Off cs gs r d

  by_answer : (cs : List Char) (c : Char) (h : Handed Text X) (a : Answer Cause) → Stepped refusal after w x cs c h a → (let r = resumed h a (record { text = h.held; sink = h.sink; kept = 0; stop = None }) in Came cs (c ∷ []) r r.stop)
  by_answer cs c h hand.quiet s = s
  by_answer cs c h hand.kept s = s
  by_answer cs c h (hand.faulted d) s = record { over = s.over; sink = s.sink; last_id = s.last_id; retry = s.retry; number = s.number }

  abbrev from : List Char → List Char → Ran X
  from cs gs = hand_chars refusal after (text_after refusal after w x cs) (sink_after refusal after w x cs) gs

  one_char : (cs : List Char) (c : Char) → Fits refusal after x cs → Came cs (c ∷ []) (from cs (c ∷ [])) (from cs (c ∷ [])).stop
  one_char cs c f =
      let h = hand_char refusal after (text_after refusal after w x cs) (sink_after refusal after w x cs) c in
      by_answer cs c h h.answer (one_more refusal after w x cs c f)

  -- U+FFFD, and then one more
  module _ (cs : List Char) (c : Char) (f : Fits refusal after x cs) where
    abbrev l₁ : Line
    l₁ = record { after_cr = false; built = (line_after cs).built ++ replacement }

    abbrev cs₁ : List Char
    cs₁ = cs ++ replacement ∷ []

    same_lines : lines cs₁ ≡ lines cs
    same_lines = (grows cs replacement).lines ∙ append-nil (lines cs)

    behind : cs₁ ++ c ∷ [] ≡ cs ++ replacement ∷ c ∷ []
    behind = append_assoc cs (replacement ∷ []) (c ∷ [])

    carried : (r : Ran X) (o : Option Cause) → Came cs₁ (c ∷ []) r o → Came cs (replacement ∷ c ∷ []) r o
    carried r None s = subst (λ gs. Goes refusal after w x gs r.text r.sink) behind s
    carried r (Some d) s = record {
      over = ap (over_text refusal after x) (sym behind) ∙ s.over;
      sink = s.sink ∙ ap (λ ls. through refusal after x (events_of ls)) same_lines;
      last_id = s.last_id ∙ ap (λ ls. (held_after w ls).last_id) same_lines;
      retry = s.retry ∙ ap (λ ls. (held_after w ls).retry) same_lines;
      number = s.number ∙ ap (λ ls. capped (1 + length ls)) same_lines;
    }

    abbrev then : Handed Text X → Ran X
    then h = resumed h h.answer (hand_chars refusal after h.held h.sink (c ∷ []))

    abbrev t : Text
    t = text_after refusal after w x cs

    abbrev y : X
    y = sink_after refusal after w x cs

    goes_further : (t₁ : Text) (y₁ : X) → Goes refusal after w x cs₁ t₁ y₁ → (let r = hand_chars refusal after t₁ y₁ (c ∷ []) in Came cs₁ (c ∷ []) r r.stop)
    goes_further t₁ y₁ g =
        subst (λ (s : Text). (let r = hand_chars refusal after s y₁ (c ∷ []) in Came cs₁ (c ∷ []) r r.stop)) (sym g.text)
        (subst (λ (z : X). (let r = hand_chars refusal after (text_after refusal after w x cs₁) z (c ∷ []) in Came cs₁ (c ∷ []) r r.stop)) (sym g.sink) (one_char cs₁ c g.fits))

    by : (v : Bool) → Told (line_after cs) replacement (cond v (goes_on l₁) too_long) → (let r = then (hand_turn refusal after t y (cond v (goes_on l₁) too_long)) in Came cs (replacement ∷ c ∷ []) r r.stop)
    by true k =
        let g = turn_goes_on refusal after w x cs replacement f l₁ k.0 (k.1 (Rattle.reading.proofs.Steps.fits_built refusal after w x cs replacement f)) in
        let r = hand_chars refusal after (record { line = l₁; number = t.number; held = t.held }) y (c ∷ []) in
        carried r r.stop (goes_further _ _ g)
    by false k = record {
      over =
          ap (over_text refusal after x) (sym behind)
          ∙ line_is_over refusal after x (cs₁ ++ c ∷ []) (long_stays cs₁ c (let e = ap length (grows cs replacement).rest in omega (arith, k.1)));
      sink = refl;
      last_id = refl;
      retry = refl;
      number = refl;
    }

    two_chars : Came cs (replacement ∷ c ∷ []) (from cs (replacement ∷ c ∷ [])) (from cs (replacement ∷ c ∷ [])).stop
    two_chars = by (leb (length ((line_after cs).built ++ replacement)) 1024) (told (line_after cs) replacement)

  pub characters : (cs : List Char) (gs : List Char) → Shape gs → Fits refusal after x cs → Came cs gs (from cs gs) (from cs gs).stop
  characters cs gs Shape.none f = record { text = ap (text_after refusal after w x) (sym (append-nil cs)); sink = ap (sink_after refusal after w x) (sym (append-nil cs)); fits = subst (Fits refusal after x) (sym (append-nil cs)) f }
  characters cs gs (Shape.one c) f = one_char cs c f
  characters cs gs (two c) f = two_chars cs c f
