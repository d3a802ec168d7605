-- The end of a line: a field joins its block, or a blank line ends it.
use Rattle.std.proofs.Common.{◌≡◌, ℕ, ◌+◌, Bool, true, false, cond, eqb, ltb, List, [], ◌∷◌, ◌++◌, length, sym, refl, ap, ◌∙◌, subst, append-nil}
use Rattle.std.proofs.lemmas.Bool.{eqb-true, eqb-false}
use Rattle.events.specs.Event.{Event}
use Rattle.decoder.specs.Standard.{Char}
use Rattle.fields.specs.Cause.{refused_by_sink}
use Rattle.fields.specs.Field.{Field, field_of}
use Rattle.fields.specs.Block.{Held, Outcome, Said, moved}
use Rattle.fields.specs.Hand.{kept, faulted, Handed}
use Rattle.lines.specs.Line.{Line, Turn, goes_on, ended, too_long, turn}
use Rattle.lines.specs.Text.{Text, refused, hand_turn, hand_char}
use Rattle.reading.specs.Lines.{lines}
use Rattle.reading.specs.Blocks as blocks
use Rattle.reading.specs.Blocks.{Blocks, parted, event_with, last_or, id_after, last_id_after, ids, types, datas, data_of, times}
use Rattle.reading.specs.Standard.{Before, events_of}
use Rattle.reading.specs.Limits.{any, over_id, over_type, over_data, long_data, through, refused_in, over_text}
use Rattle.reading.specs.Outcome.{capped}
use Rattle.reading.proofs.Lists.{joined_push}
use Rattle.reading.proofs.Splits.{split, line_after, Told, told}
use Rattle.reading.proofs.Sayings.{buffer, holds, held_after, joined_by, Says, says_told}
use Rattle.reading.proofs.Sayings as sayings
use Rattle.reading.proofs.Blanks.{parted_blank, parted_line, held_line, events_line, held_blank, events_blank, outcome_of, blank_gives}
use Rattle.reading.proofs.Bounds.{push_false, push_true, first_parts, through_push, refused_push, Fits, line_is_over, id_is_over, type_is_over, data_is_over, sink_is_over}
use Rattle.reading.proofs.Steps.{text_after, sink_after, Goes, Stepped, turn_goes_on, turn_is_too_long, text_with, more_lines, line_fits, ids_fit, types_fit, taken, halts, fits_built}

-- no event or one
data Few : List Event → Type 0 where
  none : Few []
  one : (e : Event) → Few (e ∷ [])

few : (i : List ℕ) (ts ds : List (List ℕ)) → Few (event_with i ts ds)
few i ts [] = none
few i ts (v ∷ vs) = one _

module _ {X : Type 0} (refusal : X → Event → ℕ) (after : X → Event → X) (w : Before) (x : X) (cs : List Char) (c : Char) (f : Fits refusal after x cs) where
  abbrev ls : List blocks.Line
  ls = lines cs

  abbrev cs' : List Char
  cs' = cs ++ c ∷ []

  abbrev p : Blocks
  p = parted ls

  -- a field
  module _ (l' : Line) (b : ℕ) (l : blocks.Line) (e : split (line_after cs) c ≡ record { state = l'; out = (b ∷ l) ∷ [] }) (es : b ∷ l ≡ (line_after cs).built) (el : l'.built ≡ []) where
    abbrev s : blocks.Line
    s = b ∷ l

    abbrev F : Field
    F = field_of s

    same_events : events_of (lines cs') ≡ events_of ls
    same_events = ap events_of (more_lines refusal after w x cs c f l' s e es el) ∙ events_line ls b l

    block_data : long_data (parted (lines cs')) ≡ any over_data (p.finished ++ (p.begun ++ s ∷ []) ∷ [])
    block_data = ap (λ n. long_data (parted n)) (more_lines refusal after w x cs c f l' s e es el) ∙ ap long_data (parted_line ls b l)

    over_it : (v : Bool) → ltb 513 (length (buffer (datas p.begun ++ data_of F))) ≡ v → over_data (p.begun ++ s ∷ []) ≡ v
    over_it v q = ap (λ d. ltb 513 (length (buffer d))) (joined_push (λ (y : blocks.Line). data_of (field_of y)) p.begun s) ∙ q

    blocks_fit : (any over_data p.finished ≡ false) × (over_data p.begun ≡ false)
    blocks_fit = first_parts over_data p.finished p.begun f.«data»

    by_field : (q : Said) → Says (datas p.begun) (types p.begun) (id_after [] p.finished) (ids p.begun) (last_id_after w.last_id p.finished) w.retry (times ls) F q → (let h = taken refusal after w x cs c f l' s e es el q in Stepped refusal after w x cs c h h.answer)
    by_field q (sayings.fine a k d) = record {
      text = text_with refusal after w x cs c f l' s e es el _ (sym (held_line w ls b l));
      sink = ap (through refusal after x) (sym same_events);
      fits = record {
        line = line_fits refusal after w x cs c f l' s e es el;
        id = ids_fit refusal after w x cs c f l' s e es el a;
        type = types_fit refusal after w x cs c f l' s e es el k;
        «data» = block_data ∙ push_false over_data p.finished (p.begun ++ s ∷ []) blocks_fit.0 (over_it false d);
        sink = ap (refused_in refusal after x) same_events ∙ f.sink;
      };
    }
    by_field q (sayings.long_id a) =
        halts refusal after w x cs c f l' s e es el _ _
        (id_is_over refusal after x cs' (line_fits refusal after w x cs c f l' s e es el) (ap Rattle.reading.specs.Limits.long_id (more_lines refusal after w x cs c f l' s e es el) ∙ push_true (λ (y : blocks.Line). over_id (field_of y)) ls s a))
        refl refl
    by_field q (sayings.long_type a k) =
        halts refusal after w x cs c f l' s e es el _ _
        (type_is_over refusal after x cs' (line_fits refusal after w x cs c f l' s e es el) (ids_fit refusal after w x cs c f l' s e es el a) (ap Rattle.reading.specs.Limits.long_type (more_lines refusal after w x cs c f l' s e es el) ∙ push_true (λ (y : blocks.Line). over_type (field_of y)) ls s k))
        refl refl
    by_field q (sayings.long_data a k d) =
        halts refusal after w x cs c f l' s e es el _ _
        (data_is_over refusal after x cs' (line_fits refusal after w x cs c f l' s e es el) (ids_fit refusal after w x cs c f l' s e es el a) (types_fit refusal after w x cs c f l' s e es el k) (block_data ∙ push_true over_data p.finished (p.begun ++ s ∷ []) (over_it true d)))
        refl refl

    pub field_ends : (let h = hand_turn refusal after (text_after refusal after w x cs) (sink_after refusal after w x cs) (ended l' s) in Stepped refusal after w x cs c h h.answer)
    field_ends = by_field _ (says_told (datas p.begun) (types p.begun) (id_after [] p.finished) (ids p.begun) (last_id_after w.last_id p.finished) w.retry (times ls) F blocks_fit.1)

  -- the blank line
  module _ (l' : Line) (e : split (line_after cs) c ≡ record { state = l'; out = [] ∷ [] }) (es : [] ≡ (line_after cs).built) (el : l'.built ≡ []) where
    abbrev hb : Held
    hb = held_after w ls

    grown_lines : lines cs' ≡ ls ++ [] ∷ []
    grown_lines = more_lines refusal after w x cs c f l' [] e es el

    blank_fits : long_data (parted (lines cs')) ≡ false
    blank_fits = ap (λ n. long_data (parted n)) grown_lines ∙ ap long_data (parted_blank ls) ∙ push_false over_data (p.finished ++ p.begun ∷ []) [] f.«data» refl

    abbrev given : Outcome → Handed Text X
    given o = taken refusal after w x cs c f l' [] e es el (record { held = moved hb; outcome = o })

    moves : (y : X) (fs : List Event) → events_of (lines cs') ≡ fs → y ≡ through refusal after x fs → refused_in refusal after x fs ≡ 0 → Goes refusal after w x cs' (record { line = l'; number = Rattle.lines.specs.Text.counted (capped (1 + length ls)); held = moved hb }) y
    moves y fs ef ey er = record {
      text = text_with refusal after w x cs c f l' [] e es el (moved hb) (sym (held_blank w ls));
      sink = ey ∙ ap (through refusal after x) (sym ef);
      fits = record {
        line = line_fits refusal after w x cs c f l' [] e es el;
        id = ids_fit refusal after w x cs c f l' [] e es el refl;
        type = types_fit refusal after w x cs c f l' [] e es el refl;
        «data» = blank_fits;
        sink = ap (refused_in refusal after x) ef ∙ er;
      };
    }

    abbrev y : X
    y = sink_after refusal after w x cs

    by_event : (fs : List Event) → Few fs → events_of (lines cs') ≡ events_of ls ++ fs → (let h = given (outcome_of fs) in Stepped refusal after w x cs c h h.answer)
    by_event fs none q = moves (sink_after refusal after w x cs) (events_of ls) (q ∙ append-nil (events_of ls)) refl f.sink
    by_event fs (one d) q = by (eqb (refusal y d) 0) refl
      where
        many : refused_in refusal after x (events_of ls ++ d ∷ []) ≡ refusal y d
        many = refused_push refusal after x (events_of ls) d f.sink

        by : (v : Bool) → eqb (refusal y d) 0 ≡ v → (let h = cond {A = Handed Text X} v (record { held = record { line = l'; number = Rattle.lines.specs.Text.counted (capped (1 + length ls)); held = moved hb }; sink = after y d; answer = kept }) (record { held = refused (text_after refusal after w x cs); sink = y; answer = faulted (refused_by_sink (refusal y d)) }) in Stepped refusal after w x cs c h h.answer)
        by true k = moves (after y d) (events_of ls ++ d ∷ []) q (sym (through_push refusal after x (events_of ls) d)) (many ∙ eqb-true (refusal y d) 0 k)
        by false k =
            halts refusal after w x cs c f l' [] e es el _ _
            (sink_is_over refusal after x cs' (refusal y d) (line_fits refusal after w x cs c f l' [] e es el) (ids_fit refusal after w x cs c f l' [] e es el refl) (types_fit refusal after w x cs c f l' [] e es el refl) blank_fits (ap (refused_in refusal after x) q ∙ many) (eqb-false (refusal y d) 0 k))
            refl refl

    pub blank_ends : (let h = hand_turn refusal after (text_after refusal after w x cs) (sink_after refusal after w x cs) (ended l' []) in Stepped refusal after w x cs c h h.answer)
    blank_ends =
        let ts = types p.begun in
        let i = id_after [] p.finished in
        let ds = datas p.begun in
        subst (λ (o : Outcome). Stepped refusal after w x cs c (given o) (given o).answer)
        (sym (blank_gives ts i (ids p.begun) (last_id_after w.last_id p.finished) w.retry (times ls) ds))
        (by_event (event_with (last_or i (ids p.begun)) ts ds) (few (last_or i (ids p.begun)) ts ds) (ap events_of grown_lines ∙ events_blank ls))

  line_ends : (l' : Line) (s : blocks.Line) → split (line_after cs) c ≡ record { state = l'; out = s ∷ [] } → s ≡ (line_after cs).built → l'.built ≡ [] → (let h = hand_turn refusal after (text_after refusal after w x cs) (sink_after refusal after w x cs) (ended l' s) in Stepped refusal after w x cs c h h.answer)
  line_ends l' [] e es el = blank_ends l' e es el
  line_ends l' (b ∷ l) e es el = field_ends l' b l e es el

  by_turn : (u : Turn) → Told (line_after cs) c u → (let h = hand_turn refusal after (text_after refusal after w x cs) (sink_after refusal after w x cs) u in Stepped refusal after w x cs c h h.answer)
  by_turn (goes_on l') t = turn_goes_on refusal after w x cs c f l' t.0 (t.1 (fits_built refusal after w x cs c f))
  by_turn (ended l' s) t = line_ends l' s t.0 t.1 t.2
  by_turn too_long t = record {
    over = line_is_over refusal after x cs' (turn_is_too_long refusal after w x cs c f _ t.0 t.1);
    sink = refl;
    last_id = refl;
    retry = refl;
    number = refl;
  }

  -- One character more, from where the standard has the reader after cs.
  pub one_more : (let h = hand_char refusal after (text_after refusal after w x cs) (sink_after refusal after w x cs) c in Stepped refusal after w x cs c h h.answer)
  one_more = by_turn (turn (line_after cs) c) (told (line_after cs) c)
