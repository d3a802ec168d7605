-- One character more: the reader's text and sink stand as the standard has it for the text with it, or it is over a limit.
use Rattle.std.proofs.Common.{◌≡◌, ℕ, ◌+◌, ◌<◌, ◌≤◌, true, false, List, [], ◌∷◌, ◌++◌, length, Some, sym, refl, ap, ◌∙◌, append-nil, arith, length-append}
use Rattle.std.proofs.lemmas.Bool.{ltb-false, le-ltb, lt-ltb}
use Rattle.events.specs.Event.{Event}
use Rattle.decoder.specs.Standard.{Char}
use Rattle.fields.specs.Cause.{Cause}
use Rattle.fields.specs.Field.{field_of}
use Rattle.fields.specs.Block.{Held, Said}
use Rattle.fields.specs.Hand.{Answer, quiet, kept, faulted, Handed, hand}
use Rattle.lines.specs.Line.{Line}
use Rattle.lines.specs.Text.{Text, counted, refused}
use Rattle.reading.specs.Lines.{lines, unfinished}
use Rattle.reading.specs.Blocks as blocks
use Rattle.reading.specs.Blocks.{parted, event_with, last_or, id_after, last_id_after, ids, types, datas, times}
use Rattle.reading.specs.Standard.{Before, events_of}
use Rattle.reading.specs.Limits.{any, long_line, over_id, long_id, over_type, long_type, long_data, through, refused_in, over_text}
use Rattle.reading.specs.Outcome.{capped}
use Rattle.reading.proofs.Splits.{split, line_after, built_is_unfinished, grows}
use Rattle.reading.proofs.Sayings.{held_after}
use Rattle.reading.proofs.Bounds.{long, push_false, push_true, first_parts, Fits}

module _ {X : Type 0} (refusal : X → Event → ℕ) (after : X → Event → X) (w : Before) (x : X) where
  -- where the reader stands after a text that is within the limits
  abbrev pub text_after : List Char → Text
  text_after cs = record { line = line_after cs; number = capped (1 + length (lines cs)); held = held_after w (lines cs) }

  abbrev pub sink_after : List Char → X
  sink_after cs = through refusal after x (events_of (lines cs))

  pub record Goes (cs : List Char) (t : Text) (y : X) : Type 0 where
    pub text : t ≡ text_after cs
    pub sink : y ≡ sink_after cs
    pub fits : Fits refusal after x cs

  -- a fault at the character c behind cs, with cause d
  pub record Halts (cs : List Char) (c : Char) (t : Text) (y : X) (d : Cause) : Type 0 where
    pub over : over_text refusal after x (cs ++ c ∷ []) ≡ Some d
    pub sink : y ≡ sink_after cs
    pub last_id : t.held.last_id ≡ (held_after w (lines cs)).last_id
    pub retry : t.held.retry ≡ (held_after w (lines cs)).retry
    pub number : t.number ≡ capped (1 + length (lines cs))

  abbrev pub Stepped : List Char → Char → Handed Text X → Answer Cause → Type 0
  Stepped cs c h quiet = Goes (cs ++ c ∷ []) h.held h.sink
  Stepped cs c h kept = Goes (cs ++ c ∷ []) h.held h.sink
  Stepped cs c h (faulted d) = Halts cs c h.held h.sink d

  module _ (cs : List Char) (c : Char) (f : Fits refusal after x cs) where
    abbrev ls : List blocks.Line
    ls = lines cs

    abbrev cs' : List Char
    cs' = cs ++ c ∷ []

    short : (any long ls ≡ false) × (long (unfinished cs) ≡ false)
    short = first_parts long ls (unfinished cs) f.line

    pub fits_built : length (line_after cs).built ≤ 1024
    fits_built = let h = ltb-false 1024 (length (unfinished cs)) short.1 in let e = ap length (built_is_unfinished cs) in omega arith

    -- the line goes on
    module _ (l' : Line) (e : split (line_after cs) c ≡ record { state = l'; out = [] }) where
      same_lines : lines cs' ≡ ls
      same_lines = (grows cs c).lines ∙ ap (λ t. ls ++ t.out) e ∙ append-nil ls

      now_rest : unfinished cs' ≡ l'.built
      now_rest = (grows cs c).rest ∙ ap (λ t. t.state.built) e

      pub text_on : record { line = l'; number = capped (1 + length ls); held = held_after w ls } ≡ text_after cs'
      text_on =
          ap (λ l. record { line = l; number = capped (1 + length ls); held = held_after w ls }) (sym ((grows cs c).line ∙ ap (λ t. t.state) e))
          ∙ ap (λ n. record { line = line_after cs'; number = capped (1 + length n); held = held_after w n }) (sym same_lines)

      pub turn_goes_on : length l'.built ≤ 1024 → Goes cs' (record { line = l'; number = capped (1 + length ls); held = held_after w ls }) (sink_after cs)
      turn_goes_on h = record {
        text = text_on;
        sink = ap (λ n. through refusal after x (events_of n)) (sym same_lines);
        fits = record {
          line = ap (λ n. any long (n ++ unfinished cs' ∷ [])) same_lines ∙ ap (λ u. any long (ls ++ u ∷ [])) now_rest ∙ push_false long ls l'.built short.0 (le-ltb 1024 (length l'.built) h);
          id = ap long_id same_lines ∙ f.id;
          type = ap long_type same_lines ∙ f.type;
          «data» = ap (λ n. long_data (parted n)) same_lines ∙ f.«data»;
          sink = ap (λ n. refused_in refusal after x (events_of n)) same_lines ∙ f.sink;
        };
      }

      pub turn_is_too_long : 1024 < length l'.built → long_line cs' ≡ true
      turn_is_too_long h = ap (λ n. any long (n ++ unfinished cs' ∷ [])) same_lines ∙ ap (λ u. any long (ls ++ u ∷ [])) now_rest ∙ push_true long ls l'.built (lt-ltb 1024 (length l'.built) h)

    -- the line ends
    module _ (l' : Line) (s : blocks.Line) (e : split (line_after cs) c ≡ record { state = l'; out = s ∷ [] }) (es : s ≡ (line_after cs).built) (el : l'.built ≡ []) where
      pub more_lines : lines cs' ≡ ls ++ s ∷ []
      more_lines = (grows cs c).lines ∙ ap (λ t. ls ++ t.out) e

      short_line : long s ≡ false
      short_line = let k = ap length es in let h = fits_built in le-ltb 1024 (length s) (omega arith)

      pub line_fits : long_line cs' ≡ false
      line_fits =
          ap (λ n. any long (n ++ unfinished cs' ∷ [])) more_lines
          ∙ ap (λ u. any long ((ls ++ s ∷ []) ++ u ∷ [])) ((grows cs c).rest ∙ ap (λ t. t.state.built) e ∙ el)
          ∙ push_false long (ls ++ s ∷ []) [] (push_false long ls s short.0 short_line) refl

      abbrev pub after_it : Held → Text
      after_it h = record { line = l'; number = counted (capped (1 + length ls)); held = h }

      counts : counted (capped (1 + length ls)) ≡ capped (1 + length (ls ++ s ∷ []))
      counts = let k = length-append ls (s ∷ []) in omega arith

      pub text_with : (h : Held) → h ≡ held_after w (ls ++ s ∷ []) → after_it h ≡ text_after cs'
      text_with h eh =
          ap (λ l. record { line = l; number = counted (capped (1 + length ls)); held = h }) (sym ((grows cs c).line ∙ ap (λ t. t.state) e))
          ∙ ap (λ n. record { line = line_after cs'; number = n; held = h }) counts
          ∙ ap (λ k. record { line = line_after cs'; number = capped (1 + length (ls ++ s ∷ [])); held = k }) eh
          ∙ ap (λ n. record { line = line_after cs'; number = capped (1 + length n); held = held_after w n }) (sym more_lines)

      -- a fault that leaves the text as h, whose last event ID and time are those before
      pub halts : (d : Cause) (h : Held) → over_text refusal after x cs' ≡ Some d → h.last_id ≡ (held_after w ls).last_id → h.retry ≡ (held_after w ls).retry → Halts cs c (record { line = line_after cs; number = capped (1 + length ls); held = h }) (sink_after cs) d
      halts d h o i r = record { over = o; sink = refl; last_id = i; retry = r; number = refl }

      pub ids_fit : over_id (field_of s) ≡ false → long_id (lines cs') ≡ false
      ids_fit a = ap long_id more_lines ∙ push_false (λ (l : blocks.Line). over_id (field_of l)) ls s f.id a

      pub types_fit : over_type (field_of s) ≡ false → long_type (lines cs') ≡ false
      types_fit a = ap long_type more_lines ∙ push_false (λ (l : blocks.Line). over_type (field_of l)) ls s f.type a

      abbrev pub taken : Said → Handed Text X
      taken q = hand refusal after (text_after cs) (refused (text_after cs)) (after_it q.held) (sink_after cs) q.outcome
