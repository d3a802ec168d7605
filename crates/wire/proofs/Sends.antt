-- What a sender sends, read byte by byte from a block boundary on.
use Rattle.std.proofs.Common.{◌≡◌, ℕ, ◌<◌, min, Bool, true, false, List, [], ◌∷◌, ◌++◌, map, get_or, take, IsUtf8, sym, refl, ap, ◌∙◌, subst, arith, lit<}
use Rattle.std.proofs.lemmas.List.{map-append}
use Rattle.machine.specs.Run.{Step, also, run}
use Rattle.machine.proofs.Laws.{run_append}
use Rattle.events.specs.Event.{Event}
use Rattle.events.specs.declared.line_end.LineEnd.{LineEnd}
use Rattle.events.proofs.Texts.{passed}
use Rattle.decoder.specs.Standard.{Char}
use Rattle.decoder.specs.Machine.{State, kept, step}
use Rattle.decoder.proofs.Kept.{unmarked_same}
use Rattle.fields.specs.Block as block
use Rattle.fields.specs.Block.{Held, Outcome}
use Rattle.lines.specs.Text.{Text}
use Rattle.lines.specs.Reader as reader
use Rattle.lines.specs.Reader.{Reading, reading, stopped, reads}
use Rattle.writer.specs.Written.{written, comment_line, retry_line}
use Rattle.wire.specs.Scan.{see_char, scan_byte, scan, events_given, within}
use Rattle.wire.specs.Boundary.{Boundary, AtBoundary}
use Rattle.wire.specs.Sent.{Sent, event, comment, retry, Lawful, AllLawful, bytes_of, stream, numbered, event_in, events_in, last_id_after, retry_after}
use Rattle.wire.specs.Laws.{WhatWasSentGivesItsEvents, Offered, WhatWasSentIsRead}
use Rattle.wire.proofs.Offers.{all_kept}
use Rattle.wire.proofs.Chars.{chars_of, text_chars, decodes_to}
use Rattle.wire.proofs.Sayings.{with_retry}
use Rattle.wire.proofs.Blocks.{Reads, after_event, event_read, event_utf8, comment_read, comment_utf8, retry_read, retry_utf8}
use Rattle.wire.proofs.Scans.{a_sink_is_offered_what_bytes_give}

-- Bytes through the decoder, and then its characters.
record Apart (r : Reading) (s : List ℕ) : Type 0 where
  pub out : (scan r s).out ≡ (run see_char r.text (run step r.decoder s).out).out
  pub text : (scan r s).state.text ≡ (run see_char r.text (run step r.decoder s).out).state
  pub decoder : (scan r s).state.decoder ≡ (run step r.decoder s).state

apart : (s : List ℕ) (r : Reading) → Apart r s
apart [] r = record { out = refl; text = refl; decoder = refl }
apart (b ∷ s) r =
    let d = step r.decoder b in
    let u = run see_char r.text d.out in
    let ih = apart s (scan_byte r b).state in
    let q = run_append see_char d.out (run step d.state s).out r.text in
    record {
      out = ap (λ o. u.out ++ o) ih.out ∙ sym (ap (λ (w : Step Text Outcome). w.out) q);
      text = ih.text ∙ sym (ap (λ (w : Step Text Outcome). w.state) q);
      decoder = ih.decoder;
    }

-- a text that begins with an ASCII byte begins with no mark
no_mark : (s : List ℕ) → get_or s 0 0 < 128 → take 3 s ≡ 0xEF ∷ 0xBB ∷ 0xBF ∷ [] → ⊥
no_mark [] h e = let z : ◌≡◌ {A = ℕ} 0 1 = cc e in omega arith
no_mark (b ∷ s) h e = let z : b ≡ 0xEF = cc e in omega arith

all_pass : (st : Bool) (s : List ℕ) → IsUtf8 s → get_or s 0 0 < 128 → kept st (chars_of s) ≡ chars_of s
all_pass true s u h = refl
all_pass false s u h = unmarked_same (chars_of s) (λ m. no_mark s h (ap (take 3) (sym (text_chars s u)) ∙ m))

-- Scanning s from r gives these events, and ends at a block boundary, with h.
record Scans (r : Reading) (s : List ℕ) (es : List Event) (h : Held) : Type 0 where
  pub out : (scan r s).out ≡ map block.event es
  pub boundary : Boundary (scan r s).state
  pub held : (scan r s).state.text.held ≡ h

-- by the characters
by_chars : (e : LineEnd) (r : Reading) (s : List ℕ) (es : List Event) (h : Held) → IsUtf8 s → get_or s 0 0 < 128 → h.data_buffer ≡ [] → h.type_buffer ≡ [] → Boundary r → Reads e r.text s h (map block.event es) → Scans r s es h
by_chars e r s es h u a d t b c =
    let p = apart s r in
    let q = decodes_to s u r.decoder b.decoder (all_pass r.decoder.started s u a) in
    let o : (run step r.decoder s).out ≡ chars_of s = ap (λ (w : Step State Char). w.out) q in
    let x : (scan r s).state.text ≡ (run see_char r.text (chars_of s)).state = p.text ∙ ap (λ cs. (run see_char r.text cs).state) o in
    let k : (scan r s).state.text.held ≡ h = ap (λ (w : Text). w.held) x ∙ c.held in
    record {
      out = p.out ∙ ap (λ cs. (run see_char r.text cs).out) o ∙ c.out;
      boundary = record {
        decoder = ap (λ (w : State). w.reading) (p.decoder ∙ ap (λ (w : Step State Char). w.state) q);
        line = ap (λ (w : Text). w.line.built) x ∙ ap (λ w. w.built) c.line;
        data_buffer = ap (λ (w : Held). w.data_buffer) k ∙ d;
        type_buffer = ap (λ (w : Held). w.type_buffer) k ∙ t;
      };
      held = k;
    }

abbrev held_after : LineEnd → Held → Sent → Held
held_after e h (event i x) = after_event e h i
held_after e h comment = h
held_after e h (retry n) = with_retry h (min n 3600000)

abbrev held_after_all : LineEnd → Held → List Sent → Held
held_after_all e h [] = h
held_after_all e h (a ∷ rest) = held_after_all e (held_after e h a) rest

one : (e : LineEnd) (a : Sent) (r : Reading) → Lawful a → Boundary r → Scans r (bytes_of e a) (event_in a) (held_after e r.text.held a)
unfolding written comment_line retry_line
one e (event i x) r l b =
    let p = passed x.type x.«data» (sym l.1) in
    by_chars e r (written e i x) (numbered i x ∷ []) (after_event e r.text.held i) (event_utf8 e i x l.0 p) (lit< tt) refl refl b (event_read e r.text i x l.0 p b.line b.data_buffer b.type_buffer)
one e comment r l b = by_chars e r (comment_line e) [] r.text.held (comment_utf8 e) (lit< tt) b.data_buffer b.type_buffer b (comment_read e r.text b.line)
one e (retry n) r l b = by_chars e r (retry_line e n) [] (with_retry r.text.held (min n 3600000)) (retry_utf8 e n l) (lit< tt) b.data_buffer b.type_buffer b (retry_read e r.text n l b.line)

-- one item after another
all : (e : LineEnd) (items : List Sent) (r : Reading) → AllLawful items → Boundary r → Scans r (stream e items) (events_in items) (held_after_all e r.text.held items)
all e [] r l b = record { out = refl; boundary = b; held = refl }
all e (a ∷ rest) r l b =
    let p = one e a r l.0 b in
    let r' = (scan r (bytes_of e a)).state in
    let q = all e rest r' l.1 p.boundary in
    let j : scan r (bytes_of e a ++ stream e rest) ≡ also (scan r (bytes_of e a)).out (scan r' (stream e rest)) = run_append scan_byte (bytes_of e a) (stream e rest) r in
    record {
      out =
          ap (λ (w : Step Reading Outcome). w.out) j
          ∙ ap (λ o. o ++ (scan r' (stream e rest)).out) p.out
          ∙ ap (λ o. map block.event (event_in a) ++ o) q.out
          ∙ sym (map-append block.event (event_in a) (events_in rest));
      boundary = subst (λ (w : Step Reading Outcome). Boundary w.state) (sym j) q.boundary;
      held = ap (λ (w : Step Reading Outcome). w.state.text.held) j ∙ q.held ∙ ap (λ h. held_after_all e h rest) p.held;
    }

-- events and nothing else
only_events : (es : List Event) → (within (map block.event es) ≡ true) × (events_given (map block.event es) ≡ es)
only_events [] = (refl, refl)
only_events (e ∷ es) = let p = only_events es in (p.0, ap (λ t. e ∷ t) p.1)

last_held : (e : LineEnd) (items : List Sent) (h : Held) → ((held_after_all e h items).last_id ≡ last_id_after h.last_id items) × ((held_after_all e h items).retry ≡ retry_after h.retry items)
last_held e [] h = (refl, refl)
last_held e (event i x ∷ rest) h = last_held e rest (after_event e h i)
last_held e (comment ∷ rest) h = last_held e rest h
last_held e (retry n ∷ rest) h = last_held e rest (with_retry h (min n 3600000))

pub what_was_sent_gives_its_events : WhatWasSentGivesItsEvents
what_was_sent_gives_its_events e items l r b =
    let p = all e items r l b in
    let m = last_held e items r.text.held in
    record {
      out = p.out;
      boundary = p.boundary;
      last_id = ap (λ (h : Held). h.last_id) p.held ∙ m.0;
      retry = ap (λ (h : Held). h.retry) p.held ∙ m.1;
    }

module _ {X : Type 0} (refusal : X → Event → ℕ) (after : X → Event → X) where
  pub what_was_sent_is_read : WhatWasSentIsRead refusal after
  what_was_sent_is_read e items l (stopped i t f) x b = absurd b
  what_was_sent_is_read e items l (reading r) x b =
      let es = events_in items in
      let p = what_was_sent_gives_its_events e items l r b in
      let w = only_events es in
      let c : within (scan r (stream e items)).out ≡ true = ap within p.out ∙ w.0 in
      let g : events_given (scan r (stream e items)).out ≡ es = ap events_given p.out ∙ w.1 in
      let k = subst (λ fs. Offered refusal after fs x (scan r (stream e items)).state (reads refusal after (reading r) x (stream e items))) g (a_sink_is_offered_what_bytes_give refusal after (stream e items) r x c) in (
        record {
          sink = k.sink;
          fault = k.fault;
          drained = λ z. record {
            all = all_kept refusal after x es z;
            boundary = subst AtBoundary (sym (k.reader z)) p.boundary;
            last_id = ap reader.last_id_of (k.reader z) ∙ p.last_id;
            retry = ap reader.retry_of (k.reader z) ∙ p.retry;
          };
        },
        k.kept,
      )
