-- The lines that a sender writes, as the reader sees them from the start of a line on: an event, a comment, a reconnection time.
use Rattle.std.proofs.Common.{◌≡◌, ℕ, ◌-◌, ◌^◌, ◌<◌, ◌≤◌, min, Bool, true, false, cond, List, [], ◌∷◌, ◌++◌, length, take, codes, IsUtf8, decimal, sym, refl, ap, ◌∙◌, subst, append_assoc, append-nil, arith, length-append}
use lib.Utf8.{encode}
use Rattle.std.proofs.lemmas.Str.Ascii.{IsAscii-from_reads}
use Rattle.std.proofs.lemmas.Fmt.{IsAscii-decimal, length-decimal-le}
use Rattle.std.proofs.lemmas.Slice.Eq.{bytes_eq-Decides}
use Rattle.std.proofs.lemmas.Str.{IsUtf8-append, IsUtf8-from_ascii, IsUtf8-nil}
use Rattle.std.specs.List.{flat_map}
use Rattle.std.specs.Str.{chars, bytes_eq}
use Rattle.machine.specs.Run.{Step, also, run}
use Rattle.machine.proofs.Laws.{run_append}
use Rattle.numbering.specs.Meaning.{Printed}
use Rattle.numbering.specs.NumeralLaws.{decimal_byte}
use Rattle.events.specs.Checks.{Passed}
use Rattle.events.specs.Entry.{Entry}
use Rattle.events.specs.LineEnd.{end_bytes}
use Rattle.events.specs.declared.line_end.LineEnd.{LineEnd}
use Rattle.events.specs.declared.line_end.LineEnd.TheVariants.{Lf, CrLf, Cr}
use Rattle.fields.specs.Block.{Held, Outcome, event, quietly, typed, block_event, moved, blank_outcome, said}
use Rattle.lines.specs.Line.{Line}
use Rattle.lines.specs.Text.{Text}
use Rattle.reading.proofs.Blanks.{less_one}
use Rattle.writer.specs.Written.{field_line, pieces, id_line, type_line, data_lines, written, comment_line, retry_line}
use Rattle.wire.specs.Scan.{gives, see_char}
use Rattle.wire.specs.Sent.{numbered}
use Rattle.wire.proofs.Chars.{chars_of, chars_append, holds_append}
use Rattle.wire.proofs.Bodies.{ends_in_cr, Ready, ready_none, ready_same, end_read, line_read, still_some}
use Rattle.wire.proofs.Pieces.{lacks, Piece, AllPieces, split, with_lf, pieces_lf}
use Rattle.wire.proofs.Sayings.{with_id, with_type, with_data, with_retry, id_said, type_said, data_said, comment_said, retry_said}

-- behind a line's end
abbrev pub start : LineEnd → Line
start e = record { after_cr = ends_in_cr e; built = [] }

-- Reading s from t gives o, and leads to the start of a line, with h.
pub record Reads (e : LineEnd) (t : Text) (s : List ℕ) (h : Held) (o : List Outcome) : Type 0 where
  pub line : (run see_char t (chars_of s)).state.line ≡ start e
  pub held : (run see_char t (chars_of s)).state.held ≡ h
  pub out : (run see_char t (chars_of s)).out ≡ o

pub utf8_end : (e : LineEnd) → IsUtf8 (end_bytes e)
unfolding encode
utf8_end Lf = (0x0A ∷ [], (refl, refl))
utf8_end CrLf = (0x0D ∷ 0x0A ∷ [], (refl, refl))
utf8_end Cr = (0x0D ∷ [], (refl, refl))

-- what is read in two parts
join : (e : LineEnd) (t : Text) (a b : List ℕ) (h h' : Held) (o o' : List Outcome) → IsUtf8 a → Reads e t a h o → ((u : Text) → u.line ≡ start e → u.held ≡ h → Reads e u b h' o') → Reads e t (a ++ b) h' (o ++ o')
join e t a b h h' o o' v p f =
    let u = run see_char t (chars_of a) in
    let q : run see_char t (chars_of (a ++ b)) ≡ also u.out (run see_char u.state (chars_of b)) = ap (run see_char t) (chars_append a b v) ∙ run_append see_char (chars_of a) (chars_of b) t in
    let r = f u.state p.line p.held in
    record {
      line = ap (λ (w : Step Text Outcome). w.state.line) q ∙ r.line;
      held = ap (λ (w : Step Text Outcome). w.state.held) q ∙ r.held;
      out = ap (λ (w : Step Text Outcome). w.out) q ∙ ap (λ x. x ++ (run see_char u.state (chars_of b)).out) p.out ∙ ap (λ x. o ++ x) r.out;
    }

nothing_read : (e : LineEnd) (t : Text) (h : Held) → t.line ≡ start e → t.held ≡ h → Reads e t [] h []
unfolding chars
nothing_read e t h l k = record { line = l; held = k; out = refl }

-- a line that is not blank, and says something of itself alone
field_read : (e : LineEnd) (t : Text) (b : ℕ) (s : List ℕ) (h : Held) → Piece (b ∷ s) → length (b ∷ s) ≤ 1024 → t.line.built ≡ [] → said t.held (b ∷ s) ≡ quietly h → Reads e t ((b ∷ s) ++ end_bytes e) h []
field_read e t b s h p l n k =
    let q = line_read e t (b ∷ s) p.utf8 p.lf p.cr l n (subst (Ready e) (sym (still_some t.line.after_cr b s p.utf8)) (ready_none e)) in
    record {
      line = ap (λ (w : Step Text Outcome). w.state.line) q;
      held = ap (λ (w : Step Text Outcome). w.state.held) q ∙ ap (λ w. w.held) k;
      out = ap (λ (w : Step Text Outcome). w.out) q ∙ ap (λ w. gives w.outcome) k;
    }

-- a name before a value
named : (n v : List ℕ) → Piece n → Piece v → Piece (n ++ v)
named n v p q = record { utf8 = IsUtf8-append n v p.utf8 q.utf8; lf = holds_append 10 n v p.lf q.lf; cr = holds_append 13 n v p.cr q.cr }

piece_id : Piece (codes "id: ")
unfolding encode
piece_id = record { utf8 = (codes "id: ", (refl, refl)); lf = refl; cr = refl }

piece_event : Piece (codes "event: ")
unfolding encode
piece_event = record { utf8 = (codes "event: ", (refl, refl)); lf = refl; cr = refl }

piece_data : Piece (codes "data: ")
unfolding encode
piece_data = record { utf8 = (codes "data: ", (refl, refl)); lf = refl; cr = refl }

piece_retry : Piece (codes "retry: ")
unfolding encode
piece_retry = record { utf8 = (codes "retry: ", (refl, refl)); lf = refl; cr = refl }

piece_colon : Piece (codes ":")
unfolding encode
piece_colon = record { utf8 = (codes ":", (refl, refl)); lf = refl; cr = refl }

-- bytes from 0x21 to 0x7E
pub printed_piece : (longest : ℕ) (i : List ℕ) → Printed longest i → Piece i
printed_piece longest i p = record {
  utf8 = IsUtf8-from_ascii i (IsAscii-from_reads i (length i) (omega arith) (λ k h. let q = p.each k h in omega arith));
  lf = lacks 10 i (λ k h e. let q = p.each k h in omega arith);
  cr = lacks 13 i (λ k h e. let q = p.each k h in omega arith);
}

module _ (e : LineEnd) where
  id_read : (t : Text) (i : List ℕ) → Printed 32 i → t.line.built ≡ [] → Reads e t (id_line e i) (with_id t.held i) []
  id_read t i p n =
      let nul = lacks 0 i (λ k h z. let q = p.each k h in omega arith) in
      field_read e t 105 _ (with_id t.held i) (named (codes "id: ") i piece_id (printed_piece 32 i p)) (omega (arith, p.most)) n (id_said t.held i p.most nul)

  id_utf8 : (i : List ℕ) → Printed 32 i → IsUtf8 (id_line e i)
  id_utf8 i p = IsUtf8-append (codes "id: " ++ i) (end_bytes e) (named (codes "id: ") i piece_id (printed_piece 32 i p)).utf8 (utf8_end e)

  -- the type buffer that a type line leaves
  abbrev type_left : List ℕ → List ℕ
  type_left type = cond (bytes_eq type (codes "message")) [] type

  type_read : (t : Text) (type : List ℕ) → Piece type → length type ≤ 32 → t.line ≡ start e → t.held.type_buffer ≡ [] → Reads e t (type_line e type) (with_type t.held (type_left type)) []
  type_read t type p l n k = by (bytes_eq type (codes "message"))
    where
      by : (v : Bool) → Reads e t (cond v [] (field_line e (codes "event") type)) (with_type t.held (cond v [] type)) []
      by true = nothing_read e t (with_type t.held []) n (ap (with_type t.held) k)
      by false = field_read e t 101 _ (with_type t.held type) (named (codes "event: ") type piece_event p) (omega arith) (ap (λ x. x.built) n) (type_said t.held type l)

  type_utf8 : (type : List ℕ) → Piece type → IsUtf8 (type_line e type)
  type_utf8 type p = by (bytes_eq type (codes "message"))
    where
      by : (v : Bool) → IsUtf8 (cond v [] (field_line e (codes "event") type))
      by true = IsUtf8-nil
      by false = IsUtf8-append (codes "event: " ++ type) (end_bytes e) (named (codes "event: ") type piece_event p).utf8 (utf8_end e)

  data_line_utf8 : (p : List ℕ) → Piece p → IsUtf8 (field_line e (codes "data") p)
  data_line_utf8 p k = IsUtf8-append (codes "data: " ++ p) (end_bytes e) (named (codes "data: ") p piece_data k).utf8 (utf8_end e)

  data_read : (ps : List (List ℕ)) (t : Text) → AllPieces ps → t.line ≡ start e → length (t.held.data_buffer ++ flat_map with_lf ps) ≤ 513 → Reads e t (flat_map (field_line e (codes "data")) ps) (with_data t.held (t.held.data_buffer ++ flat_map with_lf ps)) []
  data_read [] t a n l = nothing_read e t (with_data t.held (t.held.data_buffer ++ [])) n (ap (with_data t.held) (sym (append-nil t.held.data_buffer)))
  data_read (p ∷ ps) t a n l =
      let d = t.held.data_buffer in
      let h = with_data t.held (d ++ with_lf p) in
      let more = flat_map with_lf ps in
      let same : (d ++ with_lf p) ++ more ≡ d ++ (with_lf p ++ more) = append_assoc d (with_lf p) more in
      let k : length ((d ++ with_lf p) ++ more) ≤ 513 = omega (arith, ap length same) in
      let m : length (d ++ with_lf p) ≤ 513 = omega (arith, length-append (d ++ with_lf p) more) in
      let s : length p ≤ 513 = omega (arith, length-append d (with_lf p), length-append p (0x0A ∷ [])) in
      join e t (field_line e (codes "data") p) (flat_map (field_line e (codes "data")) ps) h (with_data t.held (d ++ (with_lf p ++ more))) [] [] (data_line_utf8 p a.0)
      (field_read e t 100 _ h (named (codes "data: ") p piece_data a.0) (omega arith) (ap (λ x. x.built) n) (data_said t.held p m))
      (λ u nu hu.
      let du : u.held.data_buffer ≡ d ++ with_lf p = ap (λ x. x.data_buffer) hu in
      let ku : length (u.held.data_buffer ++ more) ≤ 513 = omega (arith, ap (λ x. length (x ++ more)) du) in
      let r = data_read ps u a.1 nu ku in
      record { line = r.line; held = r.held ∙ ap (λ x. with_data x (x.data_buffer ++ more)) hu ∙ ap (with_data t.held) same; out = r.out })

  data_utf8 : (ps : List (List ℕ)) → AllPieces ps → IsUtf8 (flat_map (field_line e (codes "data")) ps)
  data_utf8 [] a = IsUtf8-nil
  data_utf8 (p ∷ ps) a = IsUtf8-append _ _ (data_line_utf8 p a.0) (data_utf8 ps a.1)

  blank_read : (t : Text) (h : Held) → t.line ≡ start e → t.held ≡ h → Reads e t (end_bytes e) (moved h) (gives (blank_outcome h h.data_buffer))
  blank_read t h n k =
      let q = end_read e t (subst (Ready e) (sym (ap (λ x. x.after_cr) n)) (ready_same e)) in
      let b : t.line.built ≡ [] = ap (λ x. x.built) n in
      let s : said t.held t.line.built ≡ said h [] = ap (λ x. said x t.line.built) k ∙ ap (said h) b in
      record {
        line = ap (λ (w : Step Text Outcome). w.state.line) q;
        held = ap (λ (w : Step Text Outcome). w.state.held) q ∙ ap (λ x. x.held) s;
        out = ap (λ (w : Step Text Outcome). w.out) q ∙ ap (λ x. gives x.outcome) s;
      }

  -- what an event leaves
  abbrev pub after_event : Held → List ℕ → Held
  after_event h i = record { data_buffer = []; type_buffer = []; id_buffer = i; last_id = i; retry = h.retry }

  -- the type buffer as a type
  typed_left : (type : List ℕ) → 0 < length type → typed (type_left type) ≡ type
  typed_left type some = by (bytes_eq type (codes "message")) refl type some (λ v. (bytes_eq-Decides type (codes "message")).0 v)
    where
      by : (v : Bool) → bytes_eq type (codes "message") ≡ v → (u : List ℕ) → 0 < length u → (bytes_eq type (codes "message") ≡ true → u ≡ codes "message") → typed (cond v [] u) ≡ u
      by true q u l m = sym (m q)
      by false q [] l m = absurd (omega arith)
      by false q (b ∷ u) l m = refl

  gives_event : (h : Held) (i type body : List ℕ) → 0 < length type → gives (blank_outcome (with_data (with_type (with_id h i) (type_left type)) (with_lf body)) (with_lf body)) ≡ event (record { id = i; type = type; «data» = body }) ∷ []
  gives_event h i type body some = by body refl
    where
      block : block_event (with_data (with_type (with_id h i) (type_left type)) (with_lf body)) ≡ record { id = i; type = type; «data» = body }
      block = ap (λ x. record { id = i; type = x; «data» = take (length (with_lf body) - 1) (with_lf body) }) (typed_left type some) ∙ ap (λ x. record { id = i; type = type; «data» = x }) (less_one body)

      by : (b : List ℕ) → b ≡ body → gives (blank_outcome (with_data (with_type (with_id h i) (type_left type)) (with_lf body)) (with_lf b)) ≡ event (record { id = i; type = type; «data» = body }) ∷ []
      by [] q = ap (λ x. event x ∷ []) block
      by (c ∷ b) q = ap (λ x. event x ∷ []) block

  -- data lines and the blank line
  rest_read : (t : Text) (h : Held) (i : List ℕ) (x : Entry) → Passed x.type x.«data» → t.line ≡ start e → t.held ≡ with_type (with_id h i) (type_left x.type) → h.data_buffer ≡ [] → Reads e t (data_lines e x.«data» ++ end_bytes e) (after_event h i) (event (numbered i x) ∷ [])
  rest_read t h i x p n k d =
      let body = x.«data» in
      let s = split body p.data_text p.data_cr in
      let each : AllPieces (pieces body) = subst AllPieces (sym s.pieces) s.each in
      let before : t.held.data_buffer ≡ [] = ap (λ w. w.data_buffer) k ∙ d in
      let buffer : t.held.data_buffer ++ flat_map with_lf (pieces body) ≡ with_lf body = ap (λ w. w ++ flat_map with_lf (pieces body)) before ∙ pieces_lf body in
      let full = with_data (with_type (with_id h i) (type_left x.type)) (with_lf body) in
      let same : with_data t.held (t.held.data_buffer ++ flat_map with_lf (pieces body)) ≡ full = ap (with_data t.held) buffer ∙ ap (λ w. with_data w (with_lf body)) k in
      let m : length (t.held.data_buffer ++ flat_map with_lf (pieces body)) ≤ 513 = omega (arith, ap length buffer, length-append body (0x0A ∷ []), p.data_most) in
      join e t (data_lines e body) (end_bytes e) full (after_event h i) [] (event (numbered i x) ∷ []) (data_utf8 (pieces body) each)
      (let r = data_read (pieces body) t each n m in record { line = r.line; held = r.held ∙ same; out = r.out })
      (λ u nu hu. let r = blank_read u full nu hu in record { line = r.line; held = r.held; out = r.out ∙ gives_event h i x.type body p.type_some })

  type_piece : (x : Entry) → Passed x.type x.«data» → Piece x.type
  type_piece x p = record { utf8 = p.type_text; lf = p.type_lf; cr = p.type_cr }

  -- An event, from where a block may begin.
  pub event_read : (t : Text) (i : List ℕ) (x : Entry) → Printed 32 i → Passed x.type x.«data» → t.line.built ≡ [] → t.held.data_buffer ≡ [] → t.held.type_buffer ≡ [] → Reads e t (written e i x) (after_event t.held i) (event (numbered i x) ∷ [])
  unfolding written
  event_read t i x q p n d k =
      join e t (id_line e i) _ (with_id t.held i) (after_event t.held i) [] _ (id_utf8 i q) (id_read t i q n)
      (λ u nu hu.
      let ku : u.held.type_buffer ≡ [] = ap (λ w. w.type_buffer) hu ∙ k in
      let r = type_read u x.type (type_piece x p) p.type_most nu ku in
      join e u (type_line e x.type) _ (with_type (with_id t.held i) (type_left x.type)) (after_event t.held i) [] _ (type_utf8 x.type (type_piece x p))
      (record { line = r.line; held = r.held ∙ ap (λ w. with_type w (type_left x.type)) hu; out = r.out })
      (λ v nv hv. rest_read v t.held i x p nv hv d))

  pub event_utf8 : (i : List ℕ) (x : Entry) → Printed 32 i → Passed x.type x.«data» → IsUtf8 (written e i x)
  unfolding written
  event_utf8 i x q p =
      let s = split x.«data» p.data_text p.data_cr in
      IsUtf8-append _ _ (id_utf8 i q) (IsUtf8-append _ _ (type_utf8 x.type (type_piece x p)) (IsUtf8-append _ _ (data_utf8 (pieces x.«data») (subst AllPieces (sym s.pieces) s.each)) (utf8_end e)))

  pub comment_read : (t : Text) → t.line.built ≡ [] → Reads e t (comment_line e) t.held []
  unfolding comment_line
  comment_read t n = field_read e t 58 [] t.held piece_colon (omega arith) n (comment_said t.held)

  pub comment_utf8 : IsUtf8 (comment_line e)
  unfolding comment_line
  comment_utf8 = IsUtf8-append (codes ":") (end_bytes e) piece_colon.utf8 (utf8_end e)

  decimal_piece : (m : ℕ) → m < 2 ^ 64 → Piece (decimal m)
  decimal_piece m h = record {
    utf8 = IsUtf8-from_ascii (decimal m) (IsAscii-decimal m h);
    lf = lacks 10 (decimal m) (λ k l z. let d = decimal_byte m k h l in omega arith);
    cr = lacks 13 (decimal m) (λ k l z. let d = decimal_byte m k h l in omega arith);
  }

  pub retry_read : (t : Text) (m : ℕ) → m < 2 ^ 64 → t.line.built ≡ [] → Reads e t (retry_line e m) (with_retry t.held (min m 3600000)) []
  unfolding retry_line
  retry_read t m h n =
      let small : m < 10 ^ 20 = omega arith in
      field_read e t 114 _ (with_retry t.held (min m 3600000)) (named (codes "retry: ") (decimal m) piece_retry (decimal_piece m h)) (omega (arith, length-decimal-le 20 m (omega arith) small h)) n (retry_said t.held m h)

  pub retry_utf8 : (m : ℕ) → m < 2 ^ 64 → IsUtf8 (retry_line e m)
  unfolding retry_line
  retry_utf8 m h = IsUtf8-append (codes "retry: " ++ decimal m) (end_bytes e) (named (codes "retry: ") (decimal m) piece_retry (decimal_piece m h)).utf8 (utf8_end e)
