-- Lines as the reader sees them, character by character: the line's body, and its end.
use Rattle.std.proofs.Common.{◌≡◌, ℕ, ◌≤◌, Bool, true, false, cond, List, [], ◌∷◌, ◌++◌, length, IsUtf8, sym, refl, ap, ◌∙◌, append_assoc, append-nil, arith, length-append}
use lib.Utf8.{encode}
use Rattle.std.proofs.lemmas.Bool.{le-leb}
use Rattle.std.specs.Str.{chars}
use Rattle.machine.specs.Run.{Step, also, run}
use Rattle.machine.proofs.Laws.{run_append}
use Rattle.events.specs.Checks.{holds}
use Rattle.events.specs.LineEnd.{end_bytes}
use Rattle.events.specs.declared.line_end.LineEnd.{LineEnd}
use Rattle.events.specs.declared.line_end.LineEnd.TheVariants.{Lf, CrLf, Cr}
use Rattle.decoder.specs.Standard.{Char, text}
use Rattle.fields.specs.Block.{Outcome, said}
use Rattle.lines.specs.Line.{Line, is_cr, goes_on, ended, too_long, at_lf, longer, turn}
use Rattle.lines.specs.Text.{Text, counted, turned}
use Rattle.wire.specs.Scan.{gives, see_char}
use Rattle.wire.proofs.Chars.{chars_of, chars_append, text_chars, holds_parts, not_alone}

-- whether a CR came last, after these characters of a line
abbrev pub still : Bool → List Char → Bool
still cr [] = cr
still cr (c ∷ cs) = false

abbrev grown : Text → Bool → List ℕ → Text
grown t cr built = record { line = record { after_cr = cr; built = built }; number = t.number; held = t.held }

plain_turn : (l : Line) (c : Char) → holds 10 c ≡ false → holds 13 c ≡ false → length (l.built ++ c) ≤ 1024 → turn l c ≡ goes_on (record { after_cr = false; built = l.built ++ c })
plain_turn l c lf cr h =
    ap (λ v. cond v (at_lf l.after_cr l.built) (cond (is_cr c) (ended (record { after_cr = true; built = [] }) l.built) (longer l c))) (not_alone 10 c lf)
    ∙ ap (λ v. cond v (ended (record { after_cr = true; built = [] }) l.built) (longer l c)) (not_alone 13 c cr)
    ∙ ap (λ v. cond v (goes_on (record { after_cr = false; built = l.built ++ c })) too_long) (le-leb (length (l.built ++ c)) 1024 h)

still_none : (cs : List Char) → still false cs ≡ false
still_none [] = refl
still_none (c ∷ cs) = refl

body : (cs : List Char) (t : Text) → holds 10 (text cs) ≡ false → holds 13 (text cs) ≡ false → length (t.line.built ++ text cs) ≤ 1024 → run see_char t cs ≡ record { state = grown t (still t.line.after_cr cs) (t.line.built ++ text cs); out = [] }
body [] t lf cr h = ap (λ l. record { state = grown t t.line.after_cr l; out = [] }) (sym (append-nil t.line.built))
body (c ∷ cs) t lf cr h =
    let p = holds_parts 10 c (text cs) lf in
    let q = holds_parts 13 c (text cs) cr in
    let l = t.line.built in
    let n : length ((l ++ c) ++ text cs) ≡ length (l ++ (c ++ text cs)) = ap length (append_assoc l c (text cs)) in
    let k : length (l ++ c) ≤ 1024 = omega (arith, length-append (l ++ c) (text cs)) in
    ap (λ u. also (gives (turned t u).outcome) (run see_char (turned t u).text cs)) (plain_turn t.line c p.0 q.0 k)
    ∙ ap (also []) (body cs (grown t false (l ++ c)) p.1 q.1 (omega arith))
    ∙ ap (λ v. record { state = grown t v ((l ++ c) ++ text cs); out = [] }) (still_none cs)
    ∙ ap (λ b. record { state = grown t false b; out = [] }) (append_assoc l c (text cs))

-- whether a line's end leaves a CR last
abbrev pub ends_in_cr : LineEnd → Bool
ends_in_cr Lf = false
ends_in_cr CrLf = false
ends_in_cr Cr = true

-- After a CR an LF ends no line.
abbrev pub Ready : LineEnd → Bool → Type 0
Ready Lf cr = cr ≡ false
Ready CrLf cr = Unit {0}
Ready Cr cr = Unit {0}

pub ready_none : (e : LineEnd) → Ready e false
ready_none Lf = refl
ready_none CrLf = tt
ready_none Cr = tt

pub ready_same : (e : LineEnd) → Ready e (ends_in_cr e)
ready_same Lf = refl
ready_same CrLf = tt
ready_same Cr = tt

-- the text after the line s has ended
abbrev pub after : LineEnd → Text → List ℕ → Text
after e t s = record { line = record { after_cr = ends_in_cr e; built = [] }; number = counted t.number; held = (said t.held s).held }

pub end_read : (e : LineEnd) (t : Text) → Ready e t.line.after_cr → run see_char t (chars_of (end_bytes e)) ≡ record { state = after e t t.line.built; out = gives (said t.held t.line.built).outcome }
unfolding chars encode
end_read Lf t h =
    ap (λ v. let u = turned t (at_lf v t.line.built) in record { state = u.text; out = gives u.outcome ++ [] }) h
    ∙ ap (λ o. record { state = after Lf t t.line.built; out = o }) (append-nil (gives (said t.held t.line.built).outcome))
end_read CrLf t h = ap (λ o. record { state = after CrLf t t.line.built; out = o }) (append-nil (gives (said t.held t.line.built).outcome))
end_read Cr t h = ap (λ o. record { state = after Cr t t.line.built; out = o }) (append-nil (gives (said t.held t.line.built).outcome))

-- A line without CR and LF, of 1,024 bytes at most, and its end.
pub line_read : (e : LineEnd) (t : Text) (s : List ℕ) → IsUtf8 s → holds 10 s ≡ false → holds 13 s ≡ false → length s ≤ 1024 → t.line.built ≡ [] → Ready e (still t.line.after_cr (chars_of s)) → run see_char t (chars_of (s ++ end_bytes e)) ≡ record { state = after e t s; out = gives (said t.held s).outcome }
line_read e t s u lf cr h b ready =
    let cs = chars_of s in
    let x : t.line.built ++ text cs ≡ s = ap (λ l. l ++ text cs) b ∙ text_chars s u in
    let lf' : holds 10 (text cs) ≡ false = ap (holds 10) (text_chars s u) ∙ lf in
    let cr' : holds 13 (text cs) ≡ false = ap (holds 13) (text_chars s u) ∙ cr in
    let w : Text = grown t (still t.line.after_cr cs) s in
    let q : run see_char t cs ≡ record { state = w; out = [] } = body cs t lf' cr' (omega (arith, ap length x)) ∙ ap (λ l. record { state = grown t (still t.line.after_cr cs) l; out = [] }) x in
    ap (run see_char t) (chars_append s (end_bytes e) u)
    ∙ run_append see_char cs (chars_of (end_bytes e)) t
    ∙ ap (λ (v : Step Text Outcome). also v.out (run see_char v.state (chars_of (end_bytes e)))) q
    ∙ end_read e w ready

-- a line with some bytes has some characters
pub still_some : (cr : Bool) (b : ℕ) (s : List ℕ) → IsUtf8 (b ∷ s) → still cr (chars_of (b ∷ s)) ≡ false
still_some cr b s u = by (chars_of (b ∷ s)) (text_chars (b ∷ s) u)
  where
    by : (cs : List Char) → text cs ≡ b ∷ s → still cr cs ≡ false
    by [] e = let z : ◌≡◌ {A = ℕ} 0 1 = cc e in absurd (omega arith)
    by (c ∷ cs) e = refl
