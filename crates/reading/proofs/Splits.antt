-- Lines, character by character: the machine that builds them gives the lines of the whole text.
use Rattle.std.proofs.Common.{◌≡◌, ℕ, zero, ◌<◌, ◌≤◌, Bool, true, false, cond, leb, List, [], ◌∷◌, ◌++◌, length, sym, refl, ap, ◌∙◌, append-nil}
use Rattle.std.proofs.lemmas.Bool.{leb-true, leb-false}
use Rattle.machine.specs.Run.{Step, run}
use Rattle.machine.proofs.Laws.{run_append}
use Rattle.decoder.specs.Standard.{Char}
use Rattle.lines.specs.Line.{Line, no_line, is_lf, is_cr, Turn, goes_on, ended, too_long, at_lf, turn}
use Rattle.reading.specs.Lines.{within, ends, feeds, lines_after, lines, rest_after, unfinished}

-- one character, whatever the line's length
abbrev pub fed : Bool → List ℕ → Step Line (List ℕ)
fed true built = record { state = record { after_cr = false; built = built }; out = [] }
fed false built = record { state = no_line; out = built ∷ [] }

abbrev pub other : Char → List ℕ → Bool → Step Line (List ℕ)
other c built v = cond v (record { state = record { after_cr = true; built = [] }; out = built ∷ [] }) (record { state = record { after_cr = false; built = built ++ c }; out = [] })

abbrev pub split : Line → Char → Step Line (List ℕ)
split l c = cond (is_lf c) (fed l.after_cr l.built) (other c l.built (is_cr c))

abbrev at : Bool → List ℕ → Line
at cr built = record { after_cr = cr; built = built }

abbrev skips : Bool → List Char → ℕ
skips true cs = feeds cs
skips false cs = 0

-- what a step comes to with the rest of the text
abbrev outs : List Char → Step Line (List ℕ) → List (List ℕ)
outs cs t = t.out ++ (run split t.state cs).out

abbrev left : List Char → Step Line (List ℕ) → List ℕ
left cs t = (run split t.state cs).state.built

pub record Agrees (cs : List Char) (cr : Bool) (built : List ℕ) : Type 0 where
  pub out : (run split (at cr built) cs).out ≡ lines_after (skips cr cs) built cs
  pub rest : (run split (at cr built) cs).state.built ≡ rest_after (skips cr cs) built cs

abbrev Agree : List Char → Type 0
Agree cs = (cr : Bool) (built : List ℕ) → Agrees cs cr built

plain_out : (c : Char) (cs : List Char) (built : List ℕ) → Agree cs → (run split (at false built) (c ∷ cs)).out ≡ lines_after 0 built (c ∷ cs)
plain_out c cs built ih = by (is_lf c) (is_cr c)
  where
    by : (v w : Bool) → outs cs (cond v (fed false built) (other c built w)) ≡ elim (cond v (ends 0) (cond w (ends (feeds cs)) within)) [ within ↦ lines_after zero (built ++ c) cs | ends n ↦ built ∷ lines_after n [] cs ]
    by true w = ap (λ ls. built ∷ ls) (ih false []).out
    by false true = ap (λ ls. built ∷ ls) (ih true []).out
    by false false = (ih false (built ++ c)).out

plain_rest : (c : Char) (cs : List Char) (built : List ℕ) → Agree cs → (run split (at false built) (c ∷ cs)).state.built ≡ rest_after 0 built (c ∷ cs)
plain_rest c cs built ih = by (is_lf c) (is_cr c)
  where
    by : (v w : Bool) → left cs (cond v (fed false built) (other c built w)) ≡ elim (cond v (ends 0) (cond w (ends (feeds cs)) within)) [ within ↦ rest_after zero (built ++ c) cs | ends n ↦ rest_after n [] cs ]
    by true w = (ih false []).rest
    by false true = (ih true []).rest
    by false false = (ih false (built ++ c)).rest

agree : (cs : List Char) → Agree cs
agree [] true built = record { out = refl; rest = refl }
agree [] false built = record { out = refl; rest = refl }
agree (c ∷ cs) false built = record { out = plain_out c cs built (agree cs); rest = plain_rest c cs built (agree cs) }
agree (c ∷ cs) true built = record { out = by_out (agree cs) (is_lf c) refl; rest = by_rest (agree cs) (is_lf c) refl }
  where
    by_out : Agree cs → (v : Bool) → is_lf c ≡ v → outs cs (cond v (fed true built) (other c built (is_cr c))) ≡ lines_after (cond v 1 0) built (c ∷ cs)
    by_out ih true e = (ih false built).out
    by_out ih false e = ap (λ v. outs cs (cond v (fed false built) (other c built (is_cr c)))) (sym e) ∙ plain_out c cs built ih

    by_rest : Agree cs → (v : Bool) → is_lf c ≡ v → left cs (cond v (fed true built) (other c built (is_cr c))) ≡ rest_after (cond v 1 0) built (c ∷ cs)
    by_rest ih true e = (ih false built).rest
    by_rest ih false e = ap (λ v. left cs (cond v (fed false built) (other c built (is_cr c)))) (sym e) ∙ plain_rest c cs built ih

-- the line that is being built after a text
abbrev pub line_after : List Char → Line
line_after cs = (run split no_line cs).state

pub lines_run : (cs : List Char) → (run split no_line cs).out ≡ lines cs
lines_run cs = (agree cs false []).out

pub built_is_unfinished : (cs : List Char) → (line_after cs).built ≡ unfinished cs
built_is_unfinished cs = (agree cs false []).rest

-- one character more
pub record Grows (cs : List Char) (c : Char) (t : Step Line (List ℕ)) : Type 0 where
  pub line : line_after (cs ++ c ∷ []) ≡ t.state
  pub lines : lines (cs ++ c ∷ []) ≡ lines cs ++ t.out
  pub rest : unfinished (cs ++ c ∷ []) ≡ t.state.built

pub grows : (cs : List Char) (c : Char) → Grows cs c (split (line_after cs) c)
grows cs c =
    let q = run_append split cs (c ∷ []) no_line in
    let e : line_after (cs ++ c ∷ []) ≡ (split (line_after cs) c).state = ap (λ t. t.state) q in
    record {
      line = e;
      lines = sym (lines_run (cs ++ c ∷ [])) ∙ ap (λ t. t.out) q ∙ ap (λ ls. (run split no_line cs).out ++ ls) (append-nil (split (line_after cs) c).out) ∙ ap (λ ls. ls ++ (split (line_after cs) c).out) (lines_run cs);
      rest = sym (built_is_unfinished (cs ++ c ∷ [])) ∙ ap (λ l. l.built) e;
    }

-- What a turn of the line with its limit tells of the step without one.
abbrev pub Told : Line → Char → Turn → Type 0
Told l c (goes_on l') = (split l c ≡ record { state = l'; out = [] }) × (length l.built ≤ 1024 → length l'.built ≤ 1024)
Told l c (ended l' s) = (split l c ≡ record { state = l'; out = s ∷ [] }) × (s ≡ l.built) × (l'.built ≡ [])
Told l c too_long = (split l c ≡ record { state = record { after_cr = false; built = l.built ++ c }; out = [] }) × (1024 < length (l.built ++ c))

abbrev grown : Line → Char → Step Line (List ℕ)
grown l c = record { state = record { after_cr = false; built = l.built ++ c }; out = [] }

pub told : (l : Line) (c : Char) → Told l c (turn l c)
told l c = by (is_lf c) refl l.after_cr refl (is_cr c) refl (leb (length (l.built ++ c)) 1024) refl
  where
    by : (v : Bool) → is_lf c ≡ v → (a : Bool) → l.after_cr ≡ a → (w : Bool) → is_cr c ≡ w → (k : Bool) → leb (length (l.built ++ c)) 1024 ≡ k → Told l c (cond v (at_lf a l.built) (cond w (ended (record { after_cr = true; built = [] }) l.built) (cond k (goes_on (record { after_cr = false; built = l.built ++ c })) too_long)))
    by true ev true ea w ew k ek = (ap (λ v. cond v (fed l.after_cr l.built) (other c l.built (is_cr c))) ev ∙ ap (λ a. fed a l.built) ea, λ h. h)
    by true ev false ea w ew k ek = (ap (λ v. cond v (fed l.after_cr l.built) (other c l.built (is_cr c))) ev ∙ ap (λ a. fed a l.built) ea, refl, refl)
    by false ev a ea true ew k ek = (ap (λ v. cond v (fed l.after_cr l.built) (other c l.built (is_cr c))) ev ∙ ap (other c l.built) ew, refl, refl)
    by false ev a ea false ew true ek = (ap (λ v. cond v (fed l.after_cr l.built) (other c l.built (is_cr c))) ev ∙ ap (other c l.built) ew, λ h. leb-true (length (l.built ++ c)) 1024 ek)
    by false ev a ea false ew false ek = (ap (λ v. cond v (fed l.after_cr l.built) (other c l.built (is_cr c))) ev ∙ ap (other c l.built) ew, leb-false (length (l.built ++ c)) 1024 ek)
