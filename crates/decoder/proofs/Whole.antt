-- What the machine gives is what the standard says of the whole stream.
use Rattle.std.proofs.Common.{◌≡◌, ℕ, zero, suc, Bool, true, false, cond, List, [], ◌∷◌, ◌++◌, take, drop, sym, refl, ap, ◌∙◌, append_assoc, append-nil}
use Rattle.std.proofs.lemmas.Grind.{flat_map-append}
use Rattle.decoder.specs.Standard.{Range, lies, Lead, lead, stray, lead_of, Char, replacement, is_mark, unmarked, Found, whole, broken, short, further, look, look_from, chars_after, chars, text, decoded}
use Rattle.machine.specs.Run.{Step, also, run}
use Rattle.decoder.specs.Machine.{Reading, between, wanting, begun, advance, State, fresh, kept, moved, step, reads}

-- The characters that the machine gives, marks and all.
abbrev given : Reading → List ℕ → List Char
given q s = (run advance q s).out

-- Inside a character the machine finds what `look` finds.
abbrev told : List ℕ → List ℕ → Found → List Char
told seen s (whole n) = (seen ++ take n s) ∷ given between (drop n s)
told seen s (broken n) = replacement ∷ given between (drop n s)
told seen s short = []

abbrev goes : List ℕ → List Range → List ℕ → List Char
goes seen rs s = (wanting seen rs).out ++ given (wanting seen rs).state s

shifted : (seen : List ℕ) (b : ℕ) (s : List ℕ) (f : Found) → told (seen ++ b ∷ []) s f ≡ told seen (b ∷ s) (further f)
shifted seen b s (whole n) = ap (λ c. c ∷ given between (drop n s)) (append_assoc seen (b ∷ []) (take n s))
shifted seen b s (broken n) = refl
shifted seen b s short = refl

goes_on : (s : List ℕ) (seen : List ℕ) (rs : List Range) → goes seen rs s ≡ told seen s (look rs s)
goes_on s seen [] = ap (λ c. c ∷ given between s) (sym (append-nil seen))
goes_on [] seen (r ∷ rs) = refl
goes_on (b ∷ s) seen (r ∷ rs) = by (goes_on s (seen ++ b ∷ []) rs) (lies r b)
  where
    by : goes (seen ++ b ∷ []) rs s ≡ told (seen ++ b ∷ []) s (look rs s) → (v : Bool) → (let t = cond v (wanting (seen ++ b ∷ []) rs) (also (replacement ∷ []) (begun (lead_of b) b)) in t.out ++ given t.state s) ≡ told seen (b ∷ s) (cond v (further (look rs s)) (broken 0))
    by ih true = ih ∙ shifted seen b s (look rs s)
    by ih false = refl

begins : (s : List ℕ) (b : ℕ) (l : Lead) → (begun l b).out ++ given (begun l b).state s ≡ told (b ∷ []) s (look_from l s)
begins s b (lead rs) = goes_on s (b ∷ []) rs
begins s b stray = refl

agree : (s : List ℕ) (skip : ℕ) → given between (drop skip s) ≡ chars_after skip s
agree [] zero = refl
agree [] (suc k) = refl
agree (b ∷ s) (suc k) = agree s k
agree (b ∷ s) zero =
    begins s b (lead_of b)
    ∙ elim (look_from (lead_of b) s) as (λ f. told (b ∷ []) s f ≡ elim f [ whole n ↦ (b ∷ take n s) ∷ chars_after n s | broken n ↦ replacement ∷ chars_after n s | short ↦ [] ]) [
      | whole n ↦ ap (λ cs. (b ∷ take n s) ∷ cs) (agree s n)
      | broken n ↦ ap (λ cs. replacement ∷ cs) (agree s n)
      | short ↦ refl
    ]

-- The mark is dropped once, whichever step gives the first character.
marks : (st : Bool) (cs ds : List Char) → kept st (cs ++ ds) ≡ kept st cs ++ kept (moved st cs) ds
marks true cs ds = refl
marks false [] ds = refl
marks false (c ∷ cs) ds = by (is_mark c)
  where
    by : (v : Bool) → cond v (cs ++ ds) (c ∷ (cs ++ ds)) ≡ cond v cs (c ∷ cs) ++ ds
    by true = refl
    by false = refl

kept_nothing : (st : Bool) → [] ≡ kept st []
kept_nothing true = refl
kept_nothing false = refl

moved_on : (st : Bool) (cs ds : List Char) → moved st (cs ++ ds) ≡ moved (moved st cs) ds
moved_on true cs ds = refl
moved_on false [] ds = refl
moved_on false (c ∷ cs) ds = refl

-- the machine that drops a mark, by the one that does not
abbrev pub marked : Bool → Step Reading Char → Step State Char
marked st t = record { state = record { started = moved st t.out; reading = t.state }; out = kept st t.out }

nothing_marked : (st : Bool) (q : Reading) → record { state = record { started = st; reading = q }; out = [] } ≡ marked st (record { state = q; out = [] })
nothing_marked true q = refl
nothing_marked false q = refl

pub marked_runs : (s : List ℕ) (st : State) → run step st s ≡ marked st.started (run advance st.reading s)
marked_runs [] st = nothing_marked st.started st.reading
marked_runs (b ∷ s) st =
    let t = advance st.reading b in
    let u = run advance t.state s in
    ap (also (kept st.started t.out)) (marked_runs s (step st b).state)
    ∙ ap (λ m. record { state = record { started = m; reading = u.state }; out = kept st.started t.out ++ kept (moved st.started t.out) u.out }) (sym (moved_on st.started t.out u.out))
    ∙ ap (λ o. record { state = record { started = moved st.started (t.out ++ u.out); reading = u.state }; out = o }) (sym (marks st.started t.out u.out))

runs : (s : List ℕ) (st : State) → (run step st s).out ≡ kept st.started (given st.reading s)
runs s st = ap (λ t. t.out) (marked_runs s st)

pub chars_so_far : (s : List ℕ) → (run step fresh s).out ≡ chars s
chars_so_far s = runs s fresh ∙ ap unmarked (agree s 0)

texts : (s : List ℕ) (st : State) → (run reads st s).out ≡ text (run step st s).out
texts [] st = refl
texts (b ∷ s) st = ap (λ t. text (step st b).out ++ t) (texts s (step st b).state) ∙ sym (flat_map-append (λ (c : Char). c) (step st b).out (run step (step st b).state s).out)

pub text_so_far : (s : List ℕ) → (run reads fresh s).out ≡ decoded s
text_so_far s = texts s fresh ∙ ap text (chars_so_far s)
