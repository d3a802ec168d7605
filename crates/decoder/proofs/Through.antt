-- Well-formed text goes through the machine as its characters, from between two characters to between two characters.
use Rattle.std.proofs.Common.{◌≡◌, ℕ, true, cond, List, [], ◌∷◌, ◌++◌, map, sym, refl, ap, ◌∙◌, append_assoc, append-nil}
use lib.Utf8.{scalar, scalars, encode, encodes, scalar_cases}
use Rattle.std.proofs.lemmas.Bool.{and_parts}
use Rattle.machine.specs.Run.{Step, also, run}
use Rattle.machine.proofs.Laws.{run_append}
use Rattle.decoder.specs.Standard.{Range, lead_of, Char, replacement}
use Rattle.decoder.specs.Machine.{Reading, between, wanting, begun, advance, State, kept, moved, step}
use Rattle.decoder.specs.Relation.{Fits, none, one}
use Rattle.decoder.proofs.Kept.{Whole, whole, encode_whole}
use Rattle.decoder.proofs.Whole.{marked, marked_runs}

abbrev goes : List ℕ → List Range → List ℕ → Step Reading Char
goes seen rs s = also (wanting seen rs).out (run advance (wanting seen rs).state s)

finishes : {rs : List Range} {fs : List ℕ} (seen : List ℕ) → Fits rs fs → goes seen rs fs ≡ record { state = between; out = (seen ++ fs) ∷ [] }
finishes seen none = ap (λ c. record { state = between; out = c ∷ [] }) (sym (append-nil seen))
finishes seen (one {r} {rs} {b} {s} e h) =
    ap (λ v. let t = cond v (wanting (seen ++ b ∷ []) rs) (also (replacement ∷ []) (begun (lead_of b) b)) in also t.out (run advance t.state s)) e
    ∙ finishes (seen ++ b ∷ []) h
    ∙ ap (λ c. record { state = between; out = c ∷ [] }) (append_assoc seen (b ∷ []) s)

one_through : (x : List ℕ) → Whole x → run advance between x ≡ record { state = between; out = x ∷ [] }
one_through x (whole {b} {rs} {fs} l h) =
    ap (λ k. also (begun k b).out (run advance (begun k b).state fs)) l ∙ finishes (b ∷ []) h

advances : (cs : List ℕ) → scalars cs ≡ true → run advance between (encodes cs) ≡ record { state = between; out = map encode cs }
advances [] e = refl
advances (c ∷ cs) e =
    let p = and_parts (scalar c) (scalars cs) e in
    run_append advance (encode c) (encodes cs) between
    ∙ ap (λ t. also t.out (run advance t.state (encodes cs))) (one_through (encode c) (encode_whole c (scalar_cases c p.0)))
    ∙ ap (also (encode c ∷ [])) (advances cs p.1)

-- From between two characters, where no mark is dropped: its characters come out, and the machine is between two characters again.
pub goes_through : (cs : List ℕ) → scalars cs ≡ true → (st : State) → st.reading ≡ between → kept st.started (map encode cs) ≡ map encode cs → run step st (encodes cs) ≡ record { state = record { started = moved st.started (map encode cs); reading = between }; out = map encode cs }
goes_through cs e st b k =
    marked_runs (encodes cs) st
    ∙ ap (λ q. marked st.started (run advance q (encodes cs))) b
    ∙ ap (marked st.started) (advances cs e)
    ∙ ap (λ o. record { state = record { started = moved st.started (map encode cs); reading = between }; out = o }) k
