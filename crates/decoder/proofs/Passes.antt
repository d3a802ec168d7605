-- A byte that passes as it stands gives itself, and leaves the decoder as it is.
use Rattle.std.proofs.Common.{◌≡◌, ℕ, Bool, true, false, [], ◌∷◌, ap}
use Rattle.std.proofs.lemmas.Bool.{eqb-true, false≢true}
use Rattle.decoder.specs.Standard.{width_of, led}
use Rattle.decoder.specs.Machine.{Reading, between, inside, begun, kept, moved, State, step, passes}

pub gives_itself : (st : State) (b : ℕ) → passes st b ≡ true → step st b ≡ record { state = st; out = (b ∷ []) ∷ [] }
gives_itself st b h = by st.started st.reading h
  where
    by : (v : Bool) (q : Reading) → passes (record { started = v; reading = q }) b ≡ true → step (record { started = v; reading = q }) b ≡ record { state = record { started = v; reading = q }; out = (b ∷ []) ∷ [] }
    by true between e =
        let w : width_of b ≡ 1 = eqb-true (width_of b) 1 e in
        ap (λ n. (let t = begun (led n b) b in record { state = record { started = moved true t.out; reading = t.state }; out = kept true t.out })) w
    by true (inside seen r rs) e = absurd (false≢true e)
    by false q e = absurd (false≢true e)
