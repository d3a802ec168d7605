-- A byte behind a text.
use Rattle.std.proofs.Common.{◌≡◌, ℕ, ◌+◌, ◌<◌, ◌≤◌, List, [], ◌∷◌, ◌++◌, length, get_or, take, drop, set, sym, refl, ap, ◌∙◌, arith}
use Rattle.std.proofs.lemmas.List.{append_assoc, drop_more, drop-append-le, take-append-drop, set_at, length-take-le}

-- a byte behind a text that was put into all but the last place
pub behind : (d out : List ℕ) (y k : ℕ) → length d ≤ k → k < length out → set ((d ++ drop (length d) (take k out)) ++ drop k out) (length d) y ≡ (d ++ y ∷ []) ++ drop (length d + 1) out
behind d out y k h l =
    let n : length (take k out) ≡ k = length-take-le k out (omega arith) in
    ap (λ s. set s (length d) y)
    (append_assoc d (drop (length d) (take k out)) (drop k out)
    ∙ ap (λ s. d ++ s) (sym (drop-append-le (length d) (take k out) (drop k out) (omega arith)) ∙ ap (drop (length d)) (take-append-drop k out) ∙ drop_more out (length d) 0 (omega arith)))
    ∙ set_at d (get_or out (length d) 0) (drop (length d + 1) out) y (length d) refl
    ∙ sym (append_assoc d (y ∷ []) (drop (length d + 1) out))
