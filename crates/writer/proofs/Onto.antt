-- Writing onto a view: what one copy does, and that writing in bits is writing their whole.
use Rattle.std.proofs.Common.{◌≡◌, ℕ, ◌+◌, ◌-◌, min, List, [], ◌++◌, length, take, drop, sym, refl, ap, ◌∙◌, ap₂, subst, arith}
use borrow.Rule.Slice.PartMut.{put_mid}
use Rattle.std.proofs.Math.Seq.{drop-nil}
use Rattle.std.proofs.lemmas.List.{places, same_lists, take_min, drop_min, append_assoc, append-nil, drop-drop, length-append, length-drop, length-take, take_all, take-append-drop}
use Rattle.std.proofs.lemmas.Slice.{drop-put_mid, take-put_mid}
use Rattle.writer.specs.Filled.{count_of, filled}
use Rattle.writer.specs.Views.{View, view_of, begun, onto, Puts}
use Rattle.writer.specs.declared.window.Window.{Window}

take_append : (n : ℕ) (a b : List ℕ) → take n (a ++ b) ≡ take n a ++ take (n - length a) b
take_append n a b = same_lists _ _ (simp (length-take, length-append) (omega arith)) (λ k d h. grind (arith, places))

drop_append : (n : ℕ) (a b : List ℕ) → drop n (a ++ b) ≡ drop n a ++ drop (n - length a) b
drop_append n a b = same_lists _ _ (simp (length-drop, length-append) (omega arith)) (λ k d h. grind (arith, places))

same_view : (s s' : ℕ) (d d' r r' : List ℕ) → s ≡ s' → d ≡ d' → r ≡ r' → ◌≡◌ {A = View} (record { skip = s; done = d; rest = r }) (record { skip = s'; done = d'; rest = r' })
same_view s s' d d' r r' p q t = cc

-- one copy of n bytes, from byte `from` of the bytes, to place `at` of the buffer
module _ (v : View) (out bytes part : List ℕ) (to from at n : ℕ) (within : at ≡ length (take to out)) (skipped : from ≡ min v.skip (length bytes)) (fitting : n ≡ min (length bytes - from) (length out - at)) where
  pub copied : v.done ≡ take to out → v.rest ≡ drop to out → part ≡ take (from + n - from) (drop from bytes) →
      ◌≡◌ {A = View} (record { skip = v.skip - from; done = take (at + n) (put_mid at (at + n - at) out part); rest = drop (at + n) (put_mid at (at + n - at) out part) }) (onto v bytes)
  unfolding onto
  copied d r p =
      let s = v.skip in
      let least : at ≡ min to (length out) = within ∙ length-take to out in
      let behind = length-drop s bytes in
      let places = length-drop to out in
      let whole : from + n - from ≡ n = omega arith in
      let taken : n ≡ min (length v.rest) (length (drop s bytes)) = omega (arith, ap length r) in
      let gone : n ≡ min (length (drop s bytes)) (length v.rest) = omega arith in
      let front : take at out ≡ v.done = ap (λ (i : ℕ). take i out) least ∙ take_min to out ∙ sym d in
      let back : drop at out ≡ v.rest = ap (λ (i : ℕ). drop i out) least ∙ drop_min to out ∙ sym r in
      let shown : part ≡ take (length v.rest) (drop s bytes) =
      p ∙ ap₂ take whole (ap (λ (i : ℕ). drop i bytes) skipped ∙ drop_min s bytes) ∙ ap (λ (i : ℕ). take i (drop s bytes)) taken ∙ take_min (length v.rest) (drop s bytes) in
      let size : length part ≡ n = omega (arith, ap length shown, length-take (length v.rest) (drop s bytes)) in
      same_view _ _ _ _ _ _ (omega arith)
      (take-put_mid at (at + n - at) out part (at + n) (omega arith) (omega arith) ∙ ap₂ (λ (x y : List ℕ). x ++ y) front shown)
      (drop-put_mid at (at + n - at) out part (at + n) (omega arith) (omega arith) (omega arith) ∙ sym (drop-drop n at out) ∙ ap (drop n) back ∙ ap (λ (i : ℕ). drop i v.rest) gone ∙ drop_min (length (drop s bytes)) v.rest)

pub onto_more : (v : View) (a b : List ℕ) → onto (onto v a) b ≡ onto v (a ++ b)
unfolding onto
onto_more v a b =
    let s = v.skip in
    let x = drop s a in
    let y = drop (s - length a) b in
    let parts : drop s (a ++ b) ≡ x ++ y = drop_append s a b in
    let sizes = length-append x y in
    let room : length (drop (length x) v.rest) ≡ length v.rest - length x = length-drop (length x) v.rest in
    let both : length x + length y ≡ length (drop s (a ++ b)) = omega (arith, ap length parts) in
    same_view _ _ _ _ _ _ (omega (arith, length-append a b))
    (append_assoc v.done (take (length v.rest) x) (take (length (drop (length x) v.rest)) y)
    ∙ ap (λ (z : List ℕ). v.done ++ z) (ap (λ (k : ℕ). take (length v.rest) x ++ take k y) room ∙ sym (take_append (length v.rest) x y) ∙ ap (take (length v.rest)) (sym parts)))
    (drop-drop (length y) (length x) v.rest ∙ ap (λ (k : ℕ). drop k v.rest) both)

pub onto_nothing : (v : View) → onto v [] ≡ v
unfolding onto
onto_nothing v =
    same_view _ _ _ _ _ _ (omega arith)
    (ap (λ (x : List ℕ). v.done ++ take (length v.rest) x) (drop-nil v.skip) ∙ ap (λ (x : List ℕ). v.done ++ x) (take_all (length v.rest) [] (omega arith)) ∙ append-nil v.done)
    (ap (λ (x : List ℕ). drop (length x) v.rest) (drop-nil v.skip))

-- first `x` was put, then `y`
pub puts_then : {a b c : Window} {x y : List ℕ} → Puts a b x → Puts b c y → Puts a c (x ++ y)
puts_then {a} {x = x} {y} p q = record {
  view = q.view ∙ ap (λ (v : View). onto v y) p.view ∙ onto_more (view_of a) x y;
  buffer = q.buffer ∙ p.buffer;
  end = q.end ∙ p.end;
}

-- the same text by another term
pub puts_same : {a b : Window} {x y : List ℕ} → Puts a b x → x ≡ y → Puts a b y
puts_same {a} {b} p e = subst (Puts a b) e p

pub puts_nothing : (a : Window) → Puts a a []
puts_nothing a = record { view = sym (onto_nothing (view_of a)); buffer = refl; end = refl }

-- what a window that began at byte `from` has made of the buffer
module _ {w now : Window} (from : ℕ) {text : List ℕ} (before : List ℕ) (e : view_of w ≡ begun from before) (p : Puts w now text) where
  all : view_of now ≡ onto (begun from before) text
  all = p.view ∙ ap (λ (v : View). onto v text) e

  pub shown_count : length (view_of now).done ≡ count_of from text before
  unfolding count_of begun onto
  shown_count = ap (λ (v : View). length v.done) all ∙ length-take (length before) (drop from text)

  pub shown_bytes : now.out.now ≡ filled from text before
  unfolding filled view_of begun onto
  shown_bytes = sym (take-append-drop now.at now.out.now) ∙ ap (λ (v : View). v.done ++ v.rest) all
