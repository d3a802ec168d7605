-- Limits, one line or one character longer.
use Rattle.std.proofs.Common.{◌≡◌, ℕ, Bool, true, false, cond, ◌||◌, eqb, ltb, List, [], ◌∷◌, ◌++◌, length, Some, None, Option, sym, refl, ap, ◌∙◌}
use Rattle.std.proofs.lemmas.Bool.{or_parts, or_from, or_left, or_right, ltb-false, le-ltb, lt-ltb, eq-eqb, ne_eqb}
use Rattle.events.specs.Event.{Event}
use Rattle.decoder.specs.Standard.{Char}
use Rattle.fields.specs.Cause.{Cause, line_too_long, id_too_long, type_too_long, data_too_long, refused_by_sink}
use Rattle.reading.specs.Lines.{lines}
use Rattle.reading.specs.Blocks.{Line, parted}
use Rattle.reading.specs.Standard.{events_of}
use Rattle.reading.specs.Limits.{any, long_line, long_id, long_type, long_data, cause_if, through, refused_in, over_text}
use Rattle.reading.proofs.Lists.{any_append}

abbrev pub long : Line → Bool
long l = ltb 1024 (length l)

-- one more at the end
any_push : {A : Type 0} (f : A → Bool) (xs : List A) (x : A) → any f (xs ++ x ∷ []) ≡ (any f xs || (f x || false))
any_push f xs x = any_append f xs (x ∷ [])

pub push_false : {A : Type 0} (f : A → Bool) (xs : List A) (x : A) → any f xs ≡ false → f x ≡ false → any f (xs ++ x ∷ []) ≡ false
push_false f xs x p q = any_push f xs x ∙ or_from _ _ p (or_from _ _ q refl)

pub push_true : {A : Type 0} (f : A → Bool) (xs : List A) (x : A) → f x ≡ true → any f (xs ++ x ∷ []) ≡ true
push_true f xs x q = any_push f xs x ∙ or_right _ _ (or_left _ _ q)

pub first_parts : {A : Type 0} (f : A → Bool) (xs : List A) (x : A) → any f (xs ++ x ∷ []) ≡ false → (any f xs ≡ false) × (f x ≡ false)
first_parts f xs x e =
    let p = or_parts _ _ (sym (any_push f xs x) ∙ e) in (p.0, (or_parts _ _ p.1).0)

pub still_true : {A : Type 0} (f : A → Bool) (xs ys : List A) → any f xs ≡ true → any f (xs ++ ys) ≡ true
still_true f xs ys e = any_append f xs ys ∙ or_left _ _ e

module _ {X : Type 0} (refusal : X → Event → ℕ) (after : X → Event → X) where
  pub through_push : (x : X) (es : List Event) (e : Event) → through refusal after x (es ++ e ∷ []) ≡ after (through refusal after x es) e
  through_push x [] e = refl
  through_push x (d ∷ es) e = through_push (after x d) es e

  -- one event more, where none before was refused
  pub refused_push : (x : X) (es : List Event) (e : Event) → refused_in refusal after x es ≡ 0 → refused_in refusal after x (es ++ e ∷ []) ≡ refusal (through refusal after x es) e
  refused_push x [] e h = by (refusal x e) (eqb (refusal x e) 0) refl
    where
      by : (n : ℕ) (v : Bool) → eqb n 0 ≡ v → cond v 0 n ≡ n
      by n true q = sym (Rattle.std.proofs.lemmas.Bool.eqb-true n 0 q)
      by n false q = refl
  refused_push x (d ∷ es) e h = by (refused_push (after x d) es e) (eqb (refusal x d) 0) refl h
    where
      by : (refused_in refusal after (after x d) es ≡ 0 → refused_in refusal after (after x d) (es ++ e ∷ []) ≡ refusal (through refusal after (after x d) es) e) → (v : Bool) → eqb (refusal x d) 0 ≡ v → cond v (refused_in refusal after (after x d) es) (refusal x d) ≡ 0 → cond v (refused_in refusal after (after x d) (es ++ e ∷ [])) (refusal x d) ≡ refusal (through refusal after (after x d) es) e
      by ih true q k = ih k
      by ih false q k = absurd (Rattle.std.proofs.lemmas.Bool.eqb-false (refusal x d) 0 q k)

  -- Text within all limits.
  pub record Fits (x : X) (cs : List Char) : Type 0 where
    pub line : long_line cs ≡ false
    pub id : long_id (lines cs) ≡ false
    pub type : long_type (lines cs) ≡ false
    pub «data» : long_data (parted (lines cs)) ≡ false
    pub sink : refused_in refusal after x (events_of (lines cs)) ≡ 0

  abbrev by : Bool → Bool → Bool → Bool → ℕ → Option Cause
  by a b c d n = cond a (Some line_too_long) (cond b (Some id_too_long) (cond c (Some type_too_long) (cond d (Some data_too_long) (cause_if n))))

  -- the limits one by one
  module _ (x : X) (cs : List Char) where
    abbrev es : List Event
    es = events_of (lines cs)

    over_by : {a b c d : Bool} {n : ℕ} → long_line cs ≡ a → long_id (lines cs) ≡ b → long_type (lines cs) ≡ c → long_data (parted (lines cs)) ≡ d → refused_in refusal after x es ≡ n → over_text refusal after x cs ≡ by a b c d n
    over_by {a} {b} {c} {d} ea eb ec ed en =
        let m = refused_in refusal after x es in
        ap (λ v. by v (long_id (lines cs)) (long_type (lines cs)) (long_data (parted (lines cs))) m) ea
        ∙ ap (λ v. by a v (long_type (lines cs)) (long_data (parted (lines cs))) m) eb
        ∙ ap (λ v. by a b v (long_data (parted (lines cs))) m) ec
        ∙ ap (λ v. by a b c v m) ed
        ∙ ap (by a b c d) en

    pub fits_is_within : Fits x cs → over_text refusal after x cs ≡ None
    fits_is_within f = over_by f.line f.id f.type f.«data» f.sink

    pub line_is_over : long_line cs ≡ true → over_text refusal after x cs ≡ Some line_too_long
    line_is_over e = over_by e refl refl refl refl

    pub id_is_over : long_line cs ≡ false → long_id (lines cs) ≡ true → over_text refusal after x cs ≡ Some id_too_long
    id_is_over a b = over_by a b refl refl refl

    pub type_is_over : long_line cs ≡ false → long_id (lines cs) ≡ false → long_type (lines cs) ≡ true → over_text refusal after x cs ≡ Some type_too_long
    type_is_over a b c = over_by a b c refl refl

    pub data_is_over : long_line cs ≡ false → long_id (lines cs) ≡ false → long_type (lines cs) ≡ false → long_data (parted (lines cs)) ≡ true → over_text refusal after x cs ≡ Some data_too_long
    data_is_over a b c d = over_by a b c d refl

    pub sink_is_over : (n : ℕ) → long_line cs ≡ false → long_id (lines cs) ≡ false → long_type (lines cs) ≡ false → long_data (parted (lines cs)) ≡ false → refused_in refusal after x es ≡ n → (n ≡ 0 → ⊥) → over_text refusal after x cs ≡ Some (refused_by_sink n)
    sink_is_over n a b c d e k = over_by a b c d e ∙ ap (λ v. cond v None (Some (refused_by_sink n))) (ne_eqb n 0 k)
