-- Lines, written one after the other.
use Rattle.std.proofs.Common.{◌≡◌, ℕ, suc, ◌+◌, ◌^◌, ◌<◌, ◌≤◌, Bool, true, false, cond, eqb, List, [], ◌∷◌, ◌++◌, length, Some, None, Option, sym, refl, ap, ◌∙◌, subst, arith}
use Rattle.std.proofs.lemmas.Bool.{cond_both, cond-true}
use Rattle.events.specs.Entry.{Entry}
use Rattle.events.specs.declared.line_end.LineEnd.{LineEnd}
use Rattle.events.specs.declared.refusal.Refusal.TheVariants.{NumbersUsed}
use Rattle.script.specs.Events.{Said, event, refused, unreadable, event_said}
use Rattle.script.specs.Lines.{lengthened, all_lines}
use Rattle.writer.specs.Written.{written}
use Rattle.script.specs.declared.event.Cause.{Cause}
use Rattle.script.specs.declared.event.Cause.TheVariants.{Refused}
use Rattle.authoring.specs.declared.stop.Stop.{Stop}
use Rattle.numbering.specs.Meaning.{has_text}
use Rattle.authoring.specs.Stream.{cause_of, bytes_of, Outcome, onward, outcome, Wrote}

lengthened_few : (b : ℕ) (ls : List (List ℕ)) (n : ℕ) → length ls ≤ n → length (lengthened b ls) ≤ suc n
lengthened_few b [] n h = omega arith
lengthened_few b (l ∷ ls) n h = omega arith

-- no text has more lines than bytes
pub lines_are_few : (s : List ℕ) → length (all_lines s) ≤ length s
lines_are_few [] = omega arith
lines_are_few (b ∷ s) =
    let few = lines_are_few s in
    cond_both (eqb b 10) ([] ∷ all_lines s) (lengthened b (all_lines s)) (λ ls. length ls ≤ suc (length s)) (λ _. omega arith) (λ _. lengthened_few b (all_lines s) (length s) few)

module _ (greatest : ℕ) (text : ℕ → List ℕ) (e : LineEnd) where
  -- a line that stops is not written
  unwritten : (n : ℕ) (x : Said) (cause : Cause) → Some cause ≡ cause_of greatest n x → bytes_of greatest text e n x ≡ []
  unwritten n (event x) cause p = by (has_text greatest n) p
    where
      by : (b : Bool) → Some cause ≡ cond b None (Some (Refused NumbersUsed)) → cond b (written e (text n) x) [] ≡ []
      by true p = let z : ◌≡◌ {A = ℕ} 0 1 = cc p in absurd (omega arith)
      by false p = refl
  unwritten n (refused c) cause p = refl
  unwritten n unreadable cause p = refl

  -- an event whose number has a text is written
  pub written_whole : (n : ℕ) (x : Entry) (before after : List ℕ) → has_text greatest n ≡ true → n < 2 ^ 32 → after ≡ before ++ written e (text n) x → Wrote greatest text e n (event x) before after None
  written_whole n x before after h small w = record {
    why = sym (cond-true _ _ _ h);
    stream = w ∙ ap (λ (s : List ℕ). before ++ s) (sym (cond-true _ _ _ h));
    small = λ _. small;
  }

  -- of the whole outcome o, the lines before line n are written, and the lines ls are left
  pub record SoFar (o : Outcome) (before stream : List ℕ) (ls : List (List ℕ)) (n : ℕ) : Type 0 where
    pub stop : o.stop ≡ (outcome greatest text e n ls).stop
    pub bytes : before ++ o.bytes ≡ stream ++ (outcome greatest text e n ls).bytes

  module _ (o : Outcome) (before stream : List ℕ) (ls : List (List ℕ)) (n : ℕ) (so_far : SoFar o before stream ls n) (line : List ℕ) (rest : List (List ℕ)) (next : ls ≡ line ∷ rest) where
    -- the outcome by its first line
    opened : (c : Option Cause) → c ≡ cause_of greatest n (event_said line) → outcome greatest text e n ls ≡ onward n c (bytes_of greatest text e n (event_said line)) (outcome greatest text e (n + 1) rest)
    opened c why = ap (outcome greatest text e n) next ∙ ap (λ (x : Option Cause). onward n x (bytes_of greatest text e n (event_said line)) (outcome greatest text e (n + 1) rest)) (sym why)

    stopped_here : (after : List ℕ) (cause : Cause) → Wrote greatest text e n (event_said line) stream after (Some cause) → (◌≡◌ {A = Option Stop} (Some (record { line = n; cause = cause })) o.stop) × (after ≡ before ++ o.bytes)
    stopped_here after cause w =
        let bytes = bytes_of greatest text e n (event_said line) in
        let later = outcome greatest text e (n + 1) rest in
        let it : outcome greatest text e n ls ≡ onward n (Some cause) bytes later = opened (Some cause) w.why in (
          sym (so_far.stop ∙ ap (λ (x : Outcome). x.stop) it),
          w.stream ∙ ap (λ (x : List ℕ). stream ++ x) (unwritten n (event_said line) cause w.why) ∙ sym (so_far.bytes ∙ ap (λ (x : Outcome). stream ++ x.bytes) it),
        )

    pub stopped : (m : ℕ) → m ≡ n → (after : List ℕ) (cause : Cause) → Wrote greatest text e m (event_said line) stream after (Some cause) → (◌≡◌ {A = Option Stop} (Some (record { line = m; cause = cause })) o.stop) × (after ≡ before ++ o.bytes)
    stopped m same after cause = subst (λ (k : ℕ). Wrote greatest text e k (event_said line) stream after (Some cause) → (◌≡◌ {A = Option Stop} (Some (record { line = k; cause = cause })) o.stop) × (after ≡ before ++ o.bytes)) (sym same) (stopped_here after cause)
