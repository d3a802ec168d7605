-- What is written for lines is what was sent for them, and that is lawful.
use Rattle.std.proofs.Common.{◌≡◌, ℕ, ◌+◌, ◌≤◌, Bool, true, false, cond, leb, List, [], ◌∷◌, ◌++◌, Some, None, Option, sym, refl, ap, ◌∙◌, subst, arith}
use Rattle.std.proofs.lemmas.Bool.{and_parts, leb-true}
use Rattle.events.specs.Checks.{flaw}
use Rattle.events.specs.Entry.{Entry}
use Rattle.events.specs.declared.line_end.LineEnd.{LineEnd}
use Rattle.events.specs.declared.refusal.Refusal.{Refusal}
use Rattle.events.specs.declared.refusal.Refusal.TheVariants.{NumbersUsed}
use Rattle.numbering.specs.Meaning.{Printed, has_text}
use Rattle.script.specs.Events.{Said, event, refused, unreadable, checked, said_by, event_said}
use Rattle.script.specs.Texts.{Texts, two_texts}
use Rattle.wire.specs.Sent as sent
use Rattle.wire.specs.Sent.{Sent, Lawful, AllLawful, stream}
use Rattle.wire.specs.Laws.{Means}
use Rattle.wire.proofs.Means.{a_stream_means_what_was_sent}
use Rattle.writer.specs.Written.{written}
use Rattle.script.specs.declared.event.Cause.TheVariants.{Refused}
use Rattle.authoring.specs.Stream.{cause_of, bytes_of, onward, outcome}
use Rattle.authoring.specs.Laws.{sent_for, unless_stopped, sent_by}

-- an event that a line says has passed the checks
passes : (l : List ℕ) (x : Entry) → event_said l ≡ event x → flaw x.type x.«data» ≡ None
passes l x = by_texts (two_texts l)
  where
    by_flaw : (e : Entry) (o : Option Refusal) → flaw e.type e.«data» ≡ o → checked o e ≡ event x → flaw x.type x.«data» ≡ None
    by_flaw e None q p = let s : e ≡ x = cc p in ap (λ (w : Entry). flaw w.type w.«data») (sym s) ∙ q
    by_flaw e (Some r) q p = let z : ◌≡◌ {A = ℕ} 0 1 = cc p in absurd (omega arith)

    by_texts : (o : Option Texts) → said_by o ≡ event x → flaw x.type x.«data» ≡ None
    by_texts None p = let z : ◌≡◌ {A = ℕ} 0 1 = cc p in absurd (omega arith)
    by_texts (Some t) p = by_flaw (record { type = t.first; «data» = t.second }) (flaw t.first t.second) refl p

module _ (greatest longest : ℕ) (text : ℕ → List ℕ) (short : longest ≤ 32) (printed : (n : ℕ) → 1 ≤ n → n ≤ greatest → Printed longest (text n)) (e : LineEnd) where
  record Sends (s : List ℕ) (items : List Sent) : Type 0 where
    pub bytes : s ≡ stream e items
    pub lawful : AllLawful items

  wide : (n : ℕ) → has_text greatest n ≡ true → Printed 32 (text n)
  wide n h =
      let q = and_parts (leb 1 n) (leb n greatest) h in
      let p = printed n (leb-true 1 n q.0) (leb-true n greatest q.1) in
      record { some = p.some; most = omega (arith, p.most); each = p.each }

  sends : (ls : List (List ℕ)) (n : ℕ) → Sends (outcome greatest text e n ls).bytes (sent_by greatest text n ls)
  sends [] n = record { bytes = refl; lawful = tt }
  sends (l ∷ ls) n = by (event_said l) refl (sends ls (n + 1))
    where
      rest : List ℕ
      rest = (outcome greatest text e (n + 1) ls).bytes

      later : List Sent
      later = sent_by greatest text (n + 1) ls

      by_text : (x : Entry) → event_said l ≡ event x → (b : Bool) → has_text greatest n ≡ b → Sends rest later → Sends (onward n (cond b None (Some (Refused NumbersUsed))) (cond b (written e (text n) x) []) (outcome greatest text e (n + 1) ls)).bytes (unless_stopped (cond b None (Some (Refused NumbersUsed))) (cond b (sent.event (text n) x ∷ []) []) later)
      by_text x q true h r = record { bytes = ap (λ s. written e (text n) x ++ s) r.bytes; lawful = ((wide n h, passes l x q), r.lawful) }
      by_text x q false h r = record { bytes = refl; lawful = tt }

      by : (s : Said) → event_said l ≡ s → Sends rest later → Sends (onward n (cause_of greatest n s) (bytes_of greatest text e n s) (outcome greatest text e (n + 1) ls)).bytes (unless_stopped (cause_of greatest n s) (sent_for greatest text n s) later)
      by (event x) q r = by_text x q (has_text greatest n) refl r
      by (refused cause) q r = record { bytes = refl; lawful = tt }
      by unreadable q r = record { bytes = refl; lawful = tt }

  pub what_lines_say_is_read : (ls : List (List ℕ)) → Means (outcome greatest text e 1 ls).bytes (sent_by greatest text 1 ls)
  what_lines_say_is_read ls =
      let s = sends ls 1 in
      subst (λ b. Means b (sent_by greatest text 1 ls)) (sym s.bytes) (a_stream_means_what_was_sent e (sent_by greatest text 1 ls) s.lawful)
