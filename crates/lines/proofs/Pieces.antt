-- Reading byte by byte, from a place of a stream on.
use Rattle.std.proofs.Common.{◌≡◌, ℕ, ◌+◌, List, [], ◌∷◌, Some, None, Option, sym, refl, ap, ◌∙◌, add-zero, add_assoc}
use Rattle.events.specs.Event.{Event}
use Rattle.lines.specs.Reader.{Fault, Reader, reading, stopped, fault_of, Pushed, push, reads}
use Rattle.lines.specs.declared.fault.Fault.{Fault as Stop}
use Rattle.lines.specs.declared.reader.Reader.{Reader as Board}
use Rattle.lines.specs.Code.{faults_said, standing, reader_of}

-- with n events kept before
abbrev pub more : {X : Type 0} → ℕ → Pushed X → Pushed X
more n p = record { reader = p.reader; sink = p.sink; kept = n + p.kept }

none_more : {X : Type 0} (r : Reader) (x : X) (n : ℕ) → record { reader = r; sink = x; kept = n } ≡ more n (record { reader = r; sink = x; kept = 0 })
none_more r x n = ap (λ m. record { reader = r; sink = x; kept = m }) (sym (add-zero n))

module _ {X : Type 0} (refusal : X → Event → ℕ) (after : X → Event → X) where
  -- From a reader and a sink, with n events kept so far, s leads to `all`.
  pub record Leads (all : Pushed X) (r : Reader) (x : X) (n : ℕ) (s : List ℕ) : Type 0 where
    pub to : more n (reads refusal after r x s) ≡ all

  pub ends : {all : Pushed X} {r : Reader} {x : X} {n : ℕ} → Leads all r x n [] → record { reader = r; sink = x; kept = n } ≡ all
  ends {r = r} {x = x} {n = n} l = none_more r x n ∙ l.to

  pub one_more : (all : Pushed X) (r : Reader) (x : X) (n b : ℕ) (s : List ℕ) (p : Pushed X) → p ≡ push refusal after r x b → Leads all r x n (b ∷ s) → Leads all p.reader p.sink (n + p.kept) s
  one_more all r x n b s p e l =
      let q = reads refusal after p.reader p.sink s in
      record {
        to =
            ap (λ m. record { reader = q.reader; sink = q.sink; kept = m }) (add_assoc n p.kept q.kept)
            ∙ ap (λ (t : Pushed X). more n (more t.kept (reads refusal after t.reader t.sink s))) e
            ∙ l.to;
      }

  -- A reader that has stopped reads nothing more.
  stays : (i : List ℕ) (t : ℕ) (f : Fault) (x : X) (s : List ℕ) → reads refusal after (stopped i t f) x s ≡ record { reader = stopped i t f; sink = x; kept = 0 }
  stays i t f x [] = refl
  stays i t f x (b ∷ s) = ap (more 0) (stays i t f x s)

  pub stopped_stays : (r : Reader) (f : Fault) (x : X) (s : List ℕ) → fault_of r ≡ Some f → reads refusal after r x s ≡ record { reader = r; sink = x; kept = 0 }
  stopped_stays (reading r) f x s e = cc
  stopped_stays (stopped i t g) f x s e = stays i t g x s

  -- a fault ends it
  pub stops : (all : Pushed X) (r : Reader) (x : X) (n : ℕ) (s : List ℕ) (f : Fault) → fault_of r ≡ Some f → Leads all r x n s → record { reader = r; sink = x; kept = n } ≡ all
  stops all r x n s f e l = none_more r x n ∙ ap (more n) (sym (stopped_stays r f x s e)) ∙ l.to

-- the fault that a reader holds is the one it has stopped at
pub stands : (r : Board) → faults_said r.fault ≡ fault_of (reader_of r)
stands r = by r.fault
  where
    by : (o : Option Stop) → faults_said o ≡ fault_of (standing r o)
    by None = refl
    by (Some f) = refl
