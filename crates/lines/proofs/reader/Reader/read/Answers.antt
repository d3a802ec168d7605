use Rattle.std.proofs.Common.{◌≡◌, ◌+◌, Err, get_or, drop, sym, ap, ◌∙◌, subst, add-zero}
use Rattle.std.proofs.lemmas.List.{drop_more, drop_all}
use Rattle.lines.specs.Reader.{Pushed, fault_of, reads}
use Rattle.lines.specs.Code.{reader_of, fault_said, pushed}
use Rattle.lines.proofs.Pieces.{Leads, one_more, stops, ends, stands}
use Rattle.lines.proofs.reader.Reader.read.Goals as goal
use Rattle.lines.proofs.reader.Reader.read.Goals.{else-loop-byte-test, then-loop-byte-test+in_default}

pub returns : goal.returns
returns g c =
    let k = g.S.Sink in
    let s = c.args.piece.now in
    let i = c.loop-byte.byte-index in
    let n = c.loop-byte.kept in
    let all = reads k.refusal k.after (reader_of c.args.self.now) (k.state c.args.sink.now) s in
    let rest = Leads k.refusal k.after all (reader_of c.loop-byte.self) (k.state c.loop-byte.sink) n in
    let done : record { reader = reader_of c.loop-byte-test.self; sink = k.state c.loop-byte-test.sink; kept = n } ≡ all =
    elim c.loop-byte-test.branch [
      | else-loop-byte-test w ↦ rw (w.self-is, w.sink-is) (ends k.refusal k.after (subst rest (drop_all i s w.loop-byte-test.false) c.loop-byte.invariant.1))
      | then-loop-byte-test+in_default w ↦
          let told = w.in_default.ensures in
          let p = pushed w.push.new.self (k.state w.push.new.sink) (Err w.in_default.field-0) in
          let leads = one_more k.refusal k.after all (reader_of c.loop-byte.self) (k.state c.loop-byte.sink) n (get_or s i 0) (drop (i + 1) s) p told.came (subst rest (drop_more s i 0 w.loop-byte-test.true) c.loop-byte.invariant.1) in
          rw (w.self-is, w.sink-is) (stops k.refusal k.after all p.reader p.sink n (drop (i + 1) s) (fault_said w.in_default.field-0) (sym told.fault) (subst (λ m. Leads k.refusal k.after all p.reader p.sink m (drop (i + 1) s)) (add-zero n) leads))
    ] in
    record { reader = ap (λ p. p.reader) done; sink = ap (λ p. p.sink) done; kept = ap (λ p. p.kept) done; fault = stands c.loop-byte-test.self ∙ ap (λ (p : Pushed k.State). fault_of p.reader) done }
