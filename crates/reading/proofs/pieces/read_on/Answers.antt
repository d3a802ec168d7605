use Rattle.std.proofs.Common.{◌++◌, sym, ap, ◌∙◌}
use Rattle.lines.specs.Reader.{fault_of}
use Rattle.lines.specs.Code.{reader_of}
use Rattle.reading.proofs.Whole.{read_outcome, reads_on}
use Rattle.reading.proofs.pieces.read_on.Goals as goal

pub returns : goal.returns
returns g c =
    let k = g.S.Sink in
    let told = c.read.ensures in
    let piece = c.args.piece.now in
    let r = reader_of c.args.reader.now in
    let r' = reader_of c.read.new.self in
    let y = k.state c.args.sink.now in
    let y' = k.state c.read.new.sink in
    record {
      reader = told.reader;
      sink = told.sink;
      kept = told.kept;
      fault = told.fault ∙ ap fault_of (sym told.reader);
      joins = λ b x s h. reads_on k.refusal k.after b x s piece r r' y y' told.reader told.sink h;
      standard = λ b x s h. read_outcome k.refusal k.after b x (s ++ piece) r' y' (reads_on k.refusal k.after b x s piece r r' y y' told.reader told.sink h);
    }
