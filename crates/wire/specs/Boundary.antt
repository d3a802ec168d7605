-- Where one block has ended and the next has not begun: no unfinished character, nothing in the line, and data and type buffers empty. The id buffer, the last event
-- ID, the reconnection time, the place in the stream, and whether a CR came last, may be anything.
use Rattle.std.specs.Prelude.{◌≡◌, []}
use Rattle.decoder.specs.Machine.{between}
use Rattle.lines.specs.Reader.{Reading, Reader, reading, stopped}

pub record Boundary (r : Reading) : Type 0 where
  pub decoder : r.decoder.reading ≡ between
  pub line : r.text.line.built ≡ []
  pub data_buffer : r.text.held.data_buffer ≡ []
  pub type_buffer : r.text.held.type_buffer ≡ []

abbrev pub AtBoundary : Reader → Type 0
AtBoundary (reading r) = Boundary r
AtBoundary (stopped i t f) = ⊥
