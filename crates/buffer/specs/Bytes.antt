-- What a buffer holds.
use Rattle.std.specs.Prelude.{ℕ, List, take}
use Rattle.buffer.specs.declared.store.Buffer.{Buffer}

abbrev pub bytes_of : {n : ℕ} → Buffer n → List ℕ
bytes_of b = take b.fill b.store.bytes
