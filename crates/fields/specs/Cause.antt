-- Why reading stops: a number, and the layer that gives it.
use Rattle.std.specs.Prelude.{ℕ}

pub data Layer : Type 0 where
  line field sink : Layer

pub record Cause : Type 0 where
  pub number : ℕ
  pub layer : Layer

-- The limits on what is read.
abbrev pub line_too_long : Cause
line_too_long = record { number = 8; layer = line }

abbrev pub id_too_long : Cause
id_too_long = record { number = 9; layer = field }

abbrev pub type_too_long : Cause
type_too_long = record { number = 10; layer = field }

abbrev pub data_too_long : Cause
data_too_long = record { number = 11; layer = field }

-- a sink's own number
abbrev pub refused_by_sink : ℕ → Cause
refused_by_sink n = record { number = n; layer = sink }
