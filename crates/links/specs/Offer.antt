-- What a link has to offer at a moment. The meaning of a link, the list of the bytes that wait, does not fix it; but with nothing waiting
-- the room is never under the link's least, and that is 16 or more.
use Rattle.std.specs.Prelude.{ℕ}

pub record Offer : Type 0 where
  -- how many bytes a put would take
  pub room : ℕ
