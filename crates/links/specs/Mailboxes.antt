-- A mailbox: what waits is the rest of one letter. There is room for a letter of 256 bytes when nothing waits, and else none, also when
-- some of the letter is taken.
use Rattle.std.specs.Prelude.{◌≡◌, ℕ, ◌≤◌, Bool, true, cond, List, [], length, drop, ◌==◌}
use Rattle.std.proofs.Common.{ap, arith}
use Rattle.buffer.specs.Bytes.{bytes_of}
use Rattle.links.specs.Offer.{Offer}
use Rattle.links.specs.declared.mailboxes.Mailbox.{Mailbox}

abbrev pub box_waiting : Mailbox → List ℕ
box_waiting m = drop m.taken (bytes_of m.letter)

abbrev pub box_least : Mailbox → ℕ
box_least m = 256

-- no mailbox is too small
abbrev pub box_serves : Mailbox → Bool
box_serves m = true

abbrev pub room_by : List ℕ → ℕ
room_by waiting = cond (length waiting == 0) 256 0

abbrev pub box_offer : Mailbox → Offer
box_offer m = record { room = room_by (box_waiting m) }

roomy : (w : List ℕ) → w ≡ [] → 256 ≤ room_by w
roomy w e = omega (arith, ap room_by e)

pub box_roomy : (m : Mailbox) → box_waiting m ≡ [] → box_least m ≤ (box_offer m).room
box_roomy m e = roomy (box_waiting m) e

pub box_enough : (m : Mailbox) → box_serves m ≡ true → 16 ≤ box_least m
box_enough m _ = omega arith
