-- A pipe: what waits lies in its memory of 16 to 65,536 bytes, and its room is what the memory has left.
use Rattle.std.specs.Prelude.{◌≡◌, ℕ, ◌-◌, ◌≤◌, Bool, true, cond, ◌&&◌, List, [], length, Ok, Err, Result, nat_le}
use Rattle.std.proofs.Common.{ap, arith}
use Rattle.events.specs.declared.refusal.Refusal.{Refusal}
use Rattle.events.specs.declared.refusal.Refusal.TheVariants.{MemorySize}
use Rattle.queue.specs.Items.{items, capacity_of}
use Rattle.std.proofs.lemmas.Bool.{leb-true}
use Rattle.links.specs.Offer.{Offer}
use Rattle.links.specs.declared.pipes.Pipe.{Pipe}

-- what memory of so many bytes is answered with
abbrev pub sized : ℕ → Result (Unit {0}) Refusal
sized n = cond (nat_le 16 n && nat_le n 65536) (Ok tt) (Err MemorySize)

abbrev pub pipe_waiting : Pipe → List ℕ
pipe_waiting p = items p.bytes

abbrev pub pipe_least : Pipe → ℕ
pipe_least p = capacity_of p.bytes

-- whether its memory is long enough: `new` sees to it, the type does not
abbrev pub pipe_serves : Pipe → Bool
pipe_serves p = nat_le 16 (capacity_of p.bytes)

abbrev pub pipe_offer : Pipe → Offer
pipe_offer p = record { room = capacity_of p.bytes - length (items p.bytes) }

pub pipe_roomy : (p : Pipe) → pipe_waiting p ≡ [] → pipe_least p ≤ (pipe_offer p).room
pipe_roomy p e = omega (arith, ap length e)

pub pipe_enough : (p : Pipe) → pipe_serves p ≡ true → 16 ≤ pipe_least p
pipe_enough p s = leb-true 16 (capacity_of p.bytes) s
