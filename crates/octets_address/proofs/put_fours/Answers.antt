use Prim.Native.Nat.{◌+◌, ◌*◌}
use mathlib.Core.Path.{◌≡◌, ◌∙◌, ap}
use native.Mathlib.Omega.{arith}
use lib.ListN.{length}
use Rattle.octets.proofs.Stores.{length-patch}
use Rattle.octets_address.specs.Address.{size_of}
use Rattle.octets_address.proofs.Addresses.{size-le, stored_join}
use Rattle.octets_address.proofs.put_fours.Goals as goal

pub put_four-requires : goal.put_four-requires
put_four-requires c = let least = (size-le c.args.long).0 in (omega (arith, least), omega (arith, least))

pub put_four-requires-in-loop-i : goal.put_four-requires-in-loop-i
unfolding size_of
put_four-requires-in-loop-i c =
    let room = rw c.if-long.true at c.requires in
    let long = ap length c.loop-i.invariant ∙ length-patch _ _ _ in
    (omega (arith, room.0, long), omega (arith, room.1))

pub loop-i-preserved : goal.loop-i-preserved
loop-i-preserved c =
    let next : 4 * (c.loop-i.i + 1) ≡ 4 * c.loop-i.i + 4 = omega arith in
    rw next (stored_join _ _ _ _ _ 4 c.loop-i.invariant c.put_four-in-loop-i.ensures)

pub returns-after-loop-i : goal.returns-after-loop-i
unfolding size_of
returns-after-loop-i c =
    let last : 4 * c.loop-i.i ≡ 16 = omega arith in
    rw c.if-long.true (rw last at c.loop-i.invariant)

pub returns-else-long : goal.returns-else-long
unfolding size_of
returns-else-long c = rw c.if-long.false c.put_four.ensures
