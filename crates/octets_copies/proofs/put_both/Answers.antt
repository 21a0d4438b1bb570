use Prim.Native.Nat.{◌+◌, ◌-◌}
use mathlib.Core.Path.{◌≡◌}
use native.Mathlib.Omega.{arith}
use Rattle.octets.proofs.Parts.{copy_over}
use Rattle.octets_copies.proofs.put_both.Goals as goal

pub returns : goal.returns
returns g c =
    let n = g.row.N in
    let m = c.args.m in
    let pre = c.requires in
    let whole : m - n + n ≡ m = omega arith in
    rw whole at
    (copy_over _ _ c.args.at n (m - n) n (omega arith) (omega arith) (omega arith) (omega arith) c.put_block.ensures c.put_block-2.ensures)
