use Prim.Native.Nat.{ℕ, ◌+◌, ◌-◌}
use mathlib.Core.Path.{◌≡◌, ◌∙◌, ap}
use native.Mathlib.Omega.{arith}
use Rattle.octets.specs.Octets.{part}
use Rattle.octets.proofs.Parts.{lent_over, length_part}
use Rattle.octets_copies.proofs.put_block.Goals as goal

pub returns : goal.returns
returns g c =
    let n = g.row.N in
    let long : c.args.at + n - c.args.at ≡ n = omega arith in
    let read = c.copy_from_slice-2.ensures.after ∙ c.copy_from_slice.ensures.after ∙ ap (λ (k : ℕ). part c.args.src.now c.args.at k) long in
    lent_over _ _ _ n (length_part _ _ n c.requires.1) c.requires.0 read
