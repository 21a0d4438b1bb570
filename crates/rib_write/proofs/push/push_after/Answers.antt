use native.Mathlib.Omega.{arith}
use Rattle.std.proofs.lemmas.Bool.Decides.{nat_tests}
use Rattle.rib_write.specs.Push.{added, push_after}
use Rattle.rib_write.proofs.Sizes.{length-entry}
use Rattle.rib_write.proofs.Written.{part-stored}
use Rattle.rib_write.proofs.push.push_after.Goals as goal

pub returns-then-n-len : goal.returns-then-n-len
unfolding push_after
returns-then-n-len c = grind (arith, nat_tests, length-entry)

pub returns : goal.returns
unfolding push_after added
returns c =
    let e = part-stored _ _ _ _ _ c.requires c.if-n-len.false (rw (← c.path_size.ensures.answer) at c.put_entry.ensures) in
    grind (arith, nat_tests, length-entry)
