use native.Mathlib.Omega.{arith}
use Rattle.std.proofs.lemmas.Bool.Decides.{nat_tests}
use Rattle.rib_head.specs.Head.{bits_of, count_at, declared}
use Rattle.rib_write.specs.Push.{standing}
use Rattle.rib_write.proofs.push.check_builder.Goals as goal

pub returns-then-b-at : goal.returns-then-b-at
unfolding standing count_at declared bits_of
returns-then-b-at c = grind (arith, nat_tests)

pub returns : goal.returns
unfolding standing count_at declared bits_of
returns c = grind (arith, nat_tests)
