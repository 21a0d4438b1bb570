use native.Mathlib.Omega.{arith}
use Rattle.std.proofs.lemmas.Bool.Decides.{nat_tests}
use Rattle.rib_head.specs.Head.{bits_of, count_at, declared}
use Rattle.rib_add.specs.Add.{open_of}
use Rattle.rib_add.proofs.open_rib.Goals as goal

pub returns : goal.returns
unfolding open_of count_at declared bits_of
returns c = record { answer = grind (arith, nat_tests) }
