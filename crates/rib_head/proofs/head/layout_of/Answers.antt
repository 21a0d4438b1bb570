use native.Mathlib.Omega.{arith}
use Rattle.std.proofs.lemmas.Bool.Decides.{nat_tests}
use Rattle.rib_head.specs.Layout.{carried, most_bits, ipv4, ipv6}
use Rattle.rib_head.proofs.head.layout_of.Goals as goal

pub returns-in_default : goal.returns-in_default
unfolding carried most_bits ipv4 ipv6
returns-in_default c = grind (arith, nat_tests)

pub returns-in_default-2 : goal.returns-in_default-2
unfolding carried most_bits ipv4 ipv6
returns-in_default-2 c = grind (arith, nat_tests)

pub returns-in_default-3 : goal.returns-in_default-3
unfolding carried most_bits ipv4 ipv6
returns-in_default-3 c = grind (arith, nat_tests)

pub returns : goal.returns
unfolding carried most_bits ipv4 ipv6
returns c = grind (arith, nat_tests)
