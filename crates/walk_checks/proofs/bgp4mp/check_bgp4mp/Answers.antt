use native.Mathlib.Omega.{arith}
use Rattle.std.proofs.lemmas.Grind.{common_steps}
use Rattle.octets_address.specs.Address.{nonzero}
use Rattle.walk_checks.specs.Bgp4mp.{envelope, bgp4mp}
use Rattle.walk_checks.proofs.bgp4mp.check_bgp4mp.Goals as goal

pub returns-then-n-at : goal.returns-then-n-at
unfolding nonzero envelope bgp4mp
returns-then-n-at c = record { answer = grind (arith, common_steps) }

pub returns : goal.returns
unfolding nonzero envelope bgp4mp
returns c = record { answer = grind (arith, common_steps) }
