use Rattle.std.proofs.Common.{arith}
use Rattle.std.proofs.lemmas.Grind.{common_steps}
use Rattle.peers_entry.proofs.Addresses.{decides}
use Rattle.peers_entry.proofs.address.same_octets.Goals as goal

pub returns-then-address_size-eq4 : goal.returns-then-address_size-eq4
returns-then-address_size-eq4 c =
    grind (arith, common_steps, decides _ _ (λ i. (c.type_inv.a i).fits) (λ i. (c.type_inv.b i).fits) c.args.kind)

pub returns-then-same_four-3 : goal.returns-then-same_four-3
returns-then-same_four-3 c =
    grind (arith, common_steps, decides _ _ (λ i. (c.type_inv.a i).fits) (λ i. (c.type_inv.b i).fits) c.args.kind)

pub returns-else-same_four-3 : goal.returns-else-same_four-3
returns-else-same_four-3 c =
    grind (arith, common_steps, decides _ _ (λ i. (c.type_inv.a i).fits) (λ i. (c.type_inv.b i).fits) c.args.kind)

pub returns-else-same_four : goal.returns-else-same_four
returns-else-same_four c =
    grind (arith, common_steps, decides _ _ (λ i. (c.type_inv.a i).fits) (λ i. (c.type_inv.b i).fits) c.args.kind)
