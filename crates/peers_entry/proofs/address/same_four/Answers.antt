use Rattle.peers_entry.proofs.Addresses.{four_same}
use Rattle.peers_entry.proofs.address.same_four.Goals as goal

pub returns : goal.returns
returns c =
    four_same _ _ (λ i. (c.type_inv.a i).fits) (λ i. (c.type_inv.b i).fits) _
    c.low_first.ensures c.low_first-2.ensures
