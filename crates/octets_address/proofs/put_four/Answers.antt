use Rattle.octets_address.proofs.Addresses.{four_stored}
use Rattle.octets_address.proofs.put_four.Goals as goal

pub returns : goal.returns
returns c =
    four_stored _ _ _ _ (λ i. (c.shared_slice_known-1.given i).fits) c.requires.1
    c.be32.ensures c.store32.ensures
