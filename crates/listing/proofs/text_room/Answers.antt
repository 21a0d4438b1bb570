use Rattle.listing.proofs.Zeros.{length_zeros}
use Rattle.listing.proofs.text_room.Goals as goal

pub returns : goal.returns
returns c = length_zeros 1649589
