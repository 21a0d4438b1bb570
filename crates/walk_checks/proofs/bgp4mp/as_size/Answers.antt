use Rattle.std.proofs.Common.{◌∙◌}
use Rattle.octets_address.specs.Address.{nonzero}
use Rattle.walk_checks.specs.Bgp4mp.{as_sizes, as_size}
use Rattle.walk_checks.proofs.Lengths.{row_read, flat}
use Rattle.walk_checks.proofs.bgp4mp.as_size.Goals as goal

pub returns : goal.returns
unfolding as_sizes as_size nonzero
returns c = row_read nonzero as_sizes 0 _ (c.flatten.ensures ∙ flat c.copied.result) c.copied.ensures c.from.ensures c.get.ensures.lookup
