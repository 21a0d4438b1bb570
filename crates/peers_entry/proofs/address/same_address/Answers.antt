use mathlib.Core.Path.{◌∙◌}
use Rattle.peers_entry.proofs.Records.{other_octets, one_address}
use Rattle.peers_entry.proofs.address.same_address.Goals as goal

pub returns-then-same_octets : goal.returns-then-same_octets
returns-then-same_octets c = record { answer = one_address _ _ c.same_octets.ensures c.if-same_octets.true }

pub returns-else-same_octets : goal.returns-else-same_octets
returns-else-same_octets c = record { answer = c.if-same_octets.false ∙ other_octets _ _ c.same_octets.ensures c.if-same_octets.false }
