use Rattle.peers_entry.proofs.Sizes.{address_le, as_le, size_is}
use native.Mathlib.Omega.{arith}
use Rattle.peers_entry.proofs.kind.peer_size.Goals as goal

pub overflow_add-result : goal.overflow_add-result
overflow_add-result c = omega (arith, address_le c.args.kind)

pub overflow_add-result-2 : goal.overflow_add-result-2
overflow_add-result-2 c = omega (arith, address_le c.args.kind, as_le c.args.kind)

pub returns : goal.returns
returns c = record { answer = omega (arith, size_is c.args.kind) }
