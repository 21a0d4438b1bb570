-- Two answers that say the same are the same answer: the statement of the call leaves no choice.
use mathlib.Core.Path.{◌≡◌, ap}
use mathlib.Core.List.{List}
use Rattle.std.specs.Prelude.{Result}
use Rattle.answer.specs.declared.Refusal.{Refusal}
use Rattle.peers_entry.specs.declared.Peer.{Peer}
use Rattle.peers_table.specs.declared.TableHead.{TableHead}
use Rattle.peers_table.proofs.Unique.{heading_unique}
use Rattle.peers_read.specs.Load.{Loading, loading}

pub loading_unique : (a b : Result TableHead Refusal) (l m : List Peer) → loading a l ≡ loading b m → (a ≡ b) × (l ≡ m)
loading_unique a b l m e = (heading_unique a b (ap (λ (x : Loading). x.head) e), ap (λ (x : Loading). x.slots) e)
