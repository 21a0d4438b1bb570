-- Slots whose peers are as they are stored: zeros after an address of four octets.
use Prim.Native.Nat.{ℕ, ◌<◌}
use mathlib.Core.Path.{◌≡◌}
use mathlib.Core.List.{List}
use lib.ListN.{get_or}
use Rattle.peers_entry.specs.Peer.{nobody, stored}
use Rattle.peers_entry.specs.declared.Peer.{Peer}

-- so of each of the first n slots
abbrev pub AsStored : List Peer → ℕ → Type 0
AsStored l n = (i : ℕ) → i < n → stored (get_or l i nobody) ≡ get_or l i nobody
