-- Reading a body into slots from C (01, Peer table).
use Rattle.std.specs.Prelude.{ℕ, List}
use Rattle.peers_entry.specs.declared.Peer.{Peer}
use Rattle.peers_read.specs.Load.{Loading}

-- the slots after the call, and the refusal's number or 0
abbrev pub load_out : Loading → List Peer × ℕ
load_out x = (x.slots, x.head.number)
