-- What the exported call over slots answers, from what the functions that it asks answer.
use Prim.Native.Nat.{ℕ}
use mathlib.Core.Path.{◌≡◌, ◌∙◌, ap}
use mathlib.Core.List.{List}
use Rattle.std.specs.Prelude.{Result}
use Rattle.answer.specs.declared.Refusal.{Refusal}
use Rattle.peers_entry.specs.declared.Peer.{Peer}
use Rattle.peers_table.specs.Table.{heading}
use Rattle.peers_table.specs.declared.TableHead.{TableHead}
use Rattle.peers_read.specs.Load.{Loading, loading}
use Rattle.mrt_peers_read.specs.Load.{load_out}

-- a body read: the slots l that the call leaves, and the number that it answers
pub load_out_lem : (r : Result TableHead Refusal) {l : List Peer} {n : ℕ} {x : Loading} → loading r l ≡ x → n ≡ (heading r).number
    → (l, n) ≡ load_out x
load_out_lem r {l} e n-is = ap (λ (k : ℕ). (l, k)) n-is ∙ ap load_out e
