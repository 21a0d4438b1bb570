-- Reading a body into slots (01, Peer table): the whole body first (7), then the slots (9); filled from the front.
use Rattle.std.specs.Prelude.{ℕ, zero, suc, List, cond, length, set, ltb, Result}
use Rattle.answer.specs.declared.Refusal.{Refusal}
use Rattle.peers_entry.specs.Peer.{peer_at}
use Rattle.peers_table.specs.Table.{Heading, heading, refused, end_at, check_peers}
use Rattle.peers_entry.specs.declared.Peer.{Peer}
use Rattle.peers_table.specs.declared.TableHead.{TableHead}

-- the body's head, and the slots after the call
pub record Loading : Type 0 where
  pub head : Heading
  pub slots : List Peer

-- an answer, set out with the slots l that the call leaves
abbrev pub loading : Result TableHead Refusal → List Peer → Loading
loading r l = record { head = heading r; slots = l }

-- the slots l with the first n of the peers from at on in the first n of them
unfoldable pub filled : List ℕ → ℕ → List Peer → ℕ → List Peer
filled s at l zero = l
filled s at l (suc n) = set (filled s at l n) n (peer_at s (end_at s at n))

-- the head of the body s for so many slots: what its check refuses, then 9 where they are too few
unfoldable pub head_for : List ℕ → ℕ → Heading
head_for s slots =
    cond (ltb 0 (check_peers s).number) (check_peers s)
    (cond (ltb slots (check_peers s).count) (refused 9)
    (check_peers s))

-- the body s in the slots l; a refusal has no peers, so it fills none
unfoldable pub load_peers : List ℕ → List Peer → Loading
load_peers s l =
    record { head = head_for s (length l); slots = filled s (head_for s (length l)).first l (head_for s (length l)).count }
