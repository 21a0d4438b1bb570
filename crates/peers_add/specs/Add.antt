-- Adding a peer (01, Peer table): 8 for a wrong count; then a known address gives its id and changes nothing; otherwise the id is
-- the count, with 10 at 65,535 peers, then 9 for no slot.
use Rattle.std.specs.Prelude.{ℕ, List, cond, length, set, leb, eqb, Result, Ok, Err}
use Rattle.answer.specs.Refusal.{number_of}
use Rattle.answer.specs.declared.Refusal.{Refusal}
use Rattle.peers_entry.specs.Peer.{stored}
use Rattle.peers_entry.specs.declared.Peer.{Peer}
use Rattle.peers_slots.specs.Used.{wrong_count}
use Rattle.peers_find.specs.Find.{look_up}
use Rattle.peers_add.specs.declared.PeerId.{PeerId}
use Rattle.peers_add.specs.declared.PeerId.TheVariants.{Known, Added}

-- an answer in numbers: the refusal's number or 0, the id, how many peers were added, and the slots after the call
pub record Adding : Type 0 where
  pub number : ℕ
  pub id : ℕ
  pub added : ℕ
  pub slots : List Peer

-- an answer, set out with the slots l that the call leaves
abbrev pub adding : Result PeerId Refusal → List Peer → Adding
adding (Ok (Known id)) l = record { number = 0; id = id; added = 0; slots = l }
adding (Ok (Added id)) l = record { number = 0; id = id; added = 1; slots = l }
adding (Err why) l = record { number = number_of why; id = 0; added = 0; slots = l }

-- the refusal n, which leaves the slots l
abbrev pub not_added : ℕ → List Peer → Adding
not_added n l = record { number = n; id = 0; added = 0; slots = l }

-- the peer p where the first count of the slots l are in use
unfoldable pub add_peer : List Peer → ℕ → Peer → Adding
add_peer l count p =
    cond (wrong_count (length l) count) (not_added 8 l)
    (cond (eqb (look_up l count p).number 0) (record { number = 0; id = (look_up l count p).id; added = 0; slots = l })
    (cond (leb 65535 count) (not_added 10 l)
    (cond (leb (length l) count) (not_added 9 l)
    (record { number = 0; id = count; added = 1; slots = set l count (stored p) }))))
