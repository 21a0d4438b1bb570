-- One peer of a PEER_INDEX_TABLE (RFC 6396, 4.3.1; 01, Peer table): Peer Type 1, Peer BGP ID 4, Peer IP Address 4 or 16,
-- Peer AS 2 or 4. Of the type, value 1 means an IPv6 address and value 2 an AS of four octets; other bits are kept.
use Rattle.std.specs.Prelude.{ℕ, zero, suc, ◌+◌, ◌*◌, ◌/◌, ◌%◌, List, [], ◌∷◌, ◌++◌, Bool, true, cond, not, ◌&&◌, length, get_or}
use Rattle.std.specs.Prelude.{replicate, leb, ltb, eqb, Result, Ok, Err}
use Rattle.answer.specs.Refusal.{number_of}
use Rattle.answer.specs.declared.Refusal.{Refusal}
use Rattle.octets.specs.Octets.{be_at, bytes_of, patch}
use Rattle.octets_address.specs.Address.{size_of, octets_at, address_at}
use Rattle.peers_entry.specs.declared.Peer.{Peer}
use Rattle.peers_entry.specs.declared.PeerRead.{PeerRead}

-- the AS stands in four octets
unfoldable pub wide : ℕ → Bool
wide kind = eqb (kind / 2 % 2) 1

-- how many octets the address takes
unfoldable pub address_size : ℕ → ℕ
address_size kind = size_of (eqb (kind % 2) 1)

-- how many octets the AS takes
unfoldable pub as_size : ℕ → ℕ
as_size kind = cond (wide kind) 4 2

-- how many octets the peer takes: 11, 13, 23 or 25
unfoldable pub peer_size : ℕ → ℕ
peer_size kind = 5 + address_size kind + as_size kind

-- the peer whose first octet stands at an offset
unfoldable pub peer_at : List ℕ → ℕ → Peer
peer_at s at =
    record {
      kind = get_or s at 0;
      id = be_at s (at + 1) 4;
      addr = address_at s (at + 5) (address_size (get_or s at 0));
      asn = be_at s (at + 5 + address_size (get_or s at 0)) (as_size (get_or s at 0));
    }

-- no peer: every field is 0
abbrev pub nobody : Peer
nobody = record { kind = 0; id = 0; addr = replicate 16 0; asn = 0 }

-- an answer of the reader in numbers: the refusal's number or 0, the peer, and where the next one starts
pub record Reading : Type 0 where
  pub number : ℕ
  pub peer : Peer
  pub next : ℕ

-- a refusal has its number, and 0 in every other field
abbrev pub unread : ℕ → Reading
unread n = record { number = n; peer = nobody; next = 0 }

-- what each answer of the reader says
abbrev pub reading : Result PeerRead Refusal → Reading
reading (Ok r) = record { number = 0; peer = r.peer; next = r.next }
reading (Err why) = unread (number_of why)

-- the peer at an offset of the body s: 8 for an offset beyond it, 7 where the peer runs past its end
unfoldable pub read_peer : List ℕ → ℕ → Reading
read_peer s at =
    cond (ltb (length s) at) (unread 8)
    (cond (leb (at + peer_size (get_or s at 0)) (length s))
    (record { number = 0; peer = peer_at s at; next = at + peer_size (get_or s at 0) })
    (unread 7))

-- the peer as it is stored: zeros after an address of four octets
unfoldable pub stored : Peer → Peer
stored p = record { kind = p.kind; id = p.id; addr = address_at p.addr 0 (address_size p.kind); asn = p.asn }

-- a peer that has an address and nothing else
unfoldable pub key_of : Bool → List ℕ → Peer
key_of v6 addr = record { kind = cond v6 1 0; id = 0; addr = addr; asn = 0 }

-- the first n octets of two addresses are the same
unfoldable pub same_octets : ℕ → List ℕ → List ℕ → Bool
same_octets zero a b = true
same_octets (suc n) a b = same_octets n a b && eqb (get_or a n 0) (get_or b n 0)

-- four octets as one number, the first one lowest
abbrev pub low_first : List ℕ → ℕ → ℕ
low_first s at = get_or s at 0 + 256 * (get_or s (at + 1) 0 + 256 * (get_or s (at + 2) 0 + 256 * get_or s (at + 3) 0))

-- two peers have the same address: one family, and the octets that the family has
unfoldable pub same_address : Peer → Peer → Bool
same_address p key = eqb (p.kind % 2) (key.kind % 2) && same_octets (address_size key.kind) p.addr key.addr

-- the AS does not fit its field
unfoldable pub unfit : Peer → Bool
unfit p = not (wide p.kind) && ltb 65535 p.asn

-- the octets of a peer
unfoldable pub peer_octets : Peer → List ℕ
peer_octets p =
    (p.kind ∷ []) ++ bytes_of 4 p.id ++ octets_at p.addr 0 (address_size p.kind) ++ bytes_of (as_size p.kind) p.asn

-- a peer at an offset of the output s, with where the next one goes; where it has no room, nothing is written
unfoldable pub put_peer : List ℕ → ℕ → Peer → List ℕ × ℕ
put_peer s at p =
    cond (leb (at + peer_size p.kind) (length s))
    (patch s at (peer_octets p), at + peer_size p.kind)
    (s, at)
