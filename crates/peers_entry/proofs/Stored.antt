-- A peer as it is stored: storing it again changes nothing, and a peer that was read is as it is stored.
use Prim.Native.Nat.{ℕ, zero, suc, ◌+◌, ◌-◌, ◌<◌}
use mathlib.Core.Path.{◌≡◌, refl, ◌∙◌, ap}
use mathlib.Core.List.{List, [], ◌∷◌, ◌++◌, append_assoc}
use mathlib.Core.Bool.{Bool, true, false}
use native.Mathlib.Nat.{zero-add}
use native.Mathlib.Omega.{arith}
use borrow.Author.Tests.{eqb-true, eqb-false}
use lib.ListN.{get_or, replicate}
use lib.Seq.{get_or_at}
use lib.Dec.{eqb}
use Rattle.octets_address.specs.Address.{octets_at, address_at}
use Rattle.octets_address.proofs.Addresses.{length-octets, address_again}
use Rattle.peers_entry.specs.Peer.{address_size, peer_at, stored}
use Rattle.peers_entry.specs.declared.Peer.{Peer}

-- THEOREM. Storing changes nothing of a peer that was read, or stored already.
pub stored_read : (s : List ℕ) (at : ℕ) → stored (peer_at s at) ≡ peer_at s at
unfolding stored peer_at
stored_read s at = rw (address_again s (at + 5) (address_size (get_or s at 0)))

pub stored-stored : (p : Peer) → stored (stored p) ≡ stored p
unfolding stored
stored-stored p = rw (address_again p.addr 0 (address_size p.kind))

-- ---- the octets of an address are kept
octet_kept : (s r : List ℕ) (at n i : ℕ) → i < n → get_or (octets_at s at n ++ r) i 0 ≡ get_or s (at + i) 0
unfolding octets_at
octet_kept s r at zero i h = absurd (omega arith)
octet_kept s r at (suc n) i h =
    rw (append_assoc (octets_at s at n) (get_or s (at + n) 0 ∷ []) r)
    (by_test (eqb i n) refl (λ l. octet_kept s (get_or s (at + n) 0 ∷ r) at n i l))
  where
    by_test : (t : Bool) → eqb i n ≡ t → (i < n → get_or (octets_at s at n ++ (get_or s (at + n) 0 ∷ r)) i 0 ≡ get_or s (at + i) 0)
        → get_or (octets_at s at n ++ (get_or s (at + n) 0 ∷ r)) i 0 ≡ get_or s (at + i) 0
    by_test true t f =
        let e : i ≡ n = eqb-true i n t in
        rw e (get_or_at (octets_at s at n) (get_or s (at + n) 0) r 0 n (length-octets s at n))
    by_test false t f = let e : i ≡ n → ⊥ = eqb-false i n t in f (omega arith)

pub stored_octet : (p : Peer) (i : ℕ) → i < address_size p.kind → get_or (stored p).addr i 0 ≡ get_or p.addr i 0
unfolding stored address_at
stored_octet p i h =
    octet_kept p.addr (replicate (16 - address_size p.kind) 0) 0 (address_size p.kind) i h
    ∙ ap (λ (k : ℕ). get_or p.addr k 0) (zero-add i)
