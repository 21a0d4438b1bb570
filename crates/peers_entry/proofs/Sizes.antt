-- What the type octet decides, case by case, and the bounds of the sizes.
use Prim.Native.Nat.{ℕ, ◌+◌, ◌%◌, ◌≤◌}
use mathlib.Core.Path.{◌≡◌, refl}
use mathlib.Core.Bool.{Bool, true, false}
use native.Mathlib.Omega.{arith}
use lib.Dec.{eqb}
use Rattle.octets_address.specs.Address.{size_of}
use Rattle.octets_address.proofs.Addresses.{size-le}
use Rattle.peers_entry.specs.Peer.{wide, address_size, as_size, peer_size}

module _ (kind : ℕ) where
  pub address_either : (address_size kind ≡ 4 → ⊥) → address_size kind ≡ 16
  unfolding address_size size_of
  address_either = case (eqb (kind % 2) 1) refl
    where
      case : (z : Bool) → eqb (kind % 2) 1 ≡ z → (address_size kind ≡ 4 → ⊥) → address_size kind ≡ 16
      case true e f = simp e
      case false e f = absurd (f (simp e))

  pub as_either : (as_size kind ≡ 4 → ⊥) → as_size kind ≡ 2
  unfolding as_size
  as_either = case (wide kind) refl
    where
      case : (z : Bool) → wide kind ≡ z → (as_size kind ≡ 4 → ⊥) → as_size kind ≡ 2
      case true e f = absurd (f (simp e))
      case false e f = simp e

  pub address_le : address_size kind ≤ 16
  unfolding address_size
  address_le = (size-le (eqb (kind % 2) 1)).1

  pub as_le : as_size kind ≤ 4
  unfolding as_size
  as_le = case (wide kind) refl
    where
      case : (z : Bool) → wide kind ≡ z → as_size kind ≤ 4
      case true e = simp e (omega arith)
      case false e = simp e (omega arith)

  pub as_least : 2 ≤ as_size kind
  unfolding as_size
  as_least = case (wide kind) refl
    where
      case : (z : Bool) → wide kind ≡ z → 2 ≤ as_size kind
      case true e = simp e (omega arith)
      case false e = simp e (omega arith)

  pub size_is : peer_size kind ≡ 5 + address_size kind + as_size kind
  unfolding peer_size
  size_is = refl
