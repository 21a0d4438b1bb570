-- An address of four or sixteen octets (RFC 6396, 4: IPv4 and IPv6), and sixteen octets that hold either (01, Peer table): a four-octet
-- address occupies the first four of 16, zeros after.
use Rattle.std.specs.Prelude.{ℕ, zero, suc, ◌+◌, ◌-◌, List, [], ◌∷◌, ◌++◌, Bool, cond, length, get_or, replicate, eqb, leb}
use Rattle.std.specs.Prelude.{Option, Some, None}
use Rattle.octets.specs.Octets.{patch}

-- how many octets an address takes, a long one or a short one
unfoldable pub size_of : Bool → ℕ
size_of long = cond long 16 4

-- the same by its family, 1 for IPv4 and 2 for IPv6 (RFC 6396, 4.2 and 4.4); 0 where there is no such family
unfoldable pub address_size : ℕ → ℕ
address_size f = cond (eqb f 1) 4 (cond (eqb f 2) 16 0)

-- a number, none in the place of 0
unfoldable pub nonzero : ℕ → Option ℕ
nonzero n = cond (eqb n 0) None (Some n)

-- the n octets of s from at on; octets past the end count as 0
unfoldable pub octets_at : List ℕ → ℕ → ℕ → List ℕ
octets_at s at zero = []
octets_at s at (suc n) = octets_at s at n ++ (get_or s (at + n) 0 ∷ [])

-- an address of n octets in the first n of 16, zeros after
unfoldable pub address_at : List ℕ → ℕ → ℕ → List ℕ
address_at s at n = octets_at s at n ++ replicate (16 - n) 0

-- the same where s has these octets; where it ends before them, all zeros
unfoldable pub address_in : List ℕ → ℕ → ℕ → List ℕ
address_in s at n = cond (leb (at + n) (length s)) (address_at s at n) (replicate 16 0)

-- the first n octets of an address at an offset of s; where they have no room, nothing is written
unfoldable pub put_address : List ℕ → ℕ → List ℕ → ℕ → List ℕ
put_address s at address n = cond (leb (at + n) (length s)) (patch s at (octets_at address 0 n)) s
