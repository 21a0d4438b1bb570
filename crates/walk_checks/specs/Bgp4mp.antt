-- Types 16 and 17 (RFC 6396, 4.4; RFC 8050, 3; 01, Body checks): two AS numbers, Interface Index 2, Address Family 2,
-- two addresses; then two states of 2 octets, or one BGP message.
use Rattle.std.specs.Prelude.{ℕ, ◌+◌, ◌*◌, List, [], ◌∷◌, Bool, ◌&&◌, ◌||◌, not, cond, length, drop, get_or, eqb, leb}
use Rattle.octets.specs.Octets.{be_at}
use Rattle.octets_address.specs.Address.{address_size}
use Rattle.walk_checks.specs.Within.{met}
use Rattle.walk_checks.specs.Message.{message}

-- the octets of an AS number, by subtype from 0 to 11; 0 where the subtype is not carried
unfoldable pub as_sizes : List ℕ
as_sizes = 2 ∷ 2 ∷ 0 ∷ 0 ∷ 4 ∷ 4 ∷ 2 ∷ 4 ∷ 2 ∷ 4 ∷ 2 ∷ 4 ∷ []

unfoldable pub as_size : ℕ → ℕ
as_size u = get_or as_sizes u 0

-- the subtypes that end with two states
unfoldable pub state_change : ℕ → Bool
state_change u = eqb u 0 || eqb u 5

-- what stands after the addresses
unfoldable pub tail : ℕ → List ℕ → Bool
tail u l = cond (state_change u) (eqb (length l) 4) (message l)

-- with AS numbers of a octets and addresses of x
unfoldable pub envelope : ℕ → ℕ → ℕ → List ℕ → Bool
envelope a x u b = not (eqb x 0) && leb (2 * a + 4 + 2 * x) (length b) && tail u (drop (2 * a + 4 + 2 * x) b)

-- 0, 6 for a subtype that is not carried, or 7
unfoldable pub bgp4mp : ℕ → List ℕ → ℕ
bgp4mp u b =
    cond (eqb (as_size u) 0) 6
    (met (leb (2 * as_size u + 4) (length b) && envelope (as_size u) (address_size (be_at b (2 * as_size u + 2) 2)) u b))
