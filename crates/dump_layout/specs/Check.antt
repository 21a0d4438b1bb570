-- Which bodies of type 12 are carried (02, wish 3): subtypes 1 and 2, whose body is 22 or 46 octets plus its attributes and whose prefix
-- has no more bits than an address. 6 for another subtype, then 7.
use Rattle.std.specs.Prelude.{ℕ, ◌+◌, ◌*◌, List, Bool, ◌&&◌, cond, length, get_or, eqb, leb}
use Rattle.octets.specs.Octets.{be_at}
use Rattle.octets_address.specs.Address.{address_size}
use Rattle.dump_layout.specs.Layout.{attributes_at}

-- the body s ends where its attributes do, and its prefix bits are at most those of an address
unfoldable pub filled : ℕ → List ℕ → Bool
filled x s = eqb (attributes_at x + be_at s (12 + 2 * x) 2) (length s) && leb (get_or s (4 + x) 0) (8 * x)

-- 0, 6 or 7 for the body s of subtype u, which is the family of its addresses
unfoldable pub check_dump : List ℕ → ℕ → ℕ
check_dump s u = cond (eqb (address_size u) 0) 6 (cond (filled (address_size u) s) 0 7)
