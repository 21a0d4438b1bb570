-- The prefix of a RIB body (RFC 6396, 4.3.2): prefix bits 1, then the fewest octets that hold them. RFC 4271 (4.3) calls the
-- bits after the prefix irrelevant; 01, RIB bodies: they are cleared in the answer and by the writer.
use Rattle.std.specs.Prelude.{ℕ, zero, suc, ◌-◌, ◌*◌, ◌/◌, ◌^◌, List, [], ◌∷◌, ◌++◌, get_or}

-- the octet v at index i of a prefix of so many bits: its bits within the prefix stay, those after it become 0
unfoldable pub masked : ℕ → ℕ → ℕ → ℕ
masked bits i v = v / 2 ^ (8 - (bits - 8 * i)) * 2 ^ (8 - (bits - 8 * i))

-- the first n octets of l, with 0 past its end and the bits after the prefix cleared
unfoldable pub cleared : ℕ → List ℕ → ℕ → List ℕ
cleared bits l zero = []
cleared bits l (suc n) = cleared bits l n ++ (masked bits n (get_or l n 0) ∷ [])
