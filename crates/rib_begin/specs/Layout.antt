-- The octets of the head of a RIB body (RFC 6396, 4.3.2): sequence 4, prefix bits 1, prefix octets, entry count 2.
-- 01, RIB bodies: the bits after the prefix are cleared.
use Rattle.std.specs.Prelude.{ℕ, List, [], ◌∷◌, ◌++◌}
use Rattle.octets.specs.Octets.{bytes_of}
use Rattle.rib_head.specs.Layout.{prefix_size}
use Rattle.rib_head.specs.Prefix.{cleared}

-- a head with these prefix octets: sequence, prefix bits, prefix octets, entry count
unfoldable pub head_with : ℕ → ℕ → List ℕ → ℕ → List ℕ
head_with sequence bits octets count = bytes_of 4 sequence ++ (bits ∷ []) ++ octets ++ bytes_of 2 count

-- a head with this prefix, whose bits after the prefix are cleared
unfoldable pub head_octets : ℕ → ℕ → List ℕ → ℕ → List ℕ
head_octets sequence bits prefix count = head_with sequence bits (cleared bits prefix (prefix_size bits)) count
