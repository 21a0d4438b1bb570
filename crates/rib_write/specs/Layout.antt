-- The octets of an entry of a RIB body (RFC 6396, 4.3.4; RFC 8050, 4): peer index 2, originated time 4, path number p, attribute
-- length 2, attributes.
use Rattle.std.specs.Prelude.{ℕ, List, ◌++◌, length}
use Rattle.octets.specs.Octets.{bytes_of}
use Rattle.rib_write.specs.declared.NewEntry.{NewEntry}

-- an entry whose path number takes p octets
unfoldable pub entry_octets : ℕ → NewEntry → List ℕ → List ℕ
entry_octets p e attributes =
    bytes_of 2 e.peer ++ bytes_of 4 e.originated ++ bytes_of p e.path ++ bytes_of 2 (length attributes) ++ attributes
