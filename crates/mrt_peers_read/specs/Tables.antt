-- The values of peer tables, in the order of their fields (RFC 6396, 4.3.1; 01, Peer table).
use Rattle.std.specs.Prelude.{ℕ, List, [], ◌∷◌}
use Rattle.peers_table.specs.Table.{Heading}
use Rattle.mrt_lent.specs.Export.{exported}

-- a peer table: collector, where the view name starts and its octets, peers, where the first one starts and the last one ends
abbrev pub table_values : Heading → List ℕ
table_values h = h.collector ∷ h.name ∷ h.length ∷ h.count ∷ h.first ∷ h.end ∷ []

-- a peer table that is checked
abbrev pub table_out : List ℕ → Heading → List ℕ × ℕ
table_out out h = exported out h.number (table_values h)
