-- The values of the entries of RIB bodies, in the order of their fields (RFC 6396, 4.3.4; RFC 8050, 4; 01, RIB bodies).
use Rattle.std.specs.Prelude.{ℕ, List, [], ◌∷◌, ◌++◌}
use Rattle.rib_entries.specs.Entry.{Entered, Placed, Stepped}
use Rattle.mrt_lent.specs.Export.{exported, mark}

-- an entry: peer index, originated time, path number, where the attributes start and end
abbrev pub entry_values : Entered → List ℕ
entry_values e = e.peer ∷ e.originated ∷ e.path ∷ e.start ∷ e.end ∷ []

-- an entry that is read
abbrev pub entry_out : List ℕ → Entered → List ℕ × ℕ
entry_out out e = exported out e.number (entry_values e)

-- a cursor: where the next entry starts, and how many are left
abbrev pub placed_values : Placed → List ℕ
placed_values p = p.at ∷ p.left ∷ []

-- a cursor that is placed
abbrev pub placed_out : List ℕ → Placed → List ℕ × ℕ
placed_out out p = exported out p.number (placed_values p)

-- a step: 1 where an entry is handed out and 0 at the end, the entry, and the cursor after it
abbrev pub step_values : Stepped → List ℕ
step_values x = mark x.handed ∷ entry_values x.entry ++ (x.at ∷ x.left ∷ [])

-- a step that is taken
abbrev pub step_out : List ℕ → Stepped → List ℕ × ℕ
step_out out x = exported out x.number (step_values x)
