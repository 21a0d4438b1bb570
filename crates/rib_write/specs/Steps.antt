-- What the helpers of `push_entries` decide: whether a row goes in where a builder stands whose count can be raised, and what is
-- stored and answered after the last one.
use Rattle.std.specs.Prelude.{ℕ, ◌+◌, ◌-◌, List, Bool, ◌&&◌, ◌||◌, not, cond, length, get_or, leb, eqb, Option, Some, None}
use Rattle.octets.specs.Octets.{bytes_of, patch}
use Rattle.rib_write.specs.Layout.{entry_octets}
use Rattle.rib_write.specs.Rows.{entry_in, attributes_in, askable}
use Rattle.rib_write.specs.declared.Builder.{Builder}
use Rattle.rib_write.specs.declared.Pushed.{Pushed}

-- how many octets of attributes the row at a place of rs has
abbrev pub size_in : List ℕ → ℕ → ℕ
size_in rs at = get_or rs (at + 4) 0 - get_or rs (at + 3) 0

-- that row can be asked for, fits its fields with a path number of p octets, and has room
unfoldable pub taken : ℕ → List ℕ → ℕ → ℕ → ℕ → Bool
taken p rs at n room =
    askable rs at n && leb (size_in rs at) 65535 && (not (eqb p 0) || eqb (get_or rs (at + 2) 0) 0) && leb (8 + p + size_in rs at) room

-- the row at the front of the part s, and how many octets it takes, or none where it is refused
unfoldable pub put_row : List ℕ → ℕ → List ℕ → ℕ → List ℕ → List ℕ × Option ℕ
put_row s p rs at buffer =
    cond (taken p rs at (length buffer) (length s))
    (patch s 0 (entry_octets p (entry_in rs at) (attributes_in rs at buffer)), Some (8 + p + size_in rs at))
    (s, None)

-- the output s after n rows of the builder b, whose body now has so many octets: the count is stored, and they are answered
abbrev pub closed : List ℕ → Builder → ℕ → ℕ → List ℕ × Pushed
closed s b len n =
    (patch s b.at (bytes_of 2 (b.count + n)), record { builder = record { len = len; at = b.at; count = b.count + n }; rows = n })
