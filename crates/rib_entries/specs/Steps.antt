-- What the helpers of the calls hand on: the entry at an offset.
use Rattle.std.specs.Prelude.{ℕ, List, cond, Option, Some, None}
use Rattle.rib_entries.specs.Entry.{fits, fields_at}
use Rattle.rib_entries.specs.declared.Entry.{Entry}

-- the entry at an offset, with a path number of p octets, where it fits
unfoldable pub read_at : ℕ → List ℕ → ℕ → Option Entry
read_at p s at = cond (fits p s at) (Some (fields_at p s at)) None
