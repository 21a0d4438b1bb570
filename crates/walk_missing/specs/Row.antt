-- Rows that are missing between two RIB records (02, wish 5): for each of them and the last one of the same type before it, how many
-- sequence numbers lie between the two. Type 12 counts in 16 bits, so its counter is the narrow one, and type 13 in 32. A peer table
-- starts both counts afresh.
use Rattle.std.specs.Prelude.{ℕ, Bool, true, false, cond, ◌&&◌, List, [], ◌∷◌, length, ◌==◌, nat_le}
use Rattle.octets.specs.Octets.{be_at}
use Rattle.rib_head.specs.Layout.{carried}
use Rattle.walk_missing.specs.Turned.{width, since}
use Rattle.walk_missing.specs.declared.Counters.{Counters}
use Rattle.walk_missing.specs.declared.Missing.{Missing}
use Rattle.walk_missing.specs.declared.Missing.TheVariants.{Nothing, Repeat, Rows}
use Rattle.walk_missing.specs.declared.Counted.{Counted}

-- no number was seen
abbrev pub fresh_counters : Counters
fresh_counters = record { tabled = false; table = 0; dumped = false; dump = 0 }

-- whether a counter has seen a number, and which was the last
abbrev pub seen : Bool → Counters → Bool
seen narrow c = cond narrow c.dumped c.tabled

abbrev pub last : Bool → Counters → ℕ
last narrow c = cond narrow c.dump c.table

-- the counters after a counter has seen v
abbrev pub kept : Bool → Counters → ℕ → Counters
kept narrow c v =
    cond narrow
    (record { tabled = c.tabled; table = c.table; dumped = true; dump = v })
    (record { tabled = true; table = v; dumped = c.dumped; dump = c.dump })

-- the counters after a record, and what is told of it: how many rows are missing before it and 1 for a repeat, or nothing
pub record Counting : Type 0 where
  pub counters : Counters
  pub told : List ℕ

abbrev pub untold : Counters → Counting
untold c = record { counters = c; told = [] }

-- what each answer says
abbrev pub told : Missing → List ℕ
told Nothing = []
told Repeat = 0 ∷ 1 ∷ []
told (Rows m) = m ∷ 0 ∷ []

abbrev pub counted : Counted → Counting
counted x = record { counters = x.counters; told = told x.missing }

-- the types that are counted: 12, and the RIBs of type 13 (RFC 6396, 4.3.2; RFC 8050, 4)
unfoldable pub is_row : Bool → ℕ → ℕ → Bool
is_row narrow k t = cond narrow (k == 12) (k == 13 && carried t)

-- a peer table (RFC 6396, 4.3.1)
unfoldable pub is_peers : ℕ → ℕ → Bool
is_peers k t = k == 13 && t == 1

-- the number of a body: View Number 2, Sequence Number 2 (RFC 6396, 4.2), or Sequence Number 4 (4.3.2)
abbrev pub sequence : Bool → List ℕ → ℕ
sequence narrow s = cond narrow (be_at s 2 2) (be_at s 0 4)

-- a record with the number v
abbrev pub numbered : Bool → Counters → ℕ → Counting
numbered narrow c v = record { counters = kept narrow c v; told = since (width narrow) (seen narrow c) (last narrow c) v }

-- a record that is counted; a body of fewer than four octets has no number
unfoldable pub count_row : Bool → Counters → List ℕ → Counting
count_row narrow c s = cond (nat_le 4 (length s)) (numbered narrow c (sequence narrow s)) (untold c)

-- a record of the type k and the subtype t with the body s
unfoldable pub count : Counters → ℕ → ℕ → List ℕ → Counting
count c k t s =
    cond (is_row true k t) (count_row true c s)
    (cond (is_row false k t) (count_row false c s)
    (cond (is_peers k t) (untold fresh_counters) (untold c)))
