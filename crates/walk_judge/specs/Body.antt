-- The body check of a record, by its type (01, Body checks; Refusal numbers; 02, wish 3): 0, 2 for a type that is not known, 5 for a
-- known type that is not carried, 6 for a subtype that is not, or 7.
use Rattle.std.specs.Prelude.{ℕ, List, Bool, ◌||◌, cond, eqb}
use Rattle.header.specs.Kind.{known}
use Rattle.peers_table.specs.Table.{check_peers}
use Rattle.rib_head.specs.Head.{check_rib}
use Rattle.dump_layout.specs.Check.{check_dump}
use Rattle.walk_checks.specs.Legacy.{legacy}
use Rattle.walk_checks.specs.Bgp4mp.{bgp4mp}

-- the types that are carried; of every other known type the refusal is 5
unfoldable pub carried : ℕ → Bool
carried k = eqb k 5 || eqb k 12 || eqb k 13 || eqb k 16 || eqb k 17

-- type 13 (RFC 6396, 4.3): the peer table of subtype 1, or a RIB
unfoldable pub table_dump_v2 : ℕ → List ℕ → ℕ
table_dump_v2 u b = cond (eqb u 1) (check_peers b).number (check_rib b u)

-- the check of a type k that is carried, with the subtype u and the stored length n of the body b
unfoldable pub check_of : ℕ → ℕ → ℕ → List ℕ → ℕ
check_of k u n b =
    cond (eqb k 5) (legacy u n)
    (cond (eqb k 12) (check_dump b u)
    (cond (eqb k 13) (table_dump_v2 u b) (bgp4mp u b)))

-- of any type
unfoldable pub check : ℕ → ℕ → ℕ → List ℕ → ℕ
check k u n b = cond (known k) (cond (carried k) (check_of k u n b) 5) 2
