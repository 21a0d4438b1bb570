-- A peer table counted, and how much is told of any record.
use Rattle.std.proofs.Common.{◌≡◌, ℕ, ◌-◌, ◌≤◌, Bool, true, false, cond, eqb, leb, List, [], ◌∷◌, length, arith}
use Rattle.rib_head.specs.Layout.{carried, ipv4, ipv6}
use Rattle.walk_missing.specs.Turned.{width, apart, shown, since}
use Rattle.walk_missing.specs.Row.{fresh_counters, seen, last, untold}
use Rattle.walk_missing.specs.Row.{is_row, is_peers, sequence, numbered, count_row, count}
use Rattle.walk_missing.specs.declared.Counters.{Counters}

module _ (w e l : ℕ) where
  since-le : (b : Bool) → length (since w b e l) ≤ 2
  unfolding since shown
  since-le true = by_test (eqb (apart w e l) 0)
    where
      by_test : (t : Bool) → length (cond t (0 ∷ 1 ∷ []) ((apart w e l - 1) ∷ 0 ∷ [])) ≤ 2
      by_test true = omega arith
      by_test false = omega arith
  since-le false = omega arith

module _ (narrow : Bool) (c : Counters) (s : List ℕ) where
  row-le : length (count_row narrow c s).told ≤ 2
  unfolding count_row
  row-le = by_test (leb 4 (length s))
    where
      by_test : (t : Bool) → length (cond t (numbered narrow c (sequence narrow s)) (untold c)).told ≤ 2
      by_test true = since-le (width narrow) (last narrow c) (sequence narrow s) (seen narrow c)
      by_test false = omega arith

module _ (c : Counters) (t : ℕ) (s : List ℕ) where
  pub count-peers : t ≡ 1 → untold fresh_counters ≡ count c 13 t s
  unfolding count is_row is_peers carried ipv4 ipv6
  count-peers e = rw e

  module _ (k : ℕ) where
    -- what is told has two numbers, or none
    pub told-le : length (count c k t s).told ≤ 2
    unfolding count
    told-le = by_row (is_row true k t) (is_row false k t) (is_peers k t)
      where
        by_row : (x y z : Bool)
            → length (cond x (count_row true c s) (cond y (count_row false c s) (cond z (untold fresh_counters) (untold c)))).told ≤ 2
        by_row true y z = row-le true c s
        by_row false true z = row-le false c s
        by_row false false true = omega arith
        by_row false false false = omega arith
