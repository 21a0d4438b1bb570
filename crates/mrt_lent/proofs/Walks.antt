-- What a call on a lent walk is.
use Prim.Native.Nat.{ℕ, ◌<◌, ◌≤◌}
use mathlib.Core.Path.{◌≡◌}
use mathlib.Core.List.{List}
use lib.ListN.{length, get_or}
use borrow.Author.Tests.{le-leb, lt-leb}
use Rattle.mrt_lent.specs.Walks.{holds_walk, on_walk}

-- what is known of a walk that is held in ws, within n octets
pub record Held (n : ℕ) (ws : List ℕ) : Type 0 where
  pub two : 2 ≤ length ws
  pub marked : get_or ws 1 0 ≤ 1
  pub within : get_or ws 0 0 ≤ n

module _ {A : Type 0} {n : ℕ} {ws : List ℕ} (served full lost : A) (h : Held n ws) (out : List ℕ) where
  -- it is served
  pub walk_served : 10 ≤ length out → served ≡ on_walk n ws out served full lost
  unfolding on_walk holds_walk
  walk_served l = simp (le-leb _ _ h.two, le-leb _ _ h.marked, le-leb _ _ h.within, le-leb _ _ l)

  -- there are too few places for an answer
  pub walk_full : length out < 10 → full ≡ on_walk n ws out served full lost
  unfolding on_walk holds_walk
  walk_full l = simp (le-leb _ _ h.two, le-leb _ _ h.marked, le-leb _ _ h.within, lt-leb _ _ l)
