-- A walk that is lent as two places (01, Walk, confirmation, scan): its position, and 1 where it is finished or 0 where it is not.
use Rattle.std.specs.Prelude.{ℕ, List, Bool, ◌&&◌, cond, length, get_or, leb, eqb}
use Rattle.walk.specs.declared.Walk.{Walk}

-- the places ws hold a walk, at a position within n octets
unfoldable pub holds_walk : ℕ → List ℕ → Bool
holds_walk n ws = leb 2 (length ws) && leb (get_or ws 1 0) 1 && leb (get_or ws 0 0) n

-- a call over n octets on the walk in ws, with the places out for its answer: what it is where it can serve, where there are
-- fewer than 10 places, and where there is no such walk
unfoldable pub on_walk : {A : Type 0} → ℕ → List ℕ → List ℕ → A → A → A → A
on_walk n ws out served full lost = cond (holds_walk n ws) (cond (leb 10 (length out)) served full) lost

-- the walk that they hold
abbrev pub walk_in : List ℕ → Walk
walk_in ws = record { position = get_or ws 0 0; finished = eqb (get_or ws 1 0) 1 }
