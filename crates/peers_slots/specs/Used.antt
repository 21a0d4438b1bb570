-- A lent list of peer records, of which the first count are in use (01, Peer table).
use Rattle.std.specs.Prelude.{ℕ, Bool, cond, ◌||◌, ltb}

-- a count above the slots or above 65,535
unfoldable pub wrong_count : ℕ → ℕ → Bool
wrong_count slots count = ltb slots count || ltb 65535 count

-- how many slots are in use: none where the count is wrong
unfoldable pub in_use : ℕ → ℕ → ℕ
in_use slots count = cond (wrong_count slots count) 0 count
