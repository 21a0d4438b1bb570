-- Rows of values that a call hands out one after another in lent places, as long as there are rows and places for them.
use Rattle.std.specs.Prelude.{ℕ, zero, suc, List, [], ◌++◌, Option, Some, None}
use Rattle.octets.specs.Octets.{patch}
use Rattle.mrt_lent.specs.declared.Handed.{Handed}

-- the values of a row, and where to go on after it, if there is one
abbrev pub Turn : Type 0 → Type 0
Turn S = Option (List ℕ × S)

-- the values of rows, how many rows they are, and where to go on after them
pub record Rows (S : Type 0) : Type 0 where
  pub values : List ℕ
  pub count : ℕ
  pub after : S

module _ {S : Type 0} where
  -- no row at a
  abbrev pub no_rows : S → Rows S
  no_rows a = record { values = []; count = 0; after = a }

  -- what a turn at a has found, and the rest
  unfoldable pub rows_on : (S → Rows S) → S → Turn S → Rows S
  rows_on rest a (Some x) = record { values = x.0 ++ (rest x.1).values; count = suc (rest x.1).count; after = (rest x.1).after }
  rows_on rest a None = no_rows a

  -- the rows from a on, at most k of them
  unfoldable pub rows_from : (S → Turn S) → ℕ → S → Rows S
  rows_from turn zero a = no_rows a
  rows_from turn (suc k) a = rows_on (rows_from turn k) a (turn a)

  -- the places out with rows at their front, how many rows, and where to go on
  abbrev pub rows_out : List ℕ → Rows S → List ℕ × (ℕ × S)
  rows_out out r = (patch out 0 r.values, (r.count, r.after))

-- what is returned for so many rows, and for a refusal
abbrev pub rows_handed : ℕ → Handed
rows_handed n = record { count = n; refusal = 0 }

abbrev pub none_handed : ℕ → Handed
none_handed n = record { count = 0; refusal = n }
