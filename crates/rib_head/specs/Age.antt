-- How old a route was when its record was written (01, RIB bodies): the record's timestamp minus the originated time, in seconds,
-- below zero where the route is later than the record.
use Rattle.std.specs.Prelude.{ℕ, ℤ, pos, ◌-ℤ◌}

-- the difference of the two times
abbrev pub age_of : ℕ → ℕ → ℤ
age_of timestamp originated = pos timestamp -ℤ pos originated
