-- A length between two bounds (01, Body checks).
use Rattle.std.specs.Prelude.{ℕ, Bool, ◌&&◌, cond, leb, ltb, Option, Some, None}
use Rattle.walk_checks.specs.declared.Bounds.{Bounds}

abbrev pub from_to : ℕ → ℕ → Bounds
from_to low high = record { low = low; high = high }

-- the range that lets nothing through
abbrev pub none : Bounds
none = from_to 1 0

-- bounds as code has them, where they let something through
abbrev pub offered : Bounds → Option Bounds
offered b = cond (ltb b.high b.low) None (Some b)

-- n lies in the range
abbrev pub within : Bounds → ℕ → Bool
within b n = leb b.low n && leb n b.high

-- a body check that is met, or refusal 7
abbrev pub met : Bool → ℕ
met t = cond t 0 7
