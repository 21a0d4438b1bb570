-- Type 5 (01, Body checks; 02, wish 4): the stored length by subtype.
use Rattle.std.specs.Prelude.{ℕ, cond, List, [], ◌∷◌, get_or, ltb}
use Rattle.walk_checks.specs.Within.{from_to, none, within, met}
use Rattle.walk_checks.specs.declared.Bounds.{Bounds}

-- one row for each subtype from 0 to 7
unfoldable pub legacy_rows : List Bounds
legacy_rows =
    none
    ∷ from_to 16 65535
    ∷ none
    ∷ from_to 10 10
    ∷ none
    ∷ from_to 22 4089
    ∷ from_to 14 65535
    ∷ from_to 12 12
    ∷ []

-- beyond the rows no subtype is carried
unfoldable pub legacy_bounds : ℕ → Bounds
legacy_bounds u = get_or legacy_rows u none

-- 0, 6 where the range is empty, or 7 outside it
unfoldable pub legacy : ℕ → ℕ → ℕ
legacy u n = cond (ltb (legacy_bounds u).high (legacy_bounds u).low) 6 (met (within (legacy_bounds u) n))
