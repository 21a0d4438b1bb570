-- Missing rows, exported (02, wish 5; 01, Refusal numbers). The counters are lent as four places: of type 13 a mark, 1 where a number
-- was seen and 0 where none was, and the last number; then those of type 12. What is told has three places. 8 for no such counters,
-- then 9 for fewer than 3 places; both leave the counters and the places.
use Rattle.std.specs.Prelude.{ℕ, List, [], ◌∷◌, Bool, ◌&&◌, cond, length, get_or, leb, eqb}
use Rattle.octets.specs.Octets.{patch}
use Rattle.walk_missing.specs.Row.{Counting, count}
use Rattle.walk_missing.specs.declared.Counters.{Counters}
use Rattle.mrt_lent.specs.Export.{mark}

-- the places cs hold counters, each number within its width
unfoldable pub holds_counters : List ℕ → Bool
holds_counters cs =
    leb 4 (length cs) && leb (get_or cs 0 0) 1 && leb (get_or cs 1 0) 4294967295 && leb (get_or cs 2 0) 1 && leb (get_or cs 3 0) 65535

-- the counters that they hold
abbrev pub counters_in : List ℕ → Counters
counters_in cs =
    record { tabled = eqb (get_or cs 0 0) 1; table = get_or cs 1 0; dumped = eqb (get_or cs 2 0) 1; dump = get_or cs 3 0 }

-- the places of counters
abbrev pub counters_values : Counters → List ℕ
counters_values c = mark c.tabled ∷ c.table ∷ mark c.dumped ∷ c.dump ∷ []

-- the values of what is told: 1 before them, or three times 0 where nothing is
abbrev pub missing_values : List ℕ → List ℕ
missing_values [] = 0 ∷ 0 ∷ 0 ∷ []
missing_values (m ∷ l) = 1 ∷ m ∷ l

-- the counters' places, those of what is told, and what is returned
abbrev pub counted_out : List ℕ → List ℕ → Counting → List ℕ × (List ℕ × ℕ)
counted_out cs out x = (patch cs 0 (counters_values x.counters), (patch out 0 (missing_values x.told), 0))

-- one call for a record of the type k and the subtype t with the body s
unfoldable pub missing_out : List ℕ → ℕ → ℕ → List ℕ → List ℕ → List ℕ × (List ℕ × ℕ)
missing_out s k t cs out =
    cond (holds_counters cs)
    (cond (leb 3 (length out)) (counted_out cs out (count (counters_in cs) k t s)) (cs, (out, 9)))
    (cs, (out, 8))
