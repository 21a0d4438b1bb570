-- Records of a walk, many by one call, exported (01, Walk, confirmation, scan). The walk is lent as two places. Each record has
-- ten places, with the values that one call of the walk hands out. 8 for no such walk or a position beyond the stream, then 9
-- for fewer than 10 places; both leave the walk and the places. A finished walk has no record.
use Rattle.std.specs.Prelude.{ℕ, ◌/◌, List, cond, length, get_or, set, eqb, Some, None}
use Rattle.rules.specs.Ask.{over}
use Rattle.walk.specs.Judged.{Judged, fit, off, cut}
use Rattle.walk_judge.specs.Record.{judge_at}
use Rattle.mrt_lent.specs.Records.{record_values}
use Rattle.mrt_lent.specs.Rows.{Turn, Rows, rows_from, rows_handed, none_handed}
use Rattle.mrt_lent.specs.Walks.{on_walk}
use Rattle.mrt_lent.specs.declared.Handed.{Handed}
use Rattle.octets.specs.Octets.{patch}

-- a record at p that passes is a row, and the next one is looked for where it ends
abbrev pub record_turn : ℕ → Judged → Turn ℕ
record_turn p (fit f) = Some (record_values p f, f.end)
record_turn p (off r e) = None
record_turn p (cut r) = None

-- what stands at p of the stream s
unfoldable pub record_at : List ℕ → ℕ → Turn ℕ
record_at s p = record_turn p (over s (judge_at p))

-- the walk's places, the records', and what is returned
abbrev pub records_handed : List ℕ → List ℕ → Rows ℕ → List ℕ × (List ℕ × Handed)
records_handed ws out r = (set ws 0 r.after, (patch out 0 r.values, rows_handed r.count))

-- one call over the stream s
abbrev pub records_out : List ℕ → List ℕ → List ℕ → List ℕ × (List ℕ × Handed)
records_out s ws out =
    on_walk (length s) ws out
    (cond (eqb (get_or ws 1 0) 1) (ws, (out, rows_handed 0)) (records_handed ws out
    (rows_from (record_at s) (length out / 10) (get_or ws 0 0))))
    (ws, (out, none_handed 9))
    (ws, (out, none_handed 8))
