-- Entries of a RIB body, many by one call, exported (RFC 6396, 4.3.4; RFC 8050, 4.1; 01, RIB bodies). The cursor is lent as two
-- places: where the next entry starts, and how many are left. Each entry has five places. 8 for no such cursor, 6 for another
-- subtype, then 9 for fewer than 5 places; all leave the cursor and the places. No entry is left where reading stops.
use Rattle.std.specs.Prelude.{ℕ, ◌/◌, List, [], ◌∷◌, Bool, ◌&&◌, cond, length, get_or, leb, Some, None}
use Rattle.octets.specs.Octets.{patch}
use Rattle.rib_head.specs.Layout.{carried}
use Rattle.rib_entries.specs.Entry.{Stepped, next_of}
use Rattle.rib_entries.specs.declared.Cursor.{Cursor}
use Rattle.mrt_lent.specs.Rows.{Turn, Rows, rows_from, rows_handed, none_handed}
use Rattle.mrt_lent.specs.declared.Handed.{Handed}
use Rattle.mrt_rib_cursor.specs.Entries.{entry_values}

-- an entry that is handed out is a row, and the next one is looked for at the cursor after it
abbrev pub entry_turn : Stepped → Turn Cursor
entry_turn x = cond x.handed (Some (entry_values x.entry, record { at = x.at; left = x.left })) None

-- what stands at a cursor of the body s with the subtype t
unfoldable pub entry_at : List ℕ → ℕ → Cursor → Turn Cursor
entry_at s t c = entry_turn (next_of s t c)

-- the places cs hold a cursor of the body s: an offset within it, and no more entries than it may declare
unfoldable pub holds_cursor : List ℕ → List ℕ → Bool
holds_cursor s cs = leb 2 (length cs) && leb (get_or cs 1 0) 65535 && leb (get_or cs 0 0) (length s)

-- the cursor that they hold
abbrev pub cursor_in : List ℕ → Cursor
cursor_in cs = record { at = get_or cs 0 0; left = get_or cs 1 0 }

-- the cursor's places, the entries', and what is returned
abbrev pub entries_handed : List ℕ → List ℕ → Rows Cursor → List ℕ × (List ℕ × Handed)
entries_handed cs out r = (patch cs 0 (r.after.at ∷ r.after.left ∷ []), (patch out 0 r.values, rows_handed r.count))

-- one call over the body s with the subtype t
unfoldable pub entries_out : List ℕ → ℕ → List ℕ → List ℕ → List ℕ × (List ℕ × Handed)
entries_out s t cs out =
    cond (holds_cursor s cs)
    (cond (carried t)
    (cond (leb 5 (length out)) (entries_handed cs out (rows_from (entry_at s t) (length out / 5) (cursor_in cs)))
    (cs, (out, none_handed 9)))
    (cs, (out, none_handed 6)))
    (cs, (out, none_handed 8))
