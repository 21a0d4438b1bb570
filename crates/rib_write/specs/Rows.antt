-- Entries pushed by rows (01, RIB bodies: entries one at a time, each straight after the last one). A row is five values, as an entry is
-- handed out: peer index, originated time, path number, where its attributes start and where they end in one buffer. Rows go in one after
-- another, as long as a push of each is accepted. Refusals are of the call: 8 for rows that are no whole number of rows and for a length
-- beyond the output, then 6 and 7 for no builder of what stands there.
use Rattle.std.specs.Prelude.{ℕ, zero, suc, ◌+◌, ◌-◌, ◌/◌, ◌%◌, List, Bool, ◌&&◌, cond, length, take, get_or, leb, ltb, eqb}
use Rattle.std.specs.Prelude.{Result, Ok, Err}
use Rattle.answer.specs.Refusal.{number_of}
use Rattle.answer.specs.declared.Refusal.{Refusal}
use Rattle.octets.specs.Octets.{part}
use Rattle.rib_write.specs.Push.{Pushing, unpushed, standing, push_entry}
use Rattle.rib_write.specs.declared.NewEntry.{NewEntry}
use Rattle.rib_write.specs.declared.Builder.{Builder}
use Rattle.rib_write.specs.declared.Pushed.{Pushed}

-- the entry of the row that starts at a place of rs
abbrev pub entry_in : List ℕ → ℕ → NewEntry
entry_in rs at = record { peer = get_or rs at 0; originated = get_or rs (at + 1) 0; path = get_or rs (at + 2) 0 }

-- its attributes in the buffer
abbrev pub attributes_in : List ℕ → ℕ → List ℕ → List ℕ
attributes_in rs at buffer = part buffer (get_or rs (at + 3) 0) (get_or rs (at + 4) 0 - get_or rs (at + 3) 0)

-- a push can be asked for with it: its values have 16, 32 and 32 bits, and its attributes lie within a buffer of n octets
unfoldable pub askable : List ℕ → ℕ → ℕ → Bool
askable rs at n =
    leb (get_or rs at 0) 65535 && leb (get_or rs (at + 1) 0) 4294967295 && leb (get_or rs (at + 2) 0) 4294967295
    && leb (get_or rs (at + 3) 0) (get_or rs (at + 4) 0) && leb (get_or rs (at + 4) 0) n

-- the push of a row where the builder b stands in the output s; one that cannot be asked for is refused
unfoldable pub push_row : List ℕ → ℕ → Builder → List ℕ → ℕ → List ℕ → Pushing
push_row s t b rs at buffer =
    cond (askable rs at (length buffer)) (push_entry s t b (entry_in rs at) (attributes_in rs at buffer)) (unpushed 8 s)

-- what rows have come to: how many went in, the builder after them, and the output
pub record Rowing : Type 0 where
  pub rows : ℕ
  pub builder : Builder
  pub output : List ℕ

-- no row, and one row before others
abbrev pub no_row : Builder → List ℕ → Rowing
no_row b s = record { rows = 0; builder = b; output = s }

abbrev pub one_more : Rowing → Rowing
one_more r = record { rows = suc r.rows; builder = r.builder; output = r.output }

-- the builder after an accepted push
abbrev pub builder_after : Pushing → Builder
builder_after p = record { len = p.len; at = p.at; count = p.count }

-- k rows from a place of rs on, each pushed after the one before, up to the first that is refused
unfoldable pub push_rows : ℕ → List ℕ → ℕ → Builder → List ℕ → ℕ → List ℕ → Rowing
push_rows zero s t b rs at buffer = no_row b s
push_rows (suc k) s t b rs at buffer =
    cond (eqb (push_row s t b rs at buffer).number 0)
    (one_more (push_rows k (push_row s t b rs at buffer).output t (builder_after (push_row s t b rs at buffer)) rs (at + 5) buffer))
    (no_row b s)

-- an answer in numbers: the refusal's number or 0, and what the rows have come to
pub record Rowed : Type 0 where
  pub number : ℕ
  pub rows : ℕ
  pub len : ℕ
  pub at : ℕ
  pub count : ℕ
  pub output : List ℕ

-- the refusal n, which leaves the output s
abbrev pub unrowed : ℕ → List ℕ → Rowed
unrowed n s = record { number = n; rows = 0; len = 0; at = 0; count = 0; output = s }

-- rows that went in
abbrev pub rowed : Rowing → Rowed
rowed r =
    record {
      number = 0;
      rows = r.rows;
      len = r.builder.len;
      at = r.builder.at;
      count = r.builder.count;
      output = r.output;
    }

-- what an answer says, with the output s that the call leaves
abbrev pub rows_values : Result Pushed Refusal → List ℕ → Rowed
rows_values (Ok p) s = rowed (record { rows = p.rows; builder = p.builder; output = s })
rows_values (Err r) s = unrowed (number_of r) s

-- the rows rs, their attributes in one buffer, where the builder b stands in the output s
unfoldable pub push_entries : List ℕ → ℕ → Builder → List ℕ → List ℕ → Rowed
push_entries s t b rs buffer =
    cond (eqb (length rs % 5) 0)
    (cond (ltb (length s) b.len) (unrowed 8 s)
    (cond (eqb (standing (take b.len s) t b) 0)
    (rowed (push_rows (length rs / 5) s t b rs 0 buffer))
    (unrowed (standing (take b.len s) t b) s)))
    (unrowed 8 s)
