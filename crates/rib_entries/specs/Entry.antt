-- The entries of a RIB body (RFC 6396, 4.3.4; RFC 8050, 4.1): peer index 2, originated time 4, path number p, attribute length 2,
-- attributes. p is 0 or 4, by the subtype. 01, RIB bodies: reading stops at the first entry that does not fit; entry i at or beyond
-- the read count is 8, after 6 and 7.
use Rattle.std.specs.Prelude.{ℕ, zero, suc, ◌+◌, ◌-◌, List, Bool, true, false, cond, length, leb, ltb, eqb}
use Rattle.std.specs.Prelude.{Option, Some, None, Result, Ok, Err}
use Rattle.answer.specs.Refusal.{number_of}
use Rattle.answer.specs.declared.Refusal.{Refusal}
use Rattle.octets.specs.Octets.{be_at}
use Rattle.rib_head.specs.Layout.{carried, path_size}
use Rattle.rib_head.specs.Head.{declared, entries_at, check_rib}
use Rattle.rib_entries.specs.declared.Cursor.{Cursor}
use Rattle.rib_entries.specs.declared.Entry.{Entry}
use Rattle.rib_entries.specs.declared.Next.{Next}

-- an entry in numbers: the refusal's number or 0, the fields, and where the attributes start and end in the body
pub record Entered : Type 0 where
  pub number : ℕ
  pub peer : ℕ
  pub originated : ℕ
  pub path : ℕ
  pub start : ℕ
  pub end : ℕ

-- a refusal has its number, and 0 in every other field
abbrev pub no_entry : ℕ → Entered
no_entry n = record { number = n; peer = 0; originated = 0; path = 0; start = 0; end = 0 }

-- what each answer says
abbrev pub entry_values : Result Entry Refusal → Entered
entry_values (Ok e) = record { number = 0; peer = e.peer; originated = e.originated; path = e.path; start = e.start; end = e.end }
entry_values (Err r) = no_entry (number_of r)

-- where the attributes of the entry at an offset start
unfoldable pub attributes_at : ℕ → ℕ → ℕ
attributes_at p at = at + (8 + p)

-- where they end, and the entry with them
unfoldable pub entry_end : ℕ → List ℕ → ℕ → ℕ
entry_end p s at = attributes_at p at + be_at s (at + (6 + p)) 2

-- the entry at an offset lies within the body s
unfoldable pub fits : ℕ → List ℕ → ℕ → Bool
fits p s at = leb (entry_end p s at) (length s)

-- its fields
abbrev pub fields_at : ℕ → List ℕ → ℕ → Entry
fields_at p s at =
    record {
      peer = be_at s at 2;
      originated = be_at s (at + 2) 4;
      path = be_at s (at + 6) p;
      start = attributes_at p at;
      end = entry_end p s at;
    }

-- the entry at an offset, or 8 where it does not fit
unfoldable pub entry_here : ℕ → List ℕ → ℕ → Entered
entry_here p s at = cond (fits p s at) (entry_values (Ok (fields_at p s at))) (no_entry 8)

-- of n entries from an offset on those are passed that fit, up to the first that does not: where that stops, and how many are left
unfoldable pub passed : ℕ → List ℕ → ℕ → ℕ → Cursor
passed p s at zero = record { at = at; left = 0 }
passed p s at (suc n) = cond (fits p s at) (passed p s (entry_end p s at) n) (record { at = at; left = suc n })

-- how many of the declared entries are there
unfoldable pub read_count : List ℕ → ℕ → ℕ
read_count s t = declared s - (passed (path_size t) s (entries_at s) (declared s)).left

-- the entry i of the body s
unfoldable pub entry_of : List ℕ → ℕ → ℕ → Entered
entry_of s t i =
    cond (eqb (check_rib s t) 0)
    (cond (ltb i (read_count s t)) (entry_here (path_size t) s (passed (path_size t) s (entries_at s) i).at) (no_entry 8))
    (no_entry (check_rib s t))

-- a cursor in numbers
pub record Placed : Type 0 where
  pub number : ℕ
  pub at : ℕ
  pub left : ℕ

-- what each answer says
abbrev pub cursor_values : Result Cursor Refusal → Placed
cursor_values (Ok c) = record { number = 0; at = c.at; left = c.left }
cursor_values (Err r) = record { number = number_of r; at = 0; left = 0 }

-- the cursor c, where the head of s can be read
unfoldable pub placed : List ℕ → ℕ → Cursor → Placed
placed s t c =
    cond (eqb (check_rib s t) 0) (record { number = 0; at = c.at; left = c.left }) (record { number = check_rib s t; at = 0; left = 0 })

-- the cursor at the first entry, with every declared entry left
unfoldable pub first_of : List ℕ → ℕ → Placed
first_of s t = placed s t (record { at = entries_at s; left = declared s })

-- the cursor where reading stops
unfoldable pub after_of : List ℕ → ℕ → Placed
after_of s t = placed s t (passed (path_size t) s (entries_at s) (declared s))

-- a step in numbers: the refusal's number or 0, whether an entry is handed out, the entry, and the cursor after it
pub record Stepped : Type 0 where
  pub number : ℕ
  pub handed : Bool
  pub entry : Entered
  pub at : ℕ
  pub left : ℕ

-- nothing is handed out, with a refusal's number or at the end
abbrev pub no_step : ℕ → Stepped
no_step n = record { number = n; handed = false; entry = no_entry 0; at = 0; left = 0 }

-- what each answer says
abbrev pub next_values : Result (Option Next) Refusal → Stepped
next_values (Ok (Some n)) = record { number = 0; handed = true; entry = entry_values (Ok n.entry); at = n.cursor.at; left = n.cursor.left }
next_values (Ok None) = no_step 0
next_values (Err r) = no_step (number_of r)

-- the entry at the cursor c and the cursor after it, where one is left and fits
unfoldable pub step_at : ℕ → List ℕ → Cursor → Option Next
step_at p s c =
    cond (eqb c.left 0) None
    (cond (fits p s c.at)
    (Some (record { entry = fields_at p s c.at; cursor = record { at = entry_end p s c.at; left = c.left - 1 } }))
    None)

-- the same, or the end: 8 for an offset beyond the body, then 6
unfoldable pub next_of : List ℕ → ℕ → Cursor → Stepped
next_of s t c =
    cond (ltb (length s) c.at) (no_step 8) (cond (carried t) (next_values (Ok (step_at (path_size t) s c))) (no_step 6))
