-- Opening a RIB body and adding an entry to it (01, RIB bodies): 8 for a length beyond the output, then 6, then 7 (a head that cannot be
-- read, a declared count unlike the read one, octets left over), then 10 and 9 as a push has them. The entry goes straight after the
-- body, and the count is raised.
use Rattle.std.specs.Prelude.{ℕ, ◌+◌, ◌-◌, List, cond, ◌&&◌, length, take, ltb, eqb, Result, Ok, Err}
use Rattle.answer.specs.Refusal.{number_of}
use Rattle.answer.specs.declared.Refusal.{Refusal}
use Rattle.answer.specs.Writing.{Writing, refuse}
use Rattle.rib_head.specs.Layout.{path_size}
use Rattle.rib_head.specs.Head.{count_at, declared}
use Rattle.rib_entries.specs.Entry.{after_of}
use Rattle.rib_write.specs.Layout.{entry_octets}
use Rattle.rib_write.specs.Push.{unfit, added, Pushing}
use Rattle.rib_write.specs.declared.NewEntry.{NewEntry}
use Rattle.rib_write.specs.declared.Builder.{Builder}

-- a builder in numbers: the refusal's number or 0, where the body ends, where its count stands, and the count
pub record Opening : Type 0 where
  pub number : ℕ
  pub len : ℕ
  pub at : ℕ
  pub count : ℕ

-- a refusal has its number, and 0 in every other field
abbrev pub unopened : ℕ → Opening
unopened n = record { number = n; len = 0; at = 0; count = 0 }

-- what each answer says
abbrev pub open_values : Result Builder Refusal → Opening
open_values (Ok b) = record { number = 0; len = b.len; at = b.at; count = b.count }
open_values (Err r) = unopened (number_of r)

-- a builder at the end of the body s, where reading stops at its end with every declared entry read
unfoldable pub open_of : List ℕ → ℕ → Opening
open_of s t =
    cond (eqb (after_of s t).number 0)
    (cond (eqb (after_of s t).left 0 && eqb (after_of s t).at (length s))
    (record { number = 0; len = length s; at = count_at s; count = declared s })
    (unopened 7))
    (unopened (after_of s t).number)

-- the entry e in the body that fills the first len octets of the output s
unfoldable pub add_entry : List ℕ → ℕ → ℕ → NewEntry → List ℕ → Writing
add_entry s len t e attributes =
    cond (ltb (length s) len) (refuse 8 s)
    (cond (eqb (open_of (take len s) t).number 0)
    (cond (unfit (open_of (take len s) t).count t e.path (length attributes)) (refuse 10 s)
    (cond (ltb (length s - len) (length (entry_octets (path_size t) e attributes))) (refuse 9 s)
    (record {
      number = 0;
      octets = len + length (entry_octets (path_size t) e attributes);
      output = added s len (entry_octets (path_size t) e attributes) (open_of (take len s) t).at ((open_of (take len s) t).count + 1);
    })))
    (refuse (open_of (take len s) t).number s))

-- a push as a writer's answer: the body's length alone
abbrev pub length_only : Pushing → Writing
length_only w = record { number = w.number; octets = w.len; output = w.output }
