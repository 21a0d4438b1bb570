-- A RIB body (RFC 6396, 4.3.2): sequence 4, prefix bits 1, prefix octets, entry count 2, entries. 01, RIB bodies: a body whose last
-- entries are missing is accepted, and the answer has both counts.
use Rattle.std.specs.Prelude.{ℕ, List, cond, replicate, eqb, Result, Ok, Err}
use Rattle.answer.specs.Refusal.{number_of}
use Rattle.answer.specs.declared.Refusal.{Refusal}
use Rattle.octets.specs.Octets.{be_at, part}
use Rattle.rib_head.specs.Layout.{prefix_size}
use Rattle.rib_head.specs.Prefix.{cleared}
use Rattle.rib_head.specs.Head.{bits_of, declared, entries_at, check_rib}
use Rattle.rib_entries.specs.Entry.{read_count}
use Rattle.rib_read.specs.declared.Rib.{Rib}

-- an answer in numbers: the refusal's number or 0, and the values of the fields
pub record Reading : Type 0 where
  pub number : ℕ
  pub sequence : ℕ
  pub bits : ℕ
  pub prefix : List ℕ
  pub declared : ℕ
  pub count : ℕ
  pub entries : ℕ

-- a refusal has its number, and 0 in every other field
abbrev pub no_rib : ℕ → Reading
no_rib n = record { number = n; sequence = 0; bits = 0; prefix = replicate 16 0; declared = 0; count = 0; entries = 0 }

-- what an answer says
abbrev pub rib_values : Result Rib Refusal → Reading
rib_values (Ok r) =
    record {
      number = 0;
      sequence = r.sequence;
      bits = r.bits;
      prefix = r.prefix;
      declared = r.declared;
      count = r.count;
      entries = r.entries;
    }
rib_values (Err r) = no_rib (number_of r)

-- the prefix octets of the body s, in 16 octets
unfoldable pub prefix_at : ℕ → List ℕ → List ℕ
prefix_at bits s = cleared bits (part s 5 (prefix_size bits)) 16

-- the body s of subtype t, read
unfoldable pub rib_of : List ℕ → ℕ → Reading
rib_of s t =
    cond (eqb (check_rib s t) 0)
    (record {
      number = 0;
      sequence = be_at s 0 4;
      bits = bits_of s;
      prefix = prefix_at (bits_of s) s;
      declared = declared s;
      count = read_count s t;
      entries = entries_at s;
    })
    (no_rib (check_rib s t))
