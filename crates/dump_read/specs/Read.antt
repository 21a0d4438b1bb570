-- A TABLE_DUMP body, read (RFC 6396, 4.2; 02, wish 3): all fields, and the attributes as a part of the body, which they end.
use Rattle.std.specs.Prelude.{ℕ, List, cond, length, replicate, eqb, Result, Ok, Err}
use Rattle.answer.specs.Refusal.{number_of}
use Rattle.answer.specs.declared.Refusal.{Refusal}
use Rattle.octets_address.specs.Address.{address_size}
use Rattle.dump_layout.specs.Layout.{attributes_at, dump_at}
use Rattle.dump_layout.specs.Check.{check_dump}
use Rattle.dump_layout.specs.declared.Dump.{Dump}
use Rattle.dump_read.specs.declared.DumpRead.{DumpRead}

-- an answer in numbers: the refusal's number or 0, the fields, and where the attributes start and end
pub record Reading : Type 0 where
  pub number : ℕ
  pub dump : Dump
  pub start : ℕ
  pub end : ℕ

-- a refusal has its number, and 0 in every other field
abbrev pub no_dump : ℕ → Reading
no_dump n =
    record {
      number = n;
      dump = record {
        view = 0;
        sequence = 0;
        prefix = replicate 16 0;
        bits = 0;
        status = 0;
        originated = 0;
        peer = replicate 16 0;
        asn = 0;
      };
      start = 0;
      end = 0;
    }

-- what an answer says
abbrev pub reading : Result DumpRead Refusal → Reading
reading (Ok r) = record { number = 0; dump = r.dump; start = r.start; end = r.end }
reading (Err r) = no_dump (number_of r)

-- the body s of subtype u
unfoldable pub dump_of : List ℕ → ℕ → Reading
dump_of s u =
    cond (eqb (check_dump s u) 0)
    (record { number = 0; dump = dump_at (address_size u) s; start = attributes_at (address_size u); end = length s })
    (no_dump (check_dump s u))
