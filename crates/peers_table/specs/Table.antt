-- The body of a PEER_INDEX_TABLE (RFC 6396, 4.3.1; 01, Peer table; Body checks): Collector BGP ID 4, View Name Length 2,
-- View Name, Peer Count 2, then the peers. Octets after the last peer are ignored.
use Rattle.std.specs.Prelude.{ℕ, zero, suc, ◌+◌, List, cond, length, get_or, leb, Result, Ok, Err}
use Rattle.answer.specs.Refusal.{number_of}
use Rattle.answer.specs.declared.Refusal.{Refusal}
use Rattle.octets.specs.Octets.{be_at}
use Rattle.peers_entry.specs.Peer.{peer_size}
use Rattle.peers_table.specs.declared.TableHead.{TableHead}

-- an answer in numbers: the refusal's number or 0, the collector, where the view name starts and how many octets it has,
-- how many peers there are, where the first one starts, and where the last one ends
pub record Heading : Type 0 where
  pub number : ℕ
  pub collector : ℕ
  pub name : ℕ
  pub length : ℕ
  pub count : ℕ
  pub first : ℕ
  pub end : ℕ

-- a refusal has its number, and 0 in every other field
abbrev pub refused : ℕ → Heading
refused n = record { number = n; collector = 0; name = 0; length = 0; count = 0; first = 0; end = 0 }

-- what each answer of the check says
abbrev pub heading : Result TableHead Refusal → Heading
heading (Ok t) =
    record {
      number = 0;
      collector = t.collector;
      name = t.name;
      length = t.length;
      count = t.count;
      first = t.first;
      end = t.end;
    }
heading (Err why) = refused (number_of why)

-- where the first n of the peers from at on end
unfoldable pub end_at : List ℕ → ℕ → ℕ → ℕ
end_at s at zero = at
end_at s at (suc n) = end_at s at n + peer_size (get_or s (end_at s at n) 0)

-- the length of the view name
unfoldable pub name_length : List ℕ → ℕ
name_length s = be_at s 4 2

-- how many peers are declared
unfoldable pub peer_count : List ℕ → ℕ
peer_count s = be_at s (6 + name_length s) 2

-- where the first peer starts
unfoldable pub first_peer : List ℕ → ℕ
first_peer s = 8 + name_length s

-- where the last declared peer ends
unfoldable pub last_end : List ℕ → ℕ
last_end s = end_at s (first_peer s) (peer_count s)

-- the body s: 7 unless it holds every declared peer
unfoldable pub check_peers : List ℕ → Heading
check_peers s =
    cond (leb (last_end s) (length s))
    (record {
      number = 0;
      collector = be_at s 0 4;
      name = 6;
      length = name_length s;
      count = peer_count s;
      first = first_peer s;
      end = last_end s;
    })
    (refused 7)
