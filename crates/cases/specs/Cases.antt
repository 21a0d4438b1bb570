-- Both sides of each line (01, Both sides of each line: the cases marked P; 02, wish 2: the least OPEN), as one table. A row
-- names its case in words, and holds what a definition finds and what the document says, both as lists of numbers: the
-- refusal's number or 0 first, then the values in the order of the definition's record.
use Rattle.std.specs.Prelude.{ℕ, ◌-◌, ◌≡◌, cond, List, [], ◌∷◌, ◌++◌, replicate, length}
use Prim.Native.String.{String}
use Rattle.octets.specs.Octets.{bytes_of}
use Rattle.rules.specs.Ask.{over}
use Rattle.header.specs.Read.{Heading, header_at}
use Rattle.peers_table.specs.Table as Table
use Rattle.peers_table.specs.Table.{check_peers}
use Rattle.rib_read.specs.Rib.{Reading, rib_of}
use Rattle.walk_checks.specs.Bgp4mp.{bgp4mp}
use Rattle.walk.specs.Judged.{Candidate, stands, fails}
use Rattle.walk.specs.Step.{Answer, handed, gap, end, refused, Stepped, fresh_walk, step}
use Rattle.walk_judge.specs.Record.{Judging, judge_at}
use Rattle.walk_candidate.specs.Candidate.{candidate_at}

pub record Row : Type 0 where
  pub case : String
  pub found : List ℕ
  pub expected : List ℕ

abbrev pub row : String → List ℕ → List ℕ → Row
row case found expected = record { case = case; found = found; expected = expected }

-- every row holds
abbrev pub Hold : List Row → Type 0
Hold [] = Unit
Hold (r ∷ rs) = (r.found ≡ r.expected) × Hold rs

-- a header's answer
abbrev pub heading : Heading → List ℕ
heading h = h.number ∷ h.timestamp ∷ h.kind ∷ h.subtype ∷ h.wire ∷ h.stored ∷ h.micros ∷ []

-- a peer table: the refusal's number, and how many peers
abbrev pub counted : Table.Heading → List ℕ
counted t = t.number ∷ t.count ∷ []

-- a RIB body: the refusal's number, and how many entries are declared and read
abbrev pub entered : Reading → List ℕ
entered r = r.number ∷ r.declared ∷ r.count ∷ []

-- a judgement: the refusal's number, where the record starts, and where it ends
abbrev pub judging : Judging → List ℕ
judging j = j.frame.head.number ∷ j.start ∷ j.frame.end ∷ []

-- a candidate: 1, its evidence and its end; or 0
abbrev pub candidacy : Candidate → List ℕ
candidacy (stands v e) = 1 ∷ v ∷ e ∷ []
candidacy fails = 0 ∷ []

-- a call: the walk's position, 1 where it is finished, and the answer, by a number for its kind: a record 0, a gap 1, the end
-- 2, a refusal its own
abbrev pub answer : Answer → List ℕ
answer (handed a f) = 0 ∷ a ∷ f.end ∷ []
answer (gap a e r v c) = 1 ∷ a ∷ e ∷ r ∷ v ∷ c ∷ []
answer (end a) = 2 ∷ a ∷ []
answer (refused n a w r) = n ∷ a ∷ w ∷ r ∷ []

abbrev pub call : Stepped → List ℕ
call x = x.walk.position ∷ cond x.walk.finished 1 0 ∷ answer x.answer

-- twelve octets of a header at time 0, with a type and a subtype below 256
abbrev pub common : ℕ → ℕ → ℕ → List ℕ
common k u w = replicate 5 0 ++ (k ∷ 0 ∷ u ∷ []) ++ bytes_of 4 w

-- a body of subtype 1 between IPv4 peers: 16 octets, and one BGP message of n octets and type t
abbrev pub message : ℕ → ℕ → List ℕ
message t n = replicate 7 0 ++ (1 ∷ []) ++ replicate 8 0 ++ replicate 16 255 ++ bytes_of 2 n ++ (t ∷ []) ++ replicate (n - 19) 0

-- a KEEPALIVE in a record of type 17, with microseconds
abbrev pub extended : ℕ → List ℕ
extended us = common 17 1 39 ++ bytes_of 4 us ++ message 4 19

-- a RIB body of subtype 2: sequence 0, the prefix bits, their octets, the count and the entries
abbrev pub rib : ℕ → ℕ → ℕ → List ℕ → List ℕ
rib bits size count entries = replicate 4 0 ++ (bits ∷ []) ++ replicate size 0 ++ bytes_of 2 count ++ entries

-- a fresh walk's first call
abbrev pub first : List ℕ → ℕ → ℕ → List ℕ
first s window k = call (over s (step judge_at candidate_at fresh_walk window k))

unfoldable pub rows : List Row
rows =
    row "11 zero octets" (heading (header_at (replicate 11 0) 0)) (1 ∷ replicate 6 0)
    ∷ row "type 17, wire length 3" (heading (header_at (common 17 0 3 ++ replicate 4 0) 0)) (3 ∷ replicate 6 0)
    ∷ row "type 17, wire length 4, 16 octets" (heading (header_at (common 17 0 4 ++ replicate 4 0) 0)) (0 ∷ 0 ∷ 17 ∷ 0 ∷ 4 ∷ 0 ∷ 0 ∷ [])
    ∷ row "a peer body of 7 octets" ((check_peers (replicate 7 0)).number ∷ []) (7 ∷ [])
    ∷ row "a peer body of 8 zero octets has no peers" (counted (check_peers (replicate 8 0))) (0 ∷ 0 ∷ [])
    ∷ row "IPv4 prefix bits 32" ((rib_of (rib 32 4 0 []) 2).number ∷ (rib_of (rib 32 4 0 []) 2).bits ∷ []) (0 ∷ 32 ∷ [])
    ∷ row "IPv4 prefix bits 33" ((rib_of (rib 33 5 0 []) 2).number ∷ []) (7 ∷ [])
    ∷ row "count 2, one entry fits" (entered (rib_of (rib 0 0 2 (replicate 8 0)) 2)) (0 ∷ 2 ∷ 1 ∷ [])
    ∷ row "KEEPALIVE of 19 octets" (bgp4mp 1 (message 4 19) ∷ []) (0 ∷ [])
    ∷ row "KEEPALIVE of 20 octets" (bgp4mp 1 (message 4 20) ∷ []) (7 ∷ [])
    ∷ row "OPEN of 28 octets" (bgp4mp 1 (message 1 28) ∷ []) (7 ∷ [])
    ∷ row "OPEN of 29 octets" (bgp4mp 1 (message 1 29) ∷ []) (0 ∷ [])
    ∷ row "OPEN of 4,096 octets" (bgp4mp 1 (message 1 4096) ∷ []) (0 ∷ [])
    ∷ row "OPEN of 4,097 octets" (bgp4mp 1 (message 1 4097) ∷ []) (7 ∷ [])
    ∷ row "a candidate's microseconds of 999,999" (candidacy (over (extended 999999) (candidate_at 0))) (1 ∷ 2 ∷ 51 ∷ [])
    ∷ row "a candidate's microseconds of 1,000,000" (candidacy (over (extended 1000000) (candidate_at 0))) (0 ∷ [])
    ∷ row "the walk takes microseconds of 999,999" (first (extended 999999) 0 1) (51 ∷ 0 ∷ 0 ∷ 0 ∷ 51 ∷ [])
    ∷ row "the walk takes microseconds of 1,000,000" (first (extended 1000000) 0 1) (51 ∷ 0 ∷ 0 ∷ 0 ∷ 51 ∷ [])
    ∷ row "seven zero octets, window 0" (first (replicate 7 0) 0 1) (0 ∷ 1 ∷ 11 ∷ 0 ∷ 0 ∷ 1 ∷ [])
    ∷ row "seven zero octets, window 1" (first (replicate 7 0) 1 1) (0 ∷ 1 ∷ 11 ∷ 0 ∷ 1 ∷ 1 ∷ [])
    ∷ row "six zero octets, window 1" (first (replicate 6 0) 1 1) (6 ∷ 0 ∷ 1 ∷ 0 ∷ 6 ∷ 1 ∷ 5 ∷ 0 ∷ [])
    ∷ row "a last record refused with 7, framed to the end"
    (first (common 13 1 7 ++ replicate 7 0) 0 3) (19 ∷ 0 ∷ 1 ∷ 0 ∷ 19 ∷ 7 ∷ 4 ∷ 0 ∷ [])
    ∷ []
