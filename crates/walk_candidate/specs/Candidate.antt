-- What a scan may take up (01, Walk, confirmation, scan; 02, wish 14): a record of type 16 or 17 that passes all checks, with a
-- stored length of at most 65,599 and microseconds below 1,000,000. After 1, 2 and 3 its header decides all that it can, and only
-- then are its body's octets asked for.
use Rattle.std.specs.Prelude.{ℕ, Bool, ◌&&◌, ◌||◌, not, cond, leb, ltb, eqb, Option, Some, None}
use Rattle.rules.specs.Ask.{Ask, done, ◌>>=◌, past}
use Rattle.header.specs.Read.{Heading, header}
use Rattle.header.specs.Frame.{framed}
use Rattle.walk_checks.specs.Bgp4mp.{as_size, state_change}
use Rattle.walk.specs.Evidence.{evidence_number}
use Rattle.walk.specs.Judged.{Judged, fit, off, cut, Candidate, stands, fails}
use Rattle.walk_judge.specs.Record.{verdict}
use Rattle.walk_candidate.specs.declared.Standing.{Standing}

-- the types that a scan takes up on
unfoldable pub taken_up : ℕ → Bool
taken_up k = eqb k 16 || eqb k 17

-- by subtype: 2 marker, 3 state change; 1 is reserved
unfoldable pub evidence : ℕ → ℕ
evidence u = cond (state_change u) 3 2

-- what a header says of a candidate: its type, its subtype, its length, and its microseconds (0 where there are none)
unfoldable pub plausible : ℕ → ℕ → ℕ → ℕ → Bool
plausible k u n us = taken_up k && not (eqb (as_size u) 0) && leb n 65599 && ltb us 1000000

-- a record that has been judged
unfoldable pub standing : Judged → Candidate
standing (fit f) = stands (evidence f.head.subtype) f.end
standing (off r e) = fails
standing (cut r) = fails

-- the header at the front has been read
unfoldable pub headed : ℕ → Heading → Ask Candidate
headed at h =
    cond (eqb h.number 0 && plausible h.kind h.subtype h.stored h.micros)
    (framed at h >>= verdict >>= λ j. done (standing j))
    (done fails)

-- the record at the front, where that is the offset at of the stream
unfoldable pub candidate : ℕ → Ask Candidate
candidate at = header >>= headed at

-- the record at an offset
unfoldable pub candidate_at : ℕ → Ask Candidate
candidate_at p = past p (candidate p)

-- what each answer says
abbrev pub candidacy : Option Standing → Candidate
candidacy (Some x) = stands (evidence_number x.evidence) x.end
candidacy None = fails
