-- One call of the recovering walk (01, Walk, confirmation, scan), over any way to judge a record and a candidate.
use Rattle.std.specs.Prelude.{ℕ, zero, suc, ◌+◌, ◌-◌, true, false, cond}
use Rattle.rules.specs.Ask.{Ask, done, has, ◌>>=◌}
use Rattle.header.specs.Frame.{Framing}
use Rattle.walk.specs.Judged.{Judged, fit, off, cut, Candidate, stands, fails}
use Rattle.walk.specs.declared.Walk.{Walk}

-- handed: a record, and where it starts
-- gap: octets that no record is taken from: start, end, the refusal's number, evidence, confirmed records
-- end: the end, with the walk's position
-- refused: a refusal's number; of 11, the scan's start, its window and the number of the record there, else 0
pub data Answer : Type 0 where
  handed : ℕ → Framing → Answer
  gap : ℕ → ℕ → ℕ → ℕ → ℕ → Answer
  end : ℕ → Answer
  refused : ℕ → ℕ → ℕ → ℕ → Answer

-- the walk after a call, and the call's answer
pub record Stepped : Type 0 where
  pub walk : Walk
  pub answer : Answer

-- a walk that goes on at p
abbrev pub at : ℕ → Walk
at p = record { position = p; finished = false }

abbrev pub fresh_walk : Walk
fresh_walk = at 0

-- the walk goes on at p
abbrev pub moved : ℕ → Answer → Stepped
moved p a = record { walk = at p; answer = a }

-- a walk that is finished at p
abbrev pub finished_at : ℕ → Walk
finished_at p = record { position = p; finished = true }

abbrev pub stopped : ℕ → Answer → Stepped
stopped p a = record { walk = finished_at p; answer = a }

-- how many records must confirm: 0 counts as 1
abbrev pub asked : ℕ → ℕ
asked k = suc (k - 1)

-- how many records have passed from a record's own end on, or that one has not
pub data Tried : Type 0 where
  passed : ℕ → Tried
  failed : Tried

-- whether a row of candidates stands, with the first one's evidence
pub data Row : Type 0 where
  whole : ℕ → Row
  broken : Row

-- the offset where a row stands, with its evidence
pub data Found : Type 0 where
  found : ℕ → ℕ → Found
  nowhere : Found

-- go on where a record that passes ends, and otherwise with b
unfoldable pub when_fit : {A : Type 0} → (ℕ → A) → A → Judged → A
when_fit a b (fit f) = a f.end
when_fit a b (off r e) = b
when_fit a b (cut r) = b

-- go on where a candidate ends, and otherwise with b
unfoldable pub when_stands : {A : Type 0} → (ℕ → A) → A → Candidate → A
when_stands a b (stands v e) = a e
when_stands a b fails = b

-- go on with the evidence of a row that stands, and otherwise with b (a function, so that it waits)
unfoldable pub when_whole : {A : Type 0} → (ℕ → A) → (Unit {0} → A) → Row → A
when_whole a b (whole v) = a v
when_whole a b broken = b tt

module _ (judge : ℕ → Ask Judged) where
  -- m records have passed; n more are judged from p on, or fewer where the stream ends exactly between two
  unfoldable pub aligned : ℕ → ℕ → ℕ → Ask Tried
  aligned zero m p = done (passed m)
  aligned (suc n) m p = has (suc p) (judge p >>= when_fit (aligned n (suc m)) (done failed)) (λ l. done (passed m))

module _ (candidate : ℕ → Ask Candidate) where
  -- n more candidates stand from p on; v is the evidence of the first
  unfoldable pub row_from : ℕ → ℕ → ℕ → Ask Row
  row_from zero v p = done (whole v)
  row_from (suc n) v p = candidate p >>= when_stands (row_from n v) (done broken)

  unfoldable pub row_on : ℕ → Candidate → Ask Row
  row_on n (stands v e) = row_from n v e
  row_on n fails = done broken

  -- a candidate at p, and n more straight after it
  unfoldable pub row : ℕ → ℕ → Ask Row
  row n p = candidate p >>= row_on n

  -- the first of the d offsets from p on where such a row stands
  unfoldable pub scan : ℕ → ℕ → ℕ → Ask Found
  scan n p zero = done nowhere
  scan n p (suc d) = row n p >>= when_whole (λ v. done (found p v)) (λ u. scan n (suc p) d)

-- no offset in the window: the gap to the end where less than window + 6 octets are left, or else refusal 11
unfoldable pub unfound : ℕ → ℕ → ℕ → Ask Stepped
unfound p zero r = done (stopped p (refused 11 p zero r))
unfound p (suc w) r = has (p + (suc w + 6)) (done (stopped p (refused 11 p (suc w) r))) (λ n. done (moved n (gap p n r 5 0)))

-- leave the scan from p, with the refusal r of the record there
unfoldable pub leave : ℕ → ℕ → ℕ → ℕ → Found → Ask Stepped
leave p window k r (found o v) = done (moved o (gap p o r v (asked k)))
leave p window k r nowhere = unfound p window r

module _ (judge : ℕ → Ask Judged) (candidate : ℕ → Ask Candidate) where
  -- the scan looks at each distance from 1 to the window
  unfoldable pub scanned : ℕ → ℕ → ℕ → ℕ → Ask Stepped
  scanned p window k r = scan candidate (k - 1) (suc p) window >>= leave p window k r

  -- the record's own end e has been tried
  unfoldable pub resume : ℕ → ℕ → ℕ → ℕ → ℕ → Tried → Ask Stepped
  resume p window k r e (passed m) = done (moved e (gap p e r 4 m))
  resume p window k r e failed = scanned p window k r

  -- a record that is framed and refused with r: its own end e is tried first
  unfoldable pub own_end : ℕ → ℕ → ℕ → ℕ → ℕ → Ask Stepped
  own_end p window k r e = aligned judge (asked k) 0 e >>= resume p window k r e

  -- the record at p has been judged
  unfoldable pub judged : ℕ → ℕ → ℕ → Judged → Ask Stepped
  judged p window k (fit f) = done (moved f.end (handed p f))
  judged p window k (off r e) = own_end p window k r e
  judged p window k (cut r) = scanned p window k r

  -- a walk at p that is not finished and not beyond the stream
  unfoldable pub going : ℕ → ℕ → ℕ → Ask Stepped
  going p window k = has (suc p) (judge p >>= judged p window k) (λ n. done (stopped p (end p)))

  -- one call: 8 for a position beyond the stream, and the end for a finished walk
  unfoldable pub step : Walk → ℕ → ℕ → Ask Stepped
  step w window k =
      has w.position
      (cond w.finished (done (stopped w.position (end w.position))) (going w.position window k))
      (λ n. done (record { walk = w; answer = refused 8 0 0 0 }))
