-- What a whole walk promises, of the judgement that the walk uses and of the calls that users make.
use Prim.Native.Nat.{ℕ, ◌+◌, ◌*◌, ◌/◌, ◌≤◌}
use mathlib.Core.Path.{◌≡◌}
use mathlib.Core.List.{List, map}
use lib.ListN.{length, length-map}
use Rattle.walk.specs.Step.{Answer, end, Stepped, at, fresh_walk, finished_at, stopped}
use Rattle.walk.specs.Promises.{answers, Run, heard, Promised, Last}
use Rattle.walk.specs.declared.Walk.{Walk}
use Rattle.walk.proofs.Calls.{call}
use Rattle.walk.proofs.Whole.{answers_promise, run_promises, last_stays}
use Rattle.walk.proofs.Determined as determined
use Rattle.walk_judge.specs.Record.{judge_at}
use Rattle.walk_candidate.specs.Candidate.{candidate_at}
use Rattle.walk_candidate.proofs.Candidates.{sound}
use Rattle.walk_step.specs.Answers.{stepped, left}
use Rattle.walk_step.specs.declared.Stepped.{Stepped as Returned}
use Rattle.walk_step.specs.declared.WalkAnswer.{WalkAnswer}

-- THEOREM. The first 2 * (n / 12) + 2 calls of a fresh walk over any n octets have among them the last answer; their answers
-- cover the octets, each record passes, each gap is followed by the records that it reports, no two gaps touch, a gap ends at a
-- refused record's own end or at the least offset, and the scan comes only where the own end does not serve.
pub walk_promises : (s : List ℕ) (window k m : ℕ) → 2 * (length s / 12) + 2 ≤ m
    → Promised judge_at candidate_at s window k (answers (call judge_at candidate_at s window k) m fresh_walk)
walk_promises = answers_promise judge_at candidate_at sound

-- THEOREM. No other list of answers promises that.
pub promised_unique : (s : List ℕ) (window k : ℕ) (l m : List Answer) → Promised judge_at candidate_at s window k l
    → Promised judge_at candidate_at s window k m → l ≡ m
promised_unique = determined.promised_unique judge_at candidate_at sound

-- THEOREM. Any run of so many calls, each on the walk that the one before left, promises the same.
pub calls_promise : (s : List ℕ) (window k : ℕ) (l : List Stepped) → 2 * (length s / 12) + 2 ≤ length l
    → Run (call judge_at candidate_at s window k) fresh_walk l → Promised judge_at candidate_at s window k (heard l)
calls_promise = run_promises judge_at candidate_at sound

-- THEOREM. So does any run of `step`, by what its calls returned: each meets its contract on the walk that the one before returned.
pub steps_promise : (s : List ℕ) (window k : ℕ) (l : List Returned) → 2 * (length s / 12) + 2 ≤ length l
    → Run (call judge_at candidate_at s window k) fresh_walk (map stepped l)
    → Promised judge_at candidate_at s window k (heard (map stepped l))
steps_promise s window k l b r = calls_promise s window k (map stepped l) (rw (length-map l stepped) b) r

-- THEOREM. And any run of `next` on one lent walk that was fresh, by what the walk was after each call and what that returned.
pub nexts_promise : (s : List ℕ) (window k : ℕ) (l : List (Walk × WalkAnswer)) → 2 * (length s / 12) + 2 ≤ length l
    → Run (call judge_at candidate_at s window k) fresh_walk (map left l) → Promised judge_at candidate_at s window k (heard (map left l))
nexts_promise s window k l b r = calls_promise s window k (map left l) (rw (length-map l left) b) r

-- THEOREM. Where a call gives the last answer, the walk is finished in its place, and every call after it answers the end with
-- the same position and leaves the walk as it is.
pub last-answer_stays : (s : List ℕ) (window k p a : ℕ) → p ≤ length s → Last a (call judge_at candidate_at s window k (at p)).answer
    → ((call judge_at candidate_at s window k (at p)).walk ≡ finished_at a)
    × (call judge_at candidate_at s window k (finished_at a) ≡ stopped a (end a))
last-answer_stays = last_stays judge_at candidate_at
