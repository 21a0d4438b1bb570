-- Judgements, exported (01, Body checks; Walk, confirmation, scan): a record that is judged has its start before the values of
-- its frame; a scan's candidate has 1, its evidence and where it ends, or three times 0 where the record is none (02, wish 14).
use Rattle.std.specs.Prelude.{ℕ, List, [], ◌∷◌, cond, length, ltb}
use Rattle.rules.specs.Ask.{over}
use Rattle.walk.specs.Judged.{Candidate, stands, fails}
use Rattle.walk_judge.specs.Record.{Judging}
use Rattle.walk_candidate.specs.Candidate.{candidate_at}
use Rattle.mrt_lent.specs.Export.{exported}
use Rattle.mrt_lent.specs.Records.{frame_values}

-- the values of a record that is judged
abbrev pub judge_values : Judging → List ℕ
judge_values j = j.start ∷ frame_values j.frame

-- a record that is judged
abbrev pub judged_out : List ℕ → Judging → List ℕ × ℕ
judged_out out j = exported out j.frame.head.number (judge_values j)

-- the values of a candidate
abbrev pub candidate_values : Candidate → List ℕ
candidate_values (stands v e) = 1 ∷ v ∷ e ∷ []
candidate_values fails = 0 ∷ 0 ∷ 0 ∷ []

-- the record at an offset of the stream s, tested; an offset beyond the stream is 8
unfoldable pub candidate_out : List ℕ → List ℕ → ℕ → List ℕ × ℕ
candidate_out out s at = exported out (cond (ltb (length s) at) 8 0) (candidate_values (over s (candidate_at at)))
