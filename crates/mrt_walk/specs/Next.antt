-- One call of the walk, exported (01, Walk, confirmation, scan). The walk is lent as two places: its position, and 1 where it
-- is finished or 0 where it is not. The answer's kind comes first: 1 a record, 2 a gap, 3 the end, 4 the refusal of a window.
-- 8 for no such walk or a position beyond the stream, then 9 for fewer than 10 places; both leave the walk and the places.
use Rattle.std.specs.Prelude.{ℕ, List, [], ◌∷◌, length}
use Rattle.octets.specs.Octets.{patch}
use Rattle.rules.specs.Ask.{over}
use Rattle.walk.specs.Step.{Answer, handed, gap, end, refused, Stepped, step}
use Rattle.walk.specs.declared.Walk.{Walk}
use Rattle.walk_judge.specs.Record.{judge_at}
use Rattle.walk_candidate.specs.Candidate.{candidate_at}
use Rattle.mrt_lent.specs.Export.{mark}
use Rattle.mrt_lent.specs.Records.{record_values}
use Rattle.mrt_lent.specs.Walks.{walk_in, on_walk}

-- the places of a walk
abbrev pub walk_values : Walk → List ℕ
walk_values w = w.position ∷ mark w.finished ∷ []

-- the values of an answer: its kind, and its fields in their order; the number of a refusal is returned
abbrev pub answer_values : Answer → List ℕ
answer_values (handed a f) = record_values a f
answer_values (gap a e r v c) = 2 ∷ a ∷ e ∷ r ∷ v ∷ c ∷ []
answer_values (end a) = 3 ∷ a ∷ []
answer_values (refused n a w r) = 4 ∷ a ∷ w ∷ r ∷ []

-- what is returned for an answer
abbrev pub answer_number : Answer → ℕ
answer_number (handed a f) = 0
answer_number (gap a e r v c) = 0
answer_number (end a) = 0
answer_number (refused n a w r) = n

-- the places of the answer, and what is returned
abbrev pub answer_out : List ℕ → Answer → List ℕ × ℕ
answer_out out a = (patch out 0 (answer_values a), answer_number a)

-- the walk's places, the answer's, and what is returned
abbrev pub stepped_out : List ℕ → List ℕ → Stepped → List ℕ × (List ℕ × ℕ)
stepped_out ws out x = (patch ws 0 (walk_values x.walk), answer_out out x.answer)

-- one call over the stream s
abbrev pub next_out : List ℕ → List ℕ → ℕ → ℕ → List ℕ → List ℕ × (List ℕ × ℕ)
next_out s ws window k out =
    on_walk (length s) ws out
    (stepped_out ws out (over s (step judge_at candidate_at (walk_in ws) window k)))
    (ws, (out, 9))
    (ws, (out, 8))
