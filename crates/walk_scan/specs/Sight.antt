-- What an answer of the scan says (01, Walk, confirmation, scan), and what its helpers rule out.
use Rattle.std.specs.Prelude.{ℕ, ◌+◌, ◌-◌, ◌<◌, ◌≤◌, ◌≡◌, List, Option, Some, None, MatchOption}
use Rattle.rules.specs.Ask.{over}
use Rattle.walk.specs.Judged.{fails}
use Rattle.walk.specs.Evidence.{evidence_number}
use Rattle.walk.specs.Step.{found, nowhere}
use Rattle.walk.specs.Step as rule
use Rattle.walk_candidate.specs.Candidate.{candidate_at}
use Rattle.walk_scan.specs.declared.Found.{Found}

abbrev pub sighted : Option Found → rule.Found
sighted (Some x) = found x.offset (evidence_number x.evidence)
sighted None = nowhere

-- no candidate stands at a distance from p after `from`, up to d
abbrev pub Passed : List ℕ → ℕ → ℕ → ℕ → Type 0
Passed s p from d = (e : ℕ) → from < e → e ≤ d → fails ≡ over s (candidate_at (p + e))

-- the next distance after `from` and up to `last` that may begin a candidate
abbrev pub Next : List ℕ → ℕ → ℕ → ℕ → Option ℕ → Type 0
Next s p from last r = MatchOption r (Passed s p from last) (λ d. (from < d) × (d ≤ last) × Passed s p from (d - 1))

-- no candidate stands at the n offsets from `at` on
abbrev pub Clear : List ℕ → ℕ → ℕ → Type 0
Clear s at n = (i : ℕ) → i < n → fails ≡ over s (candidate_at (at + i))
