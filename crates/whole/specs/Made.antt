-- Runs of the calls that C and Rust make on one lent walk, `mrt_next` and `mrt_records` in any mixture, and the steps of a walk that
-- they show (01, Walk, confirmation, scan; How tight the promises are).
use Rattle.std.specs.Prelude.{ℕ, suc, ◌<◌, ◌≤◌, ◌≡◌, List, [], ◌∷◌, ◌++◌, map, cond, length, get_or, leb}
use Rattle.octets.specs.Octets.{patch}
use Rattle.walk.specs.Step.{Answer, Stepped}
use Rattle.walk.specs.Promises.{Records}
use Rattle.walk.specs.declared.Walk.{Walk}
use Rattle.mrt_lent.specs.Export.{mark}
use Rattle.mrt_lent.specs.Rows.{rows_handed, none_handed}
use Rattle.mrt_lent.specs.declared.Handed.{Handed}
use Rattle.mrt_walk.specs.Next.{answer_values, answer_out, next_out}
use Rattle.mrt_records.specs.Records.{records_out}

-- the places ws hold the walk w, which stands within n octets
pub record Holds (n : ℕ) (w : Walk) (ws : List ℕ) : Type 0 where
  pub long : 2 ≤ length ws
  pub position : get_or ws 0 0 ≡ w.position
  pub marked : get_or ws 1 0 ≡ mark w.finished
  pub within : w.position ≤ n

-- a call that was made: the places lent for its values, the walk's places after it, the values' places after it, what it returned
-- one: of `mrt_next`
-- many: of `mrt_records`
pub data Made : Type 0 where
  one : List ℕ → List ℕ → List ℕ → ℕ → Made
  many : List ℕ → List ℕ → List ℕ → Handed → Made

-- each call meets its contract, over the stream s, on the walk's places as the call before left them
abbrev pub Calls : List ℕ → ℕ → ℕ → List ℕ → List Made → Type 0
Calls s window k ws [] = Unit
Calls s window k ws (one places walk left n ∷ l) = ((walk, (left, n)) ≡ next_out s ws window k places) × Calls s window k walk l
Calls s window k ws (many places walk left h ∷ l) = ((walk, (left, h)) ≡ records_out s ws places) × Calls s window k walk l

-- the answers of steps
abbrev pub answers_of : List Stepped → List Answer
answers_of l = map (λ (x : Stepped). x.answer) l

-- the values of their answers, one after another
unfoldable pub values_of : List Stepped → List ℕ
values_of [] = []
values_of (x ∷ l) = answer_values x.answer ++ values_of l

-- the calls show the steps of a walk
-- next: `mrt_next` leaves the values of one answer, and returns its number
-- records: `mrt_records` leaves the values of as many records as it returns
-- full-next, full-records: a call with fewer than ten places shows nothing, and is refused with 9
pub data Shows : List Made → List Stepped → Type 0 where
  none : Shows [] []
  next : {places walk left : List ℕ} {n : ℕ} {l : List Made} {xs : List Stepped} (x : Stepped)
      → (left, n) ≡ answer_out places x.answer → Shows l xs → Shows (one places walk left n ∷ l) (x ∷ xs)
  records : {places walk left : List ℕ} {h : Handed} {l : List Made} {xs : List Stepped} (ys : List Stepped)
      → Records (length ys) (answers_of ys) → left ≡ patch places 0 (values_of ys) → h ≡ rows_handed (length ys) → Shows l xs
      → Shows (many places walk left h ∷ l) (ys ++ xs)
  full_next : {places walk : List ℕ} {l : List Made} {xs : List Stepped} → length places < 10 → Shows l xs
      → Shows (one places walk places 9 ∷ l) xs
  full_records : {places walk : List ℕ} {l : List Made} {xs : List Stepped} → length places < 10 → Shows l xs
      → Shows (many places walk places (none_handed 9) ∷ l) xs

-- how many calls of `mrt_next` have had ten places or more
unfoldable pub answered : List Made → ℕ
answered [] = 0
answered (one places walk left n ∷ l) = cond (leb 10 (length places)) (suc (answered l)) (answered l)
answered (many places walk left h ∷ l) = answered l

-- every call is of `mrt_next`, with ten places or more
abbrev pub Nexts : List Made → Type 0
Nexts [] = Unit
Nexts (one places walk left n ∷ l) = (10 ≤ length places) × Nexts l
Nexts (many places walk left h ∷ l) = ⊥
