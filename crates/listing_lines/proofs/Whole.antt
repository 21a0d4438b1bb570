-- What a listing shows: the answers of a whole walk, all of them, up to the end of the stream.
use Prim.Native.Nat.{ℕ, ◌+◌, ◌*◌, ◌/◌, ◌≤◌}
use mathlib.Core.Path.{◌≡◌}
use mathlib.Core.List.{List, [], ◌∷◌, ◌++◌, append-nil, append_assoc}
use native.Mathlib.Omega.{arith}
use lib.ListN.{length}
use borrow.Author.Tests.{le-ltb}
use Rattle.walk.specs.Step.{Answer, handed, gap, end, refused}
use Rattle.walk.specs.Promises.{Promised, Covers, Sought}
use Rattle.walk_judge.specs.Record.{judge_at}
use Rattle.walk_missing.specs.Row.{fresh_counters}
use Rattle.walk_missing.specs.declared.Counters.{Counters}
use Rattle.walk_candidate.specs.Candidate.{candidate_at}
use Rattle.walk_step.proofs.Theorems.{walk_promises}
use Rattle.listing_lines.specs.Listing.{fields, lines, counting, lines_of, walked, listing}

-- THEOREM. The answers that a listing shows have all that a whole walk promises.
pub listing_promises : (s : List ℕ) → Promised judge_at candidate_at s 1048576 3 (walked s)
listing_promises s = walk_promises s 1048576 3 (2 * (length s / 12) + 2) (omega arith)

-- none of the answers is a refusal, so that each has a line
abbrev pub Shown : List Answer → Type 0
Shown [] = Unit
Shown (handed a f ∷ l) = Shown l
Shown (gap a e r v c ∷ l) = Shown l
Shown (end a ∷ l) = Shown l
Shown (refused n a w r ∷ l) = ⊥

module _ (s : List ℕ) (h : length s ≤ 65536) where
  sought-shown : (l : List Answer) → Sought judge_at candidate_at s 1048576 3 l → Shown l
  sought-shown [] q = tt
  sought-shown (handed a f ∷ l) q = sought-shown l q
  sought-shown (gap a e r v c ∷ l) q = sought-shown l q.1
  sought-shown (end a ∷ l) q = sought-shown l q
  sought-shown (refused n a w r ∷ l) q = let z : a + (1048576 + 6) ≤ length s = q.1.far (omega arith) in omega arith

  -- THEOREM. Within 65,536 octets the window is never exhausted: no answer is a refusal, and a listing leaves no answer out.
  pub listing-shows : Shown (walked s)
  listing-shows = sought-shown (walked s) (listing_promises s).sought

-- lines that cover a stream of n octets end with the line of its end
covered_ends : (s : List ℕ) (c : Counters) (p : ℕ) (l : List Answer) → Covers (length s) p l → Shown l
    → (front : List ℕ) × (lines_of s c l ≡ front ++ fields 69 (length s ∷ []))
unfolding lines_of lines
covered_ends s c p [] q z = absurd q
covered_ends s c p (handed a f ∷ l) q z =
    let x = counting s c (handed a f) in
    let (front, e) = covered_ends s x.counters f.end l q.3 z in
    (lines (handed a f) x.told ++ front, rw (e, ← append_assoc))
covered_ends s c p (gap a e r v n ∷ l) q z =
    let (front, d) = covered_ends s c e l q.3 z in
    (lines (gap a e r v n) [] ++ front, rw (d, ← append_assoc))
covered_ends s c p (end a ∷ l) q z = ([], rw (q.2, q.0, q.1, append-nil))
covered_ends s c p (refused x a w r ∷ l) q z = absurd z

-- THEOREM. The last line of the listing of at most 65,536 octets is E with their number.
pub listing_ends : (s : List ℕ) → length s ≤ 65536 → (front : List ℕ) × (listing s ≡ front ++ fields 69 (length s ∷ []))
unfolding listing
listing_ends s h =
    let (front, e) = covered_ends s fresh_counters 0 (walked s) (listing_promises s).covers (listing-shows s h) in
    (fields 72 (length s ∷ 1048576 ∷ 3 ∷ []) ++ front, rw (le-ltb 65536 (length s) h, e, ← append_assoc))
