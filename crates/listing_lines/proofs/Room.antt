-- How long a listing can be.
use Prim.Native.Nat.{ℕ, zero, suc, ◌+◌, ◌*◌, ◌/◌, ◌≤◌}
use mathlib.Core.Path.{◌≡◌, refl, ap}
use mathlib.Core.Bool.{Bool, true, false, cond}
use mathlib.Core.List.{List, [], ◌∷◌, ◌++◌}
use native.Mathlib.Omega.{arith}
use lib.Dec.{ltb}
use lib.ListN.{length, length-append}
use borrow.Author.Tests.{ltb-false}
use Rattle.walk.specs.Step.{Answer, handed, gap, end, refused, Stepped, fresh_walk}
use Rattle.walk.specs.Promises.{up_to, answers}
use Rattle.walk.specs.declared.Walk.{Walk}
use Rattle.walk_missing.specs.Row.{fresh_counters}
use Rattle.walk_missing.specs.declared.Counters.{Counters}
use Rattle.listing_lines.specs.Listing.{fields, counting, lines_of, called, walked, listing, listed, room}
use Rattle.listing_lines.proofs.Texts.{length-fields-le}
use Rattle.listing_lines.proofs.Lines.{length-told-le, length-lines-le}

length-up_to-le : (a : Answer) (l : List Answer) → length (up_to a l) ≤ suc (length l)
unfolding up_to
length-up_to-le (handed a f) l = omega arith
length-up_to-le (gap a e r v c) l = omega arith
length-up_to-le (end a) l = omega arith
length-up_to-le (refused n a w r) l = omega arith

-- m calls give at most m answers
length-answers-le : (call : Walk → Stepped) (m : ℕ) (w : Walk) → length (answers call m w) ≤ m
unfolding answers
length-answers-le call zero w = omega arith
length-answers-le call (suc m) w =
    let i = length-answers-le call m (call w).walk in omega (arith, length-up_to-le (call w).answer (answers call m (call w).walk))

length_text_le : (s : List ℕ) (c : Counters) (l : List Answer) → length (lines_of s c l) ≤ 151 * length l
unfolding lines_of
length_text_le s c [] = omega arith
length_text_le s c (a ∷ l) =
    simp length-append
    (omega (arith, length-lines-le a (counting s c a).told (length-told-le s c a), length_text_le s (counting s c a).counters l))

-- THEOREM. Whatever the stream is, its listing has at most 1,649,589 octets, so that an output of that many holds it whole.
pub listing-room : (s : List ℕ) → length (listing s) ≤ room
unfolding listing
listing-room s = by_test (ltb 65536 (length s)) refl
  where
    by_test : (t : Bool) → ltb 65536 (length s) ≡ t
        → length (cond t (fields 76 (65536 ∷ [])) (fields 72 (length s ∷ 1048576 ∷ 3 ∷ []) ++ lines_of s fresh_counters (walked s))) ≤ room
    by_test true e = omega (arith, length-fields-le 76 (65536 ∷ []))
    by_test false e =
        let l : length s ≤ 65536 = ltb-false _ _ e in
        let h = length-fields-le 72 (length s ∷ 1048576 ∷ 3 ∷ []) in
        let k = length_text_le s fresh_counters (walked s) in
        let j = length-answers-le (called s) (2 * (length s / 12) + 2) fresh_walk in
        simp length-append (omega arith)

-- so where a call says that the listing ends, an output of that many octets has it whole
pub list_end-le : (s out : List ℕ) {t : List ℕ} {e : ℕ} → (t, e) ≡ listed s out → e ≤ room
list_end-le s out {e = e} p = let q : e ≡ length (listing s) = ap (λ (x : List ℕ × ℕ). x.1) p in omega (arith, listing-room s)
