-- What is told of a RIB record, by the records that were counted before it.
use Prim.Native.Nat.{ℕ, ◌^◌, ◌<◌, ◌≤◌}
use mathlib.Core.Path.{◌≡◌, refl, sym, ◌∙◌, ap, subst}
use mathlib.Core.Bool.{Bool, true, false, ◌&&◌, cond, true≢false}
use mathlib.Core.List.{List, [], ◌∷◌, ◌++◌}
use mathlib.Core.Logic.{◌↔◌}
use native.Mathlib.Omega.{arith}
use lib.ListN.{length}
use lib.Dec.{leb, eqb}
use borrow.Author.Tests.{eqb-true, leb-true}
use Rattle.octets.specs.Octets.{Octets, patch}
use Rattle.octets.proofs.Numbers.{be_lt}
use Rattle.rib_head.specs.Layout.{carried, ipv4, ipv6}
use Rattle.rib_write.proofs.Standing.{both}
use Rattle.walk_missing.specs.Turned.{width, apart, shown, since}
use Rattle.walk_missing.specs.Row.{Counting as Counted, fresh_counters, seen, last, kept, untold, told, counted, is_row, is_peers, sequence}
use Rattle.walk_missing.specs.Row.{numbered, count_row, count}
use Rattle.walk_missing.specs.declared.Counters.{Counters}
use Rattle.walk_missing.specs.declared.Missing.TheVariants.{Repeat, Rows}
use Rattle.walk_missing.proofs.Turns.{Between, rows_only, repeat_only}
use Rattle.walk_missing.proofs.Unique.{told_unique}
use Rattle.mrt_missing.specs.Missing.{holds_counters, counters_in, counters_values, missing_values, counted_out, missing_out}
use Rattle.whole.specs.Rows.{Counts, Counting, row, peers, Others}
use Rattle.whole.proofs.Mixed.{mark-told}

-- a counter of c and of d is the same
abbrev Same : Bool → Counters → Counters → Type 0
Same narrow c d = (seen narrow c ≡ seen narrow d) × (last narrow c ≡ last narrow d)

-- one record with its tests as they came out: a and b whether it is of type 12 or a RIB of type 13, p a peer table, f four octets or more
module _ (c : Counters) (s : List ℕ) where
  abbrev by_tests : (a b p f : Bool) → Counted
  by_tests a b p f =
      cond a (cond f (numbered true c (sequence true s)) (untold c))
      (cond b (cond f (numbered false c (sequence false s)) (untold c)) (cond p (untold fresh_counters) (untold c)))

  count_tests : (k t : ℕ) → count c k t s ≡ by_tests (is_row true k t) (is_row false k t) (is_peers k t) (leb 4 (length s))
  unfolding count count_row
  count_tests k t = refl

  -- a record that is no row of a type and no peer table leaves that type's counter
  other_keeps : (narrow a b p f : Bool) → (cond narrow a b && f) ≡ false → p ≡ false → Same narrow (by_tests a b p f).counters c
  other_keeps true true b p true r n = absurd (true≢false r)
  other_keeps true true b p false r n = (refl, refl)
  other_keeps true false true p true r n = (refl, refl)
  other_keeps true false true p false r n = (refl, refl)
  other_keeps true false false true f r n = absurd (true≢false n)
  other_keeps true false false false f r n = (refl, refl)
  other_keeps false true b p true r n = (refl, refl)
  other_keeps false true b p false r n = (refl, refl)
  other_keeps false false true p true r n = absurd (true≢false r)
  other_keeps false false true p false r n = (refl, refl)
  other_keeps false false false true f r n = absurd (true≢false n)
  other_keeps false false false false f r n = (refl, refl)

  -- a row has its number counted
  row_counts : (narrow a b p f : Bool) → (cond narrow a b && f) ≡ true → (narrow ≡ false → a ≡ false)
      → by_tests a b p f ≡ numbered narrow c (sequence narrow s)
  row_counts true true b p true r n = refl
  row_counts true true b p false r n = absurd (true≢false (sym r))
  row_counts true false b p f r n = absurd (true≢false (sym r))
  row_counts false true b p f r n = absurd (true≢false (n refl))
  row_counts false false true p true r n = refl
  row_counts false false true p false r n = absurd (true≢false (sym r))
  row_counts false false false p f r n = absurd (true≢false (sym r))

  -- a peer table leaves no number
  peers_clear : (a b p f : Bool) → p ≡ true → a ≡ false → b ≡ false → by_tests a b p f ≡ untold fresh_counters
  peers_clear a b p f e i j = rw (e, i, j)

-- a RIB of type 13 is not of type 12, and a peer table is neither
module _ (k t : ℕ) where
  rib-apart : is_row false k t ≡ true → is_row true k t ≡ false
  unfolding is_row
  rib-apart r = let e : k ≡ 13 = eqb-true k 13 (both (eqb k 13) (carried t) r).0 in rw e

  peers-apart : (narrow : Bool) → is_peers k t ≡ true → is_row narrow k t ≡ false
  unfolding is_peers is_row carried ipv4 ipv6
  peers-apart true r = let e : k ≡ 13 = eqb-true k 13 (both (eqb k 13) (eqb t 1) r).0 in rw e
  peers-apart false r =
      let e : k ≡ 13 = eqb-true k 13 (both (eqb k 13) (eqb t 1) r).0 in
      let u : t ≡ 1 = eqb-true t 1 (both (eqb k 13) (eqb t 1) r).1 in
      rw (e, u)

-- one call
module _ (c : Counters) (x : Counts) (q : counted x.returned ≡ count c x.kind x.subtype x.body) where
  abbrev of_12 : Bool
  of_12 = is_row true x.kind x.subtype

  abbrev of_13 : Bool
  of_13 = is_row false x.kind x.subtype

  abbrev four : Bool
  four = leb 4 (length x.body)

  tested : counted x.returned ≡ by_tests c x.body of_12 of_13 (peers x) four
  tested = q ∙ count_tests c x.body x.kind x.subtype

  call_other : (narrow : Bool) → row narrow x ≡ false → peers x ≡ false → Same narrow x.returned.counters c
  call_other true r n =
      subst (λ (z : Counted). Same true z.counters c) (sym tested) (other_keeps c x.body true of_12 of_13 (peers x) four r n)
  call_other false r n =
      subst (λ (z : Counted). Same false z.counters c) (sym tested) (other_keeps c x.body false of_12 of_13 (peers x) four r n)

  call-row : (narrow : Bool) → row narrow x ≡ true → counted x.returned ≡ numbered narrow c (sequence narrow x.body)
  call-row true r = tested ∙ row_counts c x.body true of_12 of_13 (peers x) four r (λ e. absurd (true≢false e))
  call-row false r =
      tested
      ∙ row_counts c x.body false of_12 of_13 (peers x) four r (λ e. rib-apart x.kind x.subtype (both of_13 four r).0)

  call-peers : peers x ≡ true → x.returned.counters ≡ fresh_counters
  call-peers p =
      let i = peers-apart x.kind x.subtype true p in
      let j = peers-apart x.kind x.subtype false p in
      ap (λ (z : Counted). z.counters) (tested ∙ peers_clear c x.body of_12 of_13 (peers x) four p i j)

-- the counters after calls
after : Counters → List Counts → Counters
after c [] = c
after c (x ∷ l) = after x.returned.counters l

run_front : (c : Counters) (l m : List Counts) → Counting c (l ++ m) → Counting c l
run_front c [] m r = tt
run_front c (x ∷ l) m r = (r.0, run_front x.returned.counters l m r.1)

run_back : (c : Counters) (l m : List Counts) → Counting c (l ++ m) → Counting (after c l) m
unfolding after
run_back c [] m r = r
run_back c (x ∷ l) m r = run_back x.returned.counters l m r.1

others_keep : (narrow : Bool) (c : Counters) (l : List Counts) → Counting c l → Others narrow l → Same narrow (after c l) c
unfolding after
others_keep narrow c [] r o = (refl, refl)
others_keep narrow c (x ∷ l) r o =
    let i = others_keep narrow x.returned.counters l r.1 o.2 in
    let j = call_other c x r.0 narrow o.0 o.1 in
    (i.0 ∙ j.0, i.1 ∙ j.1)

-- a row y after others, with the counters c before them
module _ (narrow : Bool) (c : Counters) (m : List Counts) (y : Counts) (r : Counting c (m ++ (y ∷ []))) (o : Others narrow m)
    (h : row narrow y ≡ true) where
  row_told : told y.returned.missing ≡ since (width narrow) (seen narrow c) (last narrow c) (sequence narrow y.body)
  row_told =
      let k = others_keep narrow c m (run_front c m (y ∷ []) r) o in
      let b = run_back c m (y ∷ []) r in
      ap (λ (z : Counted). z.told) (call-row (after c m) y b.0 narrow h) ∙ rw (k.0, k.1)

  -- no number was seen before
  row-untold : seen narrow c ≡ false → told y.returned.missing ≡ []
  unfolding since
  row-untold n = row_told ∙ rw n

fresh_unseen : (b : Bool) → seen b fresh_counters ≡ false
fresh_unseen true = refl
fresh_unseen false = refl

-- THEOREM. With no earlier row of its type, from fresh counters on, nothing is told of a row.
pub told-first : (narrow : Bool) (m : List Counts) (y : Counts) → Counting fresh_counters (m ++ (y ∷ [])) → Others narrow m
    → row narrow y ≡ true → told y.returned.missing ≡ []
told-first narrow m y r o h = row-untold narrow fresh_counters m y r o h (fresh_unseen narrow)

kept_seen : (b : Bool) (c : Counters) (v : ℕ) → seen b (kept b c v) ≡ true
kept_seen true c v = refl
kept_seen false c v = refl

kept-last : (b : Bool) (c : Counters) (v : ℕ) → last b (kept b c v) ≡ v
kept-last true c v = refl
kept-last false c v = refl

-- a number of octets is of its counter's width
sequence-lt : (narrow : Bool) (s : List ℕ) → Octets s → sequence narrow s < 2 ^ width narrow
sequence-lt true s o = let h = be_lt s 2 2 o in omega arith
sequence-lt false s o = let h = be_lt s 0 4 o in omega arith

-- the call x, and the row y after others
module _ (narrow : Bool) (c : Counters) (l m : List Counts) (x y : Counts) (r : Counting c (l ++ (x ∷ (m ++ (y ∷ [])))))
    (o : Others narrow m) (h : row narrow y ≡ true) where
  at_x : Counting (after c l) (x ∷ (m ++ (y ∷ [])))
  at_x = run_back c l (x ∷ (m ++ (y ∷ []))) r

  -- THEOREM. A peer table between two rows starts the count afresh.
  pub told_afresh : peers x ≡ true → told y.returned.missing ≡ []
  told_afresh p = row-untold narrow x.returned.counters m y at_x.1 o h (by_family narrow)
    where
      by_family : (b : Bool) → seen b x.returned.counters ≡ false
      by_family b = ap (seen b) (call-peers (after c l) x at_x.0 p) ∙ fresh_unseen b

  -- THEOREM. With x the last row of the same type before it, whatever the records before x were and whichever others stand between,
  -- what is told of y is the difference of the two numbers.
  pub told_between : row narrow x ≡ true
      → told y.returned.missing ≡ shown (apart (width narrow) (sequence narrow x.body) (sequence narrow y.body))
  unfolding since
  told_between i =
      let d : x.returned.counters ≡ kept narrow (after c l) (sequence narrow x.body) =
      ap (λ (z : Counted). z.counters) (call-row (after c l) x at_x.0 narrow i) in
      row_told narrow x.returned.counters m y at_x.1 o h ∙ rw (d, kept_seen, kept-last)

  -- both bodies are octets, so that both numbers are of their width
  module _ (i : row narrow x ≡ true) (xs : Octets x.body) (ys : Octets y.body) where
    told-since : told y.returned.missing ≡ since (width narrow) true (sequence narrow x.body) (sequence narrow y.body)
    unfolding since
    told-since = told_between i

    -- THEOREM. Where the two numbers differ, the rows told of y are the only m below 2^w with x's number + m + 1 = y's, turned over at 2^w.
    pub rows_between : (sequence narrow x.body ≡ sequence narrow y.body → ⊥) → (m : ℕ)
        → Between (width narrow) (sequence narrow x.body) (sequence narrow y.body) m ↔ (y.returned.missing ≡ Rows m)
    rows_between n m =
        let w = rows_only (width narrow) (sequence narrow x.body) (sequence narrow y.body)
        (sequence-lt narrow x.body xs) (sequence-lt narrow y.body ys) n m in
        (λ b. told_unique y.returned.missing (Rows m) (told-since ∙ w.0 b), λ e. w.1 (sym told-since ∙ ap told e))

    -- THEOREM. Where they are the same, a repeat is told.
    pub repeat_between : sequence narrow x.body ≡ sequence narrow y.body → y.returned.missing ≡ Repeat
    repeat_between e =
        let w = repeat_only (width narrow) (sequence narrow x.body) (sequence narrow y.body)
        (sequence-lt narrow x.body xs) (sequence-lt narrow y.body ys) e in
        told_unique y.returned.missing Repeat (told-since ∙ w.0)

four_held : (cs : List ℕ) → holds_counters cs ≡ true → 4 ≤ length cs
unfolding holds_counters
four_held cs h = leb-true 4 (length cs) (by_test (leb 4 (length cs)) refl)
  where
    by_test : (t : Bool) → leb 4 (length cs) ≡ t → leb 4 (length cs) ≡ true
    by_test true e = e
    by_test false e = absurd (true≢false (sym h ∙ rw e))

-- counters that are stored in four places or more are held there
held_again : (cs : List ℕ) (d : Counters) → 4 ≤ length cs → counters_in (patch cs 0 (counters_values d)) ≡ d
unfolding patch
held_again [] d h = absurd (omega arith)
held_again (a ∷ []) d h = absurd (omega arith)
held_again (a ∷ b ∷ []) d h = absurd (omega arith)
held_again (a ∷ b ∷ e ∷ []) d h = absurd (omega arith)
held_again (a ∷ b ∷ e ∷ f ∷ l) d h = rw (mark-told d.tabled, mark-told d.dumped)

-- THEOREM. A call of `mrt_missing` that is served counts with the counters that are lent, leaves those after the record in their places,
-- and what is told in its own: so calls on the same places are calls one after another, as above.
pub lent_counted : (s : List ℕ) (k t : ℕ) (cs out ds ts : List ℕ) → (ds, (ts, 0)) ≡ missing_out s k t cs out
    → (counters_in ds ≡ (count (counters_in cs) k t s).counters)
    × (ts ≡ patch out 0 (missing_values (count (counters_in cs) k t s).told))
unfolding missing_out
lent_counted s k t cs out ds ts e = by_room (holds_counters cs) (leb 3 (length out)) refl e
  where
    by_room : (a b : Bool) → holds_counters cs ≡ a
        → (ds, (ts, 0)) ≡ cond a (cond b (counted_out cs out (count (counters_in cs) k t s)) (cs, (out, 9))) (cs, (out, 8))
        → (counters_in ds ≡ (count (counters_in cs) k t s).counters)
        × (ts ≡ patch out 0 (missing_values (count (counters_in cs) k t s).told))
    by_room true true h q = (
      ap (λ (x : List ℕ × (List ℕ × ℕ)). counters_in x.0) q ∙ held_again cs (count (counters_in cs) k t s).counters (four_held cs h),
      ap (λ (x : List ℕ × (List ℕ × ℕ)). x.1.0) q,
    )
    by_room true false h q = let z : ◌≡◌ {A = ℕ} 0 9 = ap (λ (x : List ℕ × (List ℕ × ℕ)). x.1.1) q in absurd (omega arith)
    by_room false b h q = let z : ◌≡◌ {A = ℕ} 0 8 = ap (λ (x : List ℕ × (List ℕ × ℕ)). x.1.1) q in absurd (omega arith)
