-- What a whole walk promises, of `mrt_next` and `mrt_records` on one lent walk, in any mixture.
use Prim.Native.Nat.{ℕ, zero, suc, ◌+◌, ◌*◌, ◌/◌, ◌<◌, ◌≤◌}
use mathlib.Core.Path.{◌≡◌, refl, sym, ◌∙◌, ap, subst}
use mathlib.Core.Bool.{Bool, true, false, cond}
use mathlib.Core.List.{List, [], ◌∷◌, ◌++◌}
use native.Mathlib.Omega.{arith}
use lib.ListN.{length, get_or, set, length-set, length-append}
use lib.Seq.{get_or-set_same, get_or-set_other}
use lib.Dec.{leb, eqb}
use borrow.Author.Tests.{leb-true, leb-false, le-leb, lt-leb}
use Rattle.octets.specs.Octets.{patch}
use Rattle.rules.specs.Ask.{over}
use Rattle.walk.specs.Judged.{Judged, fit, off, cut}
use Rattle.walk.specs.Step.{Stepped, at, handed, moved, fresh_walk, step}
use Rattle.walk.specs.Promises.{Run, heard, Records, Promised}
use Rattle.walk.specs.declared.Walk.{Walk}
use Rattle.walk.proofs.Calls.{call, call-fit}
use Rattle.walk.proofs.Whole.{call-within}
use Rattle.walk_judge.specs.Record.{judge_at}
use Rattle.walk_candidate.specs.Candidate.{candidate_at}
use Rattle.walk_candidate.proofs.Candidates.{sound}
use Rattle.walk_step.proofs.Theorems.{calls_promise}
use Rattle.mrt_lent.specs.Export.{mark}
use Rattle.mrt_lent.specs.Rows.{Rows, rows_on, rows_from, rows_handed, none_handed}
use Rattle.mrt_lent.specs.declared.Handed.{Handed}
use Rattle.mrt_lent.proofs.Walks.{Held, walk_full, walk_served}
use Rattle.mrt_lent.specs.Walks.{walk_in}
use Rattle.mrt_walk.specs.Next.{walk_values, stepped_out, next_out}
use Rattle.mrt_records.specs.Records.{record_turn, record_at, records_handed, records_out}
use Rattle.whole.specs.Made.{Holds, Made, one, many, Calls, answers_of, values_of, Shows, none, next, records}
use Rattle.whole.specs.Made.{full_next, full_records, answered, Nexts}

-- a truth value told by its mark
pub mark-told : (b : Bool) → eqb (mark b) 1 ≡ b
mark-told true = refl
mark-told false = refl

mark_small : (b : Bool) → mark b ≤ 1
mark_small true = omega arith
mark_small false = omega arith

-- the walk that steps leave
after : Walk → List Stepped → Walk
after w [] = w
after w (x ∷ l) = after x.walk l

-- one run after another
run_append : (f : Walk → Stepped) (ys xs : List Stepped) (w : Walk) → Run f w ys → Run f (after w ys) xs → Run f w (ys ++ xs)
unfolding after
run_append f [] xs w r q = q
run_append f (y ∷ ys) xs w r q = (r.0, run_append f ys xs y.walk r.1 q)

-- no value leaves the places as they were
nothing_stored : (places : List ℕ) → places ≡ patch places 0 (values_of [])
unfolding values_of patch
nothing_stored places = refl

-- what a call of `mrt_records` leaves and returns
abbrev Out : Type 0
Out = List ℕ × (List ℕ × Handed)

module _ (s : List ℕ) (window k : ℕ) where
  abbrev go : Walk → Stepped
  go = call judge_at candidate_at s window k

  module _ (w : Walk) (ws : List ℕ) (h : Holds (length s) w ws) where
    walk_in_lem : walk_in ws ≡ w
    walk_in_lem = rw (h.position, h.marked, mark-told w.finished)

    small : get_or ws 1 0 ≤ 1
    small = let m = mark_small w.finished in let e = h.marked in omega arith

    inside : get_or ws 0 0 ≤ length s
    inside = let e = h.position in let l = h.within in omega arith

    held : Held (length s) ws
    held = record { two = h.long; marked = small; within = inside }

    -- a walk that is stored is held
    stored : (v : Walk) → v.position ≤ length s → Holds (length s) v (patch ws 0 (walk_values v))
    unfolding patch
    stored v l =
        let a = length-set ws 0 v.position in
        let b = length-set (set ws 0 v.position) 1 (mark v.finished) in
        let n = h.long in
        record {
          long = omega arith;
          position =
              get_or-set_other (set ws 0 v.position) 1 0 (mark v.finished) 0 (λ z. omega arith)
              ∙ get_or-set_same ws 0 v.position 0 (omega arith);
          marked = get_or-set_same (set ws 0 v.position) 1 (mark v.finished) 0 (omega arith);
          within = l;
        }

    -- so is one that goes on at p
    kept : (p : ℕ) → w.finished ≡ false → p ≤ length s → Holds (length s) (at p) (set ws 0 p)
    kept p f l =
        let a = length-set ws 0 p in
        let n = h.long in
        record {
          long = omega arith;
          position = get_or-set_same ws 0 p 0 (omega arith);
          marked = get_or-set_other ws 0 1 p 0 (λ z. omega arith) ∙ h.marked ∙ ap mark f;
          within = l;
        }

    next_served : (places : List ℕ) → 10 ≤ length places → next_out s ws window k places ≡ stepped_out ws places (go w)
    next_served places l =
        sym (walk_served _ _ _ held places l)
        ∙ ap (λ (v : Walk). stepped_out ws places (over s (step judge_at candidate_at v window k))) walk_in_lem

    next_full : (places : List ℕ) → length places < 10 → next_out s ws window k places ≡ (ws, (places, 9))
    next_full places l = sym (walk_full _ _ _ held places l)

    records_full : (places : List ℕ) → length places < 10 → records_out s ws places ≡ (ws, (places, none_handed 9))
    records_full places l = sym (walk_full _ _ _ held places l)

    records_finished : (places : List ℕ) → 10 ≤ length places → w.finished ≡ true → records_out s ws places ≡ (ws, (places, rows_handed 0))
    records_finished places l f =
        let e : eqb (get_or ws 1 0) 1 ≡ true = ap (λ (n : ℕ). eqb n 1) (h.marked ∙ ap mark f) in
        sym (walk_served _ _ _ held places l) ∙ simp e

    records_served : (places : List ℕ) → 10 ≤ length places → w.finished ≡ false
        → records_out s ws places ≡ records_handed ws places (rows_from (record_at s) (length places / 10) w.position)
    records_served places l f =
        let e : eqb (get_or ws 1 0) 1 ≡ false = ap (λ (n : ℕ). eqb n 1) (h.marked ∙ ap mark f) in
        sym (walk_served _ _ _ held places l)
        ∙ simp e (ap (λ (p : ℕ). records_handed ws places (rows_from (record_at s) (length places / 10) p)) h.position)

  -- rows of records from p on are steps of the walk
  record Rowed (p : ℕ) (r : Rows ℕ) : Type 0 where
    steps : List Stepped
    runs : Run go (at p) steps
    all : Records (length steps) (answers_of steps)
    values : r.values ≡ values_of steps
    count : r.count ≡ length steps
    ends : after (at p) steps ≡ at r.after
    within : r.after ≤ length s

  rowed : (n p : ℕ) → p ≤ length s → Rowed p (rows_from (record_at s) n p)
  unfolding rows_from rows_on record_at values_of after
  rowed zero p l = record { steps = []; runs = tt; all = tt; values = refl; count = refl; ends = refl; within = l }
  rowed (suc n) p l = by_judged (over s (judge_at p)) refl (rowed n)
    where
      by_judged : (j : Judged) → over s (judge_at p) ≡ j → ((q : ℕ) → q ≤ length s → Rowed q (rows_from (record_at s) n q))
          → Rowed p (rows_on (rows_from (record_at s) n) p (record_turn p j))
      by_judged (off r e) q ih = record { steps = []; runs = tt; all = tt; values = refl; count = refl; ends = refl; within = l }
      by_judged (cut r) q ih = record { steps = []; runs = tt; all = tt; values = refl; count = refl; ends = refl; within = l }
      by_judged (fit f) q ih =
          let b = sound.fits s p f q in
          let t = ih f.end b.1 in
          let inside : p < length s = omega (arith, b.0, b.1) in
          let x : Stepped = moved f.end (handed p f) in
          record {
            steps = x ∷ t.steps;
            runs = (call-fit judge_at candidate_at s window k (at p) l refl (λ z. omega arith) f (sym q), t.runs);
            all = t.all;
            values = rw t.values;
            count = rw t.count;
            ends = t.ends;
            within = t.within;
          }

  -- the steps that calls show, from the walk w on
  abbrev Shown : Walk → List Made → Type 0
  Shown w l = (xs : List Stepped) × Run go w xs × Shows l xs

  -- what a run of calls shows, by its first call
  module _ (w : Walk) (ws : List ℕ) (h : Holds (length s) w ws) (l : List Made)
      (rest : (v : Walk) (vs : List ℕ) → Holds (length s) v vs → Calls s window k vs l → Shown v l) where
    by_next : (places walk left : List ℕ) (n : ℕ) → (walk, (left, n)) ≡ next_out s ws window k places → Calls s window k walk l
        → Shown w (one places walk left n ∷ l)
    by_next places walk left n q c = by_room (leb 10 (length places)) refl
      where
        by_room : (t : Bool) → leb 10 (length places) ≡ t → Shown w (one places walk left n ∷ l)
        by_room true t =
            let e = q ∙ next_served w ws h places (leb-true _ _ t) in
            let i : walk ≡ patch ws 0 (walk_values (go w).walk) = ap (λ (x : List ℕ × (List ℕ × ℕ)). x.0) e in
            let g = stored w ws h (go w).walk (call-within judge_at candidate_at sound s window k w h.within) in
            let y = rest (go w).walk walk (rw i g) c in
            (go w ∷ y.0, (refl, y.1), next (go w) (ap (λ (x : List ℕ × (List ℕ × ℕ)). x.1) e) y.2)
        by_room false t =
            let e = q ∙ next_full w ws h places (leb-false _ _ t) in
            let i : walk ≡ ws = ap (λ (x : List ℕ × (List ℕ × ℕ)). x.0) e in
            let j : left ≡ places = ap (λ (x : List ℕ × (List ℕ × ℕ)). x.1.0) e in
            let m : n ≡ 9 = ap (λ (x : List ℕ × (List ℕ × ℕ)). x.1.1) e in
            let y = rest w walk (rw i h) c in
            (y.0, y.1, rw (j, m) (full_next (leb-false _ _ t) y.2))

    by_records : (places walk left : List ℕ) (d : Handed) → (walk, (left, d)) ≡ records_out s ws places → Calls s window k walk l
        → Shown w (many places walk left d ∷ l)
    by_records places walk left d q c = by_room (leb 10 (length places)) refl w.finished refl
      where
        by_room : (t : Bool) → leb 10 (length places) ≡ t → (f : Bool) → w.finished ≡ f → Shown w (many places walk left d ∷ l)
        by_room false t f g =
            let e = q ∙ records_full w ws h places (leb-false _ _ t) in
            let i : walk ≡ ws = ap (λ (x : Out). x.0) e in
            let j : left ≡ places = ap (λ (x : Out). x.1.0) e in
            let m : d ≡ none_handed 9 = ap (λ (x : Out). x.1.1) e in
            let y = rest w walk (rw i h) c in
            (y.0, y.1, rw (j, m) (full_records (leb-false _ _ t) y.2))
        by_room true t true g =
            let e = q ∙ records_finished w ws h places (leb-true _ _ t) g in
            let i : walk ≡ ws = ap (λ (x : Out). x.0) e in
            let j : left ≡ places = ap (λ (x : Out). x.1.0) e in
            let m : d ≡ rows_handed 0 = ap (λ (x : Out). x.1.1) e in
            let y = rest w walk (rw i h) c in
            (y.0, y.1, records [] tt (j ∙ nothing_stored places) m y.2)
        by_room true t false g =
            let r : Rows ℕ = rows_from (record_at s) (length places / 10) w.position in
            let e = q ∙ records_served w ws h places (leb-true _ _ t) g in
            let i : walk ≡ set ws 0 r.after = ap (λ (x : Out). x.0) e in
            let j : left ≡ patch places 0 r.values = ap (λ (x : Out). x.1.0) e in
            let m : d ≡ rows_handed r.count = ap (λ (x : Out). x.1.1) e in
            let here : w ≡ at w.position = ap (λ (b : Bool). record { position = w.position; finished = b }) g in
            let z = rowed (length places / 10) w.position h.within in
            let y = rest (at r.after) walk (rw i (kept w ws h r.after g z.within)) c in
            let joined = run_append go z.steps y.0 (at w.position) z.runs (rw z.ends y.1) in
            let u : Run go w (z.steps ++ y.0) = subst (λ (v : Walk). Run go v (z.steps ++ y.0)) (sym here) joined in
            (z.steps ++ y.0, u, records z.steps z.all (j ∙ ap (patch places 0) z.values) (m ∙ ap rows_handed z.count) y.2)

  shown : (l : List Made) (w : Walk) (ws : List ℕ) → Holds (length s) w ws → Calls s window k ws l → Shown w l
  shown [] w ws h c = ([], tt, none)
  shown (one places walk left n ∷ l) w ws h c = by_next w ws h l (shown l) places walk left n c.0 c.1
  shown (many places walk left d ∷ l) w ws h c = by_records w ws h l (shown l) places walk left d c.0 c.1

  -- each call of `mrt_next` with room for an answer shows one
  answered-shown : (l : List Made) (xs : List Stepped) → Shows l xs → answered l ≤ length xs
  unfolding answered
  answered-shown [] [] none = omega arith
  answered-shown [] (x ∷ xs) x3 = elim x3 [ ]
  answered-shown (one places walk left n ∷ l) (x ∷ xs) (next y q h) = by_room (leb 10 (length places)) (answered-shown l xs h)
    where
      by_room : (t : Bool) → answered l ≤ length xs → cond t (suc (answered l)) (answered l) ≤ suc (length xs)
      by_room true a = omega arith
      by_room false a = omega arith
  answered-shown (many places walk left d ∷ l) zs (records {xs = xs} ys a q e h) =
      let i = answered-shown l xs h in
      let j = length-append ys xs in
      omega arith
  answered-shown (one places walk left n ∷ l) xs (full_next a h) = rw (lt-leb 10 (length places) a) (answered-shown l xs h)
  answered-shown (many places walk left d ∷ l) xs (full_records a h) = answered-shown l xs h

  -- THEOREM. Calls of `mrt_next` and `mrt_records` on one lent walk, in any mixture and with any places, show the steps of one run of
  -- the walk: the records that `mrt_records` hands out are those of as many steps.
  pub mixed_runs : (w : Walk) (ws : List ℕ) (l : List Made) → Holds (length s) w ws → Calls s window k ws l
      → (xs : List Stepped) × Run go w xs × Shows l xs
  mixed_runs w ws l h c = shown l w ws h c

  -- THEOREM. Where the walk was fresh, and 2 * (n / 12) + 2 of them or more are calls of `mrt_next` with ten places or more, what they
  -- show promises all that a whole walk promises.
  pub mixed_promises : (ws : List ℕ) (l : List Made) → Holds (length s) fresh_walk ws → Calls s window k ws l
      → 2 * (length s / 12) + 2 ≤ answered l → (xs : List Stepped) × Shows l xs × Promised judge_at candidate_at s window k (heard xs)
  mixed_promises ws l h c b =
      let y = mixed_runs fresh_walk ws l h c in
      let a = answered-shown l y.0 y.2 in
      (y.0, y.2, calls_promise s window k y.0 (omega arith) y.1)

  nexts_answered : (l : List Made) → Nexts l → answered l ≡ length l
  unfolding answered
  nexts_answered [] n = refl
  nexts_answered (one places walk left m ∷ l) n = simp (le-leb 10 (length places) n.0, nexts_answered l n.1)
  nexts_answered (many places walk left d ∷ l) n = absurd n

  -- THEOREM. So does any run of `mrt_next` on a fresh walk, of 2 * (n / 12) + 2 calls or more with ten places or more each.
  pub nexts_promise : (ws : List ℕ) (l : List Made) → Holds (length s) fresh_walk ws → Calls s window k ws l → Nexts l
      → 2 * (length s / 12) + 2 ≤ length l → (xs : List Stepped) × Shows l xs × Promised judge_at candidate_at s window k (heard xs)
  nexts_promise ws l h c n b = mixed_promises ws l h c (rw (nexts_answered l n) b)
