-- Runs of entries: a run that is accepted leaves the body with all of them, and a run that fits is accepted.
use Prim.Native.Nat.{ℕ, suc, ◌+◌, ◌-◌, ◌^◌, ◌<◌, ◌≤◌}
use mathlib.Core.Path.{◌≡◌, refl, sym, ◌∙◌, ap}
use mathlib.Core.Bool.{Bool, true, false, not, ◌&&◌, ◌||◌, cond, true≢false}
use mathlib.Core.List.{List, [], ◌∷◌, ◌++◌, append_assoc, append-nil}
use native.Mathlib.Nat.{lt_of_lt_of_le, pow-le-pow_right}
use native.Mathlib.Omega.{arith}
use lib.ListN.{length, drop, length-append, length-drop}
use lib.Seq.{drop-drop, take-append_seam}
use lib.Dec.{ltb, eqb, eqb-suc-zero}
use borrow.Author.Tests.{le-ltb, ltb-false, eqb-true, eqb-false, eq-eqb, ne_eqb}
use Rattle.answer.specs.Writing.{Writing, refuse}
use Rattle.rib_head.specs.Layout.{path_size, prefix_size}
use Rattle.rib_head.specs.Head.{count_at}
use Rattle.rib_head.proofs.Layouts.{path-size, path-size-le}
use Rattle.whole.specs.Run.{Given, given_octets, entries_octets}
use Rattle.rib_write.specs.Push.{unfit, Pushing, unpushed}
use Rattle.rib_add.specs.Add.{add_entry, length_only}
use Rattle.whole.specs.Run.{adds, pushes}
use Rattle.rib_write.proofs.Answers.{count_room}
use Rattle.rib_add.proofs.Opened.{add_of_push}
use Rattle.whole.proofs.Seams.{Kept, AllKept, Front, count_at_lem}
use Rattle.whole.proofs.Built.{body, body-split, state, Sound, Fitting, declared_built, whole_built, push_built}

-- an entry's fields are of their types: 16, 32 and 32 bits
pub record Typed (g : Given) : Type 0 where
  pub peer : g.entry.peer < 65536
  pub originated : g.entry.originated < 4294967296
  pub path : g.entry.path < 4294967296

abbrev pub AllTyped : List Given → Type 0
AllTyped [] = Unit {0}
AllTyped (g ∷ gs) = Typed g × AllTyped gs

-- what fits, from the test
module _ (count t : ℕ) (g : Given) where
  pub kept_of : unfit count t g.entry.path (length g.attributes) ≡ false → Typed g → Kept (path_size t) g
  unfolding unfit
  kept_of f y = by_tests (eqb count 65535) (ltb 65535 (length g.attributes)) refl f
    where
      path_of : (n : ℕ) → n ≡ path_size t → (z : Bool) → eqb n 0 ≡ z → (q : Bool) → eqb g.entry.path 0 ≡ q → z && not q ≡ false
          → g.entry.path < 256 ^ path_size t
      path_of n e false z q p f = rw (path-size t e (eqb-false n 0 z)) y.path
      path_of n e true z true p f = let m : n ≡ 0 = eqb-true n 0 z in let o = eqb-true g.entry.path 0 p in rw (← e, m, o) (omega arith)
      path_of n e true z false p f = absurd (true≢false f)

      by_tests : (a b : Bool) → ltb 65535 (length g.attributes) ≡ b
          → a || b || (eqb (path_size t) 0 && not (eqb g.entry.path 0)) ≡ false → Kept (path_size t) g
      by_tests true b e f = absurd (true≢false f)
      by_tests false true e f = absurd (true≢false f)
      by_tests false false e f =
          let l = ltb-false 65535 (length g.attributes) e in
          record {
            peer = y.peer;
            originated = y.originated;
            path = path_of (path_size t) refl (eqb (path_size t) 0) refl (eqb g.entry.path 0) refl f;
            attributes = omega arith;
          }

  pub count_of_fit : unfit count t g.entry.path (length g.attributes) ≡ false → count ≡ 65535 → ⊥
  unfolding unfit
  count_of_fit f e = by_test (eqb count 65535) (eq-eqb count 65535 e) f
    where
      by_test : (a : Bool) → a ≡ true
          → a || ltb 65535 (length g.attributes) || (eqb (path_size t) 0 && not (eqb g.entry.path 0)) ≡ false → ⊥
      by_test true p f = true≢false f
      by_test false p f = true≢false (sym p)

  -- and the test, from what fits
  pub fit_of_kept : count < 65535 → Kept (path_size t) g → unfit count t g.entry.path (length g.attributes) ≡ false
  unfolding unfit
  fit_of_kept c k =
      let l : length g.attributes ≤ 65535 = let a = k.attributes in omega arith in
      rw (ne_eqb count 65535 (λ e. omega arith), le-ltb 65535 (length g.attributes) l) (by_test (eqb (path_size t) 0) refl)
    where
      by_test : (a : Bool) → eqb (path_size t) 0 ≡ a → a && not (eqb g.entry.path 0) ≡ false
      by_test true e =
          let z : path_size t ≡ 0 = eqb-true (path_size t) 0 e in
          let h : g.entry.path < 256 ^ 0 = rw z at k.path in
          rw (eq-eqb g.entry.path 0 (omega arith))
      by_test false e = refl

-- all that is kept, with one more at the end
pub kept_snoc : (p : ℕ) (gs : List Given) (g : Given) → AllKept p gs → Kept p g → AllKept p (gs ++ (g ∷ []))
kept_snoc p [] g k x = (x, tt)
kept_snoc p (y ∷ gs) g k x = (k.0, kept_snoc p gs g k.1 x)

-- what is kept is of its types
pub typed_kept : (t : ℕ) (gs : List Given) → AllKept (path_size t) gs → AllTyped gs
typed_kept t [] k = tt
typed_kept t (g ∷ gs) k = (one k.0, typed_kept t gs k.1)
  where
    path-lt : (n v : ℕ) → n ≤ 4 → v < 256 ^ n → v < 4294967296
    path-lt n v h l = lt_of_lt_of_le l (pow-le-pow_right {n = 256} (omega arith) h)

    one : Kept (path_size t) g → Typed g
    one x = record { peer = x.peer; originated = x.originated; path = path-lt (path_size t) g.entry.path (path-size-le t) x.path }

-- a refusal ends a run
pub adds-refused : (t n : ℕ) (s : List ℕ) (gs : List Given) → adds t (refuse (suc n) s) gs ≡ refuse (suc n) s
unfolding adds
adds-refused t n s [] = refl
adds-refused t n s (g ∷ gs) = rw (eqb-suc-zero n)

pub pushes-refused : (t n : ℕ) (s : List ℕ) (gs : List Given) → pushes t (unpushed (suc n) s) gs ≡ unpushed (suc n) s
unfolding pushes
pushes-refused t n s [] = refl
pushes-refused t n s (g ∷ gs) = rw (eqb-suc-zero n)

-- so what an accepted run starts from was accepted
pub adds_from : (t : ℕ) (gs : List Given) (w : Writing) → (adds t w gs).number ≡ 0 → w.number ≡ 0
unfolding adds
adds_from t [] w z = z
adds_from t (g ∷ gs) w z = by_test (eqb w.number 0) refl z
  where
    by_test : (b : Bool) → eqb w.number 0 ≡ b
        → (cond b (adds t (add_entry w.output w.octets t g.entry g.attributes) gs) w).number ≡ 0 → w.number ≡ 0
    by_test true e z = eqb-true w.number 0 e
    by_test false e z = z

-- runs from a body with the head h
module _ (t : ℕ) (h : Front) (w : Sound t h) where
  -- what one entry more leads to, by the tests of its values and of the room
  unfoldable next : List Given → Given → List ℕ → Bool → Bool → Pushing
  next done g r u v =
      cond u (unpushed 10 (body t h done ++ r))
      (cond v (unpushed 9 (body t h done ++ r)) (state t h (done ++ (g ∷ [])) (drop (length (given_octets (path_size t) g)) r)))

  pub unfitting : List Given → Given → Bool
  unfitting done g = unfit (length done) t g.entry.path (length g.attributes)

  pub roomless : Given → List ℕ → Bool
  roomless g r = ltb (length r) (length (given_octets (path_size t) g))

  push_step : (gs done : List Given) (g : Given) (r : List ℕ) → Fitting t done
      → pushes t (state t h done r) (g ∷ gs) ≡ pushes t (next done g r (unfitting done g) (roomless g r)) gs
  unfolding pushes state next unfitting roomless
  push_step gs done g r k = ap (λ (x : Pushing). pushes t x gs) (push_built t h w done k r g)

  add_step : (gs done : List Given) (g : Given) (r : List ℕ) → Fitting t done
      → adds t (length_only (state t h done r)) (g ∷ gs) ≡ adds t (length_only (next done g r (unfitting done g) (roomless g r))) gs
  unfolding adds state next unfitting roomless
  add_step gs done g r k =
      let s : List ℕ = body t h done in
      let l : length s ≤ length (s ++ r) = rw (length-append s r) (omega arith) in
      let c : count_at s ≡ 5 + prefix_size h.bits =
      count_at_lem h (length done) (entries_octets (path_size t) done) w.full s (body-split t h done) in
      let a = add_of_push (s ++ r) (length s) t l (rw (take-append_seam s r) (whole_built t h w done k)) g.entry g.attributes in
      let b = rw (take-append_seam s r, c, declared_built t h w done k, push_built t h w done k r g) at a in
      ap (λ (x : Writing). adds t x gs) (sym b)

  -- x is what a builder has left that has written the body with the entries gs
  pub record Ran (gs : List Given) (x : Pushing) : Type 0 where
    pub rest : List ℕ
    pub fitting : Fitting t gs
    pub all : x ≡ state t h gs rest

  -- a run of adds does what a run of pushes does, and one that is accepted leaves the body with all of its entries
  pub record Run (done gs : List Given) (r : List ℕ) : Type 0 where
    pub same : adds t (length_only (state t h done r)) gs ≡ length_only (pushes t (state t h done r) gs)
    pub ran : (pushes t (state t h done r) gs).number ≡ 0 → Ran (done ++ gs) (pushes t (state t h done r) gs)

  fitting_snoc : (done : List Given) (g : Given) → Fitting t done → Typed g → unfitting done g ≡ false → Fitting t (done ++ (g ∷ []))
  unfolding unfitting
  fitting_snoc done g k y e =
      let l = length-append done (g ∷ []) in
      let c = count_room k.count (count_of_fit (length done) t g e) in
      record { kept = kept_snoc (path_size t) done g k.kept (kept_of (length done) t g e y); count = omega arith }

  pub run : (gs done : List Given) (r : List ℕ) → Fitting t done → AllTyped gs → Run done gs r
  unfolding adds pushes next
  run [] done r k y = record { same = refl; ran = λ z. rw append-nil (record { rest = r; fitting = k; all = refl }) }
  run (g ∷ gs) done r k y =
      by_tests (unfitting done g) (roomless g r) refl (push_step gs done g r k) (add_step gs done g r k)
      (λ x. run gs (done ++ (g ∷ [])) (drop (length (given_octets (path_size t) g)) r) x y.1)
    where
      by_tests : (u v : Bool) → unfitting done g ≡ u
          → pushes t (state t h done r) (g ∷ gs) ≡ pushes t (next done g r u v) gs
          → adds t (length_only (state t h done r)) (g ∷ gs) ≡ adds t (length_only (next done g r u v)) gs
          → (Fitting t (done ++ (g ∷ [])) → Run (done ++ (g ∷ [])) gs (drop (length (given_octets (path_size t) g)) r))
          → Run done (g ∷ gs) r
      by_tests true v e p a more =
          let s : List ℕ = body t h done ++ r in
          let q = p ∙ pushes-refused t 9 s gs in
          record { same = a ∙ adds-refused t 9 s gs ∙ sym (ap length_only q); ran = λ z. absurd (let m = rw q at z in omega arith) }
      by_tests false true e p a more =
          let s : List ℕ = body t h done ++ r in
          let q = p ∙ pushes-refused t 8 s gs in
          record { same = a ∙ adds-refused t 8 s gs ∙ sym (ap length_only q); ran = λ z. absurd (let m = rw q at z in omega arith) }
      by_tests false false e p a more =
          let x = more (fitting_snoc done g k y.0 e) in
          record { same = a ∙ x.same ∙ sym (ap length_only p); ran = λ z. rw (p, ← append_assoc done (g ∷ []) gs) (x.ran (rw p at z)) }

  -- a run that fits is accepted
  pub pushes_fitting : (gs done : List Given) (r : List ℕ) → AllKept (path_size t) done → AllKept (path_size t) gs
      → length done + length gs < 65536
      → length (entries_octets (path_size t) gs) ≤ length r
      → pushes t (state t h done r) gs ≡ state t h (done ++ gs) (drop (length (entries_octets (path_size t) gs)) r)
  unfolding pushes entries_octets next unfitting roomless
  pushes_fitting [] done r k y n b = rw append-nil refl
  pushes_fitting (g ∷ gs) done r k y n b =
      let p : ℕ = path_size t in
      let x : List ℕ = given_octets p g in
      let l : length (x ++ entries_octets p gs) ≡ length x + length (entries_octets p gs) = length-append x (entries_octets p gs) in
      let a : length (done ++ (g ∷ [])) ≡ length done + 1 = length-append done (g ∷ []) in
      let m : length (drop (length x) r) ≡ length r - length x = length-drop (length x) r in
      let i = pushes_fitting gs (done ++ (g ∷ [])) (drop (length x) r) (kept_snoc p done g k y.0) y.1 (omega arith) (omega arith) in
      push_step gs done g r (record { kept = k; count = omega arith })
      ∙ rw (
        fit_of_kept (length done) t g (omega arith) y.0,
        le-ltb (length r) (length x) (omega arith),
        l,
        ← drop-drop (length (entries_octets p gs)) (length x) r,
        ← append_assoc done (g ∷ []) gs,
      )
      i
