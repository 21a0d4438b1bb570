-- A RIB body copied by rows: what `mrt_rib_entries` hands out of a whole body, pushed by `mrt_push_entries` after the same head, is that
-- body.
use Prim.Native.Nat.{ℕ, zero, suc, ◌+◌, ◌-◌, ◌*◌, ◌/◌, ◌%◌, ◌≤◌}
use mathlib.Core.Path.{◌≡◌, refl, sym, ◌∙◌, ap}
use mathlib.Core.Bool.{Bool, true, false, cond}
use mathlib.Core.List.{List, [], ◌∷◌, ◌++◌, append_assoc, append-nil}
use native.Mathlib.Nat.{add-zero}
use native.Mathlib.Omega.{arith}
use lib.ListN.{length, get_or, take, drop, length-append}
use lib.Seq.{get_or-append-add, take-suc, take-add, take_at, take-append_seam}
use lib.Dec.{ltb, eqb, eqb-suc-zero}
use borrow.Author.Tests.{le-leb, le-ltb, eq-eqb, eqb-true, leb-true}
use Rattle.std.specs.Prelude.{Some, None}
use Rattle.octets.specs.Octets.{be_at, patch, part, Octets}
use Rattle.octets.proofs.Numbers.{bytes_of_be}
use Rattle.octets.proofs.Stores.{patch_front, patch-over}
use Rattle.octets.proofs.Parts.{length_part}
use Rattle.rib_head.specs.Layout.{carried, path_size, prefix_size}
use Rattle.rib_head.specs.Head.{bits_of, count_at, declared, entries_at, check_rib}
use Rattle.rib_head.proofs.Heads.{met-within, met-carried, met_most}
use Rattle.rib_entries.specs.Entry.{attributes_at, entry_end, fits, passed, placed, first_of, no_step, step_at, next_of}
use Rattle.rib_entries.specs.declared.Cursor.{Cursor}
use Rattle.rib_entries.proofs.Passing.{by_fit}
use Rattle.rib_write.specs.Push.{Pushing, push_entry}
use Rattle.rib_add.specs.Add.{open_of}
use Rattle.rib_write.specs.Rows.{push_row, Rowing, one_more, builder_after, push_rows, rowed}
use Rattle.rib_write.specs.Rows.{push_entries}
use Rattle.rib_write.specs.declared.Builder.{Builder}
use Rattle.rib_write.proofs.ByRows.{Asked, askable_so, rows-one}
use Rattle.rib_add.proofs.Opened.{Whole, whole-opened, open_whole}
use Rattle.mrt_lent.specs.Rows.{rows_from, rows_on, rows_handed}
use Rattle.mrt_lent.specs.Export.{exported}
use Rattle.mrt_lent.specs.declared.Handed.{Handed}
use Rattle.mrt_rib_cursor.specs.Entries.{placed_out}
use Rattle.mrt_rib_entries.specs.Entries.{entry_turn, entry_at, holds_cursor, entries_out}
use Rattle.mrt_rib_build.specs.Build.{opened_out, holds_builder}
use Rattle.mrt_rib_rows.specs.Rows.{rows_out}
use Rattle.rib_begin.specs.Layout.{head_with}
use Rattle.whole.specs.Run.{Given, pushes, entries_octets, head_alone}
use Rattle.whole.proofs.Seams.{Front, given_at, givens_at}
use Rattle.whole.proofs.Built.{body, state, builder, Sound, Fitting, length-body}
use Rattle.whole.proofs.Built.{count_built, declared_built, whole_built, standing_built}
use Rattle.whole.proofs.Runs.{Typed, AllTyped, typed_kept, pushes_fitting}
use Rattle.whole.proofs.Rebuilt.{gs, within, declared-lt, length_givens, length-entries, fitting_all, body_own}

-- the five values of the entry at an offset, and those of n entries one after the other
abbrev values_at : ℕ → List ℕ → ℕ → List ℕ
values_at p s at = be_at s at 2 ∷ be_at s (at + 2) 4 ∷ be_at s (at + 6) p ∷ attributes_at p at ∷ entry_end p s at ∷ []

unfoldable pub rows_at : ℕ → List ℕ → ℕ → ℕ → List ℕ
rows_at p s at zero = []
rows_at p s at (suc n) = values_at p s at ++ rows_at p s (entry_end p s at) n

length-rows : (p : ℕ) (s : List ℕ) (n at : ℕ) → length (rows_at p s at n) ≡ 5 * n
unfolding rows_at
length-rows p s zero at = refl
length-rows p s (suc n) at = let i = length-rows p s n (entry_end p s at) in omega arith

-- an entry that fits starts within the body
starts_within : (p : ℕ) (s : List ℕ) (at : ℕ) → fits p s at ≡ true → at ≤ length s
unfolding fits entry_end attributes_at
starts_within p s at f = omega (arith, leb-true (at + (8 + p) + be_at s (at + (6 + p)) 2) (length s) f)

-- what is handed out of entries that all fit
module _ (s : List ℕ) (t : ℕ) (c : carried t ≡ true) where
  abbrev cursor_at : ℕ → ℕ → Cursor
  cursor_at at n = record { at = at; left = n }

  -- an entry that fits, and none
  entry_turn_lem : (n at : ℕ) → fits (path_size t) s at ≡ true
      → entry_at s t (cursor_at at (suc n)) ≡ Some (values_at (path_size t) s at, cursor_at (entry_end (path_size t) s at) n)
  unfolding entry_at next_of step_at
  entry_turn_lem n at f =
      let m : suc n - 1 ≡ n = omega arith in
      rw (le-ltb (length s) at (starts_within (path_size t) s at f), c, eqb-suc-zero n, f, m)

  no_turn : (at : ℕ) → entry_at s t (cursor_at at 0) ≡ None
  unfolding entry_at next_of step_at
  no_turn at = by_test (ltb (length s) at)
    where
      by_test : (b : Bool) → entry_turn (cond b (no_step 8) (cond (carried t) (no_step 0) (no_step 6))) ≡ None
      by_test true = refl
      by_test false = rw c

  handed : (n at k : ℕ) → (passed (path_size t) s at n).left ≡ 0 → n ≤ k
      → rows_from (entry_at s t) k (cursor_at at n)
      ≡ record { values = rows_at (path_size t) s at n; count = n; after = cursor_at (passed (path_size t) s at n).at 0 }
  unfolding passed rows_at rows_from rows_on
  handed zero at zero z h = refl
  handed zero at (suc k) z h = rw (no_turn at)
  handed (suc n) at zero z h = absurd (omega arith)
  handed (suc n) at (suc k) z h =
      by_fit (path_size t) s at
      (rows_from (entry_at s t) (suc k) (cursor_at at (suc n))
      ≡ record {
        values = rows_at (path_size t) s at (suc n);
        count = suc n;
        after = cursor_at (passed (path_size t) s at (suc n)).at 0;
      })
      (λ f. rw (entry_turn_lem n at f, f, handed n (entry_end (path_size t) s at) k (rw f at z) (omega arith)))
      (λ f. absurd (let m = rw f at z in omega arith))

-- a row is the entry that it was handed out for
module _ (s : List ℕ) (t at : ℕ) (f : fits (path_size t) s at
    ≡ true) (y : Typed (given_at (path_size t) s at)) (before after : List ℕ) where
  abbrev among : List ℕ
  among = before ++ (values_at (path_size t) s at ++ after)

  value : (i : ℕ) → get_or among (length before + i) 0 ≡ get_or (values_at (path_size t) s at ++ after) i 0
  value i = get_or-append-add before (values_at (path_size t) s at ++ after) i 0

  first : get_or among (length before) 0 ≡ be_at s at 2
  first = ap (λ (k : ℕ). get_or among k 0) (sym (add-zero (length before))) ∙ value 0

  asked : Asked among (length before) (length s)
  unfolding given_at fits entry_end
  asked =
      let e = leb-true (entry_end (path_size t) s at) (length s) f in
      record {
        peer = let h = y.peer in omega (arith, first);
        originated = let h = y.originated in omega (arith, value 1);
        path = let h = y.path in omega (arith, value 2);
        start = omega (arith, value 3, value 4);
        end = omega (arith, value 4);
      }

  row_given : (x : List ℕ) (b : Builder)
      → push_row x t b among (length before) s ≡ push_entry x t b (given_at (path_size t) s at).entry
      (given_at (path_size t) s at).attributes
  unfolding push_row given_at entry_end attributes_at
  row_given x b =
      let p : ℕ = path_size t in
      let m : at + (8 + p) + be_at s (at + (6 + p)) 2 - (at + (8 + p)) ≡ be_at s (at + (6 + p)) 2 = omega arith in
      rw (askable_so among (length before) (length s) asked, first, value 1, value 2, value 3, value 4, m)

-- what an accepted run of pushes starts from was accepted
pushes_from : (t : ℕ) (gs : List Given) (w : Pushing) → (pushes t w gs).number ≡ 0 → w.number ≡ 0
unfolding pushes
pushes_from t [] w z = z
pushes_from t (g ∷ gs) w z = by_test (eqb w.number 0) refl z
  where
    by_test : (b : Bool) → eqb w.number 0 ≡ b
        → (cond b (pushes t (push_entry w.output t (builder_after w) g.entry g.attributes) gs) w).number ≡ 0 → w.number ≡ 0
    by_test true e z = eqb-true w.number 0 e
    by_test false e z = z

-- rows that were handed out go in as their entries do, where all of these are accepted
module _ (s : List ℕ) (t : ℕ) (rs : List ℕ) where
  abbrev all_in : ℕ → Pushing → Rowing
  all_in n x = record { rows = n; builder = builder_after x; output = x.output }

  rows_of_pushes : (n at : ℕ) (before : List ℕ) → rs ≡ before ++ rows_at (path_size t) s at n → (passed (path_size t) s at n).left ≡ 0
      → AllTyped (givens_at (path_size t) s at n) → (w : Pushing) → (pushes t w (givens_at (path_size t) s at n)).number ≡ 0
      → push_rows n w.output t (builder_after w) rs (length before) s ≡ all_in n (pushes t w (givens_at (path_size t) s at n))
  unfolding pushes push_rows rows_at passed givens_at
  rows_of_pushes zero at before e z y w q = refl
  rows_of_pushes (suc n) at before e z y w q =
      by_fit (path_size t) s at
      (push_rows (suc n) w.output t (builder_after w) rs (length before) s
      ≡ all_in (suc n) (pushes t w (givens_at (path_size t) s at (suc n))))
      (λ f.
      let p : ℕ = path_size t in
      let g : Given = given_at p s at in
      let gs : List Given = givens_at p s (entry_end p s at) n in
      let v : Pushing = push_entry w.output t (builder_after w) g.entry g.attributes in
      let a : pushes t w (g ∷ gs) ≡ pushes t v gs = rw (eq-eqb w.number 0 (pushes_from t (g ∷ gs) w q)) in
      let q' : (pushes t v gs).number ≡ 0 = ap (λ (x : Pushing). x.number) (sym a) ∙ q in
      let r : push_row w.output t (builder_after w) rs (length before) s ≡ v =
      rw e (row_given s t at f y.0 before (rows_at p s (entry_end p s at) n) w.output (builder_after w)) in
      let e' : rs ≡ before ++ values_at p s at ++ rows_at p s (entry_end p s at) n =
      e ∙ sym (append_assoc before (values_at p s at) (rows_at p s (entry_end p s at) n)) in
      let i = rows_of_pushes n (entry_end p s at) (before ++ values_at p s at) e' (rw f at z) y.1 v q' in
      rows-one w.output t (builder_after w) rs (length before) s r (pushes_from t gs v q') n
      ∙ ap one_more (rw (length-append before (values_at p s at)) at i)
      ∙ ap (all_in (suc n)) (sym a))
      (λ f. absurd (let m = rw f at z in omega arith))

-- the head of a whole body, with no entry
module _ (s : List ℕ) (t : ℕ) (o : Octets s) (z : (open_of s t).number ≡ 0) where
  whole : Whole s t
  whole = whole-opened s t z

  abbrev own : Front
  own = record { sequence = be_at s 0 4; bits = bits_of s; octets = part s 5 (prefix_size (bits_of s)) }

  sound : Sound t own
  sound =
      let m = within s t o whole in
      record {
        carries = met-carried s t whole.check;
        few = met_most s t whole.check;
        full = length_part s 5 (prefix_size (bits_of s)) (omega arith);
      }

  head_alone_lem : body t own [] ≡ head_alone s
  unfolding body head_alone head_with entries_octets count_at bits_of
  head_alone_lem =
      let n : ℕ = prefix_size (get_or s 4 0) in
      let m : 7 + n ≤ length s = within s t o whole in
      let a : take 5 s ≡ take 4 s ++ (get_or s 4 0 ∷ []) = take-suc s 4 0 (omega arith) in
      rw (append-nil, bytes_of_be s 0 4 o (omega arith), take-add 5 n s, a)

  -- its rows
  abbrev pub rows_of : List ℕ
  rows_of = rows_at (path_size t) s (entries_at s) (declared s)

  length_all : length (entries_octets (path_size t) (gs s t o whole)) ≡ length s - entries_at s
  unfolding entries_at
  length_all = length-entries s t o whole

  length_alone : length (body t own []) ≡ entries_at s
  unfolding entries_octets entries_at
  length_alone = length-body t own sound.full [] ∙ add-zero (7 + prefix_size (bits_of s))

  -- all of them go in after the head
  entries_in : (r : List ℕ) → length s - entries_at s ≤ length r
      → push_entries (body t own [] ++ r) t (builder t own []) rows_of s
      ≡ rowed (all_in s t rows_of (declared s) (state t own (gs s t o whole) (drop (length s - entries_at s) r)))
  unfolding push_entries state gs
  entries_in r h =
      let x : List ℕ = body t own [] in
      let l : List Given = gs s t o whole in
      let k : Fitting t l = fitting_all s t o whole in
      let n : length rows_of ≡ 5 * declared s = length-rows (path_size t) s (declared s) (entries_at s) in
      let d : length rows_of / 5 ≡ declared s = omega arith in
      let e : length (entries_octets (path_size t) l) ≡ length s - entries_at s = length_all in
      let c = k.count in
      let all = pushes_fitting t own sound l [] r tt k.kept (omega arith) (omega arith) in
      let none : Fitting t [] = record { kept = tt; count = omega arith } in
      let m : length (x ++ r) ≡ length x + length r = length-append x r in
      let rows = rows_of_pushes s t rows_of (declared s) (entries_at s) [] refl whole.left (typed_kept t l k.kept) (state t own [] r)
      (ap (λ (w : Pushing). w.number) all) in
      rw (
        eq-eqb (length rows_of % 5) 0 (omega arith),
        le-ltb (length (x ++ r)) (length x) (omega arith),
        take-append_seam x r,
        standing_built t own sound [] none,
        d,
      )
      (ap rowed (rows ∙ ap (all_in s t rows_of (declared s)) (rw e at all)))

  -- the same of the head as it stands in the body
  copied : (r : List ℕ) → length s - entries_at s ≤ length r
      → push_entries (head_alone s ++ r) t (record { len = entries_at s; at = count_at s; count = 0 }) rows_of s
      ≡ rowed (record {
        rows = declared s;
        builder = record { len = length s; at = count_at s; count = declared s };
        output = s ++ drop (length s - entries_at s) r;
      })
  unfolding state gs count_at
  copied r h =
      rw (
        length_alone,
        head_alone_lem,
        body_own s t o whole,
        length_givens (path_size t) s o (declared s) (entries_at s),
      ) at (entries_in r h)

  -- the head alone is opened at its end
  opened_alone : open_of (head_alone s) t ≡ record { number = 0; len = entries_at s; at = count_at s; count = 0 }
  unfolding count_at
  opened_alone =
      let x : List ℕ = body t own [] in
      let none : Fitting t [] = record { kept = tt; count = omega arith } in
      let c : count_at x ≡ 5 + prefix_size (bits_of s) = count_built t own sound [] in
      rw (length_alone, c, declared_built t own sound [] none, head_alone_lem) at (open_whole x t (whole_built t own sound [] none))

  -- of the exported calls, with places for their values: the cursor that `mrt_rib_first` places, all rows by one call, and the builder
  -- that `mrt_open_rib` opens over the head alone
  module _ (cs places ws : List ℕ) (two : 2 ≤ length cs) (five : 5 ≤ length places) (enough : 5 * declared s ≤ length places)
      (three : 3 ≤ length ws) where
    -- what the calls leave in the places
    placed_first : placed_out cs (first_of s t) ≡ (patch cs 0 (entries_at s ∷ declared s ∷ []), 0)
    unfolding first_of placed exported
    placed_first = rw (eq-eqb (check_rib s t) 0 whole.check, le-leb 2 (length cs) two)

    opened-end : opened_out ws (open_of (head_alone s) t) ≡ (patch ws 0 (entries_at s ∷ count_at s ∷ 0 ∷ []), 0)
    unfolding exported
    opened-end = rw (opened_alone, le-leb 3 (length ws) three)

    rows-handed : {c : List ℕ} → c ≡ patch cs 0 (entries_at s ∷ declared s ∷ [])
        → (entries_out s t c places).1 ≡ (patch places 0 rows_of, rows_handed (declared s))
    unfolding entries_out holds_cursor
    rows-handed e =
        let c = met-carried s t whole.check in
        let d = declared-lt s t o whole in
        rw (
          e,
          patch_front cs (entries_at s ∷ declared s ∷ []) two,
          le-leb 2 (suc (suc (length (drop 2 cs)))) (omega arith),
          le-leb (declared s) 65535 (omega arith),
          le-leb (entries_at s) (length s) (met-within s t whole.check),
          c,
          le-leb 5 (length places) five,
          handed s t c (declared s) (entries_at s) (length places / 5) whole.left (omega arith),
        )

    rows_there : take (5 * declared s) (patch places 0 rows_of) ≡ rows_of
    rows_there =
        let n : length rows_of ≡ 5 * declared s = length-rows (path_size t) s (declared s) (entries_at s) in
        ap (take (5 * declared s)) (patch_front places rows_of (omega arith))
        ∙ take_at rows_of (drop (length rows_of) places) (5 * declared s) n

    module _ (r : List ℕ) (h : length s - entries_at s ≤ length r) where
      rows_in : {w : List ℕ} → w ≡ patch ws 0 (entries_at s ∷ count_at s ∷ 0 ∷ [])
          → rows_out (head_alone s ++ r) t w rows_of s
          ≡ (s ++ drop (length s - entries_at s) r, (patch w 0 (length s ∷ count_at s ∷ declared s ∷ []), rows_handed (declared s)))
      unfolding rows_out holds_builder
      rows_in e =
          let f = e ∙ patch_front ws (entries_at s ∷ count_at s ∷ 0 ∷ []) three in
          rw (f, le-leb 3 (suc (suc (suc (length (drop 3 ws))))) (omega arith), copied r h)

      pub copied_by_rows : rows_out (head_alone s ++ r) t (opened_out ws (open_of (head_alone s) t)).0
          (take (5 * (entries_out s t (placed_out cs (first_of s t)).0 places).1.1.count)
          (entries_out s t (placed_out cs (first_of s t)).0 places).1.0) s
          ≡ (s ++ drop (length s - entries_at s) r, (patch ws 0 (length s ∷ count_at s ∷ declared s ∷ []), rows_handed (declared s)))
      copied_by_rows =
          let w = ap (λ (x : List ℕ × ℕ). x.0) opened-end in
          let v = rows-handed (ap (λ (x : List ℕ × ℕ). x.0) placed_first) in
          let all : List ℕ × Handed → List ℕ = λ x. take (5 * x.1.count) x.0 in
          ap (λ (l : List ℕ). rows_out (head_alone s ++ r) t (opened_out ws (open_of (head_alone s) t)).0 l s) (ap all v ∙ rows_there)
          ∙ rows_in w
          ∙ ap (λ (l : List ℕ). (s ++ drop (length s - entries_at s) r, (l, rows_handed (declared s))))
          (ap (λ (l : List ℕ). patch l 0 (length s ∷ count_at s ∷ declared s ∷ [])) w
          ∙ patch-over ws 0 (entries_at s ∷ count_at s ∷ 0 ∷ []) (length s ∷ count_at s ∷ declared s ∷ []) (omega arith) three)
