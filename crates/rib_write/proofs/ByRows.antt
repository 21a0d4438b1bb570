-- Rows that are pushed: when one goes in, what it leaves, and that the builder stands after it.
use Prim.Native.Nat.{ℕ, zero, suc, ◌+◌, ◌-◌, ◌*◌, ◌/◌, ◌%◌, ◌<◌, ◌≤◌, min}
use mathlib.Core.Path.{◌≡◌, refl, sym, ◌∙◌, ap}
use mathlib.Core.Bool.{Bool, true, false, not, ◌&&◌, ◌||◌, cond, true≢false}
use mathlib.Core.List.{List, ◌++◌}
use native.Mathlib.Nat.{add-zero, zero-add, sub-zero}
use native.Mathlib.Omega.{arith}
use Rattle.std.proofs.Common.{get_or-take}
use Rattle.std.proofs.lemmas.List.{get_or-drop}
use lib.ListN.{length, take, drop, get_or, take-append-drop}
use lib.Dec.{ltb, eqb}
use borrow.Author.Tests.{le-leb, leb-true, le-ltb, ltb-true, ltb-false, eq-eqb, ne_eqb, eqb-true, eqb-false}
use Rattle.octets.specs.Octets.{bytes_of, patch, part, Octets}
use Rattle.octets.proofs.Numbers.{length_bytes}
use Rattle.octets.proofs.Stores.{length-patch, patch_late}
use Rattle.octets.proofs.Parts.{length_part, patch-rest}
use Rattle.rib_write.specs.Layout.{entry_octets}
use Rattle.rib_write.specs.Rows.{entry_in, attributes_in, askable, Rowing, no_row, one_more, builder_after, push_row, push_rows}
use Rattle.rib_write.specs.Rows.{rowed, rows_values}
use Rattle.rib_write.specs.Steps.{size_in, taken, put_row, closed}
use Rattle.rib_head.specs.Layout.{pathed, path_size}
use Rattle.rib_write.specs.Push.{Pushing, unpushed, unfit, added, push_after, push_entry}
use Rattle.rib_write.specs.declared.NewEntry.{NewEntry}
use Rattle.rib_write.specs.declared.Builder.{Builder}
use Rattle.rib_write.specs.declared.Pushed.{Pushed}
use Rattle.std.proofs.Common.{Option, Some, None}
use Rattle.std.specs.Prelude.{Ok}
use Rattle.rib_write.proofs.Sizes.{length-entry}
use Rattle.rib_write.proofs.Answers.{fit_count}
use Rattle.rib_write.proofs.Standing.{both, Stands, count-within, count-stored, stands_on}

-- what holds of a row of which a push can be asked for, with a buffer of n octets
pub record Asked (rs : List ℕ) (at n : ℕ) : Type 0 where
  pub peer : get_or rs at 0 ≤ 65535
  pub originated : get_or rs (at + 1) 0 ≤ 4294967295
  pub path : get_or rs (at + 2) 0 ≤ 4294967295
  pub start : get_or rs (at + 3) 0 ≤ get_or rs (at + 4) 0
  pub end : get_or rs (at + 4) 0 ≤ n

module _ (rs : List ℕ) (at n : ℕ) where
  pub askable_so : Asked rs at n → askable rs at n ≡ true
  unfolding askable
  askable_so t =
      rw (
        le-leb _ _ t.peer,
        le-leb _ _ t.originated,
        le-leb _ _ t.path,
        le-leb _ _ t.start,
        le-leb _ _ t.end,
      )

  pub askable_holds : askable rs at n ≡ true → Asked rs at n
  unfolding askable
  askable_holds h =
      let d = both _ _ h in
      let e = both _ _ d.0 in
      let f = both _ _ e.0 in
      let g = both _ _ f.0 in
      record {
        peer = leb-true _ _ g.0;
        originated = leb-true _ _ g.1;
        path = leb-true _ _ f.1;
        start = leb-true _ _ e.1;
        end = leb-true _ _ d.1;
      }

-- what holds of a row that goes in, with a path number of p octets and room for k
pub record Taken (p : ℕ) (rs : List ℕ) (at n k : ℕ) : Type 0 where
  pub asked : Asked rs at n
  pub size : size_in rs at ≤ 65535
  pub none : p ≡ 0 → get_or rs (at + 2) 0 ≡ 0
  pub room : 8 + p + size_in rs at ≤ k

module _ (p : ℕ) (rs : List ℕ) (at n k : ℕ) where
  pub taken_so : Taken p rs at n k → taken p rs at n k ≡ true
  unfolding taken
  taken_so t = rw (askable_so rs at n t.asked, le-leb _ _ t.size, le-leb _ _ t.room) (by_test (eqb p 0) refl)
    where
      by_test : (b : Bool) → eqb p 0 ≡ b → true && (not b || eqb (get_or rs (at + 2) 0) 0) && true ≡ true
      by_test true e = rw (eq-eqb _ 0 (t.none (eqb-true p 0 e)))
      by_test false e = refl

  pub taken_holds : taken p rs at n k ≡ true → Taken p rs at n k
  unfolding taken
  taken_holds h =
      let a = both _ _ h in
      let b = both _ _ a.0 in
      let c = both _ _ b.0 in
      record {
        asked = askable_holds rs at n c.0;
        size = leb-true _ _ c.1;
        none = λ z. by_test (eqb (get_or rs (at + 2) 0) 0) refl (eqb p 0) (eq-eqb p 0 z) b.1;
        room = leb-true _ _ a.1;
      }
    where
      by_test : (u : Bool) → eqb (get_or rs (at + 2) 0) 0 ≡ u → (v : Bool) → v ≡ true → (not v || u) ≡ true → get_or rs (at + 2) 0 ≡ 0
      by_test true e v f h = eqb-true _ 0 e
      by_test false e v f h = absurd (true≢false (sym (rw f at h)))

  pub taken_not : (Taken p rs at n k → ⊥) → taken p rs at n k ≡ false
  taken_not z = by_test (taken p rs at n k) refl
    where
      by_test : (b : Bool) → taken p rs at n k ≡ b → taken p rs at n k ≡ false
      by_test true e = absurd (z (taken_holds e))
      by_test false e = e

-- the path number v, by the greatest one, m
module _ (t m v : ℕ) (q : m ≡ cond (pathed t) 4294967295 0) where
  pub path-over : m < v → v ≤ 4294967295 → (path_size t ≡ 0 → v ≡ 0) → ⊥
  unfolding path_size
  path-over h l z = grind arith

  pub path-within : v ≤ m → (v ≤ 4294967295) × (path_size t ≡ 0 → v ≡ 0)
  unfolding path_size
  path-within h = grind arith

-- its attributes, and its octets
module _ {rs : List ℕ} {at : ℕ} (buffer : List ℕ) (t : Asked rs at (length buffer)) where
  pub length-attributes : length (attributes_in rs at buffer) ≡ size_in rs at
  length-attributes =
      let h = t.start in
      let l = t.end in
      length_part buffer (get_or rs (at + 3) 0) (size_in rs at) (omega arith)

  pub length-row : (p : ℕ) (e : NewEntry) → length (entry_octets p e (attributes_in rs at buffer)) ≡ 8 + p + size_in rs at
  length-row p e = length-entry p e (attributes_in rs at buffer) ∙ ap (λ (n : ℕ). 8 + p + n) length-attributes

-- the row in the part s
module _ (s : List ℕ) (p : ℕ) (rs : List ℕ) (at : ℕ) (buffer : List ℕ) where
  pub put_refused : (Taken p rs at (length buffer) (length s) → ⊥) → (s, None) ≡ put_row s p rs at buffer
  unfolding put_row
  put_refused z = rw (taken_not p rs at (length buffer) (length s) z)

  pub put_taken : Taken p rs at (length buffer) (length s) → {u : List ℕ}
      → u ≡ patch s 0 (entry_octets p (entry_in rs at) (attributes_in rs at buffer))
      → (u, Some (8 + p + size_in rs at)) ≡ put_row s p rs at buffer
  unfolding put_row
  put_taken t e = rw (taken_so p rs at (length buffer) (length s) t, e)

  -- what the answer tells
  pub put_none : {u : List ℕ} → (u, None) ≡ put_row s p rs at buffer → Taken p rs at (length buffer) (length s) → ⊥
  put_none e t = let f = ap (λ (x : List ℕ × Option ℕ). x.1) (e ∙ sym (put_taken t refl)) in cc

  module _ {u : List ℕ} {n : ℕ} (e : (u, Some n) ≡ put_row s p rs at buffer) where
    pub put_holds : Taken p rs at (length buffer) (length s)
    unfolding put_row
    put_holds = by_test (taken p rs at (length buffer) (length s)) refl
      where
        by_test : (b : Bool) → taken p rs at (length buffer) (length s) ≡ b → Taken p rs at (length buffer) (length s)
        by_test true f = taken_holds p rs at (length buffer) (length s) f
        by_test false f = let g = ap (λ (x : List ℕ × Option ℕ). x.1) (rw f at e) in absurd (cc)

    pub put_octets : u ≡ patch s 0 (entry_octets p (entry_in rs at) (attributes_in rs at buffer))
    put_octets = ap (λ (x : List ℕ × Option ℕ). x.0) (e ∙ sym (put_taken put_holds refl))

    pub put_size : n ≡ 8 + p + size_in rs at
    put_size = let f = ap (λ (x : List ℕ × Option ℕ). x.1) (e ∙ sym (put_taken put_holds refl)) in cc

-- a row of its own is the row at a place
pub row_alone : (s : List ℕ) (p : ℕ) (rs : List ℕ) (at : ℕ) (buffer : List ℕ)
    → put_row s p (part rs at (at + 5 - at)) 0 buffer ≡ put_row s p rs at buffer
unfolding put_row taken askable
row_alone s p rs at buffer =
    let five : at + 5 - at ≡ 5 = omega arith in
    let v : (j : ℕ) → j < 5 → get_or (part rs at 5) j 0 ≡ get_or rs (at + j) 0 =
    λ j h. get_or-take 5 (drop at rs) j 0 h ∙ get_or-drop at rs j 0 in
    rw five (simp (v 0 (omega arith), add-zero, v 1 (omega arith), v 2 (omega arith), v 3 (omega arith), v 4 (omega arith)) refl)

-- one row where a builder stands
module _ {s : List ℕ} {t : ℕ} {b : Builder} (w : Stands s t b) (rs : List ℕ) (at : ℕ) (buffer : List ℕ) where
  -- the row fits there
  abbrev pub Fitting : Type 0
  Fitting = Taken (path_size t) rs at (length buffer) (length s - b.len)

  abbrev pub row_octets : List ℕ
  row_octets = entry_octets (path_size t) (entry_in rs at) (attributes_in rs at buffer)

  -- it is pushed after the body, and nothing else is asked for
  push_after_lem : push_row s t b rs at buffer
      ≡ cond (askable rs at (length buffer)) (push_after s t b (entry_in rs at) (attributes_in rs at buffer)) (unpushed 8 s)
  unfolding push_row push_entry
  push_after_lem = rw (le-ltb (length s) b.len w.within, w.stands)

  module _ (k : b.count ≡ 65535 → ⊥) (x : Fitting) where
    fitting : unfit b.count t (get_or rs (at + 2) 0) (length (attributes_in rs at buffer)) ≡ false
    unfolding unfit
    fitting =
        let m = x.size in
        rw (
          ne_eqb b.count 65535 k,
          le-ltb 65535 (length (attributes_in rs at buffer)) (omega (arith, length-attributes buffer x.asked)),
        )
        (by_test (eqb (path_size t) 0) refl)
      where
        by_test : (u : Bool) → eqb (path_size t) 0 ≡ u → u && not (eqb (get_or rs (at + 2) 0) 0) ≡ false
        by_test true e = rw (eq-eqb _ 0 (x.none (eqb-true _ 0 e)))
        by_test false e = refl

    pub row_room : b.len + length row_octets ≤ length s
    row_room = let m = x.room in let h = w.within in omega (arith, length-row buffer x.asked (path_size t) (entry_in rs at))

    pub row_done : push_row s t b rs at buffer
        ≡ record {
          number = 0;
          len = b.len + length row_octets;
          at = b.at;
          count = b.count + 1;
          output = added s b.len row_octets b.at (b.count + 1);
        }
    unfolding push_after
    row_done =
        rw (push_after_lem, askable_so _ _ _ x.asked, fitting, le-ltb (length s - b.len) (length row_octets) (omega (arith, row_room)))

  -- a row that goes in fits
  pub row_fits : (push_row s t b rs at buffer).number ≡ 0 → (b.count ≡ 65535 → ⊥) × Fitting
  unfolding push_after
  row_fits z = by_tests _ (askable rs at (length buffer)) refl _ refl (ltb (length s - b.len) (length row_octets)) refl
      (rw push_after_lem at z)
    where
      by_tests : (d : Pushing) (x : Bool) → askable rs at (length buffer) ≡ x → (y : Bool)
          → y ≡ unfit b.count t (get_or rs (at + 2) 0) (length (attributes_in rs at buffer)) → (r : Bool)
          → ltb (length s - b.len) (length row_octets) ≡ r
          → (cond x (cond y (unpushed 10 s) (cond r (unpushed 9 s) d)) (unpushed 8 s)).number ≡ 0 → (b.count ≡ 65535 → ⊥) × Fitting
      by_tests d true e false f false g z =
          let q = askable_holds rs at (length buffer) e in
          let m = fit_count _ _ _ _ f refl in
          let size : size_in rs at ≤ 65535 = let n = m.1 in omega (arith, length-attributes buffer q) in
          let room : 8 + path_size t + size_in rs at ≤ length s - b.len =
          omega (arith, ltb-false (length s - b.len) (length row_octets) g, length-row buffer q (path_size t) (entry_in rs at)) in
          (m.0, record { asked = q; size = size; none = m.2; room = room })
      by_tests d true e true f r g z = absurd (omega arith)
      by_tests d true e false f true g z = absurd (omega arith)
      by_tests d false e y f r g z = absurd (omega arith)

-- rows after one another
module _ (s : List ℕ) (t : ℕ) (b : Builder) (rs : List ℕ) (at : ℕ) (buffer : List ℕ) where
  -- the first is refused, or there is none
  pub rows_none : ((push_row s t b rs at buffer).number ≡ 0 → ⊥) → (k : ℕ) → push_rows k s t b rs at buffer ≡ no_row b s
  unfolding push_rows
  rows_none z zero = refl
  rows_none z (suc k) = rw (ne_eqb _ 0 z)

  pub rows-over : {k : ℕ} → k ≡ 0 → push_rows k s t b rs at buffer ≡ no_row b s
  unfolding push_rows
  rows-over e = rw e

  -- the first goes in
  pub rows-one : {p : Pushing} → push_row s t b rs at buffer ≡ p → p.number ≡ 0 → (k : ℕ)
      → push_rows (suc k) s t b rs at buffer ≡ one_more (push_rows k p.output t (builder_after p) rs (at + 5) buffer)
  unfolding push_rows
  rows-one e z k = rw (e, eq-eqb _ 0 z)

-- the row after those that went in is refused, where one is left
pub rows_stop : (k : ℕ) (s : List ℕ) (t : ℕ) (b : Builder) (rs : List ℕ) (at : ℕ) (buffer : List ℕ)
    → (push_rows k s t b rs at buffer).rows < k
    → (push_row (push_rows k s t b rs at buffer).output t (push_rows k s t b rs at buffer).builder rs
    (at + 5 * (push_rows k s t b rs at buffer).rows) buffer).number ≡ 0
    → ⊥
unfolding push_rows
rows_stop zero s t b rs at buffer h z = omega arith
rows_stop (suc k) s t b rs at buffer h z =
    by_test (eqb p.number 0) refl (rows_stop k p.output t (builder_after p) rs (at + 5) buffer) h z
  where
    p : Pushing
    p = push_row s t b rs at buffer

    rest : Rowing
    rest = push_rows k p.output t (builder_after p) rs (at + 5) buffer

    by_test : (u : Bool) → eqb p.number 0 ≡ u
        → (rest.rows < k → (push_row rest.output t rest.builder rs (at + 5 + 5 * rest.rows) buffer).number ≡ 0 → ⊥)
        → (cond u (one_more rest) (no_row b s)).rows < suc k
        → (push_row (cond u (one_more rest) (no_row b s)).output t (cond u (one_more rest) (no_row b s)).builder rs
        (at + 5 * (cond u (one_more rest) (no_row b s)).rows) buffer).number ≡ 0
        → ⊥
    by_test true e more h z =
        let m : at + 5 * suc rest.rows ≡ at + 5 + 5 * rest.rows = omega arith in
        more (omega arith) (rw m at z)
    by_test false e more h z = eqb-false p.number 0 e (rw (add-zero at) at z)

-- so many rows before others
abbrev more_rows : ℕ → Rowing → Rowing
more_rows n r = record { rows = n + r.rows; builder = r.builder; output = r.output }

more_one : (n : ℕ) (r : Rowing) → more_rows (n + 1) r ≡ more_rows n (one_more r)
more_one n r = let e : n + 1 + r.rows ≡ n + suc r.rows = omega arith in rw e

-- the loop over rows: what has come of the output, whose count is stored after it, of the builder's length, and the place of the
-- next row
module _ (t : ℕ) (b : Builder) (rs buffer before : List ℕ) where
  -- the builder and the output after n rows
  abbrev pub builder_of : ℕ → ℕ → Builder
  builder_of len n = record { len = len; at = b.at; count = b.count + n }

  abbrev pub output_of : List ℕ → ℕ → List ℕ
  output_of out n = patch out b.at (bytes_of 2 (b.count + n))

  pub record Going (out : List ℕ) (len place : ℕ) : Type 0 where
    pub rows : ℕ
    pub placed : place ≡ 5 * rows
    pub within : place ≤ length rs
    pub few : b.count + rows < 65536
    pub stands : Stands (output_of out rows) t (builder_of len rows)
    pub same : length out ≡ length before
    pub comes : more_rows rows (push_rows (length rs / 5 - rows) (output_of out rows) t (builder_of len rows) rs place buffer)
        ≡ push_rows (length rs / 5) before t b rs 0 buffer

  pub going_start : b.count < 65536 → Octets before → Stands before t b → Going before b.len 0
  going_start f o w =
      record {
        rows = 0;
        placed = refl;
        within = omega arith;
        few = omega arith;
        stands = rw (add-zero b.count, count-stored w o) w;
        same = refl;
        comes = rw (sub-zero, add-zero b.count, count-stored w o, zero-add);
      }

  module _ {out : List ℕ} {len place : ℕ} (g : Going out len place) where
    -- what is left of the rows does nothing
    abbrev Ended : Type 0
    Ended =
        push_rows (length rs / 5 - g.rows) (output_of out g.rows) t (builder_of len g.rows) rs place buffer
        ≡ no_row (builder_of len g.rows) (output_of out g.rows)

    abbrev pub Fits : Type 0
    Fits = Fitting g.stands rs place buffer

    abbrev new : List ℕ
    new = row_octets g.stands rs place buffer

    length-output : length (output_of out g.rows) ≡ length out
    length-output = length-patch out b.at (bytes_of 2 (b.count + g.rows))

    pub len-within : len ≤ length out
    len-within = let h = g.stands.within in omega (arith, length-output)

    -- one row more goes in
    pub going_on : length rs % 5 ≡ 0 → place < length rs → b.count + g.rows < 65535 → Fits → {y : List ℕ} {n : ℕ}
        → y ≡ patch out len new → n ≡ 8 + path_size t + size_in rs place → Going y (len + n) (place + 5)
    unfolding added
    going_on whole more small x {y} {n} p e =
        let k = g.placed in
        let unfull : b.count + g.rows ≡ 65535 → ⊥ = λ z. omega arith in
        let c : b.count + (g.rows + 1) ≡ b.count + g.rows + 1 = omega arith in
        let m : n ≡ length new = e ∙ sym (length-row buffer x.asked (path_size t) (entry_in rs place)) in
        let room = row_room g.stands rs place buffer unfull x in
        let o : output_of y (g.rows + 1) ≡ added (output_of out g.rows) len new b.at (b.count + g.rows + 1) =
        rw (c, p) (sym (patch_late out b.at len (bytes_of 2 (b.count + g.rows)) new (bytes_of 2 (b.count + g.rows + 1))
        (length_bytes 2 _ ∙ sym (length_bytes 2 _)) (rw (length_bytes 2 (b.count + g.rows)) (count-within g.stands)) len-within)) in
        let next = stands_on g.stands new (b.count + g.rows + 1) room (omega arith) (len + length new) (omega arith) room in
        let less : length rs / 5 - g.rows ≡ suc (length rs / 5 - (g.rows + 1)) = omega arith in
        let one = rows-one _ _ _ _ _ _ (row_done g.stands rs place buffer unfull x) refl (length rs / 5 - (g.rows + 1)) in
        record {
          rows = g.rows + 1;
          placed = omega arith;
          within = omega arith;
          few = omega arith;
          stands = rw (o, m, c) next;
          same = ap length p ∙ length-patch _ _ _ ∙ g.same;
          comes = more_one g.rows _ ∙ ap (more_rows g.rows) (sym (rw (less, o, m, c) one)) ∙ g.comes;
        }

    -- no row more does
    pub going_ends : {r : Pushed} {u v : List ℕ} → (v, r) ≡ closed u b len (place / 5) → u ≡ out → Ended
        → rows_values (Ok r) v ≡ rowed (push_rows (length rs / 5) before t b rs 0 buffer)
    going_ends {r} {u} {v} q o e =
        let k = g.placed in
        let n : place / 5 ≡ g.rows = omega arith in
        let z : g.rows ≡ g.rows + 0 = omega arith in
        let s = rw (o, n) at q in
        ap (λ (x : List ℕ × Pushed). rows_values (Ok x.1) x.0) s
        ∙ ap (λ (m : ℕ). rowed (record { rows = m; builder = builder_of len g.rows; output = output_of out g.rows })) z
        ∙ ap rowed (ap (more_rows g.rows) (sym e) ∙ g.comes)

    -- all are in, or the body has as many entries as it may
    pub going_full : length rs % 5 ≡ 0 → min (length rs) (5 * (65535 - b.count)) ≤ place → Ended
    going_full whole over = by_test (ltb place (length rs)) refl
      where
        by_test : (u : Bool) → ltb place (length rs) ≡ u → Ended
        by_test true e =
            let k = g.placed in
            let l = ltb-true place (length rs) e in
            let f = g.few in
            rows_none _ _ _ _ _ _ (λ z. (row_fits g.stands rs place buffer z).0 (omega arith)) _
        by_test false e = let k = g.placed in let l = ltb-false place (length rs) e in rows-over _ _ _ _ _ _ (omega arith)

    -- the part from the builder's end on, and what the row at the place has made of it
    length_rest : length (part out len (length out - len)) ≡ length (output_of out g.rows) - len
    length_rest = length_part out len (length out - len) (omega (arith, len-within)) ∙ rw length-output

    -- it is refused, and the output stays
    module _ {u : List ℕ} (e : (u, None) ≡ put_row (part out len (length out - len)) (path_size t) rs place buffer) where
      pub row-refused : Ended
      row-refused = rows_none _ _ _ _ _ _
          (λ y. put_none _ _ _ _ _ e (rw length_rest (row_fits g.stands rs place buffer y).1)) _

      pub row_stays : take len out ++ (u ++ drop (length out - len) (drop len out)) ≡ out
      row_stays =
          let f = put_refused _ _ _ _ _ (put_none _ _ _ _ _ e) in
          let v : u ≡ part out len (length out - len) = ap (λ (x : List ℕ × Option ℕ). x.0) (e ∙ sym f) in
          rw (v, take-append-drop (length out - len) (drop len out)) (take-append-drop len out)

    -- it goes in
    module _ {u : List ℕ} {n : ℕ} (e : (u, Some n) ≡ put_row (part out len (length out - len)) (path_size t) rs place buffer) where
      pub row-taken : Fits
      row-taken = rw length_rest at (put_holds _ _ _ _ _ e)

      pub row-size : n ≡ 8 + path_size t + size_in rs place
      row-size = put_size _ _ _ _ _ e

      pub row-fits_in : len + n ≤ length out
      row-fits_in = let r = row-taken.room in omega (arith, row-size, len-within, length-output)

      pub row-stored : take len out ++ (u ++ drop (length out - len) (drop len out)) ≡ patch out len new
      row-stored =
          let v = put_octets _ _ _ _ _ e in
          patch-rest out len 0 new len-within v ∙ ap (λ (k : ℕ). patch out k new) (add-zero len)
