use Prim.Native.Nat.{◌<◌}
use mathlib.Core.Path.{◌∙◌}
use native.Mathlib.Omega.{arith}
use Rattle.rib_write.proofs.ByRows.{len-within, going_start, going_on, going_ends, going_full}
use Rattle.rib_write.proofs.ByRows.{row_alone, row-refused, row_stays, row-taken, row-size, row-fits_in, row-stored}
use Rattle.rib_write.proofs.rows.push_rows.Goals as goal
use Rattle.rib_write.proofs.rows.push_rows.Goals.{else-loop-place-test, then-loop-place-test+in_default}

pub loop-place-init : goal.loop-place-init
loop-place-init c =
    let few : c.args.b.count < 65536 = omega arith in
    going_start _ _ _ _ _ few (λ i. (c.type_inv.out i).fits) (record { within = c.requires.0; stands = c.requires.1 })

pub slice_bounds-put_row-count : goal.slice_bounds-put_row-count
slice_bounds-put_row-count c = len-within _ _ _ _ _ c.loop-place.invariant

pub slice_bounds-put_row-start : goal.slice_bounds-put_row-start
slice_bounds-put_row-start c = let h = len-within _ _ _ _ _ c.loop-place.invariant in omega arith

pub overflow_add-len : goal.overflow_add-len
overflow_add-len c =
    let room = row-fits_in _ _ _ _ _ c.loop-place.invariant (c.in-Some.ensures ∙ row_alone _ _ _ _ _) in
    omega (arith, room, c.loop-place.invariant.same)

pub loop-place-preserved : goal.loop-place-preserved
loop-place-preserved c =
    let g = c.loop-place.invariant in
    let k = g.placed in
    let put = c.in-Some.ensures ∙ row_alone _ _ _ _ _ in
    going_on _ _ _ _ _ g c.requires.2 (omega (arith, c.loop-place-test.true)) (omega (arith, c.loop-place-test.true))
    (row-taken _ _ _ _ _ g put) (row-stored _ _ _ _ _ g put) (row-size _ _ _ _ _ g put)

pub returns : goal.returns
returns c =
    let g = c.loop-place.invariant in
    elim c.loop-place-test.branch [
      | else-loop-place-test w ↦
          going_ends _ _ _ _ _ g c.close_rows.ensures w.out-is
          (going_full _ _ _ _ _ g c.requires.2 (omega (arith, w.loop-place-test.false)))
      | then-loop-place-test+in_default w ↦
          let put = w.in_default.ensures ∙ row_alone _ _ _ _ _ in
          going_ends _ _ _ _ _ g c.close_rows.ensures (w.out-is ∙ row_stays _ _ _ _ _ g put) (row-refused _ _ _ _ _ g put)
    ]
