use mathlib.Core.Path.{sym}
use lib.ListN.{length}
use lib.Seq.{length-take-le}
use native.Mathlib.Omega.{arith}
use Rattle.rib_head.specs.Layout.{path_size}
use Rattle.rib_write.proofs.ByRows.{Taken, path-over, path-within, length-row, put_refused, put_taken}
use Rattle.rib_write.proofs.Written.{front_filled}
use Rattle.rib_write.proofs.rows.put_row.Goals as goal

pub returns-then-row-ne0 : goal.returns-then-row-ne0
returns-then-row-ne0 c =
    put_refused _ _ _ _ _ (λ t. c.if-row-ne0.true (omega (arith, t.asked.peer, t.asked.originated)))

pub returns-then-most_path-row : goal.returns-then-most_path-row
returns-then-most_path-row c =
    put_refused _ _ _ _ _ (λ t. path-over _ _ _ c.most_path.ensures c.if-most_path-row.true t.asked.path t.none)

pub returns-then-end-start : goal.returns-then-end-start
returns-then-end-start c = put_refused _ _ _ _ _ (λ t. let h = c.if-end-start.true in let l = t.asked.start in omega arith)

pub returns-then-attributes-end : goal.returns-then-attributes-end
returns-then-attributes-end c = put_refused _ _ _ _ _ (λ t. let h = c.if-attributes-end.true in let l = t.asked.end in omega arith)

pub returns-then-m-gt65535 : goal.returns-then-m-gt65535
returns-then-m-gt65535 c = put_refused _ _ _ _ _ (λ t. let h = c.if-m-gt65535.true in let l = t.size in omega arith)

pub returns-then-part-size : goal.returns-then-part-size
returns-then-part-size c = put_refused _ _ _ _ _ (λ t. let h = c.if-part-size.true in let l = t.room in omega arith)

pub slice_bounds-put_entry-end-2 : goal.slice_bounds-put_entry-end-2
slice_bounds-put_entry-end-2 c = sym (length-take-le _ _ c.if-part-size.false)

pub returns : goal.returns
returns c =
    let n = length c.args.attributes.now in
    let room = length c.args.part.now in
    let fits = rw c.path_size.ensures.answer at c.if-part-size.false in
    let path = path-within _ _ _ c.most_path.ensures c.if-most_path-row.false in
    let t : Taken (path_size c.args.subtype) c.args.row.now 0 n room =
    record {
      asked = record {
        peer = omega (arith, c.if-row-ne0.false);
        originated = omega (arith, c.if-row-ne0.false);
        path = path.0;
        start = c.if-end-start.false;
        end = c.if-attributes-end.false;
      };
      size = c.if-m-gt65535.false;
      none = path.1;
      room = fits;
    } in
    rw c.path_size.ensures.answer
    (put_taken _ _ _ _ _ t (front_filled _ _ _ (length-row _ t.asked _ _) fits (rw c.path_size.ensures.answer at c.put_entry.ensures)))
