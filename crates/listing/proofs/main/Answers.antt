use Rattle.std.proofs.Common.{arith, sym}
use lib.Seq.{length-take-le}
use Rattle.listing_lines.proofs.Room.{list_end-le}
use Rattle.listing.proofs.main.Goals as goal

pub slice_bounds-write_all-end : goal.slice_bounds-write_all-end
slice_bounds-write_all-end c = sym (length-take-le _ _ (omega (arith, list_end-le _ _ c.list-m.ensures.answer)))

pub slice_bounds-text-end : goal.slice_bounds-text-end
slice_bounds-text-end c = omega (arith, list_end-le _ _ c.list-m.ensures.answer)
