use native.Mathlib.Omega.{arith}
use Rattle.rib_begin.proofs.Written.{prefix-le, length-prefix, head-stored}
use Rattle.rib_begin.proofs.begin.put_head.Goals as goal

pub slice_bounds-p-end : goal.slice_bounds-p-end
slice_bounds-p-end c =
    omega (arith, prefix-le _ c.requires c.prefix_size-size.ensures.answer)

pub slice_bounds-put_octets-end : goal.slice_bounds-put_octets-end
slice_bounds-put_octets-end c =
    length-prefix _ _ c.requires c.clear_after-p.ensures.answer c.prefix_size-size.ensures.answer

pub overflow_add-size : goal.overflow_add-size
overflow_add-size c =
    omega (arith, prefix-le _ c.requires c.prefix_size-size.ensures.answer)

pub returns : goal.returns
returns c =
    head-stored _ _ c.requires c.clear_after-p.ensures.answer c.prefix_size-size.ensures.answer _ _
    c.put_be32.ensures
    c.put_octet.ensures c.put_octets.ensures c.put_be16.ensures
