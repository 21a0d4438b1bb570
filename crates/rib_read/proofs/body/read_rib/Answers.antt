use Rattle.rib_read.proofs.Bodies.{left-le-first, prefix-within, rib-met}
use Rattle.rib_read.proofs.body.read_rib.Goals as goal

pub prefix_of-requires : goal.prefix_of-requires
prefix_of-requires c = prefix-within _ _ c.in_ok-first.ensures.answer c.octet-bits.ensures

pub overflow_sub-result : goal.overflow_sub-result
overflow_sub-result c = left-le-first _ _ c.in_ok-first.ensures.answer c.pass_entries-after.ensures.answer

pub returns : goal.returns
returns c = record {
  answer =
      rib-met _ _ c.in_ok-first.ensures.answer c.pass_entries-after.ensures.answer
      c.be32.ensures c.octet-bits.ensures c.prefix_of.ensures;
}
