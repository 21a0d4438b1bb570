use Rattle.dump_read.proofs.Bodies.{head_there, fields_are}
use Rattle.dump_read.proofs.body.fields.Goals as goal

pub slice_bounds-head-end : goal.slice_bounds-head-end
slice_bounds-head-end c =
    head_there c.args.body.now c.args.x c.requires.0 c.requires.1

pub returns : goal.returns
returns c =
    fields_are _ _ c.requires.0 c.requires.1 c.be16.ensures c.be16-2.ensures
    c.read_address.ensures.answer c.octet-bits.ensures c.octet.ensures c.be32.ensures
    c.read_address-2.ensures.answer c.be16-3.ensures
