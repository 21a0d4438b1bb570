use mathlib.Core.Path.{◌∙◌}
use Rattle.rib_read.proofs.Bodies.{prefix-stored}
use Rattle.rib_read.proofs.body.prefix_of.Goals as goal

pub returns : goal.returns
returns c =
    c.clear_after.ensures.answer
    ∙ prefix-stored _ _
    c.requires.0 c.prefix_size-end.ensures.answer c.requires.1 c.put_octets.ensures
