use mathlib.Core.Path.{◌∙◌, ap}
use lib.ListN.{length}
use Rattle.octets.proofs.Stores.{length-patch}
use Rattle.dump_write.proofs.Stored.{fields-stored}
use Rattle.dump_write.proofs.write.put_fields.Goals as goal

pub returns : goal.returns
returns c =
    fields-stored _ _ _ _ c.requires.0 c.requires.1 c.put_be16.ensures
    c.put_be16-2.ensures c.put_address.ensures.answer c.put_octet.ensures c.put_octet-2.ensures
    c.put_be32.ensures c.put_address-2.ensures.answer (rw c.requires.2 at c.put_be16-3.ensures) c.put_be16-4.ensures

pub shape_of-out : goal.shape_of-out
shape_of-out c = ap length (returns c) ∙ length-patch _ _ _
