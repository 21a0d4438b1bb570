use mathlib.Core.Path.{◌∙◌, ap}
use Rattle.octets.specs.Octets.{patch}
use Rattle.rib_write.proofs.Written.{bytes_cut, path-cut, entry-stored}
use Rattle.rib_write.proofs.push.put_entry.Goals as goal

pub returns : goal.returns
returns c =
    let path = c.path_size-path.ensures.answer in
    entry-stored _ _ _ _
    (c.store16.ensures ∙ ap (patch _ _) (bytes_cut 2 _))
    (c.store32.ensures ∙ ap (patch _ _) (bytes_cut 4 _))
    (c.put_path.ensures ∙ ap (patch _ _) (path-cut _ _))
    (rw path at (c.store16-2.ensures ∙ ap (patch _ _) (bytes_cut 2 _)))
    (rw path at c.put_octets.ensures)
