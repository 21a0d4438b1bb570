use mathlib.Core.Path.{◌≡◌}
use Rattle.rib_head.specs.Layout.{path_size}
use Rattle.rib_entries.specs.Entry.{passed}
use Rattle.rib_entries.proofs.entries.pass_entries.Given as goal

abbrev pub invariant-loop-next : goal.invariant-loop-next
invariant-loop-next l = passed (path_size l.subtype) l.body l.fn.c.at l.fn.c.left ≡ passed (path_size l.subtype) l.body l.c.at l.c.left

abbrev pub decreases-loop-next : goal.decreases-loop-next
decreases-loop-next l = l.c.left
