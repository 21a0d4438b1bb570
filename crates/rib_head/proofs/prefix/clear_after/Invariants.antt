use mathlib.Core.Path.{◌≡◌}
use mathlib.Core.List.{◌++◌}
use lib.ListN.{drop}
use Rattle.rib_head.specs.Prefix.{cleared}
use Rattle.rib_head.proofs.prefix.clear_after.Given as goal

abbrev pub invariant-loop-i : goal.invariant-loop-i
invariant-loop-i l = l.v-items ≡ cleared l.bits l.fn.prefix l.i ++ drop l.i l.fn.prefix
