use Rattle.walk_checks.specs.Within.{none}
use Rattle.walk_checks.specs.Legacy.{legacy_rows, legacy_bounds}
use Rattle.walk_checks.proofs.Lengths.{of_row, row_read, pair}
use Rattle.walk_checks.proofs.legacy.legacy_bounds.Goals as goal

pub returns : goal.returns
unfolding legacy_rows legacy_bounds
returns c =
    of_row _ (row_read pair legacy_rows none _ c.unwrap_or.ensures c.copied-row.ensures c.from.ensures c.get.ensures.lookup)
