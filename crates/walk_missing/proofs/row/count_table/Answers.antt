use Rattle.std.proofs.Common.{ap, ◌∙◌}
use Rattle.walk_missing.specs.Row.{untold}
use Rattle.walk_missing.proofs.Rows.{count-peers}
use Rattle.walk_missing.proofs.row.count_table.Goals as goal

pub returns-then-subtype-eq1 : goal.returns-then-subtype-eq1
returns-then-subtype-eq1 c = c.untold.ensures ∙ ap untold c.fresh.ensures.answer ∙ count-peers _ _ _ c.if-subtype-eq1.true
