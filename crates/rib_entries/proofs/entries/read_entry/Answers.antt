use native.Mathlib.Omega.{arith}
use Rattle.std.proofs.lemmas.Grind.{common_steps}
use Rattle.octets.proofs.Parts.{be_part}
use Rattle.rib_entries.specs.Entry.{attributes_at, entry_end, fits}
use Rattle.rib_entries.specs.Steps.{read_at}
use Rattle.rib_entries.proofs.entries.read_entry.Goals as goal

pub returns-then-n-at : goal.returns-then-n-at
unfolding read_at fits entry_end attributes_at
returns-then-n-at c = grind (arith, common_steps)

pub returns-then-n-start : goal.returns-then-n-start
unfolding read_at fits entry_end attributes_at
returns-then-n-start c = grind (arith, common_steps, be_part)

pub returns : goal.returns
unfolding read_at fits entry_end attributes_at
returns c = grind (arith, common_steps, be_part)
