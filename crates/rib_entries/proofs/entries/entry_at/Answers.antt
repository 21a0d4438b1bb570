use native.Mathlib.Omega.{arith}
use Rattle.std.proofs.lemmas.Bool.Decides.{nat_tests}
use Rattle.rib_entries.specs.Entry.{entry_here}
use Rattle.rib_entries.specs.Steps.{read_at}
use Rattle.rib_entries.proofs.Steps.{entry_beyond, entry-after}
use Rattle.rib_entries.proofs.entries.entry_at.Goals as goal

pub returns-then-from-i : goal.returns-then-from-i
returns-then-from-i c = record { answer = entry_beyond _ _ c.in_ok-first.ensures.answer _ (omega arith) }

pub returns : goal.returns
unfolding entry_here read_at
returns c = record {
  answer =
      let e = entry-after _ _ c.in_ok-first.ensures.answer _ (omega arith) c.pass_entries-c.ensures.answer in
      grind (arith, nat_tests);
}
