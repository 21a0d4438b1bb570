use native.Mathlib.Omega.{arith}
use Rattle.std.proofs.lemmas.Bool.Decides.{nat_tests}
use Rattle.rib_head.specs.Head.{bits_of, count_at, declared, entries_at}
use Rattle.rib_entries.specs.Entry.{placed, first_of}
use Rattle.rib_entries.proofs.entries.first_entry.Goals as goal

pub returns : goal.returns
unfolding first_of placed entries_at declared count_at bits_of
returns c = record { answer = grind (arith, nat_tests) }
