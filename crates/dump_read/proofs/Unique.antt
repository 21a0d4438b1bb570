-- An answer is known by what it says: two answers of which a definition says the same are equal.
use mathlib.Core.Path.{◌≡◌, sym, ap}
use Rattle.std.specs.Prelude.{Result, Ok, Err}
use Rattle.answer.specs.declared.Refusal.{Refusal}
use Rattle.answer.proofs.Refusals.{number-not-zero, number_unique}
use Rattle.dump_read.specs.Read.{Reading, reading}
use Rattle.dump_read.specs.declared.DumpRead.{DumpRead}

read_of : Reading → DumpRead
read_of x = record { dump = x.dump; start = x.start; end = x.end }

pub reading_unique : (a b : Result DumpRead Refusal) → reading a ≡ reading b → a ≡ b
unfolding read_of
reading_unique (Ok x) (Ok y) q = ap (λ (r : Reading). Ok (read_of r)) q
reading_unique (Ok x) (Err r) q = absurd (number-not-zero r (ap (λ (r : Reading). r.number) (sym q)))
reading_unique (Err r) (Ok x) q = absurd (number-not-zero r (ap (λ (r : Reading). r.number) q))
reading_unique (Err r) (Err s) q = ap Err (number_unique r s (ap (λ (r : Reading). r.number) q))
