-- Two answers that say the same are the same answer: the statement of the check leaves no choice.
use mathlib.Core.Path.{◌≡◌, sym, ap}
use Rattle.std.specs.Prelude.{Result, Ok, Err}
use Rattle.answer.specs.declared.Refusal.{Refusal}
use Rattle.answer.proofs.Refusals.{number-not-zero, number_unique}
use Rattle.peers_table.specs.Table.{Heading, heading}
use Rattle.peers_table.specs.declared.TableHead.{TableHead}

pub heading_unique : (a b : Result TableHead Refusal) → heading a ≡ heading b → a ≡ b
heading_unique (Ok t) (Ok u) e =
    λ i. Ok (record {
      collector = (e i).collector;
      name = (e i).name;
      length = (e i).length;
      count = (e i).count;
      first = (e i).first;
      end = (e i).end;
    })
heading_unique (Ok t) (Err q) e = absurd (number-not-zero q (ap (λ (x : Heading). x.number) (sym e)))
heading_unique (Err r) (Ok u) e = absurd (number-not-zero r (ap (λ (x : Heading). x.number) e))
heading_unique (Err r) (Err q) e = ap Err (number_unique r q (ap (λ (x : Heading). x.number) e))
