use mathlib.Core.Path.{◌∙◌, ap}
use Rattle.std.proofs.Common.{rules}
use lib.ListN.{get_or}
use lib.Seq.{get_or-drop}
use Rattle.octets.proofs.Parts.{part-rest}
use Rattle.octets.proofs.Words.{made_all}
use Rattle.octets.proofs.word.Goals as goal

pub returns-in-Some : goal.returns-in-Some
returns-in-Some g c i h =
    let read = made_all _ _ (λ k. get_or c.in-Some.rest.now k 0) (λ x r f' k. search rules) i c.from_fn.ensures.items h in
    let rest = c.in-Some.ensures.lookup.0.2 ∙ part-rest c.args.s.now c.args.at in
    read ∙ ap (λ x. get_or x i 0) rest ∙ get_or-drop c.args.at c.args.s.now i 0
