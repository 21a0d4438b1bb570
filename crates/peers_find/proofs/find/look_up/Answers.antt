use Rattle.std.proofs.Common.{rules, ◌<◌, length, take, sym, arith}
use Rattle.std.proofs.lemmas.List.{length-take-le}
use Rattle.peers_slots.proofs.Counts.{used_le, used_small}
use Rattle.peers_find.proofs.Slots.{last_found, none_found}
use Rattle.peers_find.proofs.find.look_up.Goals as goal

pub slice_bounds-iter-end : goal.slice_bounds-iter-end
slice_bounds-iter-end c = sym (length-take-le _ _ (used_le _ _ c.in_use-used.ensures.answer))

pub overflow_cast-result : goal.overflow_cast-result
overflow_cast-result c =
    let within : c.in-Some.id < length (take c.in_use-used.result c.args.slots.now) = search rules in
    let used = c.in_use-used.ensures.answer in
    omega (arith, within, used_small _ _ used, length-take-le _ _ (used_le _ _ used))

pub returns-in-Some : goal.returns-in-Some
returns-in-Some c = record {
  answer =
      last_found c.args.slots.now c.args.count c.args.key c.in_use-used.ensures.answer c.in-Some.id
      (search rules) (search rules) (search rules);
}

pub returns-in-None : goal.returns-in-None
returns-in-None c = record {
  answer = none_found c.args.slots.now c.args.count c.args.key c.in_use-used.ensures.answer (search rules);
}
