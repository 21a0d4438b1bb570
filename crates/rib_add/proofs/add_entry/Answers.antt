use native.Mathlib.Omega.{arith}
use Rattle.rib_add.proofs.Opened.{add_pushed}
use Rattle.rib_add.proofs.add_entry.Goals as goal

pub returns-in_err-next : goal.returns-in_err-next
returns-in_err-next c = record {
  answer =
      let e = add_pushed _ _ _ c.if-out-len.false c.in_ok-b.ensures.answer _ _ c.in_err-next.ensures.answer in
      grind arith;
}

pub returns : goal.returns
returns c = record { answer = add_pushed _ _ _ c.if-out-len.false c.in_ok-b.ensures.answer _ _ c.in_ok-next.ensures.answer }
