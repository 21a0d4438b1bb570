use mathlib.Core.Path.{ap, refl}
use mathlib.Core.List.{List}
use Prim.Native.Nat.{ℕ}
use lib.ListN.{take, drop}
use Rattle.walk_judge.specs.Record.{Judging, judging}
use Rattle.std.specs.Prelude.{Err}
use Rattle.mrt_judge.specs.Judged.{judge_values}
use Rattle.mrt_lent.proofs.Handing.{refuses, hands}
use Rattle.mrt_judge.proofs.mrt_judge.Goals as goal

pub returns-in-Err : goal.returns-in-Err
returns-in-Err c = record {
  answer =
      refuses judging (λ (h : Judging). h.frame.head.number) judge_values c.args.out.now Err (λ r. refl)
      c.in-Err.is c.judge_record.ensures.answer c.refusal.ensures;
}

pub returns-in-Ok : goal.returns-in-Ok
returns-in-Ok c = record {
  answer =
      hands judging (λ (h : Judging). h.frame.head.number) judge_values c.args.out.now
      c.hand_out.ensures c.in-Ok.is c.judge_record.ensures.answer refl
      (ap (λ (v : List ℕ). take 9 (drop 1 v)) c.record_values-v.ensures);
}
