use mathlib.Core.Path.{ap, refl}
use mathlib.Core.List.{List}
use Prim.Native.Nat.{ℕ}
use lib.ListN.{take, drop}
use Rattle.header.specs.Frame.{Framing, framing}
use Rattle.std.specs.Prelude.{Err}
use Rattle.mrt_lent.specs.Records.{frame_values}
use Rattle.mrt_lent.proofs.Handing.{refuses, hands}
use Rattle.mrt_header.proofs.mrt_frame.Goals as goal

pub returns-in-Err : goal.returns-in-Err
returns-in-Err c = record {
  answer =
      refuses framing (λ (h : Framing). h.head.number) frame_values c.args.out.now Err (λ r. refl)
      c.in-Err.is c.frame_record.ensures.answer c.refusal.ensures;
}

pub returns-in-Ok : goal.returns-in-Ok
returns-in-Ok c = record {
  answer =
      hands framing (λ (h : Framing). h.head.number) frame_values c.args.out.now c.hand_out.ensures
      c.in-Ok.is c.frame_record.ensures.answer refl
      (ap (λ (v : List ℕ). take 8 (drop 2 v)) c.record_values-v.ensures);
}
