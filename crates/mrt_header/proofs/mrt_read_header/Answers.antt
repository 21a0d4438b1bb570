use mathlib.Core.Path.{ap, refl}
use mathlib.Core.List.{List}
use Prim.Native.Nat.{ℕ}
use lib.ListN.{take, drop}
use Rattle.header.specs.Read.{Heading, values}
use Rattle.std.specs.Prelude.{Err}
use Rattle.mrt_lent.specs.Records.{head_values}
use Rattle.mrt_lent.proofs.Handing.{refuses, hands}
use Rattle.mrt_header.proofs.mrt_read_header.Goals as goal

pub returns-in-Err : goal.returns-in-Err
returns-in-Err c = record {
  answer =
      refuses values (λ (h : Heading). h.number) head_values c.args.out.now Err (λ r. refl) c.in-Err.is
      c.read_header.ensures.answer c.refusal.ensures;
}

pub returns-in-Ok : goal.returns-in-Ok
returns-in-Ok c = record {
  answer =
      hands values (λ (h : Heading). h.number) head_values c.args.out.now c.hand_out.ensures
      c.in-Ok.is c.read_header.ensures.answer refl
      (ap (λ (v : List ℕ). take 6 (drop 2 v)) c.record_values-v.ensures);
}
