use mathlib.Core.Path.{refl}
use Rattle.std.proofs.Common.{Err}
use Rattle.peers_table.specs.Table.{Heading, heading}
use Rattle.mrt_peers_read.specs.Tables.{table_values}
use Rattle.mrt_lent.proofs.Handing.{refuses, hands}
use Rattle.mrt_peers_read.proofs.mrt_check_peers.Goals as goal

pub returns-in-Err : goal.returns-in-Err
returns-in-Err c = record {
  answer =
      refuses heading (λ (h : Heading). h.number) table_values c.args.out.now Err (λ r. refl) c.in-Err.is
      c.check_peers.ensures.answer c.refusal.ensures;
}

pub returns-in-Ok : goal.returns-in-Ok
returns-in-Ok c = record {
  answer =
      hands heading (λ (h : Heading). h.number) table_values c.args.out.now c.hand_out.ensures
      c.in-Ok.is c.check_peers.ensures.answer refl refl;
}
