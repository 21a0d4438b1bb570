use Rattle.std.proofs.Common.{Ok, Err, refl}
use Rattle.mrt_peers_read.proofs.Exports.{load_out_lem}
use Rattle.mrt_peers_read.proofs.load.mrt_load_peers.Goals as goal

pub returns-in-Ok : goal.returns-in-Ok
returns-in-Ok c = record { answer = load_out_lem (Ok c.in-Ok.field-0) c.in-Ok.ensures.answer refl }

pub returns-in-Err : goal.returns-in-Err
returns-in-Err c = record { answer = load_out_lem (Err c.in-Err.r) c.in-Err.ensures.answer c.refusal.ensures }
