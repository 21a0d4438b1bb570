use Rattle.std.proofs.Common.{◌≡◌}
use Rattle.mrt_lent.specs.Rows.{rows_from, rows_out}
use Rattle.mrt_lent.proofs.Rows.{comes_to}
use Rattle.mrt_lent.proofs.turns.hand_rows.Given as goal

abbrev pub invariant-loop-i : goal.invariant-loop-i
invariant-loop-i g l =
    comes_to (g.R.Source.turn l.rows) g.row.N l.most l.out l.i l.next
    ≡ rows_out l.initial.out (rows_from (g.R.Source.turn l.rows) l.most l.fn.from)
