use Rattle.std.proofs.Common.{rules, ◌≡◌, ◌+◌, ◌*◌, ◌≤◌, length, sym, ◌∙◌, arith}
use Rattle.octets.proofs.Parts.{patch_lent}
use Rattle.mrt_lent.proofs.Rows.{rows_empty, rows_turn, rows_full, rows_none}
use Rattle.mrt_lent.proofs.turns.hand_rows.Goals as goal

pub returns-then-this-eq0 : goal.returns-then-this-eq0
returns-then-this-eq0 g c = rows_empty _ _ _ _ _ c.if-this-eq0.true

pub returns-in_default : goal.returns-in_default
returns-in_default g c = sym (rows_none _ g.row.N _ _ _ _ (sym c.turn.ensures ∙ c.in_default.is)) ∙ c.loop-i.invariant

pub loop-i-preserved : goal.loop-i-preserved
loop-i-preserved g c =
    let out = c.loop-i.out in
    let at = c.loop-i.i * g.row.N in
    let fits : length c.in-Some.row.0 ≡ g.row.N = search rules in
    let room : at + g.row.N ≤ length out = search rules in
    let stored = patch_lent out at (at + g.row.N) g.row.N _ fits room (omega arith) c.put_values.ensures in
    rows_turn _ g.row.N _ _ _ _ c.loop-i-test.true (sym c.turn.ensures ∙ c.in-Some.is) fits stored ∙ c.loop-i.invariant

pub returns : goal.returns
returns g c = sym (rows_full _ g.row.N _ _ _ _ (search rules)) ∙ c.loop-i.invariant
