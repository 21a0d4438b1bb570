use mathlib.Core.Path.{◌≡◌}
use native.Mathlib.Omega.{arith}
use Rattle.std.proofs.Common.{Some}
use Rattle.rib_head.specs.Layout.{layout_of}
use Rattle.rib_head.proofs.Heads.{most_of}
use Rattle.rib_head.proofs.Layouts.{most_bits-le}
use Rattle.rib_begin.proofs.Answers.{begin_full, begin_done}
use Rattle.rib_begin.proofs.begin.begin_rib.Goals as goal

pub returns-then-out-size : goal.returns-then-out-size
returns-then-out-size c = record {
  answer =
      let e : Some c.in_ok-l.l ≡ layout_of c.args.subtype = grind arith in
      begin_full _ _ _ _ _ e c.if-l-bits.false c.prefix_size-size.ensures.answer c.if-out-size.true;
}

pub put_head-requires : goal.put_head-requires
put_head-requires c =
    let e : Some c.in_ok-l.l ≡ layout_of c.args.subtype = grind arith in
    omega (arith, c.if-l-bits.false, most_of _ e, most_bits-le c.args.subtype)

pub returns : goal.returns
returns c = record {
  answer =
      let e : Some c.in_ok-l.l ≡ layout_of c.args.subtype = grind arith in
      begin_done _ _ _ _ _ e c.if-l-bits.false c.prefix_size-size.ensures.answer c.if-out-size.false c.put_head.ensures;
}
