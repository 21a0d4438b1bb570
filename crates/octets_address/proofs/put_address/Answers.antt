use native.Mathlib.Omega.{arith}
use Rattle.octets_address.proofs.Addresses.{size-le, put_none, put_done}
use Rattle.octets_address.proofs.put_address.Goals as goal

pub returns-then-n-size : goal.returns-then-n-size
returns-then-n-size c = record { answer = put_none _ _ _ _ (omega (arith, c.size_of-size.ensures.answer, c.if-n-size.true)) }

pub returns-then-n-size-2 : goal.returns-then-n-size-2
returns-then-n-size-2 c = record {
  answer =
      put_none _ _ _ _ (omega (arith, c.size_of-size.ensures.answer, c.if-n-size.false, c.if-n-size-2.true));
}

pub returns : goal.returns
returns c = record {
  answer =
      put_done _ _ _ _ (omega (arith, c.size_of-size.ensures.answer, c.if-n-size.false, c.if-n-size-2.false)) c.put_fours.ensures;
}

pub put_fours-requires : goal.put_fours-requires
put_fours-requires c =
    (omega (arith, c.size_of-size.ensures.answer, c.if-n-size.false, c.if-n-size-2.false), omega (arith, (size-le c.args.long).1))
