use native.Mathlib.Omega.{arith}
use Rattle.octets_address.proofs.Addresses.{size-le, address_none, address_read}
use Rattle.octets_address.proofs.read_address.Goals as goal

pub returns-then-n-size : goal.returns-then-n-size
returns-then-n-size c = record { answer = address_none _ _ _ (omega (arith, c.size_of-size.ensures.answer, c.if-n-size.true)) }

pub returns-then-n-size-2 : goal.returns-then-n-size-2
returns-then-n-size-2 c = record {
  answer =
      address_none _ _ _ (omega (arith, c.size_of-size.ensures.answer, c.if-n-size.false, c.if-n-size-2.true));
}

pub put_fours-requires : goal.put_fours-requires
put_fours-requires c =
    let sized = c.size_of-size.ensures.answer in
    let most = (size-le c.args.long).1 in
    (omega (arith, most), omega (arith, sized, c.if-n-size.false, c.if-n-size-2.false))

pub returns : goal.returns
returns c = record {
  answer =
      let sized = c.size_of-size.ensures.answer in
      let most = (size-le c.args.long).1 in
      address_read _ _ _ most (omega (arith, sized, c.if-n-size.false, c.if-n-size-2.false)) c.put_fours.ensures;
}
