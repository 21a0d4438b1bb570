use mathlib.Core.Path.{refl}
use native.Mathlib.Omega.{arith}
use Rattle.header.proofs.KnownTypes.{size_most}
use Rattle.header.proofs.Framing.{of_beyond, of_cut, of_whole}
use Rattle.header.proofs.frame.frame_of.Goals as goal

pub returns-then-n-at : goal.returns-then-n-at
returns-then-n-at c = record { answer = of_beyond _ _ _ c.if-n-at.true }

pub overflow_add-octets : goal.overflow_add-octets
overflow_add-octets c =
    let z = size_most c.args.head.header.kind in
    let e = c.header_size-size.ensures in
    omega arith

pub returns-then-n-at-2 : goal.returns-then-n-at-2
returns-then-n-at-2 c = record { answer = of_cut _ _ _ c.if-n-at.false refl c.header_size-size.ensures c.if-n-at-2.true }

pub returns : goal.returns
returns c = record { answer = of_whole _ _ _ c.if-n-at.false refl c.header_size-size.ensures c.if-n-at-2.false }
