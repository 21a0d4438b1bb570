-- Beginning a RIB body (01, RIB bodies): 6 for a subtype that is not carried, 10 for too many prefix bits, 9 for too little room.
use Rattle.std.specs.Prelude.{ℕ, List, cond, ltb}
use Rattle.answer.specs.Writing.{Writing, refuse, at_front}
use Rattle.rib_head.specs.Layout.{carried, most_bits}
use Rattle.rib_begin.specs.Layout.{head_octets}

-- a body of subtype t with no entry at the front of the output s
unfoldable pub begin_rib : List ℕ → ℕ → ℕ → ℕ → List ℕ → Writing
begin_rib s t sequence bits prefix =
    cond (carried t) (cond (ltb (most_bits t) bits) (refuse 10 s) (at_front s (head_octets sequence bits prefix 0))) (refuse 6 s)
