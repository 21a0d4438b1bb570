-- Two answers that say the same are the same answer: the statements of the calls leave no choice.
use mathlib.Core.Path.{◌≡◌, sym, ap}
use Rattle.std.specs.Prelude.{Result, Ok, Err}
use Rattle.answer.specs.declared.Refusal.{Refusal}
use Rattle.answer.proofs.Refusals.{number-not-zero, number_unique}
use Rattle.peers_entry.specs.Peer.{Reading, reading}
use Rattle.peers_entry.specs.declared.PeerRead.{PeerRead}

pub reading_unique : (a b : Result PeerRead Refusal) → reading a ≡ reading b → a ≡ b
reading_unique (Ok r) (Ok q) e = λ i. Ok (record { peer = (e i).peer; next = (e i).next })
reading_unique (Ok r) (Err q) e = absurd (number-not-zero q (ap (λ (x : Reading). x.number) (sym e)))
reading_unique (Err r) (Ok q) e = absurd (number-not-zero r (ap (λ (x : Reading). x.number) e))
reading_unique (Err r) (Err q) e = ap Err (number_unique r q (ap (λ (x : Reading). x.number) e))
