-- Lookup by address (01, Peer table): the highest id that holds the address, or 8 if none does.
use Rattle.std.specs.Prelude.{ℕ, zero, suc, List, Bool, cond, length, get_or, Result, Ok, Err}
use Rattle.answer.specs.Refusal.{number_of}
use Rattle.answer.specs.declared.Refusal.{Refusal}
use Rattle.peers_entry.specs.Peer.{nobody, same_address, key_of}
use Rattle.peers_entry.specs.declared.Peer.{Peer}
use Rattle.peers_slots.specs.Used.{wrong_count}

-- an answer in numbers: the refusal's number or 0, and the id
pub record Finding : Type 0 where
  pub number : ℕ
  pub id : ℕ

-- an id that was found
abbrev pub found : ℕ → Finding
found id = record { number = 0; id = id }

-- a refusal has its number, and 0 for the id
abbrev pub lost : ℕ → Finding
lost n = record { number = n; id = 0 }

-- what each answer says
abbrev pub finding : Result ℕ Refusal → Finding
finding (Ok id) = found id
finding (Err why) = lost (number_of why)

-- of the first n slots, the highest that holds the key's address
unfoldable pub highest : Peer → List Peer → ℕ → Finding
highest key l zero = lost 8
highest key l (suc n) = cond (same_address (get_or l n nobody) key) (found n) (highest key l n)

-- the same for the first count slots, with 8 for a wrong count
unfoldable pub look_up : List Peer → ℕ → Peer → Finding
look_up l count key = cond (wrong_count (length l) count) (lost 8) (highest key l count)

-- by family and octets
unfoldable pub find_peer : List Peer → ℕ → Bool → List ℕ → Finding
find_peer l count v6 addr = look_up l count (key_of v6 addr)
