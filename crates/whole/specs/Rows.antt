-- Records counted one after another (02, wish 5), each with the counters that the call before returned.
use Rattle.std.specs.Prelude.{ℕ, ◌≡◌, Bool, false, ◌&&◌, List, [], ◌∷◌, length, leb}
use Rattle.walk_missing.specs.Row.{is_row, is_peers, counted, count}
use Rattle.walk_missing.specs.declared.Counters.{Counters}
use Rattle.walk_missing.specs.declared.Counted.{Counted}

-- a call: the type, subtype and body that it was given, and what it returned
pub record Counts : Type 0 where
  pub kind : ℕ
  pub subtype : ℕ
  pub body : List ℕ
  pub returned : Counted

-- calls from the counters c on
abbrev pub Counting : Counters → List Counts → Type 0
Counting c [] = Unit
Counting c (x ∷ l) = (counted x.returned ≡ count c x.kind x.subtype x.body) × Counting x.returned.counters l

-- a RIB record of a counter's type, with a number
abbrev pub row : Bool → Counts → Bool
row narrow x = is_row narrow x.kind x.subtype && leb 4 (length x.body)

abbrev pub peers : Counts → Bool
peers x = is_peers x.kind x.subtype

-- none of these is one of that type, and none is a peer table
abbrev pub Others : Bool → List Counts → Type 0
Others narrow [] = Unit
Others narrow (x ∷ l) = (row narrow x ≡ false) × (peers x ≡ false) × Others narrow l
