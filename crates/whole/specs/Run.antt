-- Entries added one after the other, entries read back by number, and what building a body again may change (01, RIB bodies: the bits
-- after the prefix are cleared).
use Rattle.std.specs.Prelude.{ℕ, zero, suc, ◌-◌, List, [], ◌∷◌, ◌++◌, cond, take, drop, eqb}
use Rattle.answer.specs.Writing.{Writing}
use Rattle.octets.specs.Octets.{bytes_of, part}
use Rattle.rib_head.specs.Layout.{prefix_size}
use Rattle.rib_head.specs.Prefix.{cleared}
use Rattle.rib_head.specs.Head.{bits_of, count_at}
use Rattle.rib_entries.specs.Entry.{entry_of}
use Rattle.rib_write.specs.Layout.{entry_octets}
use Rattle.rib_write.specs.Push.{Pushing, push_entry}
use Rattle.rib_add.specs.Add.{Opening, add_entry}
use Rattle.rib_write.specs.declared.NewEntry.{NewEntry}

-- an entry with its attributes
pub record Given : Type 0 where
  pub entry : NewEntry
  pub attributes : List ℕ

-- its octets
abbrev pub given_octets : ℕ → Given → List ℕ
given_octets p g = entry_octets p g.entry g.attributes

-- entries one after the other
unfoldable pub entries_octets : ℕ → List Given → List ℕ
entries_octets p [] = []
entries_octets p (g ∷ gs) = given_octets p g ++ entries_octets p gs

-- the entries gs, added one after the other to what a writer has left; a refusal ends the run
unfoldable pub adds : ℕ → Writing → List Given → Writing
adds t w [] = w
adds t w (g ∷ gs) = cond (eqb w.number 0) (adds t (add_entry w.output w.octets t g.entry g.attributes) gs) w

-- a builder with the output s
abbrev pub opened : Opening → List ℕ → Pushing
opened o s = record { number = o.number; len = o.len; at = o.at; count = o.count; output = s }

-- the entries gs, pushed one after the other; a refusal ends the run
unfoldable pub pushes : ℕ → Pushing → List Given → Pushing
pushes t w [] = w
pushes t w (g ∷ gs) =
    cond (eqb w.number 0)
    (pushes t (push_entry w.output t (record { len = w.len; at = w.at; count = w.count }) g.entry g.attributes) gs)
    w

-- the entry i of the body s, with its attributes
unfoldable pub given_of : List ℕ → ℕ → ℕ → Given
given_of s t i =
    record {
      entry = record { peer = (entry_of s t i).peer; originated = (entry_of s t i).originated; path = (entry_of s t i).path };
      attributes = part s (entry_of s t i).start ((entry_of s t i).end - (entry_of s t i).start);
    }

-- the n entries of the body s from the entry i on
unfoldable pub read_back : List ℕ → ℕ → ℕ → ℕ → List Given
read_back s t i zero = []
read_back s t i (suc n) = given_of s t i ∷ read_back s t (suc i) n

-- the body s with the bits after its prefix cleared
unfoldable pub tidied : List ℕ → List ℕ
tidied s = take 5 s ++ cleared (bits_of s) (drop 5 s) (prefix_size (bits_of s)) ++ drop (count_at s) s

-- the head of the body s, with no entry
unfoldable pub head_alone : List ℕ → List ℕ
head_alone s = take (count_at s) s ++ bytes_of 2 0
