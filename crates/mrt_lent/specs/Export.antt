-- What an exported call returns and leaves in the places lent for its values (01, Refusal numbers): a refusal returns its
-- number and leaves them as they were; too few places are 9, after every other refusal; places after the values keep what
-- they had.
use Rattle.std.specs.Prelude.{ℕ, List, Bool, cond, length, replicate, leb, eqb}
use Rattle.octets.specs.Octets.{patch}

-- the places out after a call that answers with the number n and the values vs, and what the call returns
unfoldable pub exported : List ℕ → ℕ → List ℕ → List ℕ × ℕ
exported out n vs = cond (eqb n 0) (cond (leb (length vs) (length out)) (patch out 0 vs, 0) (out, 9)) (out, n)

-- a truth value as a number
abbrev pub mark : Bool → ℕ
mark b = cond b 1 0

-- the first 16 octets of s, with zeros where s has fewer (01, Peer table: a shorter address has zeros after it)
abbrev pub sixteen_of : List ℕ → List ℕ
sixteen_of s = patch (replicate 16 0) 0 s
