-- Octets and the numbers in them (RFC 6396, 2: all numbers in network byte order, the highest octet first).
use Rattle.std.specs.Prelude.{ℕ, zero, suc, ◌+◌, ◌*◌, ◌/◌, ◌%◌, ◌<◌, List, [], ◌∷◌, ◌++◌, Bool, true, ◌&&◌, eqb, get_or, take, drop}
use Rattle.std.proofs.lemmas.List.Edits.{sets}

-- the n octets of s from at on, as one number; octets past the end count as 0
unfoldable pub be_at : List ℕ → ℕ → ℕ → ℕ
be_at s at zero = 0
be_at s at (suc n) = be_at s at n * 256 + get_or s (at + n) 0

-- v in n octets
unfoldable pub bytes_of : ℕ → ℕ → List ℕ
bytes_of zero v = []
bytes_of (suc n) v = bytes_of n (v / 256) ++ (v % 256 ∷ [])

-- s after bs is stored in it, octet by octet from at on; what would come past the end is dropped
unfoldable pub patch : List ℕ → ℕ → List ℕ → List ℕ
patch s at bs = sets s at bs

-- the n octets of s from at on, fewer where s ends
abbrev pub part : List ℕ → ℕ → ℕ → List ℕ
part s at n = take n (drop at s)

-- the n octets of s from at on are all 255
unfoldable pub ones : List ℕ → ℕ → ℕ → Bool
ones s at zero = true
ones s at (suc n) = ones s at n && eqb (get_or s (at + n) 0) 255

-- every element of s is an octet
abbrev pub Octets : List ℕ → Type 0
Octets s = (i : ℕ) → get_or s i 0 < 256
