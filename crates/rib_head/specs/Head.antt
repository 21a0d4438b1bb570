-- The head of a RIB body (RFC 6396, 4.3.2): sequence 4, prefix bits 1, prefix octets, entry count 2.
-- 01, RIB bodies and Body checks: 6 for a subtype that is not carried, then 7 where the prefix bits are too many or octets are missing.
use Rattle.std.specs.Prelude.{ℕ, ◌+◌, List, Bool, ◌&&◌, cond, length, get_or, leb}
use Rattle.octets.specs.Octets.{be_at}
use Rattle.rib_head.specs.Layout.{carried, most_bits, prefix_size}

-- the prefix bits of the body s
unfoldable pub bits_of : List ℕ → ℕ
bits_of s = get_or s 4 0

-- where the entry count stands
unfoldable pub count_at : List ℕ → ℕ
count_at s = 5 + prefix_size (bits_of s)

-- how many entries it declares
unfoldable pub declared : List ℕ → ℕ
declared s = be_at s (count_at s) 2

-- where the entries start
unfoldable pub entries_at : List ℕ → ℕ
entries_at s = 7 + prefix_size (bits_of s)

-- the head of s can be read, where a prefix has at most so many bits
unfoldable pub readable : ℕ → List ℕ → Bool
readable most s = leb (bits_of s) most && leb (entries_at s) (length s)

-- 0 where s is a RIB body of subtype t with a readable head, or the refusal's number
unfoldable pub check_rib : List ℕ → ℕ → ℕ
check_rib s t = cond (carried t) (cond (readable (most_bits t) s) 0 7) 6
