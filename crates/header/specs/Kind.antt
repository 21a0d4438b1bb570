-- What a type alone decides (RFC 6396, 3 to 5; 01, Refusal numbers; Header and lengths; 02, wish 1).
use Rattle.std.specs.Prelude.{ℕ, Bool, ◌||◌, ◌&&◌, cond, leb, eqb}

-- the types that are known: 0 to 13, 16, 17, 32, 33, 48 and 49
unfoldable pub known : ℕ → Bool
known k = leb k 13 || leb 16 k && leb k 17 || leb 32 k && leb k 33 || leb 48 k && leb k 49

-- the types whose header has microseconds (RFC 6396, 3 and 4; 02, wish 1): BGP4MP_ET, ISIS_ET and OSPFv3_ET
unfoldable pub timed : ℕ → Bool
timed k = eqb k 17 || eqb k 33 || eqb k 49

-- how many octets the header takes
unfoldable pub size : ℕ → ℕ
size k = cond (timed k) 16 12
