-- What a RIB subtype decides (RFC 6396, 4.3.2: 2 to 5; RFC 8050, 4: 8 to 11, with a path number in each entry).
-- 01, RIB bodies: at most 32 prefix bits in subtypes 2, 3, 8, 9 and 128 in 4, 5, 10, 11.
use Rattle.std.specs.Prelude.{ℕ, ◌+◌, ◌/◌, Bool, ◌||◌, cond, eqb, Option, Some, None}
use Rattle.rib_head.specs.declared.Layout.{Layout}

-- the subtypes of IPv4 prefixes
unfoldable pub ipv4 : ℕ → Bool
ipv4 t = eqb t 2 || eqb t 3 || eqb t 8 || eqb t 9

-- the subtypes of IPv6 prefixes
unfoldable pub ipv6 : ℕ → Bool
ipv6 t = eqb t 4 || eqb t 5 || eqb t 10 || eqb t 11

-- the subtypes whose entries have a path number
unfoldable pub pathed : ℕ → Bool
pathed t = eqb t 8 || eqb t 9 || eqb t 10 || eqb t 11

-- the subtypes that are carried
unfoldable pub carried : ℕ → Bool
carried t = ipv4 t || ipv6 t

-- the most prefix bits
unfoldable pub most_bits : ℕ → ℕ
most_bits t = cond (ipv4 t) 32 (cond (ipv6 t) 128 0)

-- how many octets an entry's path number takes
unfoldable pub path_size : ℕ → ℕ
path_size t = cond (pathed t) 4 0

-- how many octets hold a prefix of so many bits: the fewest
unfoldable pub prefix_size : ℕ → ℕ
prefix_size bits = (bits + 7) / 8

-- all that a subtype decides, where it is carried
abbrev pub layout_of : ℕ → Option Layout
layout_of t = cond (carried t) (Some (record { most = most_bits t; path = path_size t })) None
