-- One BGP message that fills its octets (RFC 4271, 4.1; 01, Body checks): Marker 16 octets 255, Length 2, Type 1. The least
-- OPEN has 29 octets (RFC 4271, 4.2; 02, wish 2).
use Rattle.std.specs.Prelude.{ℕ, List, Bool, ◌&&◌, cond, length, get_or, eqb, leb}
use Rattle.octets.specs.Octets.{be_at, ones}
use Rattle.walk_checks.specs.Within.{from_to, none, within}
use Rattle.walk_checks.specs.declared.Bounds.{Bounds}

-- the length of a message by its type: OPEN, UPDATE, NOTIFICATION, KEEPALIVE; no other type is let through
unfoldable pub message_bounds : ℕ → Bounds
message_bounds t =
    cond (eqb t 1) (from_to 29 4096)
    (cond (eqb t 2) (from_to 23 65535)
    (cond (eqb t 3) (from_to 21 65535)
    (cond (eqb t 4) (from_to 19 19) none)))

unfoldable pub message : List ℕ → Bool
message l =
    leb 19 (length l)
    && ones l 0 16
    && eqb (be_at l 16 2) (length l)
    && within (message_bounds (get_or l 18 0)) (be_at l 16 2)
