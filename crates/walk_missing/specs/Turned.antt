-- Sequence numbers of w bits, which turn over at 2^w (02, wish 5): 16 bits where a counter is narrow, 32 where it is not.
use Rattle.std.specs.Prelude.{ℕ, ◌+◌, ◌-◌, ◌%◌, ◌^◌, Bool, cond, List, [], ◌∷◌, ◌==◌}

abbrev pub width : Bool → ℕ
width narrow = cond narrow 16 32

-- the later number less the earlier one, turned over
unfoldable pub apart : ℕ → ℕ → ℕ → ℕ
apart w earlier later = (2 ^ w + later - earlier) % 2 ^ w

-- what is told of a difference: how many numbers are missing, the difference less 1, and 0; of a repeat 0 and 1
unfoldable pub shown : ℕ → List ℕ
shown difference = cond (difference == 0) (0 ∷ 1 ∷ []) ((difference - 1) ∷ 0 ∷ [])

-- what is told of a number and the one before it, if one was seen
unfoldable pub since : ℕ → Bool → ℕ → ℕ → List ℕ
since w seen earlier later = cond seen (shown (apart w earlier later)) []
