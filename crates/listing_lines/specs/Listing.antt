-- The text of the listing (01, The listing program), in octets of ASCII. Lines of fields parted by tabs: H length W
-- confirmations; R start end type subtype; G start end refusal evidence confirmed; E offset. Input of more than 65,536
-- octets: only L 65536. Every line ends with a newline. (02, wish 5) S start missing repeat, straight after the R line of a RIB
-- record with an earlier one of the same type.
use Rattle.std.specs.Prelude.{ℕ, zero, suc, ◌+◌, ◌-◌, ◌*◌, ◌/◌, ◌%◌, ◌≤◌, Bool, true, false, cond, List, [], ◌∷◌, ◌++◌, ltb, length}
use Rattle.octets.specs.Octets.{patch, part}
use Rattle.rules.specs.Ask.{over}
use Rattle.walk.specs.Step.{Answer, handed, gap, end, refused, Stepped, fresh_walk, step}
use Rattle.walk.specs.Promises.{answers}
use Rattle.walk.specs.declared.Walk.{Walk}
use Rattle.walk_judge.specs.Record.{judge_at}
use Rattle.walk_candidate.specs.Candidate.{candidate_at}
use Rattle.walk_missing.specs.Row.{Counting, fresh_counters, untold, count}
use Rattle.walk_missing.specs.declared.Counters.{Counters}

-- the digits of v, at most k of them, the highest first
unfoldable pub decimal : ℕ → ℕ → List ℕ
decimal zero v = []
decimal (suc k) v = cond (ltb v 10) ((48 + v) ∷ []) (decimal k (v / 10) ++ ((48 + v % 10) ∷ []))

-- a tab and a number; 20 digits hold every usize
unfoldable pub field : ℕ → List ℕ
field v = 9 ∷ decimal 20 v

-- numbers, each after a tab, and a newline
unfoldable pub rest : List ℕ → List ℕ
rest [] = 10 ∷ []
rest (v ∷ vs) = field v ++ rest vs

-- a line: a letter and its numbers
unfoldable pub fields : ℕ → List ℕ → List ℕ
fields letter vs = letter ∷ rest vs

-- the line S of a record that starts at a, with what is told of it; where nothing is, there is none
unfoldable pub missing_line : ℕ → List ℕ → List ℕ
missing_line a [] = []
missing_line a (m ∷ l) = fields 83 (a ∷ m ∷ l)

-- the lines of an answer: R for a record, and S straight after it; G for a gap, E for the end; a refusal has none
unfoldable pub lines : Answer → List ℕ → List ℕ
lines (handed a f) told = fields 82 (a ∷ f.end ∷ f.head.kind ∷ f.head.subtype ∷ []) ++ missing_line a told
lines (gap a e r v c) told = fields 71 (a ∷ e ∷ r ∷ v ∷ c ∷ [])
lines (end a) told = fields 69 (a ∷ [])
lines (refused n a w r) told = []

-- an answer of a walk over the stream s, counted: a record by its body; a gap clears nothing
abbrev pub counting : List ℕ → Counters → Answer → Counting
counting s c (handed a f) = count c f.head.kind f.head.subtype (part s f.body (f.end - f.body))
counting s c (gap a e r v n) = untold c
counting s c (end a) = untold c
counting s c (refused n a w r) = untold c

-- the lines of answers, one after the other, each counted with the counters after the one before
unfoldable pub lines_of : List ℕ → Counters → List Answer → List ℕ
lines_of s c [] = []
lines_of s c (a ∷ l) = lines a (counting s c a).told ++ lines_of s (counting s c a).counters l

-- one call of the walk over a stream: its window is 1,048,576, and three records confirm
abbrev pub called : List ℕ → Walk → Stepped
called s w = over s (step judge_at candidate_at w 1048576 3)

-- the answers of a whole walk over a stream: its last one is among the first 2 * (n / 12) + 2
abbrev pub walked : List ℕ → List Answer
walked s = answers (called s) (2 * (length s / 12) + 2) fresh_walk

-- the listing of a stream
unfoldable pub listing : List ℕ → List ℕ
listing s =
    cond (ltb 65536 (length s))
    (fields 76 (65536 ∷ []))
    (fields 72 (length s ∷ 1048576 ∷ 3 ∷ []) ++ lines_of s fresh_counters (walked s))

-- no listing has more octets: one line of 3 numbers, and for each of at most 10,924 answers one line of 4 numbers and one of 3 at most
abbrev pub room : ℕ
room = 1649589

-- what a listing leaves in the output t, and its answer: what has no room is dropped, and the answer is the whole length
abbrev pub listed : List ℕ → List ℕ → List ℕ × ℕ
listed s t = (patch t 0 (listing s), length (listing s))

-- the output s with a text from at on, and where the text ends
unfoldable pub wrote : List ℕ → ℕ → List ℕ → List ℕ × ℕ
wrote s at text = (patch s at text, at + length text)

-- an answer after which a walk gives no other one
abbrev pub is_last : Answer → Bool
is_last (handed a f) = false
is_last (gap a e r v c) = false
is_last (end a) = true
is_last (refused n a w r) = true

-- the body of a record lies in a stream of n octets
abbrev pub Within : ℕ → Answer → Type 0
Within n (handed a f) = (f.body ≤ f.end) × (f.end ≤ n)
Within n (gap a e r v c) = Unit
Within n (end a) = Unit
Within n (refused x a w r) = Unit
