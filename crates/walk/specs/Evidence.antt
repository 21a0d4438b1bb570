-- The numbers of evidence (01, Walk, confirmation, scan; 02, wish 14).
use Rattle.std.specs.Prelude.{ℕ}
use Rattle.walk.specs.declared.Evidence.{Evidence}
use Rattle.walk.specs.declared.Evidence.TheVariants.{Message, StateChange, OwnEnd, End}

-- of each evidence; 1 is reserved
abbrev pub evidence_number : Evidence → ℕ
evidence_number Message = 2
evidence_number StateChange = 3
evidence_number OwnEnd = 4
evidence_number End = 5
