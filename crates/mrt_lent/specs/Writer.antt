-- What a writer returns across the boundary (01, Refusal numbers): the refusal's number or 0, and how many octets it has written.
use Rattle.std.specs.Prelude.{ℕ, List, Result, Ok, Err}
use Rattle.answer.specs.Refusal.{number_of}
use Rattle.answer.specs.Writing.{Writing}
use Rattle.answer.specs.declared.Refusal.{Refusal}
use Rattle.mrt_lent.specs.declared.Wrote.{Wrote}

-- a writer's answer
abbrev pub wrote_of : Result ℕ Refusal → Wrote
wrote_of (Ok n) = record { octets = n; refusal = 0 }
wrote_of (Err r) = record { octets = 0; refusal = number_of r }

-- the output after a call of a writer, and what is returned
abbrev pub written_out : Writing → List ℕ × Wrote
written_out w = (w.output, record { octets = w.octets; refusal = w.number })
