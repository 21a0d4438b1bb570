-- Two answers that say the same are equal: the promises allow one result.
use Prim.Native.Nat.{ℕ}
use mathlib.Core.Path.{◌≡◌, refl, ◌∙◌, ap}
use Rattle.std.specs.Prelude.{Option, Some, None}
use Rattle.walk.specs.Evidence.{evidence_number}
use Rattle.walk.specs.declared.Evidence.{Evidence}
use Rattle.walk.proofs.Unique.{evidence_unique}
use Rattle.walk_candidate.specs.Candidate.{candidacy}
use Rattle.walk_candidate.specs.declared.Standing.{Standing}

pub candidacy_unique : (a b : Option Standing) → candidacy a ≡ candidacy b → a ≡ b
candidacy_unique (Some x) (Some y) q =
    let n : evidence_number x.evidence ≡ evidence_number y.evidence = cc in
    let i : x.end ≡ y.end = cc in
    let f : Evidence → ℕ → Standing = λ v e. record { evidence = v; end = e } in
    ap Some (ap (λ (v : Evidence). f v x.end) (evidence_unique _ _ n) ∙ ap (f y.evidence) i)
candidacy_unique (Some x) None q = cc
candidacy_unique None (Some y) q = cc
candidacy_unique None None q = refl
