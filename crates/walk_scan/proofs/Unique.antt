-- Two answers of the scan that say the same are equal: its promise allows one result.
use Prim.Native.Nat.{ℕ}
use mathlib.Core.Path.{◌≡◌, refl, ◌∙◌, ap}
use Rattle.std.specs.Prelude.{Option, Some, None}
use Rattle.walk.specs.Evidence.{evidence_number}
use Rattle.walk.specs.declared.Evidence.{Evidence}
use Rattle.walk.proofs.Unique.{evidence_unique}
use Rattle.walk_scan.specs.Sight.{sighted}
use Rattle.walk_scan.specs.declared.Found.{Found}

pub sighted_unique : (a b : Option Found) → sighted a ≡ sighted b → a ≡ b
sighted_unique (Some x) (Some y) q =
    let i : x.offset ≡ y.offset = cc in
    let n : evidence_number x.evidence ≡ evidence_number y.evidence = cc in
    let f : ℕ → Evidence → Found = λ o v. record { offset = o; evidence = v } in
    ap Some (ap (λ (o : ℕ). f o x.evidence) i ∙ ap (f y.offset) (evidence_unique _ _ n))
sighted_unique (Some x) None q = cc
sighted_unique None (Some y) q = cc
sighted_unique None None q = refl
