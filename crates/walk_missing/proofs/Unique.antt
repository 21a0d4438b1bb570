-- Two answers that say the same are equal.
use Rattle.std.proofs.Common.{◌≡◌, refl, ap, ◌∙◌}
use Rattle.walk_missing.specs.Row.{Counting, told, counted}
use Rattle.walk_missing.specs.declared.Counters.{Counters}
use Rattle.walk_missing.specs.declared.Missing.{Missing}
use Rattle.walk_missing.specs.declared.Missing.TheVariants.{Nothing, Repeat, Rows}
use Rattle.walk_missing.specs.declared.Counted.{Counted}

pub told_unique : (a b : Missing) → told a ≡ told b → a ≡ b
told_unique Nothing Nothing e = refl
told_unique Nothing Repeat e = cc
told_unique Nothing (Rows n) e = cc
told_unique Repeat Nothing e = cc
told_unique Repeat Repeat e = refl
told_unique Repeat (Rows n) e = cc
told_unique (Rows m) Nothing e = cc
told_unique (Rows m) Repeat e = cc
told_unique (Rows m) (Rows n) e = cc

pub counted_unique : (a b : Counted) → counted a ≡ counted b → a ≡ b
counted_unique a b e =
    let i : a.missing ≡ b.missing = told_unique a.missing b.missing (ap (λ (x : Counting). x.told) e) in
    let j : a.counters ≡ b.counters = ap (λ (x : Counting). x.counters) e in
    let f : Counters → Missing → Counted = λ c m. record { counters = c; missing = m } in
    ap (λ (c : Counters). f c a.missing) j ∙ ap (f b.counters) i
