-- RIB bodies built across the boundary (01, RIB bodies). A builder is lent as three values: where its body ends, where the entry
-- count stands, and that count. No builder, or a count above 65,535, is 8 before every other refusal; a refusal leaves the
-- builder and the output.
use Rattle.std.specs.Prelude.{ℕ, List, [], ◌∷◌, Bool, ◌&&◌, cond, length, get_or, leb}
use Rattle.rib_write.specs.Push.{Pushing, push_entry}
use Rattle.rib_add.specs.Add.{Opening}
use Rattle.rib_write.specs.declared.Builder.{Builder}
use Rattle.rib_write.specs.declared.NewEntry.{NewEntry}
use Rattle.mrt_lent.specs.Export.{exported}

-- the values of a builder that is opened
abbrev pub opened_values : Opening → List ℕ
opened_values o = o.len ∷ o.at ∷ o.count ∷ []

-- a builder that is opened
abbrev pub opened_out : List ℕ → Opening → List ℕ × ℕ
opened_out out o = exported out o.number (opened_values o)

-- the places ws hold a builder
unfoldable pub holds_builder : List ℕ → Bool
holds_builder ws = leb 3 (length ws) && leb (get_or ws 2 0) 65535

-- the builder that they hold
abbrev pub builder_in : List ℕ → Builder
builder_in ws = record { len = get_or ws 0 0; at = get_or ws 1 0; count = get_or ws 2 0 }

-- the values of a builder after a push
abbrev pub pushed_values : Pushing → List ℕ
pushed_values p = p.len ∷ p.at ∷ p.count ∷ []

-- the output, the builder's places, and what is returned for a push
abbrev pub pushed_out : List ℕ → Pushing → List ℕ × (List ℕ × ℕ)
pushed_out ws p = (p.output, exported ws p.number (pushed_values p))

-- the entry e where the builder in the places ws stands in the output s
unfoldable pub push_out : List ℕ → ℕ → List ℕ → NewEntry → List ℕ → List ℕ × (List ℕ × ℕ)
push_out s t ws e attributes = cond (holds_builder ws) (pushed_out ws (push_entry s t (builder_in ws) e attributes)) (s, (ws, 8))
