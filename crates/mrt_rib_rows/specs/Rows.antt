-- Rows of entries pushed across the boundary (01, RIB bodies). The builder is lent as its three values. No builder, or a count above
-- 65,535, is 8 before every other refusal; a refusal leaves the builder and the output.
use Rattle.std.specs.Prelude.{ℕ, List, [], ◌∷◌, cond, eqb}
use Rattle.octets.specs.Octets.{patch}
use Rattle.rib_write.specs.Rows.{Rowed, push_entries}
use Rattle.mrt_lent.specs.Rows.{rows_handed, none_handed}
use Rattle.mrt_lent.specs.declared.Handed.{Handed}
use Rattle.mrt_rib_build.specs.Build.{holds_builder, builder_in}

-- the output, the builder's places, and what is returned
abbrev pub rows_left : List ℕ → Rowed → List ℕ × (List ℕ × Handed)
rows_left ws r = (
  r.output,
  cond (eqb r.number 0)
      (patch ws 0 (r.len ∷ r.at ∷ r.count ∷ []), rows_handed r.rows)
      (ws, none_handed r.number),
)

-- the rows rs, their attributes in one buffer, where the builder in the places ws stands in the output s
unfoldable pub rows_out : List ℕ → ℕ → List ℕ → List ℕ → List ℕ → List ℕ × (List ℕ × Handed)
rows_out s t ws rs buffer = cond (holds_builder ws) (rows_left ws (push_entries s t (builder_in ws) rs buffer)) (s, (ws, none_handed 8))
