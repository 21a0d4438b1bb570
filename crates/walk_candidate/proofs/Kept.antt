-- What `ok` keeps of a result: the value, or that it is a refusal.
use mathlib.Core.Path.{◌≡◌, refl, sym, ◌∙◌, ap}
use mathlib.Core.List.{List}
use Prim.Native.Nat.{ℕ, ◌≤◌}
use lib.ListN.{length}
use Rattle.std.specs.Prelude.{Some, None, Result, Ok, Err}
use Rattle.std.specs.Result.{result_ok}
use Rattle.answer.specs.Refusal.{number_of}
use Rattle.answer.specs.declared.Refusal.{Refusal}
use Rattle.header.specs.Read.{refused, heading_of, values, header_at}
use Rattle.header.specs.Frame.{unframed, framing_of, framing, frame_of, frame_at}
use Rattle.header.specs.declared.Headed.{Headed}
use Rattle.header.specs.declared.Framed.{Framed}
use Rattle.header.proofs.Framing.{frame_read}
use Rattle.walk_judge.proofs.Judging.{frame_inside}

pub kept : {A E : Type 0} {x : A} (r : Result A E) → Some x ≡ result_ok r → r ≡ Ok x
kept {x = x} (Ok y) e = let i : x ≡ y = cc in ap Ok (sym i)
kept (Err q) e = cc

pub lost : {A E : Type 0} (r : Result A E) → None ≡ result_ok r → (q : E) × (r ≡ Err q)
lost (Ok y) e = cc
lost (Err q) e = (q, refl)

module _ (s : List ℕ) (at : ℕ) where
  -- a header that was read, and one that was not
  pub head_kept : (r : Result Headed Refusal) {x : Headed} → values r ≡ header_at s at → Some x ≡ result_ok r
      → heading_of x ≡ header_at s at
  head_kept r e k = sym (ap values (kept r k)) ∙ e

  pub head_lost : (r : Result Headed Refusal) → values r ≡ header_at s at → None ≡ result_ok r
      → (q : Refusal) × (refused (number_of q) ≡ header_at s at)
  head_lost r e k = let l = lost r k in (l.0, sym (ap values l.1) ∙ e)

  -- the record of a header that was read there
  module _ (h : Headed) (e : heading_of h ≡ header_at s at) (r : Result Framed Refusal) (q : framing r ≡ frame_of s at (heading_of h)) where
    pub frame_kept : {x : Framed} → Some x ≡ result_ok r → framing_of x ≡ frame_at s at
    frame_kept k = sym (ap framing (kept r k)) ∙ q ∙ frame_read s at e

    pub frame_starts : {x : Framed} → Some x ≡ result_ok r → x.body ≤ x.end
    frame_starts k = (frame_inside s at _ (frame_kept k)).0

    pub frame_ends : {x : Framed} → Some x ≡ result_ok r → x.end ≤ length s
    frame_ends k = (frame_inside s at _ (frame_kept k)).1

    pub frame_lost : None ≡ result_ok r → (n : Refusal) × (unframed (number_of n) ≡ frame_at s at)
    frame_lost k = let l = lost r k in (l.0, sym (ap framing l.1) ∙ q ∙ frame_read s at e)
