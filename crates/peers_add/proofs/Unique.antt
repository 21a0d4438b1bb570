-- Two answers that say the same are the same answer: the statement of the call leaves no choice.
use Prim.Native.Nat.{ℕ}
use mathlib.Core.Path.{◌≡◌, refl, sym, ◌∙◌, ap}
use mathlib.Core.List.{List}
use native.Mathlib.Omega.{arith}
use Rattle.std.specs.Prelude.{Result, Ok, Err}
use Rattle.answer.specs.declared.Refusal.{Refusal}
use Rattle.answer.proofs.Refusals.{number-not-zero, number_unique}
use Rattle.peers_entry.specs.declared.Peer.{Peer}
use Rattle.peers_add.specs.Add.{Adding, adding}
use Rattle.peers_add.specs.declared.PeerId.{PeerId}
use Rattle.peers_add.specs.declared.PeerId.TheVariants.{Known, Added}

adding-answer : (a b : Result PeerId Refusal) (l m : List Peer) → adding a l ≡ adding b m → a ≡ b
adding-answer (Ok (Known i)) (Ok (Known j)) l m e = λ x. Ok (Known (e x).id)
adding-answer (Ok (Known i)) (Ok (Added j)) l m e = let z : ◌≡◌ {A = ℕ} 0 1 = ap (λ (x : Adding). x.added) e in absurd (omega arith)
adding-answer (Ok (Known i)) (Err q) l m e = absurd (number-not-zero q (ap (λ (x : Adding). x.number) (sym e)))
adding-answer (Ok (Added i)) (Ok (Known j)) l m e = let z : ◌≡◌ {A = ℕ} 1 0 = ap (λ (x : Adding). x.added) e in absurd (omega arith)
adding-answer (Ok (Added i)) (Ok (Added j)) l m e = λ x. Ok (Added (e x).id)
adding-answer (Ok (Added i)) (Err q) l m e = absurd (number-not-zero q (ap (λ (x : Adding). x.number) (sym e)))
adding-answer (Err r) (Ok (Known j)) l m e = absurd (number-not-zero r (ap (λ (x : Adding). x.number) e))
adding-answer (Err r) (Ok (Added j)) l m e = absurd (number-not-zero r (ap (λ (x : Adding). x.number) e))
adding-answer (Err r) (Err q) l m e = ap Err (number_unique r q (ap (λ (x : Adding). x.number) e))

adding-slots : (a : Result PeerId Refusal) (l : List Peer) → (adding a l).slots ≡ l
adding-slots (Ok (Known i)) l = refl
adding-slots (Ok (Added i)) l = refl
adding-slots (Err r) l = refl

pub adding_unique : (a b : Result PeerId Refusal) (l m : List Peer) → adding a l ≡ adding b m → (a ≡ b) × (l ≡ m)
adding_unique a b l m e = (adding-answer a b l m e, sym (adding-slots a l) ∙ ap (λ (x : Adding). x.slots) e ∙ adding-slots b m)
