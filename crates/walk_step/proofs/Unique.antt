-- Two answers that say the same are equal: the promises allow one result.
use Prim.Native.Nat.{ℕ}
use mathlib.Core.Path.{◌≡◌, sym, ◌∙◌, ap}
use Rattle.answer.specs.Refusal.{number_of}
use Rattle.answer.specs.declared.Refusal.{Refusal}
use Rattle.answer.proofs.Refusals.{number-not-zero, number_unique}
use Rattle.header.specs.Frame.{framing_of}
use Rattle.walk.specs.Evidence.{evidence_number}
use Rattle.walk.specs.Step.{Answer, refused}
use Rattle.walk.specs.Step as rule
use Rattle.walk.specs.declared.Walk.{Walk}
use Rattle.walk.proofs.Unique.{evidence_unique}
use Rattle.walk_judge.proofs.Unique.{located_unique}
use Rattle.walk_step.specs.Answers.{said, stepped, left}
use Rattle.walk_step.specs.declared.Stepped.{Stepped}
use Rattle.walk_step.specs.declared.WalkAnswer.{WalkAnswer}
use Rattle.walk_step.specs.declared.WalkAnswer.TheVariants.{Record, Gap, End, Window, Refused}

-- a window refusal names the refusal of a record, and no other refusal does
window_not : (a w : ℕ) (r q : Refusal) → refused 11 a w (number_of r) ≡ refused (number_of q) 0 0 0 → ⊥
window_not a w r q e = number-not-zero r (let n : number_of r ≡ 0 = cc in n)

pub said_unique : (a b : WalkAnswer) → said a ≡ said b → a ≡ b
said_unique (Record x) (Record y) e =
    ap Record (located_unique x y (let i : x.start ≡ y.start = cc in i) (let f : framing_of x.frame ≡ framing_of y.frame = cc in f))
said_unique (Gap a x r v c) (Gap b y q w d) e =
    let n : number_of r ≡ number_of q = cc in
    let k = number_unique r q n in
    let m : evidence_number v ≡ evidence_number w = cc in
    let l = evidence_unique v w m in
    cc
said_unique (End a) (End b) e = cc
said_unique (Window a w r) (Window b v q) e =
    let n : number_of r ≡ number_of q = cc in
    let k = number_unique r q n in
    cc
said_unique (Refused r) (Refused q) e = ap Refused (number_unique r q (let n : number_of r ≡ number_of q = cc in n))
said_unique (Window a w r) (Refused q) e = absurd (window_not a w r q e)
said_unique (Refused q) (Window a w r) e = absurd (window_not a w r q (sym e))
said_unique (Record x) (Gap a z r v c) e = cc
said_unique (Record x) (End a) e = cc
said_unique (Record x) (Window a v r) e = cc
said_unique (Record x) (Refused r) e = cc
said_unique (Gap a z r v c) (Record x) e = cc
said_unique (Gap a z r v c) (End b) e = cc
said_unique (Gap a z r v c) (Window b w q) e = cc
said_unique (Gap a z r v c) (Refused q) e = cc
said_unique (End a) (Record x) e = cc
said_unique (End a) (Gap b z r v c) e = cc
said_unique (End a) (Window b w r) e = cc
said_unique (End a) (Refused r) e = cc
said_unique (Window a v r) (Record x) e = cc
said_unique (Window b w q) (Gap a z r v c) e = cc
said_unique (Window b w r) (End a) e = cc
said_unique (Refused r) (Record x) e = cc
said_unique (Refused q) (Gap a z r v c) e = cc
said_unique (Refused r) (End a) e = cc

-- a call on a lent walk: the walk and the answer
pub left_unique : (w v : Walk) (a b : WalkAnswer) → left (w, a) ≡ left (v, b) → (w ≡ v) × (a ≡ b)
left_unique w v a b e =
    (ap (λ (x : rule.Stepped). x.walk) e, said_unique a b (ap (λ (x : rule.Stepped). x.answer) e))

-- a call by value
pub stepped_unique : (a b : Stepped) → stepped a ≡ stepped b → a ≡ b
stepped_unique a b e =
    let u = left_unique a.walk b.walk a.answer b.answer e in
    let i : a.walk ≡ b.walk = u.0 in
    let j : a.answer ≡ b.answer = u.1 in
    ap (λ (w : Walk). record { walk = w; answer = a.answer }) i ∙ ap (λ (x : WalkAnswer). record { walk = b.walk; answer = x }) j
