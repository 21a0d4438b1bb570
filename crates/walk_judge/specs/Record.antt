-- The judgement of one record (01, Refusal numbers): 1, 2, 3, 1 and 4 of its frame, then 5, 6 and 7 of its body.
use Rattle.std.specs.Prelude.{ℕ, List, cond, length, drop, ltb, eqb, Result, Ok, Err}
use Rattle.answer.specs.Refusal.{number_of}
use Rattle.answer.specs.declared.Refusal.{Refusal}
use Rattle.rules.specs.Ask.{Ask, done, octets, ◌>>=◌, over, past}
use Rattle.header.specs.Kind.{size}
use Rattle.header.specs.Frame.{Framing, unframed, framing_of, frame}
use Rattle.header.specs.declared.Located.{Located}
use Rattle.walk.specs.Judged.{Judged, fit, off, cut}
use Rattle.walk_judge.specs.Body.{check}
use Rattle.walk_judge.specs.declared.Verdict.{Verdict}
use Rattle.walk_judge.specs.declared.Verdict.TheVariants.{Fit, Off, Cut}

-- a framed record, by what its body check has found
abbrev pub ruled : Framing → ℕ → Judged
ruled f n = cond (eqb n 0) (fit f) (off n f.end)

-- a record whose frame f stands at the front
unfoldable pub verdict : Framing → Ask Judged
verdict f =
    cond (eqb f.head.number 0)
    (octets (size f.head.kind) f.head.stored λ b. done (ruled f (check f.head.kind f.head.subtype f.head.stored b)))
    (done (cut f.head.number))

-- the record at the front, where that is the offset at of the stream
unfoldable pub judge : ℕ → Ask Judged
judge at = frame at >>= verdict

-- the record at an offset
unfoldable pub judge_at : ℕ → Ask Judged
judge_at p = past p (judge p)

-- what each verdict says
abbrev pub judged : Verdict → Judged
judged (Fit f) = fit (framing_of f)
judged (Off r e) = off (number_of r) e
judged (Cut r) = cut (number_of r)

-- an answer in numbers: where the record starts, and its frame
pub record Judging : Type 0 where
  pub start : ℕ
  pub frame : Framing

-- a refusal has its number, and 0 in every other field
abbrev pub not_judged : ℕ → Judging
not_judged n = record { start = 0; frame = unframed n }

-- what each answer says
abbrev pub judging : Result Located Refusal → Judging
judging (Ok x) = record { start = x.start; frame = framing_of x.frame }
judging (Err r) = not_judged (number_of r)

abbrev pub judgement : ℕ → Judged → Judging
judgement at (fit f) = record { start = at; frame = f }
judgement at (off r e) = not_judged r
judgement at (cut r) = not_judged r

-- the judgement of the record at an offset of the stream s; an offset beyond it is 8
unfoldable pub judgement_at : List ℕ → ℕ → Judging
judgement_at s at = cond (ltb (length s) at) (not_judged 8) (judgement at (over (drop at s) (judge at)))
