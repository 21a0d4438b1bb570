-- What each answer of the walk says, in numbers (01, Refusal numbers; Walk, confirmation, scan).
use Rattle.std.specs.Prelude.{ℕ, Option, Some, None}
use Rattle.answer.specs.Refusal.{number_of}
use Rattle.header.specs.Frame.{framing_of}
use Rattle.walk.specs.Evidence.{evidence_number}
use Rattle.walk.specs.Step.{Answer, handed, gap, end, refused, passed, failed}
use Rattle.walk.specs.Step as rule
use Rattle.walk.specs.declared.Walk.{Walk}
use Rattle.walk_step.specs.declared.WalkAnswer.{WalkAnswer}
use Rattle.walk_step.specs.declared.WalkAnswer.TheVariants.{Record, Gap, End, Window, Refused}
use Rattle.walk_step.specs.declared.Stepped.{Stepped}

-- a window refusal is 11, with where the scan started, its window and the number of the record there
abbrev pub said : WalkAnswer → Answer
said (Record x) = handed x.start (framing_of x.frame)
said (Gap a e r v c) = gap a e (number_of r) (evidence_number v) c
said (End a) = end a
said (Window a w r) = refused 11 a w (number_of r)
said (Refused r) = refused (number_of r) 0 0 0

abbrev pub stepped : Stepped → rule.Stepped
stepped x = record { walk = x.walk; answer = said x.answer }

-- what a call on a lent walk leaves and says
abbrev pub left : Walk × WalkAnswer → rule.Stepped
left x = record { walk = x.0; answer = said x.1 }

-- what the try at a record's own end says
abbrev pub tried : Option ℕ → rule.Tried
tried (Some m) = passed m
tried None = failed
