use mathlib.Core.Path.{sym, ◌∙◌}
use Rattle.std.proofs.lemmas.Result.{err_from_is_err_and}
use Rattle.dump_read.proofs.Bodies.{dump_unmet, size_there, front_there, dump-met}
use Rattle.dump_read.proofs.body.read_dump.Goals as goal

pub returns-in_err-check_dump : goal.returns-in_err-check_dump
returns-in_err-check_dump c =
    let p = err_from_is_err_and c.from_residual.result c.from_residual.ensures.1 in
    rw (p.1, p.2) (record { answer = dump_unmet _ _ c.in_err-check_dump.field-0.0 c.in_err-check_dump.ensures.answer })

pub unwrap-x-requires : goal.unwrap-x-requires
unwrap-x-requires c = size_there _ _ c.in_ok-check_dump.ensures.answer _ c.address_size.ensures.answer

pub fields-requires : goal.fields-requires
fields-requires c =
    front_there _ _ c.in_ok-check_dump.ensures.answer (sym c.unwrap-x.ensures ∙ c.address_size.ensures.answer)

pub returns : goal.returns
returns c = record {
  answer = dump-met _ _ c.in_ok-check_dump.ensures.answer (sym c.unwrap-x.ensures ∙ c.address_size.ensures.answer) c.fields.ensures;
}
