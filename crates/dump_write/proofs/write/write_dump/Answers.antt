use mathlib.Core.Path.{◌≡◌}
use native.Mathlib.Omega.{arith}
use Rattle.std.specs.Prelude.{Some}
use Rattle.std.proofs.lemmas.Result.{err_from_is_err_and}
use Rattle.octets_address.specs.Address.{address_size, nonzero}
use Rattle.octets_address.proofs.Addresses.{found_size}
use Rattle.dump_write.proofs.Answers.{large-bits, large_as, large_count, write_full, write_done}
use Rattle.dump_write.proofs.write.write_dump.Goals as goal

pub returns-then-x-d : goal.returns-then-x-d
returns-then-x-d c = record { answer = large-bits _ _ _ _ (grind arith) c.if-x-d.true }

pub returns-in_err-asn : goal.returns-in_err-asn
returns-in_err-asn c =
    let p = err_from_is_err_and c.from_residual-in_err-asn.result c.from_residual-in_err-asn.ensures.1 in
    rw (p.1, p.2) (record { answer = large_as _ _ _ _ (grind arith) c.if-x-d.false c.in_err-asn.field-0.0 c.in_err-asn.ensures })

pub returns-in_err-count : goal.returns-in_err-count
returns-in_err-count c =
    let p = err_from_is_err_and c.from_residual-in_err-count.result c.from_residual-in_err-count.ensures.1 in
    rw (p.1, p.2) (record {
      answer = large_count _ _ _ _ (grind arith) c.if-x-d.false c.in_ok-asn.ensures c.in_err-count.field-0.0 c.in_err-count.ensures;
    })

pub returns-then-out-start : goal.returns-then-out-start
returns-then-out-start c = record {
  answer =
      write_full _ _ _ _ (grind arith) c.if-x-d.false c.in_ok-asn.ensures c.in_ok-count.ensures c.if-out-start.true;
}

pub put_fields-requires : goal.put_fields-requires
put_fields-requires c =
    let e : Some c.in_ok-x.x ≡ nonzero (address_size c.args.subtype) = grind arith in
    (found_size _ e, omega (arith, c.if-out-start.false), c.in_ok-asn.ensures.0)

pub returns : goal.returns
returns c = record {
  answer =
      write_done _ _ _ _ (grind arith) c.if-x-d.false c.in_ok-asn.ensures c.in_ok-count.ensures c.if-out-start.false c.put_fields.ensures
      c.put_octets.ensures;
}
