use Rattle.std.proofs.Common.{arith}
use Rattle.m5_poly.proofs.Naming.{instance_is_name}
use Rattle.m5_poly.proofs.write.instance_token.Goals as goal

pub returns-clause-form : goal.returns-clause-form
returns-clause-form c =
    rw (c.in_ok-of.ensures, c.as_slice.ensures.value, c.in_ok-put_number.ensures, c.in_ok-extend_from_slice.ensures.items, c.in_ok-bytes.ensures.items)
    (instance_is_name c.args.name.now c.args.number c.requires (omega arith))
