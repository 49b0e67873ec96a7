use Rattle.std.proofs.Common.{◌∙◌, ap}
use Rattle.m5_poly.specs.Uses.{key_of}
use Rattle.m5_poly.specs.Expansion.{number_of}
use Rattle.m5_poly.proofs.write.number_of.Goals as goal

pub returns : goal.returns
returns c =
    c.number_of.ensures
    ∙ ap (λ key. number_of c.args.made.now c.args.generic key)
    (c.as_slice-2.ensures.value ∙ c.in_ok-key.ensures
    ∙ ap (λ name. key_of name c.as_slice.result.now) c.bytes.ensures.bytes
    ∙ ap (λ arguments. key_of c.args.naming.now.name arguments) (c.as_slice.ensures.value ∙ c.in_ok-arguments.ensures))
