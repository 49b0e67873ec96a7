use Rattle.std.proofs.Common.{ℕ, List, Option, Bor, ap, sym, ◌∙◌}
use Rattle.std.specs.Option.{option_map}
use Rattle.m5_scope.specs.Written.{type_of}
use Rattle.m5_scope.specs.Program.{primitive_of}
use Rattle.m5_scope.proofs.Externs.{no_primitive}
use Rattle.m5_scope.proofs.declare.primitive.Goals as goal

pub returns-in_default-extern_of : goal.returns-in_default-extern_of
returns-in_default-extern_of c =
    sym (ap (λ (n : Option (Bor (List ℕ))). primitive_of (option_map (λ x. x.now) n) (type_of c.args.ty.now) c.args.world) c.in-Some.is
    ∙ no_primitive c.in-Some.name.now (type_of c.args.ty.now) c.args.world c.in_default-extern_of.ensures)
