use Rattle.std.proofs.Common.{sym, ◌∙◌}
use Rattle.std.specs.Str.{bytes_eq}
use Rattle.m5_poly.proofs.Naming.{any_map}
use Rattle.m5_poly.proofs.names.Names.has.Goals as goal

pub returns : goal.returns
returns c = rw (← c.self.view_is) (c.contains.ensures ∙ sym (any_map (λ v. v.items) (bytes_eq _) c.self.inside.set.keys))
