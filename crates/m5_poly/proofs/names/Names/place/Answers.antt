use Rattle.std.proofs.Common.{sym, ◌∙◌}
use Rattle.std.specs.Str.{bytes_eq}
use Rattle.m5_poly.proofs.Naming.{place_map}
use Rattle.m5_poly.proofs.names.Names.place.Goals as goal

pub returns : goal.returns
returns c = rw (← c.self.view_is) (c.get_index_of.ensures.index ∙ sym (place_map (λ v. v.items) (bytes_eq _) c.self.inside.set.keys))
