use Rattle.std.proofs.Common.{sym, ◌∙◌, ap, not}
use Rattle.std.specs.Str.{bytes_eq}
use Rattle.m5_poly.proofs.Naming.{any_map, insert_map}
use Rattle.m5_poly.proofs.names.Names.add.Goals as goal

pub returns-clause-new : goal.returns-clause-new
returns-clause-new c =
    rw (← c.self.view_is, ← c.in_ok-from_slice.ensures.items) (c.in_ok-added.ensures.added ∙ ap not (sym (any_map (λ v. v.items) (bytes_eq _) c.self.inside.set.keys)))

pub returns-clause-names : goal.returns-clause-names
returns-clause-names c =
    rw (← c.self.view_is, ← c.in_ok-from_slice.ensures.items) (rw (any_map (λ v. v.items) (bytes_eq _) c.self.inside.set.keys, c.in_ok-added.ensures.keys) (insert_map (λ v. v.items) _ c.self.inside.set.keys c.in_ok-from_slice.field-0))
