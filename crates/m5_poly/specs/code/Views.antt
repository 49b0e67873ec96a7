-- What the code's records of declarations and uses stand for.
use Rattle.m5_poly.specs.declared.uses.Scope.{Scope as ScopeOf}
use Rattle.m5_poly.specs.declared.uses.Bracketed.{Bracketed as BracketedOf}
use Rattle.m5_poly.specs.declared.sections.Generic.{Generic as GenericOf}
use Rattle.m5_poly.specs.Survey.{Generic}
use Rattle.m5_poly.specs.Uses.{Scope, Bracketed}

abbrev pub scope_of : ScopeOf → Scope
scope_of s = record { before = s.before; inside = s.inside; variables = s.variables.now; arguments = s.arguments.now }

abbrev pub bracketed_of : BracketedOf → Bracketed
bracketed_of u = record { name = u.name; content = u.content.now }

abbrev pub generic_of : GenericOf → Generic
generic_of g = record { mark = g.mark.now; variables = g.variables; tilde = g.tilde.now; own = g.own.now; name = g.name; rest = g.rest.now }
