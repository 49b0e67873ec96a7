-- The resolved term of an expression in a scope, or the first fault in it.
use Rattle.std.specs.Prelude.{ℕ, ◌+◌, nat_le, if◌then◌else◌, pos, Option, Some, None}
use Rattle.std.specs.List.{list_all}
use Rattle.m5_lex.specs.declared.place.Place.{Place}
use Rattle.m5_terms.specs.Text.{text_byte}
use Rattle.m5_terms.specs.Outcome as outcome
use Rattle.m5_terms.specs.Outcome.{found, fault, and_then}
use Rattle.m5_terms.specs.declared.form.LeafForm.{LeafForm}
use Rattle.m5_terms.specs.declared.form.LeafForm.TheVariants as leaf_form
use Rattle.m5_tree.specs.declared.form.LeafForm as tree_leaf
use Rattle.m5_tree.specs.declared.form.LeafForm.TheVariants as leaf_tree
use Rattle.m5_tree.specs.Syntax as syntax
use Rattle.m5_scope.specs.Written.{type_of}
use Rattle.m5_scope.specs.Meaning.{Scope, entered, use_of}
use Rattle.m5_scope.specs.Forms.{unary_resolved, unary_binding, unary_count, binary_resolved, binary_binding, binary_count, ternary_resolved, second_binding, third_binding, second_count, third_count}
use Rattle.m5_raw.specs.Resolved.{Resolved, leaf, unary, binary, ternary}
use Rattle.m5_scope.specs.declared.meaning.Meaning.{Meaning}
use Rattle.m5_scope.specs.declared.end.ScopeEnd.{ScopeEnd}
use Rattle.m5_scope.specs.declared.end.ScopeEnd.TheVariants.{Unbound, Memory}

-- a resolved part, or the first fault of names
abbrev pub Outcome : Type 0 → Type 0
Outcome A = outcome.Outcome A ScopeEnd

-- wanting memory may end anything, and else the first fault does
abbrev pub IsFault : {A : Type 0} → Outcome A → ScopeEnd → Type 0
IsFault o e = outcome.IsFault Memory o e

-- the number of binders
abbrev pub binders : syntax.Syntax → ℕ
binders (syntax.leaf at f) = 0
binders (syntax.unary at f a) = unary_count f + binders a
binders (syntax.binary at f a b) = binary_count f + (binders a + binders b)
binders (syntax.ternary at f a b c) = binders a + (second_count f + (binders b + (third_count f + binders c)))

abbrev pub named : Place → Option Meaning → Outcome LeafForm
named at None = fault (Unbound at)
named at (Some m) = found (use_of m)

-- a text has no number and no byte that is looked for here in vain
abbrev pub leaf_resolved : Scope → Place → tree_leaf.LeafForm → Outcome LeafForm
leaf_resolved s at (leaf_tree.Name x) = named at (s x)
leaf_resolved s at (leaf_tree.Number n) = if nat_le n 9223372036854775807 then found (leaf_form.Int (pos n)) else fault Memory
leaf_resolved s at (leaf_tree.Str t) = if list_all text_byte t then found (leaf_form.Str t) else fault Memory
leaf_resolved s at (leaf_tree.Bool b) = found (leaf_form.Bool b)
leaf_resolved s at leaf_tree.Unit = found leaf_form.Unit
leaf_resolved s at (leaf_tree.Addr w) = found (leaf_form.Addr w)
leaf_resolved s at leaf_tree.Here = found leaf_form.Here
leaf_resolved s at (leaf_tree.Nil t) = found (leaf_form.Nil (type_of t))

-- parts are resolved from left to right, each from the number on that its binders' predecessors leave
abbrev pub resolved : Scope → ℕ → syntax.Syntax → Outcome Resolved
resolved s n (syntax.leaf at f) = and_then (leaf_resolved s at f) (λ g. found (leaf at g))
resolved s n (syntax.unary at f a) =
    and_then (resolved (entered s (unary_binding n f)) (n + unary_count f) a) (λ x. found (unary at (unary_resolved n f) x))
resolved s n (syntax.binary at f a b) =
    and_then (resolved s (n + binary_count f) a)
    (λ x. and_then (resolved (entered s (binary_binding n f)) (n + binary_count f + binders a) b)
    (λ y. found (binary at (binary_resolved n f) x y)))
resolved s n (syntax.ternary at f a b c) =
    let m = n + binders a in
    let k = m + second_count f + binders b in
    and_then (resolved s n a)
    (λ x. and_then (resolved (entered s (second_binding m f)) (m + second_count f) b)
    (λ y. and_then (resolved (entered s (third_binding k f)) (k + third_count f) c)
    (λ z. found (ternary at (ternary_resolved m k f) x y z))))
