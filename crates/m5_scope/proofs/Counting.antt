-- A resolved term is one that a text has, and has the nodes of the expression.
use Rattle.std.proofs.Common.{◌≡◌, ℕ, ◌+◌, Bool, true, false, cond, leb, IsTrue, pos, Option, Some, None, List, ◌++◌, length, refl, arith}
use Rattle.std.proofs.lemmas.List.{length-append}
use Rattle.std.specs.List.{list_all}
use Rattle.m5_lex.specs.declared.place.Place.{Place}
use Rattle.m5_terms.specs.Text.{text_byte}
use Rattle.m5_terms.specs.TypeExpression.{type_node_count}
use Rattle.m5_tree.specs.TypeSyntax.{TypeSyntax, plain, wrapped, joined}
use Rattle.m5_tree.specs.declared.form.TypePlain.TheVariants as plain_form
use Rattle.m5_tree.specs.declared.form.TypeWrap.TheVariants as wrap_form
use Rattle.m5_tree.specs.declared.form.TypeJoin.TheVariants as join_form
use Rattle.m5_scope.specs.Written.{type_of}
use Rattle.m5_tree.specs.Syntax as syntax
use Rattle.m5_tree.specs.declared.form.LeafForm as tree_leaf
use Rattle.m5_tree.specs.declared.form.LeafForm.TheVariants as leaf_tree
use Rattle.m5_tree.specs.declared.form.UnaryForm as tree_unary
use Rattle.m5_tree.specs.declared.form.UnaryForm.TheVariants as unary_tree
use Rattle.m5_terms.specs.declared.form.LeafForm.{LeafForm}
use Rattle.m5_scope.specs.Places.{type_places, leaf_places, unary_places, places}
use Rattle.m5_scope.specs.Meaning.{Scope, entered}
use Rattle.m5_scope.specs.declared.meaning.Meaning.{Meaning}
use Rattle.m5_scope.specs.declared.meaning.Meaning.TheVariants as means
use Rattle.m5_scope.specs.Forms.{unary_resolved, unary_binding, unary_count, binary_binding, binary_count, second_binding, third_binding, second_count, third_count}
use Rattle.m5_terms.specs.InText.{leaf_type_nodes, unary_type_nodes, leaf_in_text, unary_in_text}
use Rattle.m5_raw.specs.InText.{written_nodes, in_text}
use Rattle.m5_terms.specs.declared.form.LeafForm.TheVariants as leaf_form
use Rattle.m5_scope.specs.declared.end.ScopeEnd.TheVariants.{Memory}
use Rattle.m5_terms.specs.Outcome.{found, fault, and_then}
use Rattle.m5_scope.specs.Resolving.{binders, Outcome, named, leaf_resolved, resolved}
use Rattle.m5_raw.specs.Resolved.{Resolved}

-- a type has as many nodes as the written one
pub type_counts : (t : TypeSyntax) → type_node_count (type_of t) ≡ length (type_places t)
type_counts (plain p plain_form.Unit) = refl
type_counts (plain p plain_form.Bool) = refl
type_counts (plain p plain_form.Int) = refl
type_counts (plain p plain_form.Str) = refl
type_counts (plain p (plain_form.Addr w)) = refl
type_counts (wrapped p wrap_form.List a) = omega (arith, type_counts a)
type_counts (wrapped p wrap_form.Cell a) = omega (arith, type_counts a)
type_counts (wrapped p wrap_form.Sham a) = omega (arith, type_counts a)
type_counts (wrapped p (wrap_form.At w) a) = omega (arith, type_counts a)
type_counts (joined p join_form.Prod a b) = omega (arith, type_counts a, type_counts b, length-append (type_places a) (type_places b))
type_counts (joined p join_form.Sum a b) = omega (arith, type_counts a, type_counts b, length-append (type_places a) (type_places b))
type_counts (joined p join_form.Fun a b) = omega (arith, type_counts a, type_counts b, length-append (type_places a) (type_places b))

-- what holds of an answer, where there is one
abbrev pub Holds : {A : Type 0} → (A → Type 0) → Outcome A → Type 0
Holds P (found x) = P x
Holds P (fault e) = Unit {0}

pub holds_then : {A B : Type 0} (P : A → Type 0) (Q : B → Type 0) (o : Outcome A) (f : A → Outcome B) → Holds P o → ((x : A) → P x → Holds Q (f x)) → Holds Q (and_then o f)
holds_then P Q (found x) f h next = next x h
holds_then P Q (fault e) f h next = tt

-- it has so many nodes and only forms that a text has
pub record IsWritten (count : ℕ) (e : Resolved) : Type 0 where
  pub nodes : written_nodes e ≡ count
  pub text : IsTrue (in_text e)

pub record IsLeaf (count : ℕ) (f : LeafForm) : Type 0 where
  pub nodes : leaf_type_nodes f ≡ count
  pub text : IsTrue (leaf_in_text f)

named_written : (at : Place) (m : Option Meaning) → Holds (IsLeaf 0) (named at m)
named_written at None = tt
named_written at (Some (means.Var n)) = record { nodes = refl; text = refl }
named_written at (Some (means.Valid n)) = record { nodes = refl; text = refl }
named_written at (Some (means.Glob n)) = record { nodes = refl; text = refl }
named_written at (Some (means.Extern p)) = record { nodes = refl; text = refl }

text_written : (t : List ℕ) (b : Bool) → list_all text_byte t ≡ b → Holds (IsLeaf 0) (cond b (found (leaf_form.Str t)) (fault Memory))
text_written t true h = record { nodes = refl; text = h }
text_written t false h = tt

leaf_written : (s : Scope) (at : Place) (f : tree_leaf.LeafForm) → Holds (IsLeaf (length (leaf_places f))) (leaf_resolved s at f)
leaf_written s at (leaf_tree.Name x) = named_written at (s x)
leaf_written s at (leaf_tree.Number n) = elim (leb n 9223372036854775807) as (λ b. Holds (IsLeaf 0) (cond b (found (leaf_form.Int (pos n))) (fault Memory))) [ true ↦ record { nodes = refl; text = refl } | false ↦ tt ]
leaf_written s at (leaf_tree.Str t) = text_written t (list_all text_byte t) refl
leaf_written s at (leaf_tree.Bool b) = record { nodes = refl; text = refl }
leaf_written s at leaf_tree.Unit = record { nodes = refl; text = refl }
leaf_written s at (leaf_tree.Addr w) = record { nodes = refl; text = refl }
leaf_written s at leaf_tree.Here = record { nodes = refl; text = refl }
leaf_written s at (leaf_tree.Nil t) = record { nodes = type_counts t; text = refl }

unary_counts : (n : ℕ) (f : tree_unary.UnaryForm) → unary_type_nodes (unary_resolved n f) ≡ length (unary_places f)
unary_counts n (unary_tree.Fn x t) = type_counts t
unary_counts n (unary_tree.Rec f x t u) = omega (arith, type_counts t, type_counts u, length-append (type_places t) (type_places u))
unary_counts n (unary_tree.Inl t) = type_counts t
unary_counts n (unary_tree.Inr t) = type_counts t
unary_counts n _ = refl

unary_text : (n : ℕ) (f : tree_unary.UnaryForm) → unary_in_text (unary_resolved n f) ≡ true
unary_text n (unary_tree.Fn x t) = refl
unary_text n _ = refl

-- a resolved term has the nodes of its expression
pub resolved_written : (s : Scope) (n : ℕ) (e : syntax.Syntax) → Holds (IsWritten (length (places e))) (resolved s n e)
resolved_written s n (syntax.leaf at f) =
    holds_then (IsLeaf (length (leaf_places f))) (IsWritten (length (places (syntax.leaf at f)))) (leaf_resolved s at f) _ (leaf_written s at f)
    (λ g h. record { nodes = omega (arith, h.nodes); text = h.text })
resolved_written s n (syntax.unary at f a) =
    holds_then (IsWritten (length (places a))) (IsWritten (length (places (syntax.unary at f a)))) _ _
    (resolved_written (entered s (unary_binding n f)) (n + unary_count f) a)
    (λ x h. record { nodes = omega (arith, h.nodes, unary_counts n f, length-append (unary_places f) (places a)); text = grind (arith, unary_text n f, h.text) })
resolved_written s n (syntax.binary at f a b) =
    holds_then (IsWritten (length (places a))) (IsWritten (length (places (syntax.binary at f a b)))) _ _
    (resolved_written s (n + binary_count f) a)
    (λ x h. holds_then (IsWritten (length (places b))) (IsWritten (length (places (syntax.binary at f a b)))) _ _
    (resolved_written (entered s (binary_binding n f)) (n + binary_count f + binders a) b)
    (λ y k. record { nodes = omega (arith, h.nodes, k.nodes, length-append (places a) (places b)); text = grind (arith, h.text, k.text) }))
resolved_written s n (syntax.ternary at f a b c) =
    let m = n + binders a in
    let j = m + second_count f + binders b in
    holds_then (IsWritten (length (places a))) (IsWritten (length (places (syntax.ternary at f a b c)))) _ _ (resolved_written s n a)
    (λ x h. holds_then (IsWritten (length (places b))) (IsWritten (length (places (syntax.ternary at f a b c)))) _ _
    (resolved_written (entered s (second_binding m f)) (m + second_count f) b)
    (λ y k. holds_then (IsWritten (length (places c))) (IsWritten (length (places (syntax.ternary at f a b c)))) _ _
    (resolved_written (entered s (third_binding j f)) (j + third_count f) c)
    (λ z l. record { nodes = omega (arith, h.nodes, k.nodes, l.nodes, length-append (places a) (places b ++ places c), length-append (places b) (places c)); text = grind (arith, h.text, k.text, l.text) })))
