-- Tables of bounds as contexts, and entries that are put back.
use Rattle.std.proofs.Common.{◌≡◌, ◌==◌, ◌+◌, ◌≤◌, ℕ, zero, suc, ◌<◌, cond, Bool, true, false, List, [], ◌∷◌, ◌++◌, Option, Some, None, length, get_or, set, refl, ap, sym, ◌∙◌, subst, inl, inr, arith}
use Rattle.std.proofs.lemmas.Bool.Decides.{eqb_tells}
use Rattle.m5_terms.specs.declared.form.UnaryForm.{UnaryForm}
use Rattle.m5_terms.specs.declared.form.UnaryForm.TheVariants as unary_form
use Rattle.m5_terms.specs.TypeExpression.{TypeExpression}
use Rattle.m5_terms.specs.declared.types.World.{World}
use Rattle.m5_terms.specs.Table.{entries, put}
use Rattle.m5_typing.specs.Context as typing
use Rattle.m5_typing.specs.Context.{Context, with, if_valid, valid_part}
use Rattle.m5_typing.specs.Typing.{part_context}
use Rattle.m5_elaborate.specs.declared.names.Bound.{Bound}
use Rattle.m5_elaborate.specs.declared.names.Bound.TheVariants.{Local, Valid}
use Rattle.m5_terms.specs.declared.table.Binding.{Binding}
use Rattle.m5_terms.specs.declared.table.Binding.TheVariants.{Nothing, One, Two}
use Rattle.m5_elaborate.specs.declared.names.Entry.{Entry}
use Rattle.m5_elaborate.specs.Names.{Entries, IsBare, entry, entered, context, seen, seen_bound, bound_of, under, IsShallow, depth_of, part_depth}

seen_here : (depth : ℕ) (b : Bound) → seen depth (entry depth b) ≡ Some (bound_of b)
seen_here depth (Valid A) = refl
seen_here depth (Local w A) =
    elim (eqb_tells depth depth) [
      | inl p ↦ ap (λ t. cond t (Some (typing.local w A)) None) p.0
      | inr p ↦ absurd (p.1 refl)
    ]

seen_either : (depth : ℕ) (t : Bool) (e o : Option Entry) → seen depth (cond t e o) ≡ cond t (seen depth e) (seen depth o)
seen_either depth true e o = refl
seen_either depth false e o = refl

-- what is bound at this depth is known
context_put : (depth : ℕ) (x : ℕ) (b : Bound) (s : Entries) → context depth (put x (entry depth b) s) ≡ with x (Some (bound_of b)) (context depth s)
context_put depth x b s = λ i y. (seen_either depth (y == x) (entry depth b) (s y) ∙ ap (λ o. cond (y == x) o (seen depth (s y))) (seen_here depth b)) i

pub context_entered : (depth : ℕ) (b : Binding Bound) (s : Entries) → context depth (entered depth b s) ≡ under b (context depth s)
context_entered depth Nothing s = refl
context_entered depth (One x b) s = context_put depth x b s
context_entered depth (Two x b y c) s = context_put depth x b (put y (entry depth c) s) ∙ ap (λ G. with x (Some (bound_of b)) G) (context_put depth y c s)

shallow_either : (depth : ℕ) (t : Bool) (e o : Option Entry) → depth_of e ≤ depth → depth_of o ≤ depth → depth_of (cond t e o) ≤ depth
shallow_either depth true e o h k = h
shallow_either depth false e o h k = k

shallow_put : (depth x : ℕ) (b : Bound) (s : Entries) → IsShallow depth s → IsShallow depth (put x (entry depth b) s)
shallow_put depth x b s h = record { all = λ y. shallow_either depth (y == x) (entry depth b) (s y) (omega arith) (h.all y) }

pub shallow_entered : (depth : ℕ) (b : Binding Bound) (s : Entries) → IsShallow depth s → IsShallow depth (entered depth b s)
shallow_entered depth Nothing s h = h
shallow_entered depth (One x b) s h = shallow_put depth x b s h
shallow_entered depth (Two x b y c) s h = shallow_put depth x b _ (shallow_put depth y c s h)

no_local : (t : Bool) (w : World) (A : TypeExpression) → if_valid (cond t (Some (typing.local w A)) None) ≡ None
no_local true w A = refl
no_local false w A = refl

hidden_bound : (depth own : ℕ) (b : Bound) → own ≤ depth → seen_bound (depth + 1) own b ≡ if_valid (seen_bound depth own b)
hidden_bound depth own (Valid A) h = refl
hidden_bound depth own (Local w A) h =
    elim (eqb_tells own (depth + 1)) [
      | inl p ↦ absurd (omega (arith, p.1))
      | inr p ↦ ap (λ t. cond t (Some (typing.local w A)) None) p.0 ∙ sym (no_local (own == depth) w A)
    ]

hidden : (depth : ℕ) (o : Option Entry) → depth_of o ≤ depth → seen (depth + 1) o ≡ if_valid (seen depth o)
hidden depth None h = refl
hidden depth (Some e) h = hidden_bound depth e.depth e.bound h

-- inside `sham` the local names from outside are not seen
pub context_part : (f : UnaryForm) (depth : ℕ) (s : Entries) → IsShallow depth s → context (part_depth f depth) s ≡ part_context f (context depth s)
context_part unary_form.Sham depth s h = λ i y. hidden depth (s y) (h.all y) i
context_part _ depth s h = refl

pub shallow_part : (f : UnaryForm) (depth : ℕ) (s : Entries) → IsShallow depth s → IsShallow (part_depth f depth) s
shallow_part unary_form.Sham depth s h = record { all = λ y. omega (arith, h.all y) }
shallow_part _ depth s h = h

pub depth_part : (f : UnaryForm) (depth : ℕ) → part_depth f depth ≤ depth + 1
depth_part unary_form.Sham depth = omega arith
depth_part _ depth = omega arith

pub shallow_same : (depth : ℕ) (s r : Entries) → r ≡ s → IsShallow depth s → IsShallow depth r
shallow_same depth s r e h = subst (λ t. IsShallow depth t) (sym e) h

none_known : (y : ℕ) → context 0 (entries []) y ≡ typing.nothing y
none_known zero = refl
none_known (suc y) = refl

none_deep : (y : ℕ) → depth_of (entries [] y) ≤ 0
none_deep zero = omega arith
none_deep (suc y) = omega arith

-- a table without entries knows nothing
pub bare_table : (t : List (Option Entry)) → t ≡ [] → IsBare (entries t)
bare_table t e = subst (λ l. IsBare (entries l)) (sym e) (record { known = λ i y. none_known y i; shallow = record { all = none_deep } })

pub bare_same : (s r : Entries) → r ≡ s → IsBare s → IsBare r
bare_same s r e h = subst (λ t. IsBare t) (sym e) h

pub inside_binders : (depth : ℕ) (b : Binding Bound) (s r : Entries) → r ≡ entered depth b s → context depth r ≡ under b (context depth s)
inside_binders depth b s r e = ap (λ t. context depth t) e ∙ context_entered depth b s

pub shallow_inside : (depth : ℕ) (b : Binding Bound) (s r : Entries) → r ≡ entered depth b s → IsShallow depth s → IsShallow depth r
shallow_inside depth b s r e h = shallow_same depth (entered depth b s) r e (shallow_entered depth b s h)
