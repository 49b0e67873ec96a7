-- Forms of two parts: direct calls of primitives, declarations, and what is made of two values.
use Rattle.std.proofs.Common.{◌≡◌, ℕ, Some, None, refl, sym, ap, ◌∙◌, subst}
use Rattle.m5_terms.specs.Expression.{Expression, leaf, unary, binary, ternary}
use Rattle.m5_terms.specs.Primitives.{primitive_type}
use Rattle.m5_terms.specs.Table.{entries, entered}
use Rattle.m5_terms.specs.declared.types.Primitive.{Primitive}
use Rattle.m5_terms.specs.declared.form.LeafForm.TheVariants as leaf_form
use Rattle.m5_terms.specs.declared.form.BinaryForm.{BinaryForm}
use Rattle.m5_terms.specs.declared.form.BinaryForm.TheVariants as binary_form
use Rattle.m5_typing.specs.Context.{Setting}
use Rattle.m5_cps.specs.TypeParts.{result_of, binary_whole}
use Rattle.m5_cps.specs.Blocks.{Code}
use Rattle.m5_cps.specs.Entries.{world_of}
use Rattle.m5_cps_convert.specs.Scopes.{Scope}
use Rattle.m5_cps_convert.specs.Continuations.{Continuation, Then}
use Rattle.m5_cps_convert.specs.Forms.{binary_end, variable_of}
use Rattle.m5_cps_convert.specs.Convert.{cps, type_in, called_directly, away_to, ask_code, binary_code}
use Rattle.m5_cps_convert.specs.declared.walk.Walk.{Walk}
use Rattle.m5_cps_convert.specs.declared.walk.Around.{Around}
use Rattle.m5_cps_convert.specs.declared.walk.Goal.{Goal}
use Rattle.m5_cps_convert.specs.declared.walk.Goal.TheVariants as goals
use Rattle.m5_cps_convert.specs.declared.walk.Value.{Value}
use Rattle.m5_cps_convert.specs.declared.lets.Inside.{Inside}
use Rattle.m5_cps_convert.specs.code.Types.{IsAt}
use Rattle.m5_cps_convert.specs.code.Writing.{Grows}
use Rattle.m5_cps_convert.specs.code.Knowing.{Knows}
use Rattle.m5_cps_convert.specs.code.Emitting.{Emits, EmitsWithin}
use Rattle.m5_cps_convert.specs.code.TwoParts.{WritesAsk, WritesTwo}
use Rattle.m5_cps_convert.specs.code.Lets.{let_scope, let_code, let_filled, BeginsLet}
use Rattle.m5_cps_convert.specs.code.Ways.{extern_of, IsLet, IsTwo}
use Rattle.m5_cps_convert.proofs.Growing.{grows_trans}
use Rattle.m5_cps_convert.proofs.Written.{completes_first, completes_rest}
use Rattle.m5_cps_convert.proofs.Known.{at_kept, knows_kept, knows_same}

-- the scope is known where a part was emitted
pub known_after : (u v : Walk) (at : Around) (E : Setting) (Γ : Scope) → Grows u v → Knows u.types (entries u.names) u.functions.items at E Γ
    → Knows v.types (entries v.names) v.functions.items at E Γ
known_after u v at E Γ g k =
    knows_same g.names (subst (λ F. Knows v.types (entries u.names) F at E Γ) (sym (ap (λ f. f.items) g.functions)) (knows_kept g.types k))

is_extern : (a : Expression) (p : Primitive) → extern_of a ≡ Some p → leaf (leaf_form.Extern p) ≡ a
is_extern (leaf (leaf_form.Extern q)) p e = ap (λ r. leaf (leaf_form.Extern r)) (let z : p ≡ q = cc in z)
is_extern (leaf (leaf_form.Var x)) p e = absurd (cc)
is_extern (leaf (leaf_form.Valid x)) p e = absurd (cc)
is_extern (leaf (leaf_form.Glob x)) p e = absurd (cc)
is_extern (leaf leaf_form.Unit) p e = absurd (cc)
is_extern (leaf (leaf_form.Bool x)) p e = absurd (cc)
is_extern (leaf (leaf_form.Int x)) p e = absurd (cc)
is_extern (leaf (leaf_form.Str x)) p e = absurd (cc)
is_extern (leaf (leaf_form.Addr x)) p e = absurd (cc)
is_extern (leaf leaf_form.Here) p e = absurd (cc)
is_extern (leaf (leaf_form.Nil x)) p e = absurd (cc)
is_extern (leaf (leaf_form.CellAt x y)) p e = absurd (cc)
is_extern (unary f b) p e = absurd (cc)
is_extern (binary f b c) p e = absurd (cc)
is_extern (ternary f b c d) p e = absurd (cc)

pub ask_emits : (u v x : Walk) (at : Around) (n : ℕ) (goal : Goal) (p : Primitive) (a b : Expression) (argument val : Value) → extern_of a ≡ Some p
    → Emits u v at n goals.Then b argument → WritesAsk v x at p argument goal val → Emits u x at n goal (binary binary_form.Call a b) val
ask_emits u v x at n goal p a b argument val e em w =
    subst (λ (i : Expression). Emits u x at n goal (binary binary_form.Call i b) val) (is_extern a p e)
    (record {
      grows = grows_trans em.grows w.grows;
      typed = λ E Γ k. w.typed;
      code = λ E Γ k T S κ q fo.
          em.code E Γ k T S (Then (λ y m. ask_code p (result_of (primitive_type p)) Γ y m κ)) (completes_first T S u v x w.grows q)
          ((λ y m. ask_code p (result_of (primitive_type p)) Γ y m κ), refl, w.goes Γ k.mode T S κ (completes_rest T S u v x em.grows q) fo);
    })

-- a declaration's code and type
record IsDeclaration (E : Setting) (f : BinaryForm) (a b : Expression) (Γ : Scope) : Type 0 where
  code : (n : ℕ) (κ : Continuation) → cps E (binary f a b) Γ n κ
      ≡ cps E a Γ n (Then (λ x m. let_code f x (cps E b (let_scope f (type_in E a Γ) x m Γ) (let_filled f m) κ)))
  whole : (x m : ℕ) → type_in E (binary f a b) Γ ≡ type_in E b (let_scope f (type_in E a Γ) x m Γ)

is_declaration : (E : Setting) (f : BinaryForm) (a b : Expression) (Γ : Scope) → IsLet f → IsDeclaration E f a b Γ
is_declaration E binary_form.Do a b Γ o = record { code = λ n κ. refl; whole = λ x m. refl }
is_declaration E (binary_form.Val y) a b Γ o = record { code = λ n κ. refl; whole = λ x m. refl }
is_declaration E (binary_form.Put y) a b Γ o = record { code = λ n κ. refl; whole = λ x m. refl }
is_declaration E (binary_form.Leta y) a b Γ o = record { code = λ n κ. refl; whole = λ x m. refl }
is_declaration E (binary_form.Lets y) a b Γ o = record { code = λ n κ. refl; whole = λ x m. refl }
is_declaration E binary_form.Call a b Γ o = absurd o
is_declaration E binary_form.Pair a b Γ o = absurd o
is_declaration E binary_form.Cons a b Γ o = absurd o
is_declaration E binary_form.Store a b Γ o = absurd o
is_declaration E binary_form.Get a b Γ o = absurd o
is_declaration E (binary_form.Binary p) a b Γ o = absurd o

pub let_emits : (u v w x : Walk) (at : Around) (n : ℕ) (goal : Goal) (f : BinaryForm) (a b : Expression) (first val : Value) (i : Inside) → IsLet f
    → Emits u v at n goals.Then a first → BeginsLet v w at f first i → EmitsWithin i.binding w x at i.filled goal b val → Emits u x at n goal (binary f a b) val
let_emits u v w x at n goal f a b first val i is ea l eb = record {
  grows = grows_trans ea.grows (grows_trans l.grows eb.grows);
  typed = λ E Γ k. subst (IsAt x.types val.ty) (sym ((is_declaration E f a b Γ is).whole first.slot first.filled)) (eb.typed E (scope E Γ) (known E Γ k));
  code = λ E Γ k T S κ q fo.
      let rest = completes_rest T S u v x ea.grows q in
      ea.code E Γ k T S (Then (λ y m. let_code f y (cps E b (let_scope f (type_in E a Γ) y m Γ) (let_filled f m) κ))) (completes_first T S u v x (grows_trans l.grows eb.grows) q) (
        (λ y m. let_code f y (cps E b (let_scope f (type_in E a Γ) y m Γ) (let_filled f m) κ)),
        refl,
        l.goes T S (cps E b (scope E Γ) (let_filled f first.filled) κ) (completes_first T S v w x eb.grows rest)
            (eb.code E (scope E Γ) (known E Γ k) T S κ (completes_rest T S v w x l.grows rest) fo ∙ ap (λ m. Some (cps E b (scope E Γ) m κ)) l.filled),
      )
      ∙ ap Some (sym ((is_declaration E f a b Γ is).code n κ));
}
  where
    scope : (E : Setting) (Γ : Scope) → Scope
    scope E Γ = let_scope f (type_in E a Γ) first.slot first.filled Γ

    known : (E : Setting) (Γ : Scope) → Knows u.types (entries u.names) u.functions.items at E Γ → Knows w.types (entered i.binding (entries w.names)) w.functions.items at E (scope E Γ)
    known E Γ k = l.known E Γ (type_in E a Γ) (ea.typed E Γ k) (known_after u v at E Γ ea.grows k)

-- the code and type of a form of two values
record IsOfTwo (E : Setting) (f : BinaryForm) (a b : Expression) (Γ : Scope) : Type 0 where
  code : (n : ℕ) (κ : Continuation) → binary_code None (away_to (world_of Γ.mode) a b) f (type_in E (binary f a b) Γ) (type_in E a Γ) (variable_of b) (cps E a) (cps E b) Γ n κ
      ≡ cps E a Γ n (Then (λ x m. cps E b Γ m (Then (λ y p. binary_end f (binary_whole f (type_in E a Γ) (type_in E b Γ)) Γ x y p κ))))
  whole : type_in E (binary f a b) Γ ≡ binary_whole f (type_in E a Γ) (type_in E b Γ)

is_of_two : (E : Setting) (f : BinaryForm) (a b : Expression) (Γ : Scope) → IsTwo f → IsOfTwo E f a b Γ
is_of_two E binary_form.Call a b Γ o = record { code = λ n κ. refl; whole = refl }
is_of_two E binary_form.Pair a b Γ o = record { code = λ n κ. refl; whole = refl }
is_of_two E binary_form.Cons a b Γ o = record { code = λ n κ. refl; whole = refl }
is_of_two E binary_form.Store a b Γ o = record { code = λ n κ. refl; whole = refl }
is_of_two E (binary_form.Binary p) a b Γ o = record { code = λ n κ. refl; whole = refl }
is_of_two E binary_form.Do a b Γ o = absurd o
is_of_two E binary_form.Get a b Γ o = absurd o
is_of_two E (binary_form.Val y) a b Γ o = absurd o
is_of_two E (binary_form.Put y) a b Γ o = absurd o
is_of_two E (binary_form.Leta y) a b Γ o = absurd o
is_of_two E (binary_form.Lets y) a b Γ o = absurd o

-- what follows the second value
abbrev pub last_code : Setting → BinaryForm → Expression → Expression → Scope → Continuation → ℕ → ℕ → ℕ → Code
last_code E f a b Γ κ x y n = binary_end f (binary_whole f (type_in E a Γ) (type_in E b Γ)) Γ x y n κ

pub two_emits : (u v w x : Walk) (at : Around) (n : ℕ) (goal : Goal) (f : BinaryForm) (a b : Expression) (first second val : Value) → IsTwo f → called_directly f a ≡ None
    → Emits u v at n goals.Then a first → Emits v w at first.filled goals.Then b second → WritesTwo w x f at first second goal val → Emits u x at n goal (binary f a b) val
two_emits u v w x at n goal f a b first second val is none ea eb h = record {
  grows = grows_trans ea.grows (grows_trans eb.grows h.grows);
  typed = λ E Γ k. subst (IsAt x.types val.ty) (sym (is_of_two E f a b Γ is).whole) (h.typed (type_in E a Γ) (type_in E b Γ) (first_at E Γ k) (eb.typed E Γ (known_after u v at E Γ ea.grows k)));
  code = λ E Γ k T S κ q fo.
      let k2 = known_after u v at E Γ ea.grows k in
      let rest = completes_rest T S u v x ea.grows q in
      ea.code E Γ k T S (Then (λ i m. cps E b Γ m (Then (last_code E f a b Γ κ i)))) (completes_first T S u v x (grows_trans eb.grows h.grows) q) (
        (λ i m. cps E b Γ m (Then (last_code E f a b Γ κ i))),
        refl,
        eb.code E Γ k2 T S (Then (last_code E f a b Γ κ first.slot)) (completes_first T S v w x h.grows rest)
            (last_code E f a b Γ κ first.slot, refl, h.goes (type_in E a Γ) (type_in E b Γ) (first_at E Γ k) (eb.typed E Γ k2) Γ k.mode T S κ (completes_rest T S v w x eb.grows rest) fo),
      )
      ∙ (ap Some (sym ((is_of_two E f a b Γ is).code n κ))
      ∙ ap (λ o. Some (binary_code o (away_to (world_of Γ.mode) a b) f (type_in E (binary f a b) Γ) (type_in E a Γ) (variable_of b) (cps E a) (cps E b) Γ n κ)) (sym none));
}
  where
    first_at : (E : Setting) (Γ : Scope) → Knows u.types (entries u.names) u.functions.items at E Γ → IsAt w.types first.ty (type_in E a Γ)
    first_at E Γ k = at_kept eb.grows.types (ea.typed E Γ k)
