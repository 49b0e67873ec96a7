-- A value of a mobile type is typed at every world.
use Rattle.std.proofs.Common.{◌≡◌, Bool, true, false, IsTrue, ◌&&◌, refl, subst}
use Rattle.m5_terms.specs.Expression.{Expression, leaf, unary, binary, ternary}
use Rattle.m5_terms.specs.TypeExpression.{TypeExpression, list, mobile}
use Rattle.m5_terms.specs.Primitives.{primitive_type}
use Rattle.m5_terms.specs.declared.types.World.{World}
use Rattle.m5_terms.specs.declared.types.Primitive.{Primitive}
use Rattle.m5_terms.specs.declared.types.Primitive.TheVariants as primitive
use Rattle.m5_terms.specs.declared.form.LeafForm.{LeafForm}
use Rattle.m5_terms.specs.declared.form.LeafForm.TheVariants as leaf_form
use Rattle.m5_terms.specs.declared.form.UnaryForm.TheVariants as unary_form
use Rattle.m5_terms.specs.declared.form.BinaryForm.TheVariants as binary_form
use Rattle.m5_typing.specs.Value.{is_value, leaf_is_value}
use Rattle.m5_typing.specs.Context.{Setting, nothing}
use Rattle.m5_typing.specs.Rules.{LeafRule}
use Rattle.m5_typing.specs.Typing.{Typed}

pub both-left : (p q : Bool) → IsTrue (p && q) → IsTrue p
both-left true q e = refl
both-left false q e = e

pub both-right : (p q : Bool) → IsTrue (p && q) → IsTrue q
both-right true q e = e
both-right false q e = cc

is-mobile : (A B : TypeExpression) → A ≡ B → IsTrue (mobile A) → IsTrue (mobile B)
is-mobile A B e m = subst (λ C. IsTrue (mobile C)) e m

primitive-stays : (p : Primitive) → IsTrue (mobile (primitive_type p)) → ⊥
primitive-stays primitive.Say m = cc
primitive-stays _ m = cc

leaf-moves : (E : Setting) (f : LeafForm) (w u : World) (A : TypeExpression) → IsTrue (leaf_is_value f) → IsTrue (mobile A) → LeafRule E nothing w f A → LeafRule E nothing u f A
leaf-moves E leaf_form.Unit w u A p m d = d
leaf-moves E (leaf_form.Str s) w u A p m d = d
leaf-moves E (leaf_form.Addr v) w u A p m d = d
leaf-moves E (leaf_form.CellAt v n) w u A p m d = let q = is-mobile A _ d.4 m in cc
leaf-moves E (leaf_form.Int n) w u A p m d = d
leaf-moves E (leaf_form.Bool b) w u A p m d = d
leaf-moves E (leaf_form.Nil B) w u A p m d = d
leaf-moves E (leaf_form.Glob f) w u A p m d = let q = is-mobile A _ d.2 m in cc
leaf-moves E (leaf_form.Extern x) w u A p m d = absurd (primitive-stays x (is-mobile A _ d.1 m))
leaf-moves E _ w u A p m d = cc

pub moves : (E : Setting) (v : Expression) (w u : World) (A : TypeExpression) → IsTrue (is_value v) → IsTrue (mobile A) → Typed E nothing w v A → Typed E nothing u v A
moves E (leaf f) w u A p m d = (leaf-moves E f w u A p m d.0, d.1)
moves E (unary (unary_form.Fn x C) b) w u A p m d = let q = is-mobile A _ d.is m in cc
moves E (unary (unary_form.Rec f x C D) b) w u A p m d = let q = is-mobile A _ d.is m in cc
moves E (unary (unary_form.Inl T) a) w u A p m d = record { pick = d.pick; part = moves E a w u d.pick.a p (both-left (mobile d.pick.a) (mobile d.pick.b) (is-mobile A _ d.is m)) d.part; side = d.side; is = d.is; small = d.small }
moves E (unary (unary_form.Inr T) a) w u A p m d = record { pick = d.pick; part = moves E a w u d.pick.b p (both-right (mobile d.pick.a) (mobile d.pick.b) (is-mobile A _ d.is m)) d.part; side = d.side; is = d.is; small = d.small }
moves E (unary (unary_form.Held v) b) w u A p m d = record { pick = d.pick; part = d.part; side = d.side; is = d.is; small = d.small }
moves E (unary unary_form.Sham b) w u A p m d = record { pick = d.pick; part = d.part; side = d.side; is = d.is; small = d.small }
moves E (unary _ b) w u A p m d = cc
moves E (binary binary_form.Pair a b) w u A p m d =
    let q = is-mobile A _ d.is m in
    record {
      pick = d.pick;
      first = moves E a w u d.pick.a (both-left (is_value a) (is_value b) p) (both-left (mobile d.pick.a) (mobile d.pick.b) q) d.first;
      second = moves E b w u d.pick.b (both-right (is_value a) (is_value b) p) (both-right (mobile d.pick.a) (mobile d.pick.b) q) d.second;
      side = tt;
      is = d.is;
      small = d.small;
    }
moves E (binary binary_form.Cons a b) w u A p m d =
    let q = is-mobile A _ d.is m in
    record {
      pick = d.pick;
      first = moves E a w u d.pick.a (both-left (is_value a) (is_value b) p) q d.first;
      second = moves E b w u (list d.pick.a) (both-right (is_value a) (is_value b) p) q d.second;
      side = tt;
      is = d.is;
      small = d.small;
    }
moves E (binary _ a b) w u A p m d = cc
moves E (ternary f a b c) w u A p m d = cc
