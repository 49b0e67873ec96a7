-- Which way a form of two parts goes.
use Rattle.std.specs.Prelude.{◌≡◌, Option, Some, None}
use Rattle.m5_terms.specs.Expression.{Expression, leaf}
use Rattle.m5_terms.specs.declared.types.Primitive.{Primitive}
use Rattle.m5_terms.specs.declared.form.LeafForm.TheVariants as leaf_form
use Rattle.m5_terms.specs.declared.form.BinaryForm.{BinaryForm}
use Rattle.m5_terms.specs.declared.form.BinaryForm.TheVariants as binary_form
use Rattle.m5_cps_convert.specs.Convert.{called_directly}
use Rattle.m5_cps_convert.specs.declared.ways.Way.{Way}
use Rattle.m5_cps_convert.specs.declared.ways.Way.TheVariants as ways

abbrev pub extern_of : Expression → Option Primitive
extern_of (leaf (leaf_form.Extern p)) = Some p
extern_of e = None

abbrev pub IsLet : BinaryForm → Type 0
IsLet binary_form.Do = Unit {0}
IsLet (binary_form.Val x) = Unit {0}
IsLet (binary_form.Put x) = Unit {0}
IsLet (binary_form.Leta x) = Unit {0}
IsLet (binary_form.Lets x) = Unit {0}
IsLet f = ⊥

abbrev pub IsTwo : BinaryForm → Type 0
IsTwo binary_form.Call = Unit {0}
IsTwo binary_form.Pair = Unit {0}
IsTwo binary_form.Cons = Unit {0}
IsTwo binary_form.Store = Unit {0}
IsTwo (binary_form.Binary o) = Unit {0}
IsTwo f = ⊥

abbrev pub IsWay : BinaryForm → Expression → Way → Type 0
IsWay f a (ways.Ask p) = (f ≡ binary_form.Call) × (extern_of a ≡ Some p)
IsWay f a ways.Pairs = f ≡ binary_form.Pair
IsWay f a ways.Get = f ≡ binary_form.Get
IsWay f a ways.Let = IsLet f
IsWay f a ways.Two = IsTwo f × (called_directly f a ≡ None)
