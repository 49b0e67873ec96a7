-- What is read back to an address.
use Rattle.std.proofs.Common.{◌≡◌, inl, inr, sym, ap}
use Rattle.m5_terms.specs.Expression.{Expression, leaf, unary, binary}
use Rattle.m5_terms.specs.declared.types.World.{World}
use Rattle.m5_terms.specs.declared.form.LeafForm.{LeafForm}
use Rattle.m5_terms.specs.declared.form.LeafForm.TheVariants as leaf_form
use Rattle.m5_terms.specs.declared.form.UnaryForm.{UnaryForm}
use Rattle.m5_terms.specs.declared.form.BinaryForm.{BinaryForm}
use Rattle.m5_meaning.specs.Site.{Program}
use Rattle.m5_cps.specs.Entries.{by_value, by_call}
use Rattle.m5_cps.specs.Values.{Wrap, Join, atom, wrap, join, closed, enter, put}
use Rattle.m5_cps.specs.Values as value
use Rattle.m5_cps.specs.Captured.{over, Value}
use Rattle.m5_cps_convert.specs.Slots.{SVal}
use Rattle.m5_cps_convert.specs.Reading.{Reads}

no_unary : {A : Type 0} {f : LeafForm} {g : UnaryForm} {x : Expression} → leaf f ≡ unary g x → A
no_unary e = absurd (cc)

no_binary : {A : Type 0} {f : LeafForm} {g : BinaryForm} {x y : Expression} → leaf f ≡ binary g x y → A
no_binary e = absurd (cc)

same_leaf : (f g : LeafForm) → leaf f ≡ leaf g → f ≡ g
same_leaf f g e = cc

-- what is read back to an address is that address
pub address_value : (P : Program) (d : Value) (v : World) → Reads P d (SVal (leaf (leaf_form.Addr v))) → d ≡ atom (leaf_form.Addr v)
address_value P (atom f) v r = ap atom (sym (same_leaf (leaf_form.Addr v) f r.0))
address_value P (wrap (value.left T) d) v r = no_unary r.1
address_value P (wrap (value.right T) d) v r = no_unary r.1
address_value P (wrap (value.held x) d) v r = no_unary r.1
address_value P (wrap value.sham d) v r = no_unary r.1
address_value P (join value.pair d e) v r = no_binary r.2
address_value P (join value.cons d e) v r = no_binary r.2
address_value P (closed (over (by_value m T) n c) ρ) v r = absurd r
address_value P (closed (over (by_call m A B) n c) ρ) v (inl r) = no_unary r.is
address_value P (closed (over (by_call m A B) n c) ρ) v (inr r) = no_unary r.is
