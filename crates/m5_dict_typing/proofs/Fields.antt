-- A value of a region with the tree of a value of an id is one of the id's type.
use Rattle.std.proofs.Common.{◌≡◌, ℕ, ◌<◌, List, [], length, Some, slice_get, sym, subst}
use Rattle.std.proofs.lemmas.Option.{slice_get_within}
use Rattle.m5_region.specs.declared.value.Value.{Value as Field}
use Rattle.m5_region.specs.Region.{Object, Refers}
use Rattle.m5_region.specs.Units.{HasNumber}
use Rattle.m5_terms.specs.declared.form.LeafForm.{LeafForm}
use Rattle.m5_terms.specs.declared.form.LeafForm.TheVariants as leaf_form
use Rattle.m5_dictionary.specs.declared.line.TypeLine.{TypeLine}
use Rattle.m5_dictionary.specs.declared.line.TypeLine.TheVariants as lines
use Rattle.m5_dictionary.specs.Dictionaries.{Dictionaries}
use Rattle.m5_message.specs.Tree.{tree_of, grown}
use Rattle.m5_message.specs.Spelling.{IsOf as IsFieldOf}
use Rattle.m5_cps.specs.Values.{left, right, held, pair, cons, atom, wrap, join, closed}
use Rattle.m5_cps.specs.Values as value
use Rattle.m5_flat.specs.Values.{under, Value}
use Rattle.m5_dict_typing.specs.Values.{LeafIsOf, IsOf}
use Rattle.m5_dict_typing.specs.Trees.{LeafIsTree, IsTree}
use Rattle.m5_dict_typing.proofs.Shapes.{leaf_back, truth_back, number_back, word_back, node_back}

module _ (d : Dictionaries) (os : List Object) where
  abbrev pub Within : ℕ → ℕ → Type 0
  Within id j = (j < length os) × (id < length d.types)

  -- with the line that it has
  lined : (i : ℕ) (v : Field) (line : TypeLine) → slice_get d.types i ≡ Some line → IsFieldOf Within i (Some line) v → IsFieldOf Within i (slice_get d.types i) v
  lined i v line e h = subst (λ l. IsFieldOf Within i l v) (sym e) h

  leaf_field : (f : LeafForm) (i : ℕ) (v : Field) → HasNumber v → Refers os v → LeafIsOf (slice_get d.types i) f → LeafIsTree f (tree_of (grown [] os) v) → IsFieldOf Within i (slice_get d.types i) v
  leaf_field leaf_form.Unit i v n r h t = lined i v lines.Unit h (leaf_back os v r t)
  leaf_field (leaf_form.Bool b) i v n r h t = lined i v lines.Bool h (b, truth_back os v b r t)
  leaf_field (leaf_form.Int m) i v n r h t = let e = number_back os v m r t in lined i v lines.Int h (m, subst HasNumber e n, e)
  leaf_field (leaf_form.Str s) i v n r h t = let e = word_back os v s r t in lined i v lines.Text h.0 (e.0, (slice_get_within os e.0 _ e.2.at, slice_get_within d.types i _ h.0), e.1)
  leaf_field (leaf_form.Addr w) i v n r h t = lined i v (lines.Addr w) h (number_back os v _ r t)
  leaf_field (leaf_form.Nil A) i v n r h t = let e = node_back os v _ r t in lined i v (lines.List h.0) h.1 (e.0, (slice_get_within os e.0 _ e.2.at, slice_get_within d.types i _ h.1), e.1)
  leaf_field (leaf_form.CellAt w m) i v n r h t = lined i v lines.Cell h (m, t.0, number_back os v _ r t.1)
  leaf_field (leaf_form.Extern p) i v n r h t = absurd t
  leaf_field (leaf_form.Glob g) i v n r h t = absurd t
  leaf_field (leaf_form.Var x) i v n r h t = absurd t
  leaf_field (leaf_form.Valid x) i v n r h t = absurd t
  leaf_field leaf_form.Here i v n r h t = absurd t

  pub field_is : (a : Value) (i : ℕ) (v : Field) → HasNumber v → Refers os v → IsOf d i a → IsTree a (tree_of (grown [] os) v) → IsFieldOf Within i (slice_get d.types i) v
  field_is (atom f) i v n r h t = leaf_field f i v n r h t
  field_is (wrap (left X) a) i v n r h t = let e = node_back os v _ r t.1 in lined i v (lines.Sum h.0 h.1) h.2 (e.0, (slice_get_within os e.0 _ e.2.at, slice_get_within d.types i _ h.2), e.1)
  field_is (wrap (right X) a) i v n r h t = let e = node_back os v _ r t.1 in lined i v (lines.Sum h.0 h.1) h.2 (e.0, (slice_get_within os e.0 _ e.2.at, slice_get_within d.types i _ h.2), e.1)
  field_is (wrap (held w) a) i v n r h t = field_is a i v n r h t
  field_is (wrap value.sham a) i v n r h t = field_is a i v n r h t
  field_is (join pair a b) i v n r h t = let e = node_back os v _ r t.2 in lined i v (lines.Pair h.0 h.1) h.2 (e.0, (slice_get_within os e.0 _ e.2.at, slice_get_within d.types i _ h.2), e.1)
  field_is (join cons a b) i v n r h t = let e = node_back os v _ r t.2 in lined i v (lines.List h.0) h.1 (e.0, (slice_get_within os e.0 _ e.2.at, slice_get_within d.types i _ h.1), e.1)
  field_is (closed (under l k) ρ) i v n r h t = let e = node_back os v _ r t.1 in lined i v (lines.Fun h.entrance.argument) h.line (e.0, (slice_get_within os e.0 _ e.2.at, slice_get_within d.types i _ h.line), e.1)
