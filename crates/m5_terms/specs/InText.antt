-- What a form of a text can have, and the nodes of the types that are written in it.
use Rattle.std.specs.Prelude.{ℕ, ◌+◌, Bool, true, false, ℤ, pos, negsuc}
use Rattle.std.specs.List.{list_all}
use Rattle.m5_terms.specs.Text.{text_byte}
use Rattle.m5_terms.specs.TypeExpression.{type_node_count}
use Rattle.m5_terms.specs.declared.form.LeafForm.{LeafForm}
use Rattle.m5_terms.specs.declared.form.LeafForm.TheVariants as leaf_form
use Rattle.m5_terms.specs.declared.form.UnaryForm.{UnaryForm}
use Rattle.m5_terms.specs.declared.form.UnaryForm.TheVariants as unary_form

-- the nodes of the types that are written in a form
abbrev pub leaf_type_nodes : LeafForm → ℕ
leaf_type_nodes (leaf_form.Nil A) = type_node_count A
leaf_type_nodes _ = 0

abbrev pub unary_type_nodes : UnaryForm → ℕ
unary_type_nodes (unary_form.Fn x A) = type_node_count A
unary_type_nodes (unary_form.Rec f x A B) = type_node_count A + type_node_count B
unary_type_nodes (unary_form.Inl T) = type_node_count T
unary_type_nodes (unary_form.Inr T) = type_node_count T
unary_type_nodes _ = 0

abbrev pub is_natural : ℤ → Bool
is_natural (pos n) = true
is_natural (negsuc n) = false

-- no cell and nothing held, no negative integer, and texts of text bytes
abbrev pub leaf_in_text : LeafForm → Bool
leaf_in_text (leaf_form.Int n) = is_natural n
leaf_in_text (leaf_form.Str s) = list_all text_byte s
leaf_in_text (leaf_form.CellAt w n) = false
leaf_in_text _ = true

abbrev pub unary_in_text : UnaryForm → Bool
unary_in_text (unary_form.Held w) = false
unary_in_text _ = true
