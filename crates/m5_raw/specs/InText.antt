-- Resolved terms that a text has, and their nodes with those of the types written in them.
use Rattle.std.specs.Prelude.{ℕ, ◌+◌, Bool, ◌&&◌}
use Rattle.m5_terms.specs.InText.{leaf_type_nodes, unary_type_nodes, leaf_in_text, unary_in_text}
use Rattle.m5_raw.specs.Resolved.{Resolved, leaf, unary, binary, ternary}

-- a term's nodes and those of the types written in it
abbrev pub written_nodes : Resolved → ℕ
written_nodes (leaf at f) = 1 + leaf_type_nodes f
written_nodes (unary at f a) = 1 + (unary_type_nodes f + written_nodes a)
written_nodes (binary at f a b) = 1 + (written_nodes a + written_nodes b)
written_nodes (ternary at f a b c) = 1 + (written_nodes a + (written_nodes b + written_nodes c))

-- each of its forms is one that a text has
abbrev pub in_text : Resolved → Bool
in_text (leaf at f) = leaf_in_text f
in_text (unary at f a) = unary_in_text f && in_text a
in_text (binary at f a b) = in_text a && in_text b
in_text (ternary at f a b c) = in_text a && (in_text b && in_text c)
