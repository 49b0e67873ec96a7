-- The forms of keywords.
use Rattle.std.specs.Prelude.{ℕ, true, false}
use Rattle.m5_terms.specs.declared.types.World.TheVariants as world
use Rattle.m5_tree.specs.declared.form.LeafForm.{LeafForm}
use Rattle.m5_tree.specs.declared.form.LeafForm.TheVariants as leaf
use Rattle.m5_tree.specs.declared.form.UnaryForm.{UnaryForm}
use Rattle.m5_tree.specs.declared.form.UnaryForm.TheVariants as unary
use Rattle.m5_tree.specs.declared.form.BinaryForm.{BinaryForm}
use Rattle.m5_tree.specs.declared.form.BinaryForm.TheVariants as binary
use Rattle.m5_tree.specs.declared.grammar.Plain.{Plain}
use Rattle.m5_tree.specs.declared.grammar.Plain.TheVariants as plain
use Rattle.m5_tree.specs.declared.grammar.Prefix.{Prefix}
use Rattle.m5_tree.specs.declared.grammar.Prefix.TheVariants as prefix
use Rattle.m5_tree.specs.declared.grammar.Binding.{Binding}
use Rattle.m5_tree.specs.declared.grammar.Binding.TheVariants as binding

abbrev pub leaf_of : Plain → LeafForm
leaf_of plain.True = leaf.Bool true
leaf_of plain.False = leaf.Bool false
leaf_of plain.Here = leaf.Here
leaf_of plain.Home = leaf.Addr world.Home
leaf_of plain.Server = leaf.Addr world.Server
leaf_of plain.Panel = leaf.Addr world.Panel

abbrev pub unary_of : Prefix → UnaryForm
unary_of prefix.Fst = unary.Fst
unary_of prefix.Snd = unary.Snd
unary_of prefix.Load = unary.Load
unary_of prefix.NewCell = unary.NewCell
unary_of prefix.Hold = unary.Hold
unary_of prefix.Sham = unary.Sham
unary_of prefix.StrOf = unary.StrOf
unary_of prefix.Div = unary.Div
unary_of prefix.Spawn = unary.Spawn

abbrev pub binary_of : Binding → ℕ → BinaryForm
binary_of binding.Val x = binary.Val x
binary_of binding.Put x = binary.Put x
binary_of binding.Leta x = binary.Leta x
binary_of binding.Lets x = binary.Lets x
