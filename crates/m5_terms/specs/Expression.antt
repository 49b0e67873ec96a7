-- Terms as plain data: a form without its parts, and then the parts in the order of the text.
use Rattle.std.specs.Prelude.{◌≡◌, ℕ, ◌+◌}
use mathlib.Core.Path.{ap}
use base.Stored.{Gv, gnil, gnum, gcons, Coded}
use Rattle.m5_terms.specs.declared.form.LeafForm.{LeafForm}
use Rattle.m5_terms.specs.declared.form.UnaryForm.{UnaryForm}
use Rattle.m5_terms.specs.declared.form.BinaryForm.{BinaryForm}
use Rattle.m5_terms.specs.declared.form.TernaryForm.{TernaryForm}
use Rattle.m5_terms.specs.contracts.form.LeafForm as leaf_form
use Rattle.m5_terms.specs.contracts.form.UnaryForm as unary_form
use Rattle.m5_terms.specs.contracts.form.BinaryForm as binary_form
use Rattle.m5_terms.specs.contracts.form.TernaryForm as ternary_form

pub data Expression : Type 0 where
  leaf : LeafForm → Expression
  unary : UnaryForm → Expression → Expression
  binary : BinaryForm → Expression → Expression → Expression
  ternary : TernaryForm → Expression → Expression → Expression → Expression

-- the number of nodes
abbrev pub node_count : Expression → ℕ
node_count (leaf f) = 1
node_count (unary f a) = 1 + node_count a
node_count (binary f a b) = 1 + (node_count a + node_count b)
node_count (ternary f a b c) = 1 + (node_count a + (node_count b + node_count c))

abbrev pub leaf_code : Coded LeafForm
leaf_code = leaf_form.the_row.coded

abbrev pub code : Expression → Gv
code (leaf l) = gcons (gnum 0) (leaf_form.the_row.coded.code l)
code (unary f a) = gcons (gnum 1) (gcons (unary_form.the_row.coded.code f) (code a))
code (binary f a b) = gcons (gnum 2) (gcons (binary_form.the_row.coded.code f) (gcons (code a) (code b)))
code (ternary f a b c) = gcons (gnum 3) (gcons (ternary_form.the_row.coded.code f) (gcons (code a) (gcons (code b) (code c))))

abbrev head : Gv → Gv
head gnil = gnil
head (gnum n) = gnil
head (gcons a b) = a

abbrev tail : Gv → Gv
tail gnil = gnil
tail (gnum n) = gnil
tail (gcons a b) = b

pub code-inj : (x y : Expression) → code x ≡ code y → x ≡ y
code-inj (leaf l) (leaf m) p = ap leaf (leaf_form.the_row.coded.inj l m (ap tail p))
code-inj (unary f a) (unary g b) p = λ i. unary (unary_form.the_row.coded.inj f g (ap (λ x. head (tail x)) p) i) (code-inj a b (ap (λ x. tail (tail x)) p) i)
code-inj (binary f a b) (binary g c d) p = λ i. binary (binary_form.the_row.coded.inj f g (ap (λ x. head (tail x)) p) i) (code-inj a c (ap (λ x. head (tail (tail x))) p) i) (code-inj b d (ap (λ x. tail (tail (tail x))) p) i)
code-inj (ternary f a b c) (ternary g d e h) p = λ i. ternary (ternary_form.the_row.coded.inj f g (ap (λ x. head (tail x)) p) i) (code-inj a d (ap (λ x. head (tail (tail x))) p) i) (code-inj b e (ap (λ x. head (tail (tail (tail x)))) p) i) (code-inj c h (ap (λ x. tail (tail (tail (tail x)))) p) i)
code-inj _ _ p = cc

abbrev pub expression_code : Coded Expression
expression_code = record { code = code; inj = code-inj }
