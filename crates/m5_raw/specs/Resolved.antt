-- Resolved terms as plain data: the place of each node, its form, and its parts in the order of the text.
use Rattle.std.specs.Prelude.{◌≡◌, ℕ, ◌+◌}
use mathlib.Core.Path.{ap}
use base.Stored.{Gv, gnil, gnum, gcons, Coded}
use Rattle.m5_lex.specs.declared.place.Place.{Place}
use Rattle.m5_lex.specs.contracts.place.Place as placed
use Rattle.m5_terms.specs.declared.form.LeafForm.{LeafForm}
use Rattle.m5_terms.specs.declared.form.UnaryForm.{UnaryForm}
use Rattle.m5_terms.specs.declared.form.BinaryForm.{BinaryForm}
use Rattle.m5_terms.specs.declared.form.TernaryForm.{TernaryForm}
use Rattle.m5_terms.specs.declared.taken.Taken.{Taken}
use Rattle.m5_terms.specs.declared.taken.Taken.TheVariants as of_taken
use Rattle.m5_terms.specs.contracts.form.LeafForm as leaf_form
use Rattle.m5_terms.specs.contracts.form.UnaryForm as unary_form
use Rattle.m5_terms.specs.contracts.form.BinaryForm as binary_form
use Rattle.m5_terms.specs.contracts.form.TernaryForm as ternary_form

pub data Resolved : Type 0 where
  leaf : Place → LeafForm → Resolved
  unary : Place → UnaryForm → Resolved → Resolved
  binary : Place → BinaryForm → Resolved → Resolved → Resolved
  ternary : Place → TernaryForm → Resolved → Resolved → Resolved → Resolved

-- the number of nodes, without those of types
abbrev pub node_count : Resolved → ℕ
node_count (leaf at f) = 1
node_count (unary at f a) = 1 + node_count a
node_count (binary at f a b) = 1 + (node_count a + node_count b)
node_count (ternary at f a b c) = 1 + (node_count a + (node_count b + node_count c))

-- the place of its first token
abbrev pub place_of : Resolved → Place
place_of (leaf at f) = at
place_of (unary at f a) = at
place_of (binary at f a b) = at
place_of (ternary at f a b c) = at

-- the node of a place, a form and its parts
abbrev pub resolved_of : Place → Taken Resolved → Resolved
resolved_of at (of_taken.Leaf f) = leaf at f
resolved_of at (of_taken.Unary f a) = unary at f a
resolved_of at (of_taken.Binary f a b) = binary at f a b
resolved_of at (of_taken.Ternary f a b c) = ternary at f a b c

abbrev code : Resolved → Gv
code (leaf at f) = gcons (placed.the_row.coded.code at) (gcons (gnum 0) (leaf_form.the_row.coded.code f))
code (unary at f a) = gcons (placed.the_row.coded.code at) (gcons (gnum 1) (gcons (unary_form.the_row.coded.code f) (code a)))
code (binary at f a b) =
    gcons (placed.the_row.coded.code at) (gcons (gnum 2) (gcons (binary_form.the_row.coded.code f) (gcons (code a) (code b))))
code (ternary at f a b c) =
    gcons (placed.the_row.coded.code at)
    (gcons (gnum 3) (gcons (ternary_form.the_row.coded.code f) (gcons (code a) (gcons (code b) (code c)))))

abbrev head : Gv → Gv
head gnil = gnil
head (gnum n) = gnil
head (gcons a b) = a

abbrev tail : Gv → Gv
tail gnil = gnil
tail (gnum n) = gnil
tail (gcons a b) = b

abbrev rest : Gv → Gv
rest g = tail (tail g)

pub code-inj : (x y : Resolved) → code x ≡ code y → x ≡ y
code-inj (leaf p f) (leaf q g) e =
    λ i. leaf (placed.the_row.coded.inj p q (ap head e) i) (leaf_form.the_row.coded.inj f g (ap rest e) i)
code-inj (unary p f a) (unary q g b) e =
    λ i. unary (placed.the_row.coded.inj p q (ap head e) i) (unary_form.the_row.coded.inj f g (ap (λ x. head (rest x)) e) i)
    (code-inj a b (ap (λ x. tail (rest x)) e) i)
code-inj (binary p f a b) (binary q g c d) e =
    λ i. binary (placed.the_row.coded.inj p q (ap head e) i) (binary_form.the_row.coded.inj f g (ap (λ x. head (rest x)) e) i)
    (code-inj a c (ap (λ x. head (tail (rest x))) e) i)
    (code-inj b d (ap (λ x. tail (tail (rest x))) e) i)
code-inj (ternary p f a b c) (ternary q g d h k) e =
    λ i. ternary (placed.the_row.coded.inj p q (ap head e) i) (ternary_form.the_row.coded.inj f g (ap (λ x. head (rest x)) e) i)
    (code-inj a d (ap (λ x. head (tail (rest x))) e) i)
    (code-inj b h (ap (λ x. head (tail (tail (rest x)))) e) i)
    (code-inj c k (ap (λ x. tail (tail (tail (rest x)))) e) i)
code-inj _ _ e = cc

abbrev pub resolved_code : Coded Resolved
resolved_code = record { code = code; inj = code-inj }
