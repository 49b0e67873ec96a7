-- Written types as plain data: the place of each node, its form, and its parts in the order of the text.
use Rattle.std.specs.Prelude.{◌≡◌, ℕ, ◌+◌}
use mathlib.Core.Path.{ap}
use base.Stored.{Gv, gnil, gnum, gcons, Coded}
use Rattle.m5_lex.specs.declared.place.Place.{Place}
use Rattle.m5_lex.specs.contracts.place.Place as placed
use Rattle.m5_tree.specs.declared.form.TypePlain.{TypePlain}
use Rattle.m5_tree.specs.declared.form.TypeWrap.{TypeWrap}
use Rattle.m5_tree.specs.declared.form.TypeJoin.{TypeJoin}
use Rattle.m5_tree.specs.contracts.form.TypePlain as plain_form
use Rattle.m5_tree.specs.contracts.form.TypeWrap as wrap_form
use Rattle.m5_tree.specs.contracts.form.TypeJoin as join_form

pub data TypeSyntax : Type 0 where
  plain : Place → TypePlain → TypeSyntax
  wrapped : Place → TypeWrap → TypeSyntax → TypeSyntax
  joined : Place → TypeJoin → TypeSyntax → TypeSyntax → TypeSyntax

-- the number of nodes
abbrev pub type_node_count : TypeSyntax → ℕ
type_node_count (plain at f) = 1
type_node_count (wrapped at f a) = 1 + type_node_count a
type_node_count (joined at f a b) = 1 + (type_node_count a + type_node_count b)

abbrev code : TypeSyntax → Gv
code (plain at f) = gcons (placed.the_row.coded.code at) (gcons (gnum 0) (plain_form.the_row.coded.code f))
code (wrapped at f a) = gcons (placed.the_row.coded.code at) (gcons (gnum 1) (gcons (wrap_form.the_row.coded.code f) (code a)))
code (joined at f a b) =
    gcons (placed.the_row.coded.code at) (gcons (gnum 2) (gcons (join_form.the_row.coded.code f) (gcons (code a) (code b))))

abbrev head : Gv → Gv
head gnil = gnil
head (gnum n) = gnil
head (gcons a b) = a

abbrev tail : Gv → Gv
tail gnil = gnil
tail (gnum n) = gnil
tail (gcons a b) = b

abbrev rest : Gv → Gv
rest g = tail (tail g)

pub code-inj : (x y : TypeSyntax) → code x ≡ code y → x ≡ y
code-inj (plain p f) (plain q g) e =
    λ i. plain (placed.the_row.coded.inj p q (ap head e) i) (plain_form.the_row.coded.inj f g (ap rest e) i)
code-inj (wrapped p f a) (wrapped q g b) e =
    λ i. wrapped (placed.the_row.coded.inj p q (ap head e) i) (wrap_form.the_row.coded.inj f g (ap (λ x. head (rest x)) e) i)
    (code-inj a b (ap (λ x. tail (rest x)) e) i)
code-inj (joined p f a b) (joined q g c d) e =
    λ i. joined (placed.the_row.coded.inj p q (ap head e) i) (join_form.the_row.coded.inj f g (ap (λ x. head (rest x)) e) i)
    (code-inj a c (ap (λ x. head (tail (rest x))) e) i)
    (code-inj b d (ap (λ x. tail (tail (rest x))) e) i)
code-inj _ _ e = cc

abbrev pub type_code : Coded TypeSyntax
type_code = record { code = code; inj = code-inj }
