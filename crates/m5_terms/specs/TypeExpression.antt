-- Types as plain data.
use Rattle.std.specs.Prelude.{◌≡◌, ℕ, ◌+◌, Bool, true, false, ◌&&◌}
use mathlib.Core.Path.{ap, refl}
use base.Stored.{Gv, gnil, gnum, gcons, Coded}
use Rattle.m5_terms.specs.declared.types.World.{World}
use Rattle.m5_terms.specs.declared.types.World.TheVariants.{Home, Server, Panel, Any}
use Rattle.m5_terms.specs.contracts.types.World as world

pub data TypeExpression : Type 0 where
  unit : TypeExpression
  bool : TypeExpression
  int : TypeExpression
  string : TypeExpression
  address : World → TypeExpression
  product : TypeExpression → TypeExpression → TypeExpression
  sum : TypeExpression → TypeExpression → TypeExpression
  function : TypeExpression → TypeExpression → TypeExpression
  list : TypeExpression → TypeExpression
  cell : TypeExpression → TypeExpression
  sham : TypeExpression → TypeExpression
  at : TypeExpression → World → TypeExpression

-- a value of a mobile type means the same at every world
abbrev pub mobile : TypeExpression → Bool
mobile (product a b) = mobile a && mobile b
mobile (sum a b) = mobile a && mobile b
mobile (list a) = mobile a
mobile (function a b) = false
mobile (cell a) = false
mobile _ = true

-- the number of its nodes
abbrev pub type_node_count : TypeExpression → ℕ
type_node_count (product a b) = 1 + (type_node_count a + type_node_count b)
type_node_count (sum a b) = 1 + (type_node_count a + type_node_count b)
type_node_count (function a b) = 1 + (type_node_count a + type_node_count b)
type_node_count (list a) = 1 + type_node_count a
type_node_count (cell a) = 1 + type_node_count a
type_node_count (sham a) = 1 + type_node_count a
type_node_count (at a w) = 1 + type_node_count a
type_node_count _ = 1

abbrev code : TypeExpression → Gv
code unit = gnum 0
code bool = gnum 1
code int = gnum 2
code string = gnum 3
code (address w) = gcons (gnum 4) (world.the_row.coded.code w)
code (product a b) = gcons (gnum 5) (gcons (code a) (code b))
code (sum a b) = gcons (gnum 6) (gcons (code a) (code b))
code (function a b) = gcons (gnum 7) (gcons (code a) (code b))
code (list a) = gcons (gnum 8) (code a)
code (cell a) = gcons (gnum 9) (code a)
code (sham a) = gcons (gnum 10) (code a)
code (at a w) = gcons (gnum 11) (gcons (code a) (world.the_row.coded.code w))

abbrev head : Gv → Gv
head gnil = gnil
head (gnum n) = gnil
head (gcons a b) = a

abbrev tail : Gv → Gv
tail gnil = gnil
tail (gnum n) = gnil
tail (gcons a b) = b

pub code-inj : (x y : TypeExpression) → code x ≡ code y → x ≡ y
code-inj unit unit p = refl
code-inj bool bool p = refl
code-inj int int p = refl
code-inj string string p = refl
code-inj (address v) (address w) p = ap address (world.the_row.coded.inj v w (ap tail p))
code-inj (product a b) (product c d) p = λ i. product (code-inj a c (ap (λ g. head (tail g)) p) i) (code-inj b d (ap (λ g. tail (tail g)) p) i)
code-inj (sum a b) (sum c d) p = λ i. sum (code-inj a c (ap (λ g. head (tail g)) p) i) (code-inj b d (ap (λ g. tail (tail g)) p) i)
code-inj (function a b) (function c d) p = λ i. function (code-inj a c (ap (λ g. head (tail g)) p) i) (code-inj b d (ap (λ g. tail (tail g)) p) i)
code-inj (list a) (list c) p = ap list (code-inj a c (ap tail p))
code-inj (cell a) (cell c) p = ap cell (code-inj a c (ap tail p))
code-inj (sham a) (sham c) p = ap sham (code-inj a c (ap tail p))
code-inj (at a v) (at c w) p = λ i. at (code-inj a c (ap (λ g. head (tail g)) p) i) (world.the_row.coded.inj v w (ap (λ g. tail (tail g)) p) i)
code-inj _ _ p = cc

abbrev pub type_code : Coded TypeExpression
type_code = record { code = code; inj = code-inj }

abbrev pub same_world : World → World → Bool
same_world Home Home = true
same_world Server Server = true
same_world Panel Panel = true
same_world Any Any = true
same_world _ _ = false

abbrev pub same_type : TypeExpression → TypeExpression → Bool
same_type unit unit = true
same_type bool bool = true
same_type int int = true
same_type string string = true
same_type (address v) (address w) = same_world v w
same_type (product a b) (product c d) = same_type a c && same_type b d
same_type (sum a b) (sum c d) = same_type a c && same_type b d
same_type (function a b) (function c d) = same_type a c && same_type b d
same_type (list a) (list b) = same_type a b
same_type (cell a) (cell b) = same_type a b
same_type (sham a) (sham b) = same_type a b
same_type (at a v) (at b w) = same_type a b && same_world v w
same_type _ _ = false
