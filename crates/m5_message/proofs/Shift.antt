-- The objects of a message stand for the same trees behind a region's own objects.
use Rattle.std.proofs.Common.{◌≡◌, ℕ, suc, ◌+◌, List, [], ◌∷◌, ◌++◌, length, map, Option, slice_get, refl, sym, ap, ◌∙◌, append_assoc, append-nil, length-append, arith}
use Rattle.std.specs.Prelude.{unwrap_or}
use Rattle.m5_region.specs.declared.value.Value.{Value}
use Rattle.m5_region.specs.declared.value.Value.TheVariants as values
use Rattle.m5_region.specs.Region.{Object, ArrayOf, TextOf}
use Rattle.m5_message.specs.Tree.{Tree, Leaf, Node, tree_of, trees_of, object_tree, grown}
use Rattle.m5_message.specs.Laws.{StandsBehind}
use Rattle.m5_message.specs.Sharing.{shifted, shifted_object}

get_shift : (ts us : List Tree) (j : ℕ) → slice_get (ts ++ us) (length ts + j) ≡ slice_get us j
get_shift [] us j = ap (slice_get us) (let e : 0 + j ≡ j = omega arith in e)
get_shift (t ∷ ts) us j = ap (slice_get (t ∷ ts ++ us)) (let e : suc (length ts) + j ≡ suc (length ts + j) = omega arith in e) ∙ get_shift ts us j

value_shift : (ts us : List Tree) (v : Value) → tree_of (ts ++ us) (shifted (length ts) v) ≡ tree_of us v
value_shift ts us values.Null = refl
value_shift ts us (values.Bool b) = refl
value_shift ts us (values.Int n) = refl
value_shift ts us (values.Text r) = ap (λ (x : Option Tree). unwrap_or x Leaf) (get_shift ts us r.0)
value_shift ts us (values.Array r) = ap (λ (x : Option Tree). unwrap_or x Leaf) (get_shift ts us r.0)

values_shift : (ts us : List Tree) (vs : List Value) → trees_of (ts ++ us) (map (shifted (length ts)) vs) ≡ trees_of us vs
values_shift ts us [] = refl
values_shift ts us (v ∷ vs) = rw (value_shift ts us v, values_shift ts us vs) refl

object_shift : (ts us : List Tree) (o : Object) → object_tree (ts ++ us) (shifted_object (length ts) o) ≡ object_tree us o
object_shift ts us (ArrayOf vs) = ap Node (values_shift ts us vs)
object_shift ts us (TextOf bytes) = refl

pub grown_shift : (ts us : List Tree) (os : List Object) → grown (ts ++ us) (map (shifted_object (length ts)) os) ≡ ts ++ grown us os
unfolding grown
grown_shift ts us [] = refl
grown_shift ts us (o ∷ os) =
    ap (λ (t : Tree). grown ((ts ++ us) ++ t ∷ []) (map (shifted_object (length ts)) os)) (object_shift ts us o)
    ∙ ap (λ (x : List Tree). grown x (map (shifted_object (length ts)) os)) (append_assoc ts us (object_tree us o ∷ []))
    ∙ grown_shift ts (us ++ object_tree us o ∷ []) os

grown_length : (ts : List Tree) (a : List Object) → length (grown ts a) ≡ length ts + length a
unfolding grown
grown_length ts [] = omega arith
grown_length ts (o ∷ a) = grown_length (ts ++ object_tree ts o ∷ []) a ∙ omega (arith, length-append ts (object_tree ts o ∷ []))

grown_append : (ts : List Tree) (a b : List Object) → grown ts (a ++ b) ≡ grown (grown ts a) b
unfolding grown
grown_append ts [] b = refl
grown_append ts (o ∷ a) b = grown_append (ts ++ object_tree ts o ∷ []) a b

pub stands_behind : StandsBehind
stands_behind older os =
    let ts = grown [] older in
    let long : length older ≡ length ts = sym (grown_length [] older ∙ omega arith) in
    grown_append [] older (map (shifted_object (length older)) os)
    ∙ ap (λ (n : ℕ). grown ts (map (shifted_object n) os)) long
    ∙ ap (λ (x : List Tree). grown x (map (shifted_object (length ts)) os)) (sym (append-nil ts))
    ∙ grown_shift ts [] os
