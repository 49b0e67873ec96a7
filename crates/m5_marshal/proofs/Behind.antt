-- The closure of a message, behind the objects of a region.
use Rattle.std.proofs.Common.{◌≡◌, ℕ, zero, suc, ◌+◌, true, false, List, [], ◌∷◌, ◌++◌, length, map, Option, Some, None, slice_get, refl, ap, ◌∙◌, IsSomeAnd, pos, negsuc, arith}
use Rattle.m5_region.specs.declared.value.Value.{Value}
use Rattle.m5_region.specs.declared.value.Value.TheVariants as values
use Rattle.m5_region.specs.Region.{Object, ArrayOf, TextOf, IsArray, Refers}
use Rattle.m5_terms.specs.declared.types.World.{World}
use Rattle.m5_dictionary.specs.Dictionaries.{Dictionaries}
use Rattle.m5_message.specs.Message.{label_in, label_stands}
use Rattle.m5_message.specs.Sharing.{shifted_object}
use Rattle.m5_marshal.specs.Unpack.{AreThere, StandsAt}

get_behind : (front os : List Object) (k : ℕ) → slice_get (front ++ os) (length front + k) ≡ slice_get os k
get_behind [] os k = ap (slice_get os) (let same : 0 + k ≡ k = omega arith in same)
get_behind (o ∷ front) os k = ap (slice_get (o ∷ front ++ os)) (let same : suc (length front) + k ≡ suc (length front + k) = omega arith in same) ∙ get_behind front os k

label_shifted : (n : ℕ) (os : List Object) (k : ℕ) → label_in (slice_get (map (shifted_object n) os) k) ≡ label_in (slice_get os k)
label_shifted n [] k = refl
label_shifted n (TextOf bytes ∷ os) zero = refl
label_shifted n (ArrayOf [] ∷ os) zero = refl
label_shifted n (ArrayOf (values.Null ∷ vs) ∷ os) zero = refl
label_shifted n (ArrayOf (values.Bool b ∷ vs) ∷ os) zero = refl
label_shifted n (ArrayOf (values.Text r ∷ vs) ∷ os) zero = refl
label_shifted n (ArrayOf (values.Array r ∷ vs) ∷ os) zero = refl
label_shifted n (ArrayOf (values.Int (pos l) ∷ vs) ∷ os) zero = refl
label_shifted n (ArrayOf (values.Int (negsuc l) ∷ vs) ∷ os) zero = refl
label_shifted n (o ∷ os) (suc k) = label_shifted n os k

stands_array : (d : Dictionaries) (w : World) (m : Option Object) → label_stands d w (label_in m) ≡ true → IsSomeAnd m IsArray
stands_array d w None e = absurd (let wrong : false ≡ true = e in cc)
stands_array d w (Some (TextOf bytes)) e = absurd (let wrong : false ≡ true = e in cc)
stands_array d w (Some (ArrayOf vs)) e = tt

pub enters_behind : (d : Dictionaries) (w : World) (old os new : List Object) (root : ℕ) (argument : Value) → new ≡ old ++ map (shifted_object (length old)) os → label_stands d w (label_in (slice_get os root)) ≡ true → Refers new argument →
    AreThere new (record { code = values.Array (record { 0 = length old + root }); argument = argument }) × StandsAt d w new (record { code = values.Array (record { 0 = length old + root }); argument = argument })
enters_behind d w old os new root argument e stands refers =
    let there = ap (λ (x : List Object). slice_get x (length old + root)) e ∙ get_behind old (map (shifted_object (length old)) os) root in
    let here : label_stands d w (label_in (slice_get new (length old + root))) ≡ true = ap (λ m. label_stands d w (label_in m)) there ∙ ap (label_stands d w) (label_shifted (length old) os root) ∙ stands in
    ((stands_array d w (slice_get new (length old + root)) here, refers), (length old + root, refl, here))
