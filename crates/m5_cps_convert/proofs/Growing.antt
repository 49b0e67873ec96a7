-- Lists that keep their items, and states of the walk that grow.
use Rattle.std.proofs.Common.{◌≡◌, ◌≢◌, ℕ, suc, ◌<◌, List, [], ◌∷◌, ◌++◌, length, Some, slice_get, slice_set, refl, ap, ◌∙◌, arith, length-set, get_or-set_same, get_or-set_other}
use Rattle.std.proofs.lemmas.Option.{slice_get_within, slice_get-get_or, get_or_from_slice_get}
use Rattle.m5_cps.specs.declared.step.Step.{Step}
use Rattle.m5_cps.proofs.Lists.{get_before, get_last, length_push}
use Rattle.m5_cps_convert.specs.declared.walk.Walk.{Walk}
use Rattle.m5_cps_convert.specs.code.Writing.{Keeps, Grows}

pub keeps_self : {A : Type 0} (xs : List A) → Keeps xs xs
keeps_self xs = record { each = λ k a e. e }

pub keeps_trans : {A : Type 0} {xs ys zs : List A} → Keeps xs ys → Keeps ys zs → Keeps xs zs
keeps_trans p q = record { each = λ k a e. q.each k a (p.each k a e) }

pub keeps_push : {A : Type 0} (xs ys : List A) (a : A) → ys ≡ xs ++ a ∷ [] → Keeps xs ys
keeps_push xs ys a e = record { each = λ k b g. ap (λ l. slice_get l k) e ∙ (get_before xs (a ∷ []) k (slice_get_within xs k b g) ∙ g) }

-- the item that was pushed
pub pushed_there : {A : Type 0} (xs ys : List A) (a : A) → ys ≡ xs ++ a ∷ [] → slice_get ys (length xs) ≡ Some a
pushed_there xs ys a e = ap (λ l. slice_get l (length xs)) e ∙ get_last xs a []

pub pushed_length : {A : Type 0} (xs ys : List A) (a : A) → ys ≡ xs ++ a ∷ [] → length ys ≡ suc (length xs)
pushed_length xs ys a e = ap length e ∙ length_push xs a

pub set_other : {A : Type 0} (xs ys : List A) (i k : ℕ) (v a : A) → ys ≡ slice_set xs i v → k ≢ i → slice_get xs k ≡ Some a → slice_get ys k ≡ Some a
set_other xs ys i k v a e n g =
    let lt : k < length xs = slice_get_within xs k a g in
    let lt2 : k < length (slice_set xs i v) = omega (arith, lt, length-set xs i v) in
    ap (λ l. slice_get l k) e ∙ (slice_get-get_or (slice_set xs i v) k a lt2 ∙ ap Some (get_or-set_other xs i k v a n ∙ get_or_from_slice_get xs k a a g))

pub set_same : {A : Type 0} (xs ys : List A) (i : ℕ) (v : A) → ys ≡ slice_set xs i v → i < length xs → slice_get ys i ≡ Some v
set_same xs ys i v e lt =
    let lt2 : i < length (slice_set xs i v) = omega (arith, lt, length-set xs i v) in
    ap (λ l. slice_get l i) e ∙ (slice_get-get_or (slice_set xs i v) i v lt2 ∙ ap Some (get_or-set_same xs i v v lt))

pub set_length : {A : Type 0} (xs ys : List A) (i : ℕ) (v : A) → ys ≡ slice_set xs i v → length ys ≡ length xs
set_length xs ys i v e = ap length e ∙ length-set xs i v

pub grows_self : (w : Walk) → Grows w w
grows_self w = record { types = keeps_self w.types; steps = keeps_self w.steps; longer = omega arith; names = refl; functions = refl }

pub grows_trans : {u v w : Walk} → Grows u v → Grows v w → Grows u w
grows_trans g h = record {
  types = keeps_trans g.types h.types;
  steps = keeps_trans g.steps h.steps;
  longer = omega (arith, g.longer, h.longer);
  names = h.names ∙ g.names;
  functions = h.functions ∙ g.functions;
}

-- one step more
pub grows_push : (w : Walk) (ss : List Step) (s : Step) → ss ≡ w.steps ++ s ∷ [] → Grows w (record w { steps = ss })
grows_push w ss s e = record {
  types = keeps_self w.types;
  steps = keeps_push w.steps ss s e;
  longer = omega (arith, pushed_length w.steps ss s e);
  names = refl;
  functions = refl;
}
