-- What stands for a value does so when there are more objects.
use Rattle.std.proofs.Common.{◌≡◌, ℕ, zero, suc, List, [], ◌∷◌, ◌++◌, length, Option, Some, None, slice_get, refl, ap}
use Rattle.std.specs.List.{AllZip}
use Rattle.m5_terms.specs.declared.form.LeafForm.{LeafForm}
use Rattle.m5_terms.specs.declared.form.LeafForm.TheVariants as leaf_form
use Rattle.m5_region.specs.declared.value.Value.{Value}
use Rattle.m5_region.specs.declared.value.Value.TheVariants as values
use Rattle.m5_region.specs.declared.queue.Ready.{Ready}
use Rattle.m5_region.specs.Region.{Object, ArrayOf, TextOf, bytes_in, fields_in}
use Rattle.m5_cps.specs.Values.{left, right, held, sham, pair, cons, atom, wrap, join, closed, enter, call}
use Rattle.m5_flat.specs.Values.{under, Thread}
use Rattle.m5_flat.specs.Values as flat
use Rattle.m5_emit.specs.Represents.{IsTextOf, IsArrayOf, LeafIs, Represents, IsThread}

-- what is at a place stays there
pub got_on : {A : Type 0} (xs ys : List A) (i : ℕ) (x : A) → slice_get xs i ≡ Some x → slice_get (xs ++ ys) i ≡ Some x
got_on [] ys i x e = absurd (cc (e))
got_on (z ∷ xs) ys zero x e = e
got_on (z ∷ xs) ys (suc i) x e = got_on xs ys i x e

-- and the next one is at the length
pub got_last : {A : Type 0} (xs : List A) (x : A) → slice_get (xs ++ x ∷ []) (length xs) ≡ Some x
got_last [] x = refl
got_last (z ∷ xs) x = got_last xs x

text_there : (o : Option Object) (t : List ℕ) → bytes_in o ≡ Some t → o ≡ Some (TextOf t)
text_there None t e = absurd (cc (e))
text_there (Some (ArrayOf vs)) t e = absurd (cc (e))
text_there (Some (TextOf bs)) t e = let q : bs ≡ t = cc (e) in ap (λ b. Some (TextOf b)) q

fields_there : (o : Option Object) (vs : List Value) → fields_in o ≡ Some vs → o ≡ Some (ArrayOf vs)
fields_there None vs e = absurd (cc (e))
fields_there (Some (ArrayOf ws)) vs e = let q : ws ≡ vs = cc (e) in ap (λ b. Some (ArrayOf b)) q
fields_there (Some (TextOf bs)) vs e = absurd (cc (e))

module _ (os more : List Object) where
  text_on : (t : List ℕ) (v : Value) → IsTextOf os t v → IsTextOf (os ++ more) t v
  text_on t (values.Text r) h = ap bytes_in (got_on os more r.0 (TextOf t) (text_there (slice_get os r.0) t h))
  text_on t _ h = absurd h

  pub array_on : (vs : List Value) (v : Value) → IsArrayOf os vs v → IsArrayOf (os ++ more) vs v
  array_on vs (values.Array r) h = ap fields_in (got_on os more r.0 (ArrayOf vs) (fields_there (slice_get os r.0) vs h))
  array_on vs _ h = absurd h

  leaf_on : (f : LeafForm) (v : Value) → LeafIs os f v → LeafIs (os ++ more) f v
  leaf_on (leaf_form.Str t) v h = text_on t v h
  leaf_on (leaf_form.Nil A) v h = array_on _ v h
  leaf_on leaf_form.Unit v h = h
  leaf_on (leaf_form.Bool b) v h = h
  leaf_on (leaf_form.Int n) v h = h
  leaf_on (leaf_form.Addr w) v h = h
  leaf_on (leaf_form.CellAt w n) v h = h
  leaf_on _ v h = absurd h

  pub stands_on : (a : flat.Value) (v : Value) → Represents os a v → Represents (os ++ more) a v
  stands_on (atom f) v h = leaf_on f v h
  stands_on (wrap (left T) a) v h = (h.0, array_on _ v h.1, stands_on a h.0 h.2)
  stands_on (wrap (right T) a) v h = (h.0, array_on _ v h.1, stands_on a h.0 h.2)
  stands_on (wrap (held w) a) v h = stands_on a v h
  stands_on (wrap sham a) v h = stands_on a v h
  stands_on (join pair a b) v h = (h.0, h.1, array_on _ v h.2, stands_on a h.0 h.3, stands_on b h.1 h.4)
  stands_on (join cons a b) v h = (h.0, h.1, array_on _ v h.2, stands_on a h.0 h.3, stands_on b h.1 h.4)
  stands_on (closed (under i k) σ) v h = (h.0, array_on _ v h.1, h.2, λ j x e. stands_on (σ j) x (h.3 j x e))

  thread_on : (r : Ready) (t : Thread) → IsThread os r t → IsThread (os ++ more) r t
  thread_on r (enter k x) h = (stands_on k _ h.0, stands_on x _ h.1)
  thread_on r (call f x k) h = (h.0, h.1, stands_on f _ h.2, array_on _ _ h.3, stands_on x _ h.4, stands_on k _ h.5)

  pub threads_on : (rs : List Ready) (ts : List Thread) → AllZip (IsThread os) rs ts → AllZip (IsThread (os ++ more)) rs ts
  threads_on [] [] h = h
  threads_on (r ∷ rs) (t ∷ ts) h = (thread_on r t h.0, threads_on rs ts h.1)
  threads_on [] (t ∷ ts) h = absurd h
  threads_on (r ∷ rs) [] h = absurd h

  pub values_on : (xs : List flat.Value) (vs : List Value) → AllZip (Represents os) xs vs → AllZip (Represents (os ++ more)) xs vs
  values_on [] [] h = h
  values_on (x ∷ xs) (v ∷ vs) h = (stands_on x v h.0, values_on xs vs h.1)
  values_on [] (v ∷ vs) h = absurd h
  values_on (x ∷ xs) [] h = absurd h
