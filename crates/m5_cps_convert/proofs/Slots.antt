-- Environments that grow keep what was read from them.
use Rattle.std.proofs.Common.{◌≡◌, ℕ, suc, ◌≤◌, ◌<◌, inl, inr, List, [], ◌∷◌, Option, Some, None, Bool, true, false, refl, sym, ap, ap₂, subst, arith, if◌then◌else◌, ◌==◌}
use Rattle.m5_terms.specs.Expression.{Expression, leaf, unary, binary}
use Rattle.m5_terms.specs.Substitution.{substituted}
use Rattle.m5_terms.specs.declared.types.World.{World}
use Rattle.m5_terms.specs.declared.thread.Frame.{Frame}
use Rattle.m5_terms.specs.declared.form.LeafForm.{LeafForm}
use Rattle.m5_terms.specs.declared.form.LeafForm.TheVariants as leaf_form
use Rattle.m5_terms.specs.declared.form.UnaryForm.TheVariants as unary_form
use Rattle.m5_terms.specs.declared.form.BinaryForm.TheVariants as binary_form
use Rattle.m5_typing.specs.Context.{Bound}
use Rattle.m5_typing.specs.Program.{ProgramTerm}
use Rattle.m5_cps.specs.Entries.{by_value, by_call}
use Rattle.m5_cps.specs.Values.{Wrap, Join, atom, wrap, join, closed, put}
use Rattle.m5_cps.specs.Values as value
use Rattle.m5_cps.specs.Captured.{over, Value}
use Rattle.m5_cps_convert.specs.Scopes.{Scope, bind}
use Rattle.m5_cps_convert.specs.Closing.{Values}
use Rattle.m5_cps_convert.specs.Statics.{Static, STop, STail, SBack, SHome, SFirst, SSecond, SArgument}
use Rattle.m5_cps_convert.specs.Slots.{Slot, SVal, SKont, Slots, Has, FitsAt, Fits, Frames}
use Rattle.m5_cps_convert.specs.Reading.{wrapped, joined, IsAtom, Reads}
use Rattle.m5_cps_convert.proofs.Substitutions.{put_same, put_other, AllFixed, under_fixed}

-- the slots of an environment
abbrev pub In : ProgramTerm → (ℕ → Value) → Slots
In P ρ = λ l. Reads P (ρ l)

-- more slots are filled, and the old ones are read back as before
pub record Grows (P : Slots) (n : ℕ) (Q : Slots) (m : ℕ) : Type 0 where
  pub more : n ≤ m
  pub keeps : (l : ℕ) (s : Slot) → l < n → P l s → Q l s

pub grows_not : (P : Slots) (n : ℕ) → Grows P n P n
grows_not P n = record { more = omega arith; keeps = λ l s h p. p }

pub grows_on : {P Q R : Slots} {n m k : ℕ} → Grows P n Q m → Grows Q m R k → Grows P n R k
grows_on g h = record { more = omega (arith, g.more, h.more); keeps = λ l s i p. h.keeps l s (omega (arith, g.more, i)) (g.keeps l s i p) }

pub has_on : {P Q : Slots} {n m : ℕ} (l : ℕ) (s : Slot) → Grows P n Q m → Has P n l s → Has Q m l s
has_on l s g h = (omega (arith, g.more, h.0), g.keeps l s h.0 h.1)

pub fits_on : {P Q : Slots} {n m : ℕ} (Γ : Scope) (γ : Values) → Grows P n Q m → Fits P n Γ γ → Fits Q m Γ γ
fits_on {P} {Q} {n} {m} Γ γ g f z = at (Γ.slots z) (γ z) (f z)
  where
    at : (o : Option ℕ) (v : Option Expression) → FitsAt P n o v → FitsAt Q m o v
    at None v h = h
    at (Some l) None h = absurd h
    at (Some l) (Some v) h = has_on l (SVal v) g h

pub frames_on : {P Q : Slots} {n m : ℕ} (u : World) (K : Static) (fs : List Frame) → Grows P n Q m → Frames u P n K fs → Frames u Q m K fs
frames_on u STop fs g h = h
frames_on u (STail k) fs g h = has_on k (SKont u fs) g h
frames_on u (SBack a k) fs g h = record { world = h.world; below = h.below; address = has_on a (SVal (leaf (leaf_form.Addr h.world))) g h.address; continuation = has_on k (SKont h.world h.below) g h.continuation; is = h.is }
frames_on u (SHome w k) fs g h = record { below = h.below; continuation = has_on k (SKont w h.below) g h.continuation; is = h.is }
frames_on u (SFirst Γ e K) fs g h = record { world = h.world; values = h.values; below = h.below; has_part = h.has_part; slotted = h.slotted; proper = h.proper; stands = h.stands; fits = fits_on Γ h.values g h.fits; is = h.is; rest = frames_on u K h.below g h.rest }
frames_on u (SSecond Γ e x K) fs g h = record { world = h.world; values = h.values; first = h.first; below = h.below; has_parts = h.has_parts; stands = h.stands; has = has_on x (SVal h.first) g h.has; is = h.is; rest = frames_on u K h.below g h.rest }
frames_on u (SArgument Γ p b K) fs g h = record { argument = h.argument; below = h.below; is = h.is; rest = frames_on u K h.below g h.rest }

-- what is put in is a value without free variables
abbrev Fixed : Expression → Type 0
Fixed v = (x : ℕ) (w : Expression) → substituted x w v ≡ v

fits_values : (P : Slots) (n : ℕ) (Γ : Scope) (γ : Values) → Fits P n Γ γ → (z : ℕ) → (v : Expression) × (γ z ≡ Some v)
fits_values P n Γ γ f z = at (Γ.slots z) (γ z) (f z)
  where
    at : (o : Option ℕ) (v : Option Expression) → FitsAt P n o v → (w : Expression) × (v ≡ Some w)
    at None v h = (leaf leaf_form.Unit, h)
    at (Some l) None h = absurd h
    at (Some l) (Some v) h = (v, refl)

fits_fixed_by : (P : Slots) (n : ℕ) (Γ : Scope) (γ : Values) → ((l : ℕ) (v : Expression) → P l (SVal v) → Fixed v) → Fits P n Γ γ → AllFixed γ
fits_fixed_by P n Γ γ c f z v e = at (Γ.slots z) (γ z) (f z) e
  where
    at : (o : Option ℕ) (w : Option Expression) → FitsAt P n o w → w ≡ Some v → Fixed v
    at None w h q = let e1 : Some (leaf leaf_form.Unit) ≡ Some v = cc in let e2 : leaf leaf_form.Unit ≡ v = cc in subst Fixed e2 (λ x u. refl)
    at (Some l) None h q = absurd h
    at (Some l) (Some w) h q = let e2 : w ≡ v = cc in subst Fixed e2 (c l w h.1)

atom_fixed : (f : LeafForm) → IsAtom f → Fixed (leaf f)
atom_fixed (leaf_form.Var x) h = absurd h
atom_fixed (leaf_form.Valid x) h = absurd h
atom_fixed (leaf_form.Extern p) h = λ x w. refl
atom_fixed leaf_form.Here h = absurd h
atom_fixed (leaf_form.Glob f) h = λ x w. refl
atom_fixed leaf_form.Unit h = λ x w. refl
atom_fixed (leaf_form.Bool b) h = λ x w. refl
atom_fixed (leaf_form.Int n) h = λ x w. refl
atom_fixed (leaf_form.Str t) h = λ x w. refl
atom_fixed (leaf_form.Addr u) h = λ x w. refl
atom_fixed (leaf_form.Nil A) h = λ x w. refl
atom_fixed (leaf_form.CellAt u n) h = λ x w. refl

wrapped_fixed : (f : Wrap) (v : Expression) → Fixed v → Fixed (wrapped f v)
wrapped_fixed (value.left T) v h = λ x w. ap (unary (unary_form.Inl T)) (h x w)
wrapped_fixed (value.right T) v h = λ x w. ap (unary (unary_form.Inr T)) (h x w)
wrapped_fixed (value.held u) v h = λ x w. ap (unary (unary_form.Held u)) (h x w)
wrapped_fixed value.sham v h = λ x w. ap (unary unary_form.Sham) (h x w)

joined_fixed : (f : Join) (v u : Expression) → Fixed v → Fixed u → Fixed (joined f v u)
joined_fixed value.pair v u h k = λ x w. ap₂ (binary binary_form.Pair) (h x w) (k x w)
joined_fixed value.cons v u h k = λ x w. ap₂ (binary binary_form.Cons) (h x w) (k x w)

pub reads_fixed : (P : ProgramTerm) (c : Value) (v : Expression) → Reads P c (SVal v) → Fixed v
reads_fixed P (atom f) v r = subst Fixed (sym r.0) (atom_fixed f r.1)
reads_fixed P (wrap f a) v r = subst Fixed (sym r.1) (wrapped_fixed f r.0 (reads_fixed P a r.0 r.2))
reads_fixed P (join f a b) v r = subst Fixed (sym r.2) (joined_fixed f r.0 r.1 (reads_fixed P a r.0 r.3) (reads_fixed P b r.1 r.4))
reads_fixed P (closed (over (by_value mo ty) n c) ρ) v r = absurd r
reads_fixed P (closed (over (by_call mo ty re) n c) ρ) v (inl r) = subst Fixed (sym r.is) (λ x w. ap (unary (unary_form.Fn r.x r.parameter)) (under_fixed r.body (r.x ∷ []) r.values x w (fits_fixed_by (In P ρ) n r.scope r.values (λ l. reads_fixed P (ρ l)) r.fits) (fits_values (In P ρ) n r.scope r.values r.fits)))
reads_fixed P (closed (over (by_call mo ty re) n c) ρ) v (inr r) = subst Fixed (sym r.is) (λ x w. ap (unary (unary_form.Rec r.f r.x r.parameter r.result)) (under_fixed r.body (r.x ∷ r.f ∷ []) r.values x w (fits_fixed_by (In P ρ) n r.scope r.values (λ l. reads_fixed P (ρ l)) r.fits) (fits_values (In P ρ) n r.scope r.values r.fits)))

pub fits_fixed : (P : ProgramTerm) (ρ : ℕ → Value) (n : ℕ) (Γ : Scope) (γ : Values) → Fits (In P ρ) n Γ γ → AllFixed γ
fits_fixed P ρ n Γ γ f = fits_fixed_by (In P ρ) n Γ γ (λ l. reads_fixed P (ρ l)) f

-- one more slot
pub put_grows : (P : ProgramTerm) (ρ : ℕ → Value) (n : ℕ) (c : Value) → Grows (In P ρ) n (In P (put n c ρ)) (suc n)
put_grows P ρ n c = record { more = omega arith; keeps = λ l s h p. subst (λ d. Reads P d s) (sym (put_other n l c ρ (omega (arith, h)))) p }

pub put_has : (P : ProgramTerm) (ρ : ℕ → Value) (n : ℕ) (c : Value) (s : Slot) → Reads P c s → Has (In P (put n c ρ)) (suc n) n s
put_has P ρ n c s r = (omega arith, subst (λ d. Reads P d s) (sym (put_same n c ρ)) r)

-- a variable's slot
pub fits_put : (P : Slots) (n : ℕ) (Γ : Scope) (γ : Values) (x l : ℕ) (b : Bound) (v : Expression) → Fits P n Γ γ → Has P n l (SVal v) → Fits P n (bind x b l Γ) (put x (Some v) γ)
fits_put P n Γ γ x l b v f h z = at (z == x)
  where
    at : (t : Bool) → FitsAt P n (if t then Some l else Γ.slots z) (if t then Some v else γ z)
    at true = h
    at false = f z
