-- What a reduction leads to beside a front thread that was taken off.
use Rattle.std.proofs.Common.{◌≡◌, ℕ, zero, suc, ◌-◌, ◌<◌, ◌≤◌, true, false, nat_lt, List, [], ◌∷◌, ◌++◌, refl, sym, ap, ◌∙◌, subst, arith}
use Rattle.std.specs.Prelude.{Result, IfOk}
use Rattle.std.specs.declared.alloc.AllocError.{AllocError}
use Rattle.std.proofs.lemmas.Bool.{lt-ltb, le-ltb}
use Rattle.m5_terms.specs.Expression.{Expression, leaf, unary, binary, ternary}
use Rattle.m5_terms.specs.declared.types.World.{World}
use Rattle.m5_terms.specs.declared.ask.Cause.TheVariants.{Table}
use Rattle.m5_terms.specs.declared.form.UnaryForm.TheVariants as unary_form
use Rattle.m5_terms.specs.declared.thread.Frame.{Frame}
use Rattle.m5_terms.specs.declared.thread.Frame.TheVariants.{Part, Return}
use Rattle.m5_terms.specs.declared.thread.Focus.TheVariants.{Eval, Returned}
use Rattle.m5_terms.specs.Machine.{goes, asks}
use Rattle.m5_terms.specs.declared.ask.AskOf.TheVariants as ask
use Rattle.m5_meaning.specs.Parts.{parts, fill}
use Rattle.m5_meaning.specs.Site.{Program, Thread, Site}
use Rattle.m5_meaning.specs.Step.{SiteNext, outcome, stops_full, atom, is_full, stepped, thread_of, part_begun, returned}
use Rattle.m5_meaning.specs.Reduction.{Reduced, makes_cell, handles, watches, unit_value, reduced}
use Rattle.m5_source_site.specs.declared.next.Next.{Next}
use Rattle.m5_source_site.specs.declared.resume.Waiting.{Waiting}
use Rattle.m5_source_site.specs.declared.resume.Wait.TheVariants as wait
use Rattle.m5_source_site.specs.Waiting.{with_front, lacks_place, resumed, Stands}

-- where nothing is full, the front thread plays no part
pub beside : (P : Program) (u : World) (t : Thread) (s : Site) (fs : List Frame) (w : World) (r : Reduced) → lacks_place s r ≡ false → outcome P u (with_front t s) s.threads fs w r ≡ outcome P u s s.threads fs w r
beside P u t s fs w (makes_cell v) h = rw h refl
beside P u t s fs w (handles e k) h = rw h refl
beside P u t s fs w (watches e k) h = rw h refl
beside P u t s fs w _ h = refl

pub stops : (P : Program) (u : World) (t : Thread) (s : Site) (fs : List Frame) (w : World) (r : Reduced) → lacks_place s r ≡ true → outcome P u (with_front t s) s.threads fs w r ≡ stops_full (with_front t s)
stops P u t s fs w (makes_cell v) h = rw h refl
stops P u t s fs w (handles e k) h = rw h refl
stops P u t s fs w (watches e k) h = rw h refl
stops P u t s fs w _ h = cc

-- to fill a place changes no number of parts
pub parts-fill : (e : Expression) (k : ℕ) (v : Expression) → parts (fill e k v) ≡ parts e
parts-fill (leaf f) k v = refl
parts-fill (unary f a) k v = refl
parts-fill (binary f a b) zero v = refl
parts-fill (binary f a b) (suc k) v = refl
parts-fill (ternary f a b c) k v = refl

pub full-is : (P : Program) (u : World) (t : Thread) (s : Site) (fs : List Frame) (w : World) (q r : Reduced) (x : Waiting) → q ≡ r → lacks_place s q ≡ true → x ≡ record { site = with_front t s; wait = wait.Stop } → outcome P u (with_front t s) s.threads fs w r ≡ asks (ask.Stop Table) (resumed P u x.site x.wait)
full-is P u t s fs w q r x e h k =
    let g : lacks_place s r ≡ true = subst (λ (z : Reduced). lacks_place s z ≡ true) e h in
    stops P u t s fs w r g ∙ (rw k refl)

pub concludes : (P : Program) (u : World) (t : Thread) (s : Site) (fs : List Frame) (w : World) (q r : Reduced) (a : Result Next AllocError) → q ≡ r → lacks_place s q ≡ false → IfOk a (λ x. Stands P u x (outcome P u s s.threads fs w q)) → IfOk a (λ x. Stands P u x (outcome P u (with_front t s) s.threads fs w r))
concludes P u t s fs w q r a e h k =
    let Holds : SiteNext → Type 0 = λ n. IfOk a (λ x. Stands P u x n) in
    subst Holds (sym (beside P u t s fs w q h) ∙ ap (λ (z : Reduced). outcome P u (with_front t s) s.threads fs w z) e) k

pub to-part : (P : Program) (u : World) (t : Thread) (s q : Site) (fs : List Frame) (x w : World) (e v n : Expression) (k m : ℕ) → n ≡ fill e k v → m ≡ suc k → k < parts e - 1 → part_begun P s s.threads fs x n m ≡ goes q → returned P u (with_front t s) s.threads (Part x e k ∷ fs) w v ≡ goes q
to-part P u t s q fs x w e v n k m d f h b =
    let g : nat_lt (suc k) (parts (fill e k v)) ≡ true = rw (parts-fill e k v) (lt-ltb (suc k) (parts e) (omega (arith, h))) in
    let c : part_begun P s s.threads fs x (fill e k v) (suc k) ≡ goes q = subst (λ (z : Expression). part_begun P s s.threads fs x z (suc k) ≡ goes q) d (subst (λ (j : ℕ). part_begun P s s.threads fs x n j ≡ goes q) f b) in
    rw g c

pub to-last : (P : Program) (u : World) (t : Thread) (s : Site) (fs : List Frame) (x w : World) (e v : Expression) (k : ℕ) (a : Result Next AllocError) → parts e - 1 ≤ k → IfOk a (λ y. Stands P u y (outcome P u (with_front t s) s.threads fs x (reduced P u (fill e k v)))) → IfOk a (λ y. Stands P u y (returned P u (with_front t s) s.threads (Part x e k ∷ fs) w v))
to-last P u t s fs x w e v k a h b =
    let g : nat_lt (suc k) (parts (fill e k v)) ≡ false = rw (parts-fill e k v) (le-ltb (suc k) (parts e) (omega (arith, h))) in
    rw g b

pub away : (P : Program) (u w : World) (t : Thread) (s : Site) (fs gs : List Frame) (v : Expression) (x : World) (a : Next) → gs ≡ Return x ∷ fs → Stands P u a (returned P u (with_front t s) s.threads (Return x ∷ fs) w v) → Stands P u a (returned P u (with_front t s) s.threads gs w v)
away P u w t s fs gs v x a e h =
    let Holds : List Frame → Type 0 = λ ks. Stands P u a (returned P u (with_front t s) s.threads ks w v) in
    subst Holds (sym e) h

pub spawn-stops : (P : Program) (u : World) (t : Thread) (s : Site) (fs : List Frame) (w : World) (e a : Expression) (x : Waiting) → e ≡ unary unary_form.Spawn a → is_full (t ∷ s.threads) ≡ true → x ≡ record { site = with_front t s; wait = wait.Stop } → atom P (with_front t s) s.threads fs w e ≡ asks (ask.Stop Table) (resumed P u x.site x.wait)
spawn-stops P u t s fs w e a x q h k = rw (q, h, k) refl

pub spawn-goes : (P : Program) (t : Thread) (s p : Site) (fs : List Frame) (w : World) (e a : Expression) → e ≡ unary unary_form.Spawn a → is_full (t ∷ s.threads) ≡ false → p ≡ stepped P 0 s ((thread_of fs (Returned w unit_value) ∷ s.threads) ++ thread_of [] (Eval w a) ∷ []) → atom P (with_front t s) s.threads fs w e ≡ goes p
spawn-goes P t s p fs w e a q h k = rw (q, h, k) refl
