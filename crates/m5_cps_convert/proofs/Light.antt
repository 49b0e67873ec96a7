-- What is sent is light: a value, a continuation or a goal takes no more than four times what it is read back to.
use Rattle.std.proofs.Common.{◌≡◌, ℕ, suc, ◌+◌, ◌*◌, ◌≤◌, inl, inr, List, [], ◌∷◌, ◌++◌, Option, Some, None, IsTrue, refl, sym, ap, subst, arith}
use Rattle.std.proofs.lemmas.List.Sums.{sum_by-cons}
use Rattle.m5_terms.specs.TypeExpression.{TypeExpression}
use Rattle.m5_terms.specs.Expression.{Expression, leaf, unary, binary, ternary}
use Rattle.m5_terms.specs.declared.types.World.{World}
use Rattle.m5_terms.specs.declared.thread.Frame.{Frame}
use Rattle.m5_terms.specs.declared.thread.Frame.TheVariants as frame
use Rattle.m5_terms.specs.declared.form.LeafForm.{LeafForm}
use Rattle.m5_terms.specs.declared.form.LeafForm.TheVariants as leaf_form
use Rattle.m5_meaning.specs.Site.{Program}
use Rattle.m5_cps.specs.Entries.{SlotType, Mode, by_value, by_call}
use Rattle.m5_cps.specs.Blocks.{Code}
use Rattle.m5_cps.specs.Values.{Wrap, Join, atom, wrap, join, closed, enter, put}
use Rattle.m5_cps.specs.Values as value
use Rattle.m5_cps.specs.Units.{leaf_units}
use Rattle.m5_cps.specs.Captured.{over, Value, value_units, sum_used}
use Rattle.m5_cps_convert.specs.Scopes.{Scope, fn_scope, rec_scope}
use Rattle.m5_cps_convert.specs.Continuations.{apply, body_code, goal_code}
use Rattle.m5_cps_convert.specs.Convert.{cps}
use Rattle.m5_cps_convert.specs.Closing.{Values, hide, close}
use Rattle.m5_cps_convert.specs.Statics.{Static, STop, STail, SBack, SHome, SFirst, SSecond, SArgument, kont, Works}
use Rattle.m5_cps_convert.specs.Slots.{SVal, SKont, FitsAt, Fits, Frames}
use Rattle.m5_cps_convert.specs.Reading.{setting, wrapped, joined, Reads}
use Rattle.m5_terms.specs.Size.{node_size, frame_size, frames_size}
use Rattle.m5_terms.specs.Substitution.{among}
use Rattle.m5_meaning.specs.Parts.{parts, fill}
use Rattle.m5_cps_convert.proofs.Occurrences.{hidden, slots_of, shown, among_left, among_right, is_among, cost, AreLight, hidden_light, all_total, spare_total}
use Rattle.m5_cps_convert.proofs.StaticUses.{static_slots, static_safe, first_among}
use Rattle.m5_cps_convert.specs.Forms.{homeward, variable_of}
use Rattle.m5_cps_convert.specs.Statics.{direct_call}
use Rattle.m5_cps_convert.specs.Reading.{KontReads}
use Rattle.m5_cps_convert.proofs.Addresses.{address_value}
use Rattle.m5_cps_convert.proofs.Slots.{In}
use Rattle.m5_cps_convert.proofs.Sums.{total, total_append, used_by}
use Rattle.m5_cps_convert.proofs.Uses.{Safe, used, home_safe, body_safe, goal_safe, one_known, two_known, fresh}

-- the variables' values are light, where all values of slots are
fits_light : (P : Program) (ρ : ℕ → Value) (n : ℕ) (Γ : Scope) (γ : Values) → ((l : ℕ) (v : Expression) → Reads P (ρ l) (SVal v) → value_units (ρ l) + 2 ≤ 4 * node_size v) → Fits (In P ρ) n Γ γ → AreLight ρ Γ.slots γ
fits_light P ρ n Γ γ h f z l e = at (γ z) (subst (λ o. FitsAt (In P ρ) n o (γ z)) e (f z))
  where
    at : (o : Option Expression) → FitsAt (In P ρ) n (Some l) o → (v : Expression) × (o ≡ Some v) × (value_units (ρ l) + 2 ≤ 4 * node_size v)
    at None g = absurd g
    at (Some v) g = (v, refl, h l v g.1)

-- what a block takes with it, that uses no slots but those of a term
taken_by : (ρ : ℕ → Value) (n : ℕ) (c : Code) (ls : List ℕ) → Safe n (λ l. IsTrue (among l ls)) c → sum_used c (cost ρ) n ≤ total (cost ρ) ls
taken_by ρ n c ls s = used_by c (cost ρ) n ls s.by

leaf_light : (f : LeafForm) → leaf_units f + 2 ≤ 4 * node_size (leaf f)
leaf_light (leaf_form.Str t) = omega arith
leaf_light _ = omega arith

wrap_light : (f : Wrap) (a : Value) (x : Expression) → value_units a + 2 ≤ 4 * node_size x → value_units (wrap f a) + 2 ≤ 4 * node_size (wrapped f x)
wrap_light (value.left T) a x h = omega (arith, h)
wrap_light (value.right T) a x h = omega (arith, h)
wrap_light (value.held w) a x h = omega (arith, h)
wrap_light value.sham a x h = omega (arith, h)

join_light : (f : Join) (a b : Value) (x y : Expression) → value_units a + 2 ≤ 4 * node_size x → value_units b + 2 ≤ 4 * node_size y → value_units (join f a b) + 2 ≤ 4 * node_size (joined f x y)
join_light value.pair a b x y h g = omega (arith, h, g)
join_light value.cons a b x y h g = omega (arith, h, g)

module _ (P : Program) (n : ℕ) (ρ : ℕ → Value) (values : (l : ℕ) (v : Expression) → Reads P (ρ l) (SVal v) → value_units (ρ l) + 2 ≤ 4 * node_size v) where
  light : (Γ : Scope) (γ : Values) → Fits (In P ρ) n Γ γ → AreLight ρ Γ.slots γ
  light Γ γ f = fits_light P ρ n Γ γ values f

  -- a function's block uses the slots of its body's variables
  fn_taken : (x : ℕ) (A : TypeExpression) (Γ : Scope) (γ : Values) (b : Expression) → Fits (In P ρ) n Γ γ → sum_used (body_code (cps (setting P) b) (fn_scope x A n Γ) n) (cost ρ) n + 1 ≤ 4 * node_size (close (hide (x ∷ []) γ) b)
  fn_taken x A Γ γ b f =
      let ls : List ℕ = slots_of b (hidden (x ∷ []) Γ.slots) in
      let safe : Safe n (λ l. IsTrue (among l ls)) (body_code (cps (setting P) b) (fn_scope x A n Γ) n) =
      body_safe n (λ l. IsTrue (among l ls)) (setting P) b (fn_scope x A n Γ) n (omega arith) (used n (λ l. IsTrue (among l ls)) (setting P) b)
      (one_known n (λ l. IsTrue (among l ls)) (setting P) x (suc n) b Γ.slots (λ z l q o e i. is_among b (hidden (x ∷ []) Γ.slots) z l o (shown (x ∷ []) Γ.slots z l q e)) (fresh n (λ l. IsTrue (among l ls)) (suc n) (omega arith))) in
      omega (arith, taken_by ρ n (body_code (cps (setting P) b) (fn_scope x A n Γ) n) ls safe, all_total ρ b (hidden (x ∷ []) Γ.slots) (hide (x ∷ []) γ) (hidden_light ρ (x ∷ []) Γ.slots γ (light Γ γ f)))

  rec_taken : (g x : ℕ) (A B : TypeExpression) (Γ : Scope) (γ : Values) (b : Expression) → Fits (In P ρ) n Γ γ → sum_used (body_code (cps (setting P) b) (rec_scope g x A B n Γ) n) (cost ρ) n + 1 ≤ 4 * node_size (close (hide (x ∷ g ∷ []) γ) b)
  rec_taken g x A B Γ γ b f =
      let ls : List ℕ = slots_of b (hidden (x ∷ g ∷ []) Γ.slots) in
      let safe : Safe n (λ l. IsTrue (among l ls)) (body_code (cps (setting P) b) (rec_scope g x A B n Γ) n) =
      body_safe n (λ l. IsTrue (among l ls)) (setting P) b (rec_scope g x A B n Γ) n (omega arith) (used n (λ l. IsTrue (among l ls)) (setting P) b)
      (two_known n (λ l. IsTrue (among l ls)) (setting P) x (suc n) g n b Γ.slots (λ z l q o e i. is_among b (hidden (x ∷ g ∷ []) Γ.slots) z l o (shown (x ∷ g ∷ []) Γ.slots z l q e)) (fresh n (λ l. IsTrue (among l ls)) (suc n) (omega arith)) (fresh n (λ l. IsTrue (among l ls)) n (omega arith))) in
      omega (arith, taken_by ρ n (body_code (cps (setting P) b) (rec_scope g x A B n Γ) n) ls safe, all_total ρ b (hidden (x ∷ g ∷ []) Γ.slots) (hide (x ∷ g ∷ []) γ) (hidden_light ρ (x ∷ g ∷ []) Γ.slots γ (light Γ γ f)))

  pub goal_taken : (Γ : Scope) (γ : Values) (b : Expression) → Fits (In P ρ) n Γ γ → variable_of b ≡ None → sum_used (goal_code (cps (setting P) b) Γ n) (cost ρ) n + 4 ≤ 4 * node_size (close γ b)
  goal_taken Γ γ b f q =
      let ls : List ℕ = slots_of b Γ.slots in
      let safe : Safe n (λ l. IsTrue (among l ls)) (goal_code (cps (setting P) b) Γ n) =
      goal_safe n (λ l. IsTrue (among l ls)) (setting P) b Γ n (omega arith) (used n (λ l. IsTrue (among l ls)) (setting P) b) (λ z l o e i. is_among b Γ.slots z l o e) in
      omega (arith, taken_by ρ n (goal_code (cps (setting P) b) Γ n) ls safe, spare_total ρ b Γ.slots γ (light Γ γ f) q)

  -- and a continuation's those of its frames
  module _ (konts : (l : ℕ) (u : World) (fs : List Frame) → Reads P (ρ l) (SKont u fs) → value_units (ρ l) ≤ 4 * frames_size fs + 2) where
    fill_size : (e : Expression) (γ : Values) (v : Expression) → parts e ≡ 2 → node_size v ≤ node_size (fill (close γ e) 0 v)
    fill_size (leaf f) γ v q = absurd (omega (arith, q))
    fill_size (unary f a) γ v q = omega arith
    fill_size (binary f a b) γ v q = omega arith
    fill_size (ternary f a b c) γ v q = omega arith

    address_units : (d : Value) (w : World) → Reads P d (SVal (leaf (leaf_form.Addr w))) → value_units d ≡ 0
    address_units d w r = ap value_units (address_value P d w r)

    pub frames_total : (u : World) (K : Static) (fs : List Frame) → Frames u (In P ρ) n K fs → total (cost ρ) (static_slots K) ≤ 4 * frames_size fs + 3
    frames_total u STop fs h = omega arith
    frames_total u (STail k) fs h = omega (arith, konts k u fs h.1)
    frames_total u (SBack a k) fs h = subst (λ y. total (cost ρ) (static_slots (SBack a k)) ≤ 4 * frames_size y + 3) (sym h.is) (omega (arith, konts k h.world h.below h.continuation.1, address_units (ρ a) h.world h.address.1, sum_by-cons frame_size (frame.Return h.world) h.below))
    frames_total u (SHome w k) fs h = subst (λ y. total (cost ρ) (static_slots (SHome w k)) ≤ 4 * frames_size y + 3) (sym h.is) (omega (arith, konts k w h.below h.continuation.1, sum_by-cons frame_size (frame.Return w) h.below))
    frames_total u (SFirst Γ e K) fs h = subst (λ y. total (cost ρ) (static_slots (SFirst Γ e K)) ≤ 4 * frames_size y + 3) (sym h.is) (omega (arith, total_append (cost ρ) (slots_of e Γ.slots) (static_slots K), all_total ρ e Γ.slots h.values (light Γ h.values h.fits), frames_total u K h.below h.rest, sum_by-cons frame_size (frame.Part h.world (close h.values e) 0) h.below))
    frames_total u (SSecond Γ e x K) fs h = subst (λ y. total (cost ρ) (static_slots (SSecond Γ e x K)) ≤ 4 * frames_size y + 3) (sym h.is) (omega (arith, values x h.first h.has.1, fill_size e h.values h.first h.has_parts, frames_total u K h.below h.rest, sum_by-cons frame_size (frame.Part h.world (fill (close h.values e) 0 h.first) 1) h.below))
    frames_total u (SArgument Γ p b K) fs h = subst (λ y. total (cost ρ) (static_slots K) ≤ 4 * frames_size y + 3) (sym h.is) (omega (arith, frames_total u K h.below h.rest, sum_by-cons frame_size (frame.Part u (direct_call p h.argument) 1) h.below))

    -- those that do more than go to a continuation
    pub works_total : (u : World) (K : Static) (fs : List Frame) → Works K → Frames u (In P ρ) n K fs → total (cost ρ) (static_slots K) ≤ 4 * frames_size fs
    works_total u STop fs w h = omega arith
    works_total u (STail k) fs w h = absurd w
    works_total u (SBack a k) fs w h = subst (λ y. total (cost ρ) (static_slots (SBack a k)) ≤ 4 * frames_size y) (sym h.is) (omega (arith, konts k h.world h.below h.continuation.1, address_units (ρ a) h.world h.address.1, sum_by-cons frame_size (frame.Return h.world) h.below))
    works_total u (SHome y k) fs w h = subst (λ z. total (cost ρ) (static_slots (SHome y k)) ≤ 4 * frames_size z) (sym h.is) (omega (arith, konts k y h.below h.continuation.1, sum_by-cons frame_size (frame.Return y) h.below))
    works_total u (SFirst Γ e K) fs w h = subst (λ y. total (cost ρ) (static_slots (SFirst Γ e K)) ≤ 4 * frames_size y) (sym h.is) (omega (arith, total_append (cost ρ) (slots_of e Γ.slots) (static_slots K), all_total ρ e Γ.slots h.values (light Γ h.values h.fits), frames_total u K h.below h.rest, sum_by-cons frame_size (frame.Part h.world (close h.values e) 0) h.below))
    works_total u (SSecond Γ e x K) fs w h = subst (λ y. total (cost ρ) (static_slots (SSecond Γ e x K)) ≤ 4 * frames_size y) (sym h.is) (omega (arith, values x h.first h.has.1, fill_size e h.values h.first h.has_parts, frames_total u K h.below h.rest, sum_by-cons frame_size (frame.Part h.world (fill (close h.values e) 0 h.first) 1) h.below))
    works_total u (SArgument Γ p b K) fs w h = subst (λ y. total (cost ρ) (static_slots K) ≤ 4 * frames_size y) (sym h.is) (omega (arith, frames_total u K h.below h.rest, sum_by-cons frame_size (frame.Part u (direct_call p h.argument) 1) h.below))

    kont_taken : (c : Code) (u : World) (fs : List Frame) → KontReads P n c (In P ρ) u fs → sum_used c (cost ρ) n ≤ 4 * frames_size fs
    kont_taken c u fs r = subst (λ y. sum_used y (cost ρ) n ≤ 4 * frames_size fs) (sym r.code)
        (omega (arith, taken_by ρ n (apply (kont (setting P) r.static) (suc n) (suc (suc n))) (static_slots r.static) (static_safe (setting P) n (static_slots r.static) r.static (λ l m. m) (suc n) (suc (suc n)) (omega arith) (fresh n (λ l. IsTrue (among l (static_slots r.static))) (suc n) (omega arith))), works_total u r.static fs r.works r.frames))

-- a value, and a continuation
pub record IsLight (P : Program) (c : Value) : Type 0 where
  pub value : (v : Expression) → Reads P c (SVal v) → value_units c + 2 ≤ 4 * node_size v
  pub kont : (u : World) (fs : List Frame) → Reads P c (SKont u fs) → value_units c ≤ 4 * frames_size fs + 2

pub is_light : (P : Program) (c : Value) → IsLight P c
is_light P (atom f) = record { value = λ v r. subst (λ y. leaf_units f + 2 ≤ 4 * node_size y) (sym r.0) (leaf_light f); kont = λ u fs r. absurd r }
is_light P (wrap f a) = record { value = λ v r. subst (λ y. value_units (wrap f a) + 2 ≤ 4 * node_size y) (sym r.1) (wrap_light f a r.0 ((is_light P a).value r.0 r.2)); kont = λ u fs r. absurd r }
is_light P (join f a b) = record { value = λ v r. subst (λ y. value_units (join f a b) + 2 ≤ 4 * node_size y) (sym r.2) (join_light f a b r.0 r.1 ((is_light P a).value r.0 r.3) ((is_light P b).value r.1 r.4)); kont = λ u fs r. absurd r }
is_light P (closed (over (by_value m T) n c) ρ) = record { value = λ v r. absurd r; kont = λ u fs r. omega (arith, kont_taken P n ρ (λ l. (is_light P (ρ l)).value) (λ l. (is_light P (ρ l)).kont) c u fs r) }
is_light P (closed (over (by_call m A B) n c) ρ) = record { value = λ v r. called_light (λ l. (is_light P (ρ l)).value) v r; kont = λ u fs r. absurd r }
  where
    called_light : ((l : ℕ) (v : Expression) → Reads P (ρ l) (SVal v) → value_units (ρ l) + 2 ≤ 4 * node_size v) → (v : Expression) → Reads P (closed (over (by_call m A B) n c) ρ) (SVal v) → value_units (closed (over (by_call m A B) n c) ρ) + 2 ≤ 4 * node_size v
    called_light h v (inl r) = subst (λ y. value_units (closed (over (by_call m A B) n c) ρ) + 2 ≤ 4 * node_size y) (sym r.is) (subst (λ y. (2 + sum_used y (cost ρ) n) + 2 ≤ 4 * (1 + node_size (close (hide (r.x ∷ []) r.values) r.body))) (sym r.code) (omega (arith, fn_taken P n ρ h r.x r.parameter r.scope r.values r.body r.fits)))
    called_light h v (inr r) = subst (λ y. value_units (closed (over (by_call m A B) n c) ρ) + 2 ≤ 4 * node_size y) (sym r.is) (subst (λ y. (2 + sum_used y (cost ρ) n) + 2 ≤ 4 * (1 + node_size (close (hide (r.x ∷ r.f ∷ []) r.values) r.body))) (sym r.code) (omega (arith, rec_taken P n ρ h r.f r.x r.parameter r.result r.scope r.values r.body r.fits)))

pub value_light : (P : Program) (c : Value) (v : Expression) → Reads P c (SVal v) → value_units c + 2 ≤ 4 * node_size v
value_light P c v r = (is_light P c).value v r

pub kont_light : (P : Program) (k : Value) (u : World) (fs : List Frame) → Reads P k (SKont u fs) → value_units k ≤ 4 * frames_size fs + 2
kont_light P k u fs r = (is_light P k).kont u fs r

pub goal_light : (P : Program) (n : ℕ) (m : Mode) (T : SlotType) (ρ : ℕ → Value) (Γ : Scope) (γ : Values) (b : Expression) → Fits (In P ρ) n Γ γ → variable_of b ≡ None → value_units (closed (over (by_value m T) n (goal_code (cps (setting P) b) Γ n)) ρ) + 2 ≤ 4 * node_size (close γ b)
goal_light P n m T ρ Γ γ b f q = omega (arith, goal_taken P n ρ (λ l. value_light P (ρ l)) Γ γ b f q)

-- a block for a term that sends its value home takes the continuation there with it
pub home_light : (P : Program) (n : ℕ) (m : Mode) (T : SlotType) (ρ : ℕ → Value) (Γ : Scope) (γ : Values) (b : Expression) (w : World) (k : ℕ) (fs : List Frame) → Fits (In P ρ) n Γ γ → variable_of b ≡ None → Reads P (ρ k) (SKont w fs)
    → value_units (closed (over (by_value m T) n (cps (setting P) b Γ (suc (suc n)) (homeward w k))) ρ) ≤ 4 * node_size (close γ b) + (4 * frames_size fs + 1)
home_light P n m T ρ Γ γ b w k fs f q r =
    let ls : List ℕ = slots_of b Γ.slots in
    let ks : List ℕ = ls ++ (k ∷ []) in
    let c : Code = cps (setting P) b Γ (suc (suc n)) (homeward w k) in
    let safe : Safe n (λ l. IsTrue (among l ks)) c =
    used n (λ l. IsTrue (among l ks)) (setting P) b Γ (suc (suc n)) (homeward w k) (omega arith) (λ z l o e i. among_left l ls (k ∷ []) (is_among b Γ.slots z l o e))
    (home_safe n (λ l. IsTrue (among l ks)) (setting P) w k (λ i. among_right k ls (k ∷ []) (first_among k []))) in
    omega (arith, taken_by ρ n c ks safe, total_append (cost ρ) ls (k ∷ []), spare_total ρ b Γ.slots γ (fits_light P ρ n Γ γ (λ l. value_light P (ρ l)) f) q, kont_light P (ρ k) w fs r)
