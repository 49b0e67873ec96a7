-- What follows a node takes its value: what is owed for a node's code.
use Rattle.std.proofs.Common.{◌≡◌, inl, ℕ, suc, ◌≤◌, ◌<◌, Option, Some, refl, sym, subst, arith}
use Rattle.m5_terms.specs.Expression.{Expression, leaf}
use Rattle.m5_terms.specs.TypeExpression.{TypeExpression}
use Rattle.m5_terms.specs.declared.types.World.{World}
use Rattle.m5_terms.specs.declared.types.World.TheVariants.{Any}
use Rattle.m5_terms.specs.declared.form.LeafForm.{LeafForm}
use Rattle.m5_terms.specs.declared.form.LeafForm.TheVariants as leaf_form
use Rattle.m5_typing.specs.Value.{IsValueForm}
use Rattle.m5_typing.specs.Context.{local, valid, Context, Setting, nothing}
use Rattle.m5_typing.specs.Typing.{Typed}
use Rattle.m5_cps.specs.Entries.{SlotType, of, takes, Mode, only, everywhere, by_value, world_of}
use Rattle.m5_cps.specs.Blocks.{Code, straight, constant}
use Rattle.m5_cps.specs.Slots.{Slots, fill, Reaches, Needs, Allowed, entered_at}
use Rattle.m5_cps.specs.Fits.{Fits}
use Rattle.m5_cps_convert.specs.Scopes.{VariableSlots, Scope}
use Rattle.m5_cps_convert.specs.Continuations.{Continuation, Tail, Then, apply, reify, variable_code}
use Rattle.m5_cps_convert.specs.Convert.{cps}
use Rattle.m5_cps_convert.proofs.TypedSlots.{Same, same_on, filled, needs_own, needs_on, needs_as, Vars, own_captures}

pub allowed_reaches : (m : Mode) (b : World) (T : SlotType) → Allowed m b → Reaches m (only b) T
allowed_reaches (only v) b T h = inl h
allowed_reaches everywhere b T h = tt

-- a scope of these parts
abbrev pub sc : Context → VariableSlots → Mode → ℕ → Scope
sc G Γ m d = record { bounds = G; slots = Γ; mode = m; arms = d }

abbrev pub node : Setting → Expression → Context → Mode → VariableSlots → ℕ → ℕ → Continuation → Code
node E e G m Γ d n κ = cps E e (sc G Γ m d) n κ

abbrev pub NoLocals : Context → Type 0
NoLocals G = (x : ℕ) (w : World) (A : TypeExpression) → G x ≡ Some (local w A) → ⊥

-- a node is evaluated at its block's world, or is a value form that is put into a sham
abbrev pub Good : Mode → World → Context → Expression → Type 0
Good (only w) b G e = w ≡ b
Good everywhere b G e = IsValueForm e × NoLocals G

pub good_allowed : (m : Mode) (b : World) (G : Context) (e : Expression) → Good m b G e → Allowed m b
good_allowed (only w) b G e h = h
good_allowed everywhere b G e h = tt

pub same_self : (n : ℕ) (S : Slots) → Same n S S
same_self n S l h = refl

-- two slots, and three
pub entered_same : (w : World) (n : ℕ) (C T : SlotType) (S : Slots) → Same n S (entered_at w n C T S)
entered_same w n C T S = same_on n (suc n) S (fill n (only w) C S) (entered_at w n C T S) (omega arith) (filled n (only w) C S) (filled (suc n) (only w) T (fill n (only w) C S))

module _ (E : Setting) where
  abbrev pub TakesAt : World → Mode → Slots → ℕ → Continuation → TypeExpression → Type 0
  TakesAt b m S n (Tail k) A = (k < n) × Needs S k (only b) (takes (of A))
  TakesAt b m S n (Then f) A = (R : Slots) (x p : ℕ) → n ≤ p → Same n S R → x < p → Needs R x m (of A) → Fits E b p R (f x p)

  pub takes_on : (b : World) (m : Mode) (S R : Slots) (n p : ℕ) (κ : Continuation) (A : TypeExpression) → n ≤ p → Same n S R → TakesAt b m S n κ A → TakesAt b m R p κ A
  takes_on b m S R n p (Tail k) A i h t = (omega (arith, i, t.0), needs_on n S R k _ _ t.0 h t.1)
  takes_on b m S R n p (Then f) A i h t = λ Q x q j g. t Q x q (omega (arith, i, j)) (same_on n p S R Q i h g)

  pub applied : (b : World) (m : Mode) (S : Slots) (n : ℕ) (κ : Continuation) (A : TypeExpression) → Allowed m b → TakesAt b m S n κ A → (R : Slots) (x p : ℕ) → n ≤ p → Same n S R → x < p → Needs R x m (of A) → Fits E b p R (apply κ x p)
  applied b m S n (Tail k) A a t R x p i h j d = (of A, needs_on n S R k _ _ t.0 h t.1, needs_as R x m (only b) (of A) (allowed_reaches m b (of A) a) d)
  applied b m S n (Then f) A a t R x p i h j d = t R x p i h j d

  -- its value fills the next slot
  pub applied_next : (b : World) (m : Mode) (S : Slots) (n : ℕ) (κ : Continuation) (A : TypeExpression) → Allowed m b → TakesAt b m S n κ A → Fits E b (suc n) (fill n m (of A) S) (apply κ n (suc n))
  applied_next b m S n κ A a t = applied b m S n κ A a t (fill n m (of A) S) n (suc n) (omega arith) (filled n m (of A) S) (omega arith) (needs_own n m (of A) S)

  -- what is owed when its continuation is in a slot
  abbrev pub WithSlot : World → Slots → ℕ → TypeExpression → (ℕ → ℕ → Code) → Type 0
  WithSlot w S n A g = (R : Slots) (k p : ℕ) → n ≤ p → Same n S R → k < p → Needs R k (only w) (takes (of A)) → Fits E w p R (g k p)

  pub reified : (w : World) (S : Slots) (n : ℕ) (κ : Continuation) (A : TypeExpression) (g : ℕ → ℕ → Code) → TakesAt w (only w) S n κ A → WithSlot w S n A g → Fits E w n S (reify (by_value (only w) (of A)) κ n g)
  reified w S n (Tail k) A g t h = h S k n (omega arith) (same_self n S) t.0 t.1
  reified w S n (Then f) A g t h = (
    S,
    own_captures w S,
    t (entered_at w n (takes (of A)) (of A) S) (suc n) (suc (suc n)) (omega arith) (entered_same w n (takes (of A)) (of A) S) (omega arith) (needs_own (suc n) (only w) (of A) (fill n (only w) (takes (of A)) S)),
    h (fill n (only w) (takes (of A)) S) n (suc n) (omega arith) (filled n (only w) (takes (of A)) S) (omega arith) (needs_own n (only w) (takes (of A)) S),
  )

  -- the code of each typed node fits
  abbrev pub Fit : Expression → Type 0
  Fit e = (m : Mode) (b : World) (G : Context) (A : TypeExpression) (Γ : VariableSlots) (d : ℕ) (S : Slots) (n : ℕ) (κ : Continuation) → Good m b G e → Typed E G (world_of m) e A → Vars (world_of m) G Γ S n → TakesAt b m S n κ A → Fits E b n S (node E e G m Γ d n κ)

  -- a form that is no value form
  abbrev pub HereFit : Expression → Type 0
  HereFit e = (w : World) (G : Context) (A : TypeExpression) (Γ : VariableSlots) (d : ℕ) (S : Slots) (n : ℕ) (κ : Continuation) → Typed E G w e A → Vars w G Γ S n → TakesAt w (only w) S n κ A → Fits E w n S (node E e G (only w) Γ d n κ)

  pub here_fit : (e : Expression) → (IsValueForm e → ⊥) → HereFit e → Fit e
  here_fit e not h (only w) b G A Γ d S n κ g t v k = subst (λ z. TakesAt z (only w) S n κ A → Fits E z n S (node E e G (only w) Γ d n κ)) g (h w G A Γ d S n κ t v) k
  here_fit e not h everywhere b G A Γ d S n κ g t v k = absurd (not g.0)

  variable_fits : (b : World) (m : Mode) (A : TypeExpression) (S : Slots) (n : ℕ) (κ : Continuation) (o : Option ℕ) (l : ℕ) → Allowed m b → o ≡ Some l → l < n → Needs S l m (of A) → TakesAt b m S n κ A → Fits E b n S (variable_code o n κ)
  variable_fits b m A S n κ o l a e i d k = subst (λ p. Fits E b n S (variable_code p n κ)) (sym e) (applied b m S n κ A a k S l n (omega arith) (same_self n S) i d)

  constant_fits : (b : World) (m : Mode) (A : TypeExpression) (S : Slots) (n : ℕ) (κ : Continuation) (f : LeafForm) → Allowed m b → Typed E nothing (world_of m) (leaf f) A → TakesAt b m S n κ A → Fits E b n S (straight (constant f) (apply κ n (suc n)))
  constant_fits b m A S n κ f a t k = (m, A, a, t, applied_next b m S n κ A a k)

  pub leaf_fit : (f : LeafForm) → Fit (leaf f)
  leaf_fit (leaf_form.Var x) (only w) b G A Γ d S n κ g t v k = let h = v x (local w A) t.0 (λ e. e) in variable_fits b (only w) A S n κ (Γ x) h.0 g h.1 h.2 h.3 k
  leaf_fit (leaf_form.Var x) everywhere b G A Γ d S n κ g t v k = absurd (g.1 x Any A t.0)
  leaf_fit (leaf_form.Valid x) m b G A Γ d S n κ g t v k = let h = v x (valid A) t.0 tt in variable_fits b m A S n κ (Γ x) h.0 (good_allowed m b G (leaf (leaf_form.Valid x)) g) h.1 h.2 (needs_as S h.0 everywhere m (of A) tt h.3) k
  leaf_fit (leaf_form.Glob f) m b G A Γ d S n κ g t v k = constant_fits b m A S n κ (leaf_form.Glob f) (good_allowed m b G (leaf (leaf_form.Glob f)) g) t k
  leaf_fit (leaf_form.Extern f) m b G A Γ d S n κ g t v k = constant_fits b m A S n κ (leaf_form.Extern f) (good_allowed m b G (leaf (leaf_form.Extern f)) g) t k
  leaf_fit leaf_form.Unit m b G A Γ d S n κ g t v k = constant_fits b m A S n κ leaf_form.Unit (good_allowed m b G (leaf leaf_form.Unit) g) t k
  leaf_fit (leaf_form.Bool f) m b G A Γ d S n κ g t v k = constant_fits b m A S n κ (leaf_form.Bool f) (good_allowed m b G (leaf (leaf_form.Bool f)) g) t k
  leaf_fit (leaf_form.Int f) m b G A Γ d S n κ g t v k = constant_fits b m A S n κ (leaf_form.Int f) (good_allowed m b G (leaf (leaf_form.Int f)) g) t k
  leaf_fit (leaf_form.Str f) m b G A Γ d S n κ g t v k = constant_fits b m A S n κ (leaf_form.Str f) (good_allowed m b G (leaf (leaf_form.Str f)) g) t k
  leaf_fit (leaf_form.Addr f) m b G A Γ d S n κ g t v k = constant_fits b m A S n κ (leaf_form.Addr f) (good_allowed m b G (leaf (leaf_form.Addr f)) g) t k
  leaf_fit leaf_form.Here m b G A Γ d S n κ g t v k = constant_fits b m A S n κ leaf_form.Here (good_allowed m b G (leaf leaf_form.Here) g) t k
  leaf_fit (leaf_form.Nil f) m b G A Γ d S n κ g t v k = constant_fits b m A S n κ (leaf_form.Nil f) (good_allowed m b G (leaf (leaf_form.Nil f)) g) t k
  leaf_fit (leaf_form.CellAt f i) m b G A Γ d S n κ g t v k = constant_fits b m A S n κ (leaf_form.CellAt f i) (good_allowed m b G (leaf (leaf_form.CellAt f i)) g) t k

  -- where a continuation of the node's type is in a slot
  pub reified_as : (w : World) (S : Slots) (n : ℕ) (κ : Continuation) (A D : TypeExpression) (g : ℕ → ℕ → Code) → D ≡ A → TakesAt w (only w) S n κ A → WithSlot w S n A g → Fits E w n S (reify (by_value (only w) (of D)) κ n g)
  reified_as w S n κ A D g q t h = subst (λ D. Fits E w n S (reify (by_value (only w) (of D)) κ n g)) (sym q) (reified w S n κ A g t h)
