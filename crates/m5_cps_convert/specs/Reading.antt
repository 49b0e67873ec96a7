-- What the values of blocks are read back to: closures to functions, to frames, or to terms that wait.
use Rattle.std.specs.Prelude.{◌≡◌, ℕ, suc, ◌⊎◌, List, [], ◌∷◌}
use Rattle.m5_terms.specs.Worlds.{IsSiteWorld}
use Rattle.m5_terms.specs.Expression.{Expression, leaf, unary, binary}
use Rattle.m5_terms.specs.TypeExpression.{TypeExpression}
use Rattle.m5_terms.specs.declared.types.World.{World}
use Rattle.m5_terms.specs.declared.form.LeafForm.{LeafForm}
use Rattle.m5_terms.specs.declared.form.LeafForm.TheVariants as leaf_form
use Rattle.m5_terms.specs.declared.form.UnaryForm.TheVariants as unary_form
use Rattle.m5_terms.specs.declared.form.BinaryForm.TheVariants as binary_form
use Rattle.m5_terms.specs.declared.thread.Frame.{Frame}
use Rattle.m5_typing.specs.Context.{Setting}
use Rattle.m5_typing.specs.Program.{ProgramTerm, setting_of}
use Rattle.m5_cps.specs.Entries.{Entry, by_value, by_call}
use Rattle.m5_cps.specs.Blocks.{Code}
use Rattle.m5_cps.specs.Values.{Wrap, left, right, held, sham, Join, pair, cons, atom, wrap, join, closed}
use Rattle.m5_cps.specs.Captured.{over, Value}
use Rattle.m5_cps_convert.specs.Scopes.{Scope, fn_scope, rec_scope}
use Rattle.m5_cps_convert.specs.Continuations.{apply, body_code, goal_code}
use Rattle.m5_cps_convert.specs.Convert.{cps}
use Rattle.m5_cps_convert.specs.Closing.{Values, hide, close}
use Rattle.m5_cps_convert.specs.Proper.{Proper}
use Rattle.m5_cps_convert.specs.Statics.{Static, kont, Works}
use Rattle.m5_cps_convert.specs.Slots.{Slot, SVal, SKont, SGoal, SStart, Slots, Fits, Frames}
use Rattle.m5_cps_convert.specs.Narrow.{widest, Narrow}

abbrev pub setting : ProgramTerm → Setting
setting P = setting_of P.functions

module _ (P : ProgramTerm) (n : ℕ) (c : Code) (S : Slots) where
  -- a closure of the block c over n slots is a function
  pub record FnReads (v : Expression) : Type 0 where
    pub narrow : Narrow (widest P) c (suc (suc (suc n)))
    pub scope : Scope
    pub values : Values
    pub x : ℕ
    pub parameter : TypeExpression
    pub body : Expression
    pub proper : Proper body
    pub fits : Fits S n scope values
    pub code : c ≡ body_code (cps (setting P) body) (fn_scope x parameter n scope) n
    pub is : v ≡ unary (unary_form.Fn x parameter) (close (hide (x ∷ []) values) body)

  -- a recursive one
  pub record RecReads (v : Expression) : Type 0 where
    pub narrow : Narrow (widest P) c (suc (suc (suc n)))
    pub scope : Scope
    pub values : Values
    pub f : ℕ
    pub x : ℕ
    pub parameter : TypeExpression
    pub result : TypeExpression
    pub body : Expression
    pub proper : Proper body
    pub fits : Fits S n scope values
    pub code : c ≡ body_code (cps (setting P) body) (rec_scope f x parameter result n scope) n
    pub is : v ≡ unary (unary_form.Rec f x parameter result) (close (hide (x ∷ f ∷ []) values) body)

  -- frames, at the site of u
  pub record KontReads (u : World) (fs : List Frame) : Type 0 where
    pub narrow : Narrow (widest P) c (suc (suc n))
    pub static : Static
    pub works : Works static
    pub code : c ≡ apply (kont (setting P) static) (suc n) (suc (suc n))
    pub frames : Frames u S n static fs

  -- a term that waits for its frames
  pub record GoalReads (e : Expression) : Type 0 where
    pub narrow : Narrow (widest P) c (suc (suc n))
    pub scope : Scope
    pub values : Values
    pub node : Expression
    pub proper : Proper node
    pub fits : Fits S n scope values
    pub code : c ≡ goal_code (cps (setting P) node) scope n
    pub is : e ≡ close values node

  -- a term with its frames, at the site of u
  pub record StartReads (u : World) (fs : List Frame) (e : Expression) : Type 0 where
    pub narrow : Narrow (widest P) c (suc (suc n))
    pub scope : Scope
    pub values : Values
    pub node : Expression
    pub proper : Proper node
    pub fits : Fits S n scope values
    pub static : Static
    pub code : c ≡ cps (setting P) node scope (suc (suc n)) (kont (setting P) static)
    pub frames : Frames u S n static fs
    pub is : e ≡ close values node

  abbrev pub ClosedReads : Entry → Slot → Type 0
  ClosedReads (by_call m A B) (SVal v) = FnReads v ⊎ RecReads v
  ClosedReads (by_value m T) (SKont u fs) = KontReads u fs
  ClosedReads (by_value m T) (SGoal e) = GoalReads e
  ClosedReads (by_value m T) (SStart u fs e) = StartReads u fs e
  ClosedReads _ _ = ⊥

abbrev pub wrapped : Wrap → Expression → Expression
wrapped (left T) v = unary (unary_form.Inl T) v
wrapped (right T) v = unary (unary_form.Inr T) v
wrapped (held w) v = unary (unary_form.Held w) v
wrapped sham v = unary unary_form.Sham v

abbrev pub joined : Join → Expression → Expression → Expression
joined pair v w = binary binary_form.Pair v w
joined cons v w = binary binary_form.Cons v w

-- a value without parts
abbrev pub IsAtom : LeafForm → Type 0
IsAtom (leaf_form.Var x) = ⊥
IsAtom (leaf_form.Valid x) = ⊥
IsAtom leaf_form.Here = ⊥
IsAtom (leaf_form.Addr v) = IsSiteWorld v
IsAtom f = Unit {0}

abbrev pub Reads : ProgramTerm → Value → Slot → Type 0
Reads P (atom f) (SVal v) = (v ≡ leaf f) × IsAtom f
Reads P (wrap f a) (SVal v) = (x : Expression) × (v ≡ wrapped f x) × Reads P a (SVal x)
Reads P (join f a b) (SVal v) = (x : Expression) × (y : Expression) × (v ≡ joined f x y) × Reads P a (SVal x) × Reads P b (SVal y)
Reads P (closed (over y n c) ρ) s = ClosedReads P n c (λ l. Reads P (ρ l)) y s
Reads P _ _ = ⊥
