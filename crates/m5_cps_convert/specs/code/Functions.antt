-- What is known of a function before and after its body.
use Rattle.std.specs.Prelude.{◌≡◌, ℕ, suc, List, Option, Some, None}
use Rattle.m5_terms.specs.TypeExpression.{TypeExpression, unit, function}
use Rattle.m5_terms.specs.Table.{entries, entered}
use Rattle.m5_terms.specs.declared.types.World.{World}
use Rattle.m5_terms.specs.declared.form.UnaryForm.{UnaryForm}
use Rattle.m5_terms.specs.declared.form.UnaryForm.TheVariants as unary_form
use Rattle.m5_typing.specs.Context.{Setting}
use Rattle.m5_cps.specs.Entries.{world_of}
use Rattle.m5_cps.specs.Steps.{mode_of}
use Rattle.m5_cps.specs.declared.entry.Mode.TheVariants.{Only}
use Rattle.m5_cps_convert.specs.Scopes.{Scope, fn_scope, rec_scope}
use Rattle.m5_cps_convert.specs.declared.walk.Walk.{Walk}
use Rattle.m5_cps_convert.specs.declared.walk.Around.{Around}
use Rattle.m5_cps_convert.specs.declared.functions.Signature.{Signature}
use Rattle.m5_cps_convert.specs.declared.functions.Head.{Head}
use Rattle.m5_cps_convert.specs.code.Types.{IsAt}
use Rattle.m5_cps_convert.specs.code.Writing.{Keeps}
use Rattle.m5_cps_convert.specs.code.Knowing.{Knows}
use Rattle.m5_cps_convert.specs.code.Emitting.{AddsTypes}

abbrev pub IsFunction : UnaryForm → Type 0
IsFunction (unary_form.Fn x A) = Unit {0}
IsFunction (unary_form.Rec f x A B) = Unit {0}
IsFunction f = ⊥

-- the scope of the body, where the function is in slot n
abbrev pub function_scope : UnaryForm → ℕ → Scope → Scope
function_scope (unary_form.Fn x A) n Γ = fn_scope x A n Γ
function_scope (unary_form.Rec f x A B) n Γ = rec_scope f x A B n Γ
function_scope f n Γ = Γ

abbrev pub parameter_type : UnaryForm → TypeExpression
parameter_type (unary_form.Fn x A) = A
parameter_type (unary_form.Rec f x A B) = A
parameter_type f = unit

-- a `fun` has its signature written
abbrev pub IsWritten : List TypeExpression → UnaryForm → Option Signature → Type 0
IsWritten types (unary_form.Rec f x A B) (Some s) = IsAt types s.result B × IsAt types s.whole (function A B)
IsWritten types (unary_form.Rec f x A B) None = ⊥
IsWritten types f written = written ≡ None

-- where the body stands
abbrev pub around_body : World → Around → Around
around_body w at = record { mode = Only w; depth = at.depth; arms = 0 }

pub record IsHead (old new : Walk) (at : Around) (n : ℕ) (f : UnaryForm) (h : Head) : Type 0 where
  pub adds : AddsTypes old new
  pub names : new.names ≡ old.names
  pub argument : IsAt new.types h.argument (parameter_type f)
  pub written : IsWritten new.types f h.written
  pub continuation : h.continuation ≡ suc (suc n)
  pub filled : h.filled ≡ suc (suc (suc n))
  pub known : (w : World) → w ≡ world_of (mode_of at.mode) → (E : Setting) (Γ : Scope) → Knows old.types (entries old.names) old.functions.items at E Γ
      → Knows new.types (entered h.binding (entries new.names)) new.functions.items (around_body w at) E (function_scope f n Γ)

pub record IsSigned (old new : List TypeExpression) (argument : ℕ) (written : Option Signature) (body : ℕ) (s : Signature) : Type 0 where
  pub keeps : Keeps old new
  pub some : (d : Signature) → written ≡ Some d → s ≡ d
  pub none : (A B : TypeExpression) → written ≡ None → IsAt old argument A → IsAt old body B → IsAt new s.result B × IsAt new s.whole (function A B)
