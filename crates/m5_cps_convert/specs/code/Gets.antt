-- What the helpers of gets make sure of.
use Rattle.std.specs.Prelude.{ℕ}
use Rattle.m5_terms.specs.TypeExpression.{TypeExpression}
use Rattle.m5_terms.specs.Table.{entries}
use Rattle.m5_terms.specs.declared.types.World.{World}
use Rattle.m5_typing.specs.Context.{Setting}
use Rattle.m5_cps.specs.Blocks.{if_here, go, Code, test, ends}
use Rattle.m5_cps.specs.TypeParts.{bound_type}
use Rattle.m5_cps.specs.declared.step.Ending.{Ending}
use Rattle.m5_cps.specs.declared.step.Ending.TheVariants as endings
use Rattle.m5_cps_convert.specs.Scopes.{Scope}
use Rattle.m5_cps_convert.specs.Forms.{away_with_goal, away_with_value, get_value, get_variable}
use Rattle.m5_cps_convert.specs.declared.walk.Walk.{Walk}
use Rattle.m5_cps_convert.specs.declared.walk.Around.{Around}
use Rattle.m5_cps_convert.specs.declared.walk.Value.{Value}
use Rattle.m5_cps_convert.specs.declared.gets.Sent.{Sent}
use Rattle.m5_cps_convert.specs.declared.gets.Sent.TheVariants as sents
use Rattle.m5_cps_convert.specs.code.Types.{IsAt}
use Rattle.m5_cps_convert.specs.code.Writing.{Grows, Finishes}
use Rattle.m5_cps_convert.specs.code.Knowing.{Knows}

abbrev pub here_ending : Sent → ℕ → Ending
here_ending (sents.Value l) k = endings.Go k l
here_ending (sents.Goal g) k = endings.Go g k

abbrev pub away_ending : Sent → ℕ → ℕ → Ending
away_ending (sents.Value l) x b = endings.Send x b l
away_ending (sents.Goal g) x b = endings.Send x g b

-- code that sends away, and code that goes on here or sends
abbrev pub away_code : TypeExpression → World → ℕ → Sent → ℕ → ℕ → Code
away_code T v x (sents.Value l) k n = away_with_value T v x l k n
away_code T v x (sents.Goal g) k n = away_with_goal T v x g k n

abbrev pub sent_code : TypeExpression → World → ℕ → Sent → ℕ → ℕ → Code
sent_code T v x (sents.Value l) k n = get_value T v x l k n
sent_code T v x (sents.Goal g) k n = test if_here x (ends (go g k)) (away_with_goal T v x g k n)

pub record SendsAway (old new : Walk) (v : World) (ty : ℕ) (s : Sent) (x k n : ℕ) : Type 0 where
  pub grows : Grows old new
  pub code : (T : TypeExpression) → IsAt old.types ty T → Finishes old new (away_code T v x s k n)

pub record Sends (old new : Walk) (v : World) (ty : ℕ) (s : Sent) (x k n : ℕ) : Type 0 where
  pub grows : Grows old new
  pub code : (T : TypeExpression) → IsAt old.types ty T → Finishes old new (sent_code T v x s k n)

pub record GetsVariable (old new : Walk) (at : Around) (v : World) (z : ℕ) (x : Value) (k ty : ℕ) : Type 0 where
  pub grows : Grows old new
  pub typed : (E : Setting) (Γ : Scope) → Knows old.types (entries old.names) old.functions.items at E Γ → IsAt new.types ty (bound_type (Γ.bounds z))
  pub code : (E : Setting) (Γ : Scope) → Knows old.types (entries old.names) old.functions.items at E Γ
      → Finishes old new (get_variable (bound_type (Γ.bounds z)) v x.slot (Γ.slots z) k x.filled)
