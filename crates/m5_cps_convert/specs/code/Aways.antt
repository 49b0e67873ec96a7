-- What the helpers of gets that go away make sure of.
use Rattle.std.specs.Prelude.{◌≡◌, ℕ, suc}
use Rattle.m5_terms.specs.Expression.{Expression}
use Rattle.m5_terms.specs.Table.{entries}
use Rattle.m5_terms.specs.declared.types.World.{World}
use Rattle.m5_terms.specs.declared.form.LeafForm.TheVariants as leaf_form
use Rattle.m5_typing.specs.Context.{Setting}
use Rattle.m5_cps.specs.Entries.{world_of}
use Rattle.m5_cps.specs.Blocks.{constant, send, Code, straight, ends}
use Rattle.m5_cps_convert.specs.Scopes.{Scope}
use Rattle.m5_cps_convert.specs.Forms.{get_away}
use Rattle.m5_cps_convert.specs.Convert.{cps}
use Rattle.m5_cps_convert.specs.declared.walk.Walk.{Walk}
use Rattle.m5_cps_convert.specs.declared.walk.Around.{Around}
use Rattle.m5_cps_convert.specs.declared.walk.Value.{Value}
use Rattle.m5_cps_convert.specs.code.Writing.{Grows, Finishes}
use Rattle.m5_cps_convert.specs.code.Knowing.{Knows}

pub record SendsHome (old new : Walk) (w : World) (k : ℕ) (v : Value) : Type 0 where
  pub finishes : Finishes old new (straight (constant (leaf_form.Addr w)) (ends (send v.filled k v.slot)))

-- what a site at the block's world does; whatever code another site has is still to come, where m slots are filled
pub record EmitsAway (old new : Walk) (at : Around) (v : World) (n k : ℕ) (e : Expression) (m : ℕ) : Type 0 where
  pub filled : m ≡ suc n
  pub grows : Grows old new
  pub code : (E : Setting) (Γ : Scope) (more : Walk) (c : Code) → Knows old.types (entries old.names) old.functions.items at E Γ
      → Finishes new more c → Finishes old more (get_away (world_of Γ.mode) v (cps E e) Γ k n c)
