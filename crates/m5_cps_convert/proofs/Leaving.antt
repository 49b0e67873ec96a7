-- Gets that go to a world that is written, and whose bodies ask at once.
use Rattle.std.proofs.Common.{◌≡◌, Some, None, Bool, true, false, refl, if◌then◌else◌}
use Rattle.m5_terms.specs.TypeExpression.{same_world}
use Rattle.m5_terms.specs.Expression.{Expression, leaf}
use Rattle.m5_terms.specs.declared.types.World.{World}
use Rattle.m5_terms.specs.declared.form.LeafForm.TheVariants as leaf_form
use Rattle.m5_cps_convert.specs.Forms.{variable_of}
use Rattle.m5_cps_convert.specs.Convert.{asks_at_once, away_to}

pub record IsAway (a b : Expression) (w v : World) : Type 0 where
  pub address : a ≡ leaf (leaf_form.Addr v)
  pub other : same_world v w ≡ false
  pub asks : asks_at_once b ≡ true

pub away_is : (a b : Expression) (w v : World) → away_to w a b ≡ Some v → IsAway a b w v
away_is (leaf (leaf_form.Addr y)) b w v e = by (same_world y w) (asks_at_once b) refl refl e
  where
    by : (s q : Bool) → same_world y w ≡ s → asks_at_once b ≡ q → (if s then None else if q then Some y else None) ≡ Some v → IsAway (leaf (leaf_form.Addr y)) b w v
    by true q i j e = absurd (cc)
    by false false i j e = absurd (cc)
    by false true i j e = let same : y ≡ v = cc in record { address = cc; other = cc; asks = j }
away_is a b w v e = absurd (cc)

-- such a body is no variable
pub asks_unnamed : (b : Expression) → asks_at_once b ≡ true → variable_of b ≡ None
asks_unnamed (leaf f) e = absurd (cc)
asks_unnamed _ e = refl
