-- A site that waits, counted as its machine counts.
use Rattle.std.specs.Prelude.{ℕ, ◌+◌, List}
use Rattle.std.proofs.Common.{◌≡◌, subst}
use Rattle.m5_terms.specs.declared.types.World.{World}
use Rattle.m5_cps.specs.Captured.{Value}
use Rattle.m5_cps_runs.specs.Examples.{chat}
use Rattle.m5_cps_runs.specs.Asking.{Deed, Reaches}
use Rattle.m5_cps_runs.specs.Chat.{waiting, Spends}

-- as the machine counts
pub record Counted (u : World) (h : Value) (deeds : List Deed) (blocks units : ℕ) : Type 0 where
  pub entered : ℕ → ℕ
  pub taken : ℕ → ℕ
  pub reaches : (b c : ℕ) → Reaches chat u (waiting h b c) deeds (waiting h (entered b) (taken c))
  pub more_entered : (b : ℕ) → entered b ≡ b + blocks
  pub more_taken : (c : ℕ) → taken c ≡ c + units

pub spends : {u : World} {h : Value} {deeds : List Deed} {blocks units : ℕ} → Counted u h deeds blocks units → Spends u h deeds blocks units
spends {u} {h} {deeds} {blocks} {units} n b c =
    subst (λ (e : ℕ). Reaches chat u (waiting h b c) deeds (waiting h e (c + units))) (n.more_entered b)
    (subst (λ (t : ℕ). Reaches chat u (waiting h b c) deeds (waiting h (n.entered b) t)) (n.more_taken c) (n.reaches b c))
