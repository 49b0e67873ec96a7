-- Where parts stand, in the walk's words.
use Rattle.std.specs.Prelude.{◌≡◌, ℕ, suc}
use Rattle.m5_terms.specs.declared.form.UnaryForm.{UnaryForm}
use Rattle.m5_terms.specs.declared.form.UnaryForm.TheVariants.{Sham}
use Rattle.m5_cps.specs.declared.entry.Mode.TheVariants.{Everywhere}
use Rattle.m5_cps_convert.specs.declared.walk.Around.{Around}

pub record IsUnderSham (at inside : Around) : Type 0 where
  pub deeper : ℕ
  pub one_more : deeper ≡ suc at.depth
  pub is : inside ≡ record { mode = Everywhere; depth = deeper; arms = at.arms }

pub record IsInArm (at inside : Around) : Type 0 where
  pub arms : ℕ
  pub one_more : arms ≡ suc at.arms
  pub is : inside ≡ record at { arms = arms }

abbrev pub IsPartAround : Around → UnaryForm → Around → Type 0
IsPartAround at Sham inside = IsUnderSham at inside
IsPartAround at f inside = inside ≡ at
