-- What running one site to its next ask makes of a run whose last line is checked.
use Rattle.std.proofs.Common.{◌≡◌, ℕ, ◌+◌, ◌-◌, Bool, true, false, None, subst, ◌∙◌, inl, inr}
use Rattle.m5_meaning.specs.Site.{Program, Site}
use Rattle.m5_script.specs.Scenario.{Scenario}
use Rattle.m5_script.specs.declared.items.SiteName.{SiteName}
use Rattle.m5_network.specs.Run.{Network}
use Rattle.m5_replay.specs.Settling.{Exceeds}
use Rattle.m5_replay.specs.Fitting.{SettlesSite, ExceedsAt}
use Rattle.m5_replay.specs.code.Looking.{SettlesTo}
use Rattle.m5_replay.specs.code.Running.{IsQuiet, IsRestSeen, RunsOn}
use Rattle.m5_replay.specs.declared.running.Running.{Running}
use Rattle.m5_replay.specs.declared.settle.Settled.{Settled}

false-not-true : false ≡ true → ⊥
false-not-true e = cc

true-not-false : true ≡ false → ⊥
true-not-false e = cc

both : (b : Bool) → b ≡ true → b ≡ false → ⊥
both b e f = cc

-- the site's settling, where it is the network's
pub settles-here : (P : Program) (S : Scenario) (N : Network) (x : SiteName) (before weight : ℕ) (from : Site) (end : Settled) → from ≡ N.site x.session x.world → SettlesTo P S x.world None before from weight end → SettlesTo P S x.world None before (N.site x.session x.world) weight end
settles-here P S N x before weight from end e h = subst (λ (z : Site). SettlesTo P S x.world None before z weight end) e h

pub settles-site : (P : Program) (S : Scenario) (N : Network) (x : SiteName) (before start weight after : ℕ) (end : Settled) → (N.site x.session x.world).stopped ≡ false → start ≡ (N.site x.session x.world).weight → SettlesTo P S x.world None before (N.site x.session x.world) weight end → after ≡ before + (weight - start) → SettlesSite P S N before x after
settles-site P S N x before start weight after end r k h e = inr (record {
  runs = r;
  settled = h.at;
  settles = h.settles;
  weight = e ∙ (λ i. before + (h.weighs i - k i));
})

-- some site before was not at rest
pub runs-on-busy : (P : Program) (S : Scenario) (N : Network) (x : SiteName) (quiet : Bool) (old new : Running) → SettlesSite P S N old.weight x new.weight → quiet ≡ false → RunsOn P S N x quiet false old new
runs-on-busy P S N x quiet old new h e = record {
  settles = h;
  board = λ f. absurd (false-not-true f);
  rests = λ f. absurd (false-not-true f);
  busy = λ f. inl e;
}

pub runs-on : (P : Program) (S : Scenario) (N : Network) (x : SiteName) (quiet now : Bool) (old new : Running) → SettlesSite P S N old.weight x new.weight → quiet ≡ true → (N.site x.session x.world).stopped ≡ false → IsRestSeen P N x new.board now → RunsOn P S N x quiet now old new
runs-on P S N x quiet true old new h q r seen = record {
  settles = h;
  board = λ f. seen.1;
  rests = λ f. (q, inl seen.0);
  busy = λ f. absurd (true-not-false f);
}
runs-on P S N x quiet false old new h q r seen = record {
  settles = h;
  board = λ f. absurd (false-not-true f);
  rests = λ f. absurd (false-not-true f);
  busy = λ f. inr (λ (k : IsQuiet P N x.session x.world). elim k [ inl a ↦ seen a | inr s ↦ both (N.site x.session x.world).stopped s r ]);
}

pub exceeds-at : (P : Program) (S : Scenario) (N : Network) (x : SiteName) (before : ℕ) (from : Site) → from ≡ N.site x.session x.world → (N.site x.session x.world).stopped ≡ false → Exceeds P S x.world None before from → ExceedsAt P S N before x
exceeds-at P S N x before from e r h = record { runs = r; exceeds = subst (Exceeds P S x.world None before) e h }
