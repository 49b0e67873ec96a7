-- An end that counts the stopped sites is rest, or so many stopped.
use Rattle.std.proofs.Common.{◌≡◌, ℕ, zero, suc}
use Rattle.m5_terms.specs.declared.types.World.{World}
use Rattle.m5_terms.specs.declared.ask.End.TheVariants as end
use Rattle.m5_network.specs.Claim.{ending}

pub no_wrong : (n session : ℕ) (w : World) (label : ℕ) → end.Wrong session w label ≡ ending n → ⊥
no_wrong zero session w label h = cc
no_wrong (suc n) session w label h = cc
