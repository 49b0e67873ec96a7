-- What a typed site comes to by local steps is typed, and a typed next is not wrong.
use Rattle.std.proofs.Common.{◌≡◌, ◌≢◌, ℕ, zero, suc, Some, subst}
use Rattle.m5_terms.specs.declared.types.World.{World}
use Rattle.m5_terms.specs.declared.types.World.TheVariants.{Any}
use Rattle.m5_terms.specs.Machine.{goes, asks, wrong, Comes}
use Rattle.m5_typing.specs.Context.{CellTypes, Setting}
use Rattle.m5_typing.specs.Program.{IsProgram}
use Rattle.m5_meaning.specs.Site.{Program, Site}
use Rattle.m5_meaning.specs.Step.{SiteNext, site_next}
use Rattle.m5_site_sound.specs.Settings.{setting, GrowsAt}
use Rattle.m5_site_sound.specs.Sites.{SiteTyped, NextTyped}
use Rattle.m5_site_sound.proofs.Growth.{own-self, own-on}
use Rattle.m5_site_sound.proofs.Steps.{next-typed, declares}

-- what a typed site comes to by local steps
pub record SiteComes (P : Program) (L : CellTypes) (w : World) (x : Site) : Type 0 where
  pub to : CellTypes
  pub grows : GrowsAt w L to
  pub typed : SiteTyped (setting P to) w x

pub comes-typed : (P : Program) (L : CellTypes) (w : World) (n : ℕ) (s x : Site) → IsProgram P → w ≢ Any → SiteTyped (setting P L) w s → Comes (site_next P w) n s x → SiteComes P L w x
comes-typed P L w zero s x h r t c = record { to = L; grows = own-self w L; typed = subst (λ y. SiteTyped (setting P L) w y) c t }
comes-typed P L w (suc n) s x h r t c =
    let k = subst (λ y. NextTyped (setting P L) w y) c.1 (next-typed P (setting P L) w s (declares P L h) r t) in
    let d = comes-typed P k.cells w n c.0 x h r k.typed c.2 in
    record { to = d.to; grows = own-on w L k.cells d.to k.grows d.grows; typed = d.typed }

pub some-inj : (a b : Site) → Some a ≡ Some b → a ≡ b
some-inj a b e = cc

pub not-wrong : (E : Setting) (u : World) (x : SiteNext) → NextTyped E u x → x ≢ wrong
not-wrong E u (goes s) t e = cc
not-wrong E u (asks q f) t e = cc
not-wrong E u wrong t e = t.typed
