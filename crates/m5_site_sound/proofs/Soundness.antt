-- No lawful answers lead a typed site to where it is wrong.
use Rattle.std.proofs.Common.{◌≢◌, List, [], ◌∷◌, refl, sym, subst, ◌∙◌}
use Rattle.m5_terms.specs.declared.types.World.{World}
use Rattle.m5_terms.specs.declared.types.World.TheVariants.{Any}
use Rattle.m5_terms.specs.Machine.{Exchange, Exchanges, Behaves, GoesWrong}
use Rattle.m5_typing.specs.Context.{CellTypes}
use Rattle.m5_typing.specs.Program.{IsProgram}
use Rattle.m5_meaning.specs.Site.{Program, Site}
use Rattle.m5_site_sound.specs.Settings.{setting}
use Rattle.m5_site_sound.specs.Sites.{SiteTyped, NextTyped}
use Rattle.m5_site_sound.specs.SourceMachine.{IsAnswerTo, source_machine}
use Rattle.m5_site_sound.specs.Laws.{TypedSitesAreSound}
use Rattle.m5_site_sound.proofs.Growth.{more, grows-self, reply-grown}
use Rattle.m5_site_sound.proofs.Steps.{next-typed, declares}
use Rattle.m5_site_sound.proofs.Onward.{comes-typed, some-inj, not-wrong}

-- typed by some types of the cells, which are not a function of the site
record SomeTyped (P : Program) (w : World) (s : Site) : Type 0 where
  pub cells : CellTypes
  pub typed : SiteTyped (setting P cells) w s

-- what a lawful answer makes of a site is typed, by the types of cells that its own record names or by more
answered : (P : Program) (w : World) (s to : Site) (x : Exchange (source_machine P w)) → IsProgram P → w ≢ Any → Exchanges (source_machine P w) s x to → SomeTyped P w to
answered P w s to x h r e =
    let l = e.lawful in
    let E = setting P l.cells in
    let k = subst (λ y. NextTyped E w y) e.asking (next-typed P E w e.waiting (declares P l.cells h) r l.site) in
    let reply = reply-grown E (setting P k.cells) (more E k.cells k.grows.0) w x.answer l.typed in
    let y = k.typed.1 k.cells x.answer (grows-self k.cells) refl (subst (λ n. IsAnswerTo n x.answer) e.asking l.fits) reply in
    record { cells = k.cells; typed = subst (λ z. SiteTyped (setting P k.cells) w z) (some-inj y.0 to (sym y.1 ∙ e.resumed)) y.2 }

behaves-typed : (P : Program) (w : World) (xs : List (Exchange (source_machine P w))) (s to : Site) → IsProgram P → w ≢ Any → SomeTyped P w s → Behaves (source_machine P w) xs s to → SomeTyped P w to
behaves-typed P w [] s to h r t b = subst (λ y. SomeTyped P w y) b t
behaves-typed P w (x ∷ xs) s to h r t b = behaves-typed P w xs b.0 to h r (answered P w s b.0 x h r b.1) b.2

never-wrong : (P : Program) (w : World) (s : Site) → IsProgram P → w ≢ Any → SomeTyped P w s → GoesWrong (source_machine P w) s → ⊥
never-wrong P w s h r t g =
    let c = comes-typed P t.cells w g.steps s g.at h r t.typed g.comes in
    not-wrong (setting P c.to) w _ (next-typed P (setting P c.to) w g.at (declares P c.to h) r c.typed) g.stuck

pub sites-are-sound : TypedSitesAreSound
sites-are-sound P L w s h r t f = never-wrong P w f.at h r (behaves-typed P w f.exchanges s f.at h r (record { cells = L; typed = t }) f.behaves) f.goes_wrong
