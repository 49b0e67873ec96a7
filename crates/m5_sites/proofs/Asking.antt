-- What waits with a look is the site itself.
use Rattle.std.proofs.Common.{◌≡◌, [], Option, Some, None, ap}
use Rattle.m5_terms.specs.declared.types.World.{World}
use Rattle.m5_terms.specs.declared.types.World.TheVariants.{Any}
use Rattle.m5_terms.specs.declared.ask.AnswerOf.{AnswerOf}
use Rattle.m5_terms.specs.declared.ask.AnswerOf.TheVariants as answer
use Rattle.m5_meaning.specs.Site.{Program, Site, Item, raw}
use Rattle.m5_meaning.specs.Step.{after_take}
use Rattle.m5_source_site.specs.Waiting.{resumed}
use Rattle.m5_source_site.specs.declared.resume.Wait.{Wait}
use Rattle.m5_source_site.specs.declared.resume.Wait.TheVariants as wait

not-none : (x y : Site) → None ≡ Some x → y ≡ x
not-none x y e = cc

same-some : (x y : Site) → Some y ≡ Some x → y ≡ x
same-some x y e = cc

-- what waits with a look is the site itself, as its answer to raw bytes shows
pub same-wait : (P : Program) (u : World) (y x : Site) (k : Wait) → resumed P u y k ≡ after_take u x → y ≡ x
same-wait P u y x wait.Done e = not-none x y (ap (λ (f : AnswerOf Item → Option Site). f (answer.Message Any (raw []))) e)
same-wait P u y x (wait.Text fs w) e = not-none x y (ap (λ (f : AnswerOf Item → Option Site). f (answer.Message Any (raw []))) e)
same-wait P u y x (wait.Read fs w) e = not-none x y (ap (λ (f : AnswerOf Item → Option Site). f (answer.Message Any (raw []))) e)
same-wait P u y x wait.Take e = same-some x y (ap (λ (f : AnswerOf Item → Option Site). f (answer.Message Any (raw []))) e)
same-wait P u y x wait.Stop e = not-none x y (ap (λ (f : AnswerOf Item → Option Site). f (answer.Message Any (raw []))) e)
