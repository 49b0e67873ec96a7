-- What is seen of a state: idle, over its steps, over its region, or free.
use Rattle.std.proofs.Common.{◌≡◌, ◌≢◌, ℕ, zero, suc, ◌+◌, ◌-◌, ◌<◌, ◌≤◌, Bool, true, false, nat_lt, List, [], ◌∷◌, Option, Some, None, refl, ap, subst, if◌then◌else◌, arith}
use Rattle.std.specs.Prelude.{slice_get}
use Rattle.m5_terms.specs.Expression.{Expression, leaf, unary}
use Rattle.m5_terms.specs.declared.types.World.{World}
use Rattle.m5_terms.specs.declared.ask.Cause.{Cause}
use Rattle.m5_terms.specs.declared.ask.Cause.TheVariants.{Spent, Region, Table}
use Rattle.m5_terms.specs.declared.form.LeafForm.TheVariants as leaf_form
use Rattle.m5_terms.specs.declared.form.UnaryForm.TheVariants as unary_form
use Rattle.m5_terms.specs.declared.thread.Frame.{Frame}
use Rattle.m5_terms.specs.declared.thread.Frame.TheVariants.{Part, Return}
use Rattle.m5_terms.specs.declared.thread.Focus.{Focus}
use Rattle.m5_terms.specs.declared.thread.Focus.TheVariants.{Eval, Returned}
use Rattle.m5_terms.specs.Machine.{goes, asks, wrong}
use Rattle.m5_terms.specs.declared.ask.AskOf.{AskOf}
use Rattle.m5_terms.specs.declared.ask.AskOf.TheVariants as ask
use Rattle.m5_terms.specs.declared.ask.AnswerOf.{AnswerOf}
use Rattle.m5_meaning.specs.Parts.{parts, fill}
use Rattle.m5_meaning.specs.Site.{Program, Thread, Site, Item}
use Rattle.m5_meaning.specs.Reduction.{Reduced, gives, makes_text, goes_on, makes_cell, loads, stores, leaves, says, shows, sets, writes, gets, reads, handles, watches, reduced}
use Rattle.m5_meaning.specs.Reduction as reduction
use Rattle.m5_meaning.specs.Step.{SiteNext, step_weight, is_full, stops_full, atom, loaded, stored, outcome, part_begun, evaluated, returned, focused, after_take, front, site_next, next_weight}
use Rattle.m5_script.specs.Scenario.{Scenario}
use Rattle.m5_reference.specs.declared.limits.Limits.{Limits}
use Rattle.m5_network.specs.FirstMoment.{MayStop, IsFree}
use Rattle.m5_reference.specs.Moments.{HasLimits}
use Rattle.m5_sites.proofs.Counted.{idle_asks}

pub idle : (P : Program) (S : Scenario) (w : World) (x : Site) → x.threads ≡ [] → IsFree P S w x
idle P S w x e = λ cause m. m.has_thread e

pub spent : (P : Program) (S : Scenario) (l : Limits) (w : World) (x : Site) → HasLimits S l → x.threads ≢ [] → l.steps ≤ x.steps → MayStop P S w Spent x × (Spent ≡ Region → MayStop P S w Spent x → ⊥)
spent P S l w x h t e = (record { has_thread = t; reached = omega (arith, h.steps, e) }, λ q m. cc)

-- the region, where the steps are not spent
pub crowded : (P : Program) (S : Scenario) (l : Limits) (w : World) (x : Site) → HasLimits S l → x.threads ≢ [] → x.steps < l.steps → l.region ≤ x.weight + next_weight P x (site_next P w x) → MayStop P S w Region x × (Region ≡ Region → MayStop P S w Spent x → ⊥)
crowded P S l w x h t e r = (record { has_thread = t; reached = omega (arith, h.region, r) }, λ q m. let k : S.steps ≤ x.steps = m.reached in omega (arith, h.steps, k, e))

free-of : (P : Program) (S : Scenario) (l : Limits) (w : World) (x : Site) → HasLimits S l → x.steps < l.steps → x.weight + next_weight P x (site_next P w x) < l.region → (cause : Cause) → MayStop P S w cause x → ⊥
free-of P S l w x h e r Spent m = let k : S.steps ≤ x.steps = m.reached in omega (arith, h.steps, k, e)
free-of P S l w x h e r Region m = let k : S.region ≤ x.weight + next_weight P x (site_next P w x) = m.reached in omega (arith, h.region, k, r)
free-of P S l w x h e r Table m = m.reached

pub free : (P : Program) (S : Scenario) (l : Limits) (w : World) (x : Site) → HasLimits S l → x.steps < l.steps → x.weight + next_weight P x (site_next P w x) < l.region → IsFree P S w x
free P S l w x h e r = free-of P S l w x h e r

-- what the code sees of a state from its threads and numbers
pub sees_idle : (P : Program) (S : Scenario) (w : World) (x : Site) → x.threads ≡ [] → IsFree P S w x × (site_next P w x ≡ asks ask.Take (after_take w x))
sees_idle P S w x e = (idle P S w x e, idle_asks P w x e)

pub sees_step : (P : Program) (S : Scenario) (l : Limits) (w : World) (x t : Site) → HasLimits S l → x.steps < l.steps → x.weight < l.region → t.weight < l.region → site_next P w x ≡ goes t → IsFree P S w x × (site_next P w x ≡ goes t)
sees_step P S l w x t h a b d e =
    let k : next_weight P x (site_next P w x) ≡ t.weight - x.weight = ap (next_weight P x) e in
    (free P S l w x h a (omega (arith, k, b, d)), e)

pub sees_heavy_step : (P : Program) (S : Scenario) (l : Limits) (w : World) (x t : Site) → HasLimits S l → x.threads ≢ [] → x.steps < l.steps → l.region ≤ t.weight → site_next P w x ≡ goes t → MayStop P S w Region x × (Region ≡ Region → MayStop P S w Spent x → ⊥)
sees_heavy_step P S l w x t h n a b e =
    let k : next_weight P x (site_next P w x) ≡ t.weight - x.weight = ap (next_weight P x) e in
    crowded P S l w x h n a (omega (arith, k, b))

pub sees_ask : (P : Program) (S : Scenario) (l : Limits) (w : World) (x : Site) (q : AskOf Item) (r : AnswerOf Item → Option Site) → HasLimits S l → x.steps < l.steps → x.weight + step_weight P 0 < l.region → site_next P w x ≡ asks q r → IsFree P S w x × (site_next P w x ≡ asks q r)
sees_ask P S l w x q r h a b e =
    let k : next_weight P x (site_next P w x) ≡ step_weight P 0 = ap (next_weight P x) e in
    (free P S l w x h a (omega (arith, k, b)), e)

pub sees_heavy_ask : (P : Program) (S : Scenario) (l : Limits) (w : World) (x : Site) (q : AskOf Item) (r : AnswerOf Item → Option Site) → HasLimits S l → x.threads ≢ [] → x.steps < l.steps → l.region ≤ x.weight + step_weight P 0 → site_next P w x ≡ asks q r → MayStop P S w Region x × (Region ≡ Region → MayStop P S w Spent x → ⊥)
sees_heavy_ask P S l w x q r h n a b e =
    let k : next_weight P x (site_next P w x) ≡ step_weight P 0 = ap (next_weight P x) e in
    crowded P S l w x h n a (omega (arith, k, b))

pub sees_wrong : (P : Program) (S : Scenario) (l : Limits) (w : World) (x : Site) → HasLimits S l → x.steps < l.steps → x.weight < l.region → site_next P w x ≡ wrong → IsFree P S w x × (site_next P w x ≡ wrong)
sees_wrong P S l w x h a b e =
    let k : next_weight P x (site_next P w x) ≡ 0 = ap (next_weight P x) e in
    (free P S l w x h a (omega (arith, k, b)), e)

pub sees_weight : (P : Program) (S : Scenario) (l : Limits) (w : World) (x : Site) → HasLimits S l → x.threads ≢ [] → x.steps < l.steps → l.region ≤ x.weight → MayStop P S w Region x × (Region ≡ Region → MayStop P S w Spent x → ⊥)
sees_weight P S l w x h n a b = crowded P S l w x h n a (omega (arith, b))
