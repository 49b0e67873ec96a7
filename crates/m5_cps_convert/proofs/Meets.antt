-- A block's run, and the source's steps that go with it: what is owed for a run, a node's code and a continuation's.
use Rattle.std.proofs.Common.{◌≡◌, ℕ, suc, ◌+◌, ◌*◌, ◌≤◌, ◌⊎◌, inl, inr, List, ◌∷◌, length, Option, Some, false, arith}
use Rattle.m5_terms.specs.Machine.{goes, asks, wrong, Comes}
use Rattle.m5_terms.specs.Related.{AskReads, AnswerReads}
use Rattle.m5_terms.specs.declared.ask.AskOf.{AskOf}
use Rattle.m5_terms.specs.declared.ask.AnswerOf.{AnswerOf}
use Rattle.m5_terms.specs.Expression.{Expression}
use Rattle.m5_terms.specs.declared.types.World.{World}
use Rattle.m5_terms.specs.declared.thread.Frame.{Frame}
use Rattle.m5_terms.specs.declared.thread.Focus.{Focus}
use Rattle.m5_terms.specs.declared.thread.Focus.TheVariants.{Eval, Returned}
use Rattle.m5_meaning.specs.Site.{Program}
use Rattle.m5_meaning.specs.Site as meaning
use Rattle.m5_meaning.specs.Step.{thread_of, step_weight}
use Rattle.m5_meaning.specs.Step as meaning_step
use Rattle.m5_cps.specs.Blocks.{Code}
use Rattle.m5_cps.specs.Values.{SiteNext}
use Rattle.m5_cps.specs.Deeds.{Point, Ran, makes, ends}
use Rattle.m5_cps.specs.Captured.{Closure, Value, Item, Site}
use Rattle.m5_cps.specs.Running.{run}
use Rattle.m5_cps_convert.specs.Scopes.{Scope}
use Rattle.m5_cps_convert.specs.Continuations.{apply}
use Rattle.m5_cps_convert.specs.Convert.{cps}
use Rattle.m5_cps_convert.specs.Closing.{Values, close}
use Rattle.m5_cps_convert.specs.Proper.{Proper, StandsAt}
use Rattle.m5_cps_convert.specs.Statics.{Static, STail, kont}
use Rattle.m5_cps_convert.specs.Slots.{SVal, Has, Fits, Frames}
use Rattle.m5_cps_convert.specs.Narrow.{widest, Narrow}
use Rattle.m5_cps_convert.specs.Reading.{setting}
use Rattle.m5_cps_convert.specs.Threads.{ReadsThreads, ReadsValues, ReadsItem, ReadsState}
use Rattle.m5_cps_convert.proofs.Slots.{In}

abbrev pub W : Program → ℕ
W P = widest P

-- a node's code, where these frames wait for its value; and theirs, where a value is in a slot
abbrev pub code : Program → Expression → Scope → ℕ → Static → Code
code P e Γ n K = cps (setting P) e Γ n (kont (setting P) K)

abbrev pub rest : Program → Static → ℕ → ℕ → Code
rest P K x n = apply (kont (setting P) K) x n

-- a source site that has made so many steps of such a weight
abbrev pub timed : meaning.Site → ℕ → ℕ → meaning.Site
timed s i j = record s { steps = i; weight = j }

-- the site with a front thread
abbrev pub src : meaning.Site → List Frame → Focus → meaning.Site
src s fs f = record s { threads = thread_of fs f ∷ s.threads }

-- after one step that makes so many bytes
abbrev pub ticked : Program → ℕ → meaning.Site → meaning.Site
ticked P m s = timed s (s.steps + 1) (s.weight + step_weight P m)

-- the other threads, the cells and the handlers of both; the source is so many steps behind, and so many units are lent
pub record Tied (P : Program) (u : World) (b c : ℕ) (t : Site) (s : meaning.Site) : Type 0 where
  pub runs : t.stopped ≡ false
  pub source_runs : s.stopped ≡ false
  pub threads : ReadsThreads P u t.threads s.threads
  pub cells : ReadsValues P t.cells s.cells
  pub handlers : ReadsValues P t.handlers s.handlers
  pub entered : t.entered ≤ s.steps + b
  pub units : t.units ≤ 4 * s.weight + (64 + c)

-- the same of other numbers
pub tied_by : {P : Program} {u : World} {b c : ℕ} {t : Site} {s : meaning.Site} (d e units i j : ℕ) → Tied P u b c t s → t.entered ≤ i + d → units ≤ 4 * j + (64 + e) → Tied P u d e (record t { units = units }) (timed s i j)
tied_by d e units i j h p q = record { runs = h.runs; source_runs = h.source_runs; threads = h.threads; cells = h.cells; handlers = h.handlers; entered = p; units = q }

-- a step of the source pays
pub step_pays : {P : Program} {u : World} {b c : ℕ} {t : Site} {s : meaning.Site} (m : ℕ) → Tied P u (suc b) c t s → c ≤ 4 * step_weight P m → Tied P u b 0 t (ticked P m s)
step_pays {P} {u} {b} {c} {t} {s} m h le = tied_by b 0 t.units (s.steps + 1) (s.weight + step_weight P m) h (omega (arith, h.entered)) (omega (arith, h.units, le))

pub take_more : {P : Program} {u : World} {b c : ℕ} {t : Site} {s : meaning.Site} (d : ℕ) → Tied P u b c t s → Tied P u b (c + d) (record t { units = t.units + d }) s
take_more {P} {u} {b} {c} {t} {s} d h = tied_by b (c + d) (t.units + d) s.steps s.weight h h.entered (omega (arith, h.units))

pub behind : {P : Program} {u : World} {c : ℕ} {t : Site} {s : meaning.Site} (b d : ℕ) → Tied P u b c t s → b ≤ d → Tied P u d c t s
behind {P} {u} {c} {t} {s} b d h le = tied_by d c t.units s.steps s.weight h (omega (arith, h.entered, le)) h.units

pub lent : {P : Program} {u : World} {b c : ℕ} {t : Site} {s : meaning.Site} (e : ℕ) → Tied P u b c t s → c ≤ e → Tied P u b e t s
lent {P} {u} {b} {c} {t} {s} e h le = tied_by b e t.units s.steps s.weight h h.entered (omega (arith, h.units, le))

-- the step about to be made makes so many bytes, or more
abbrev pub Weighs : Program → meaning_step.SiteNext → meaning.Site → ℕ → Type 0
Weighs P (goes t) s m = s.weight + step_weight P m ≤ t.weight
Weighs P _ s m = m ≡ 0

-- what the licence of a stop needs, where an object is about to be made
pub record AtPoint (P : Program) (u : World) (p : Point) (s : meaning.Site) : Type 0 where
  pub made : ℕ
  pub weighs : Weighs P (meaning_step.site_next P u s) s made
  pub units : p.units ≤ 4 * (s.weight + step_weight P made) + 64
  pub threads : p.threads ≡ length s.threads
  pub cells : p.cells ≡ length s.cells
  pub handlers : p.handlers ≡ length s.handlers

pub record PointMet (P : Program) (u : World) (p : Point) (from : meaning.Site) : Type 0 where
  pub steps : ℕ
  pub at : meaning.Site
  pub comes : Comes (meaning_step.site_next P u) steps from at
  pub point : AtPoint P u p at

pub record GoesMet (P : Program) (u : World) (t : Site) (from : meaning.Site) : Type 0 where
  pub steps : ℕ
  pub at : meaning.Site
  pub comes : Comes (meaning_step.site_next P u) steps from at
  pub reads : ReadsState P u t at

pub record AsksMet (P : Program) (u : World) (a : AskOf Item) (resume : AnswerOf Item → Option Site) (from : meaning.Site) : Type 0 where
  pub steps : ℕ
  pub waiting : meaning.Site
  pub comes : Comes (meaning_step.site_next P u) steps from waiting
  pub ask : AskOf meaning.Item
  pub resume_ : AnswerOf meaning.Item → Option meaning.Site
  pub asking : meaning_step.site_next P u waiting ≡ asks ask resume_
  pub reads : AskReads (ReadsItem P) a ask
  pub after : (b : AnswerOf Item) (to : Site) (c : AnswerOf meaning.Item) → resume b ≡ Some to → AnswerReads (ReadsItem P u) b c → (at : meaning.Site) × (resume_ c ≡ Some at) × ReadsState P u to at

pub record WrongMet (P : Program) (u : World) (from : meaning.Site) : Type 0 where
  pub steps : ℕ
  pub at : meaning.Site
  pub comes : Comes (meaning_step.site_next P u) steps from at
  pub stuck : meaning_step.site_next P u at ≡ wrong

-- what a block's run owes
abbrev pub NextMet : Program → World → SiteNext Closure → meaning.Site → Type 0
NextMet P u (goes t) s = WrongMet P u s ⊎ GoesMet P u t s
NextMet P u (asks a resume) s = AsksMet P u a resume s
NextMet P u wrong s = WrongMet P u s

abbrev pub Meets : Program → World → Ran Closure → meaning.Site → Type 0
Meets P u (makes p r) s = PointMet P u p s × Meets P u r s
Meets P u (ends x) s = NextMet P u x s

-- a step of the source before
pub back : (P : Program) (u : World) (r : Ran Closure) (s s1 : meaning.Site) → meaning_step.site_next P u s ≡ goes s1 → Meets P u r s1 → Meets P u r s
back P u (makes p r) s s1 e h = (record { steps = suc h.0.steps; at = h.0.at; comes = (s1, e, h.0.comes); point = h.0.point }, back P u r s s1 e h.1)
back P u (ends (goes t)) s s1 e (inl h) = inl (record { steps = suc h.steps; at = h.at; comes = (s1, e, h.comes); stuck = h.stuck })
back P u (ends (goes t)) s s1 e (inr h) = inr (record { steps = suc h.steps; at = h.at; comes = (s1, e, h.comes); reads = h.reads })
back P u (ends (asks a resume)) s s1 e h = record { steps = suc h.steps; waiting = h.waiting; comes = (s1, e, h.comes); ask = h.ask; resume_ = h.resume_; asking = h.asking; reads = h.reads; after = h.after }
back P u (ends wrong) s s1 e h = record { steps = suc h.steps; at = h.at; comes = (s1, e, h.comes); stuck = h.stuck }

-- a continuation that works was entered, and the source is a step behind
abbrev pub bonus : Static → ℕ
bonus (STail k) = 0
bonus K = 1

-- a value comes back to the frames
pub record Resumes (P : Program) (u : World) (K : Static) : Type 0 where
  pub by : (t : Site) (s : meaning.Site) (n : ℕ) (ρ : ℕ → Value) (fs : List Frame) (w : World) (x : ℕ) (v : Expression) → Frames u (In P ρ) n K fs → Has (In P ρ) n x (SVal v) → Tied P u (bonus K) 0 t s → Narrow (W P) (rest P K x n) n → Meets P u (run u (rest P K x n) n ρ t) (src s fs (Returned w v))

-- a node is evaluated
pub record Evals (P : Program) (u : World) (e : Expression) : Type 0 where
  pub by : (K : Static) → Resumes P u K → (t : Site) (s : meaning.Site) (n : ℕ) (ρ : ℕ → Value) (Γ : Scope) (γ : Values) (fs : List Frame) (w : World) → Proper e → StandsAt u w e → Fits (In P ρ) n Γ γ → Frames u (In P ρ) n K fs → Tied P u 1 0 t s → Narrow (W P) (code P e Γ n K) n → Meets P u (run u (code P e Γ n K) n ρ t) (src s fs (Eval w (close γ e)))
