-- After each run each site is stopped, at rest, or can make a deed.
use Rattle.std.proofs.Common.{◌≡◌, ◌≢◌, ◌⊎◌, inl, inr, ℕ, zero, suc, ◌+◌, ◌≤◌, true, false, Option, Some, None, List, [], ◌∷◌, refl, sym, subst, ap, ◌∙◌, arith}
use Rattle.m5_terms.specs.declared.types.World.{World}
use Rattle.m5_terms.specs.declared.types.World.TheVariants.{Any}
use Rattle.m5_terms.specs.declared.ask.Cause.{Cause}
use Rattle.m5_terms.specs.declared.ask.Cause.TheVariants.{Spent}
use Rattle.m5_typing.specs.Context.{CellTypes}
use Rattle.m5_typing.specs.Program.{IsProgram}
use Rattle.m5_terms.specs.Machine.{goes, asks, wrong, Comes}
use Rattle.m5_terms.specs.declared.ask.AskOf.{AskOf}
use Rattle.m5_terms.specs.declared.ask.AskOf.TheVariants as ask
use Rattle.m5_terms.specs.declared.ask.AnswerOf.{AnswerOf}
use Rattle.m5_terms.specs.declared.ask.AnswerOf.TheVariants as answer
use Rattle.m5_meaning.specs.Site.{Program, Thread, Site, Item}
use Rattle.m5_meaning.specs.Step.{SiteNext, after_take, front, site_next}
use Rattle.m5_script.specs.Scenario.{Scenario}
use Rattle.m5_network.specs.Board.{Board, text_at, text_or_missing, text_or_empty, answer_of}
use Rattle.m5_network.specs.Entries.{Deed}
use Rattle.m5_network.specs.Opening.{opening}
use Rattle.m5_network.specs.Run.{Network, IsSite, NextAsk, IsLicensed, IsAtRest, Step, with_site}
use Rattle.m5_site_sound.specs.Settings.{setting}
use Rattle.m5_site_sound.specs.Sites.{SiteTyped, NextTyped}
use Rattle.m5_sound.specs.Networks.{NetworkTyped}
use Rattle.m5_sound.specs.Laws.{SomethingCanHappen}
use Rattle.m5_terms.proofs.SiteWorlds.{is-real}
use Rattle.m5_site_sound.proofs.Steps.{next-typed, declares}
use Rattle.m5_sound.proofs.Networks.{run-typed, opening-is-typed, next-asked, asked-resumed}
use Rattle.m5_site_sound.proofs.Counts.{CountsOne, next-counts}

-- one local step more
comes-on : (P : Program) (w : World) (n : ℕ) (s t u : Site) → Comes (site_next P w) n s t → site_next P w t ≡ goes u → Comes (site_next P w) (suc n) s u
comes-on P w zero s t u c e = (u, ap (site_next P w) c ∙ e, refl)
comes-on P w (suc n) s t u c e = (c.0, c.1, comes-on P w n c.0 t u c.2 e)

-- a next ask, with what resumes the site
pub record SomeAsk (P : Program) (w : World) (from : Site) : Type 0 where
  pub query : AskOf Item
  pub resume : AnswerOf Item → Option Site
  pub next : NextAsk P w from query resume

-- a site without a thread looks for something new
threadless : (P : Program) (S : Scenario) (w : World) (from x : Site) (k : ℕ) (ts : List Thread) → Comes (site_next P w) k from x → x.threads ≡ ts → S.steps ≤ x.steps → SomeAsk P w from ⊎ IsLicensed P S w Spent from
threadless P S w from x k [] c e h = inl (record { query = ask.Take; resume = after_take w x; next = record { steps = k; waiting = x; comes = c; asking = ap (front P w x) e } })
threadless P S w from x k (t ∷ ts) c e h = inr (record { steps = k; at = x; comes = c; has_thread = λ q. let p : t ∷ ts ≡ [] = sym e ∙ q in cc; reached = h })

-- within n local steps the site comes to an ask, or has made as many steps as it may
asks-or-spent : (P : Program) (S : Scenario) (w : World) (n : ℕ) (L : CellTypes) (from x : Site) (k : ℕ) → IsProgram P → w ≢ Any → SiteTyped (setting P L) w x → Comes (site_next P w) k from x → S.steps ≤ x.steps + n → SomeAsk P w from ⊎ IsLicensed P S w Spent from
asks-or-spent P S w zero L from x k p r t c h = threadless P S w from x k x.threads c refl (omega (arith, h))
asks-or-spent P S w (suc n) L from x k p r t c h =
    by (λ M z u d i. asks-or-spent P S w n M from z (suc k) p r u d i) (site_next P w x) refl (next-typed P (setting P L) w x (declares P L p) r t) (next-counts P w x)
  where
    by : ((M : CellTypes) (z : Site) → SiteTyped (setting P M) w z → Comes (site_next P w) (suc k) from z → S.steps ≤ z.steps + n → SomeAsk P w from ⊎ IsLicensed P S w Spent from) →
        (y : SiteNext) → site_next P w x ≡ y → NextTyped (setting P L) w y → CountsOne x y → SomeAsk P w from ⊎ IsLicensed P S w Spent from
    by rest (goes z) e d o = rest d.cells z d.typed (comes-on P w k from x z c e) (let one : z.steps ≡ x.steps + 1 = o in omega (arith, h, one))
    by rest (asks q f) e d o = inl (record { query = q; resume = f; next = record { steps = k; waiting = x; comes = c; asking = e } })
    by rest wrong e d o = absurd d.typed

-- only a look finds nothing

missing-says : (o : Option (List ℕ)) → text_or_missing {Item = Item} o ≢ answer.Nothing
missing-says None e = cc
missing-says (Some t) e = cc

empty-says : (o : Option (List ℕ)) → text_or_empty {Item = Item} o ≢ answer.Nothing
empty-says None e = cc
empty-says (Some t) e = cc

looks : (b : Board Item) (s : ℕ) (w : World) (q : AskOf Item) → (answer_of b s w q).reply ≡ answer.Nothing → q ≡ ask.Take
looks b s w ask.Take e = refl
looks b s w (ask.Read k) e = absurd (missing-says (text_at b.pairs k) e)
looks b s w (ask.GetText k) e = absurd (empty-says (text_at (b.desks s).texts k) e)
looks b s w _ e = cc

is-nothing : (r : AnswerOf Item) → (r ≡ answer.Nothing) ⊎ (r ≢ answer.Nothing)
is-nothing answer.Nothing = inl refl
is-nothing _ = inr (λ e. cc)

abbrev CanHappen : Program → Scenario → Network → ℕ → World → Type 0
CanHappen P S N s w = IsAtRest P N s w ⊎ ((cause : Option Cause) × (d : Deed Item) × (M : Network) × Step P S N (record { session = s; world = w; cause = cause }) d M)

-- the ask gets an answer, or finds nothing
ask-happens : (P : Program) (S : Scenario) (T : ℕ → CellTypes) (N : Network) (s : ℕ) (w : World) → IsProgram P → NetworkTyped P T N → IsSite S s w → (N.site s w).stopped ≡ false → SomeAsk P w (N.site s w) → CanHappen P S N s w
ask-happens P S T N s w p t i f a = by (is-nothing (answer_of N.board s w a.query).reply)
  where
    by : ((answer_of N.board s w a.query).reply ≡ answer.Nothing) ⊎ ((answer_of N.board s w a.query).reply ≢ answer.Nothing) → CanHappen P S N s w
    by (inl quiet) =
        let q : a.query ≡ ask.Take = looks N.board s w a.query quiet in
        inl (record {
          resume = a.resume;
          next = subst (λ q. NextAsk P w (N.site s w) q a.resume) q a.next;
          nothing_there = subst (λ q. (answer_of N.board s w q).reply ≡ answer.Nothing) q quiet;
        })
    by (inr told) =
        let y = asked-resumed P T N s w a.query a.resume (next-asked P T N s w a.query a.resume p (is-real w i.world) t a.next) told in
        let r = (answer_of N.board s w a.query).reply in
        inr (
          None,
          record { session = s; world = w; query = a.query; reply = r },
          with_site s w y.site (answer_of N.board s w a.query).board N,
          record { site = i; runs = f; makes = record { resume = a.resume; next = a.next; session = refl; world = refl; reply = refl; told = told; site = y.site; resumed = y.is; after = refl } },
        )

pub can-happen : SomethingCanHappen
can-happen P S ps ds N s w p k r i f =
    let t = run-typed P S (opening P S) N ps ds (λ s w. []) p r (opening-is-typed P S p k) in
    by t.to t.typed (asks-or-spent P S w S.steps (t.to s) (N.site s w) (N.site s w) 0 p (is-real w i.world) (t.typed.sites s w (is-real w i.world)) refl (omega arith))
  where
    by : (T : ℕ → CellTypes) → NetworkTyped P T N → SomeAsk P w (N.site s w) ⊎ IsLicensed P S w Spent (N.site s w) → CanHappen P S N s w
    by T t (inl a) = ask-happens P S T N s w p t i f a
    by T t (inr l) = inr (
      Some Spent,
      record { session = s; world = w; query = ask.Stop Spent; reply = answer.Done },
      with_site s w (record (N.site s w) { stopped = true }) N.board N,
      record { site = i; runs = f; makes = record { licence = l; deed = refl; after = refl } },
    )
