-- What a place makes where its settling has ended: a stop, the deed of an ask, or nothing.
use Rattle.std.proofs.Common.{◌≡◌, ◌≢◌, ◌⊎◌, ℕ, ◌<◌, List, [], ◌∷◌, Option, Some, None, Bool, true, false, refl, sym, ap, subst, ◌∙◌, arith, inl, inr}
use Rattle.m5_terms.specs.declared.types.World.{World}
use Rattle.m5_terms.specs.declared.ask.Act.{Act}
use Rattle.m5_terms.specs.declared.ask.Act.TheVariants as act
use Rattle.m5_terms.specs.declared.ask.Cause.{Cause}
use Rattle.m5_terms.specs.declared.ask.AskOf.{AskOf}
use Rattle.m5_terms.specs.declared.ask.AskOf.TheVariants as ask
use Rattle.m5_terms.specs.declared.ask.AnswerOf.{AnswerOf}
use Rattle.m5_terms.specs.declared.ask.AnswerOf.TheVariants as answer
use Rattle.m5_terms.specs.declared.ask.Entry.{Entry}
use Rattle.m5_terms.specs.Machine.{goes, asks, wrong, Comes}
use Rattle.m5_meaning.specs.Site.{Program, Site, Item}
use Rattle.m5_meaning.specs.Step.{SiteNext, site_next}
use Rattle.m5_script.specs.Scenario.{Scenario}
use Rattle.m5_network.specs.Board.{Board, answer_of}
use Rattle.m5_network.specs.Entries.{Deed}
use Rattle.m5_network.specs.FirstMoment.{MayStop}
use Rattle.m5_network.specs.Run.{Network, Place, IsSite, NextAsk, Answers, IsLicensed, Step, source, halted, with_site}
use Rattle.m5_network.proofs.Runs.{first_ask, determine}
use Rattle.m5_board.specs.Boards.{BoardLists, board_of}
use Rattle.m5_sites.proofs.LocalSteps.{one-way, goes-further}
use Rattle.std.specs.Prelude.{Result, Ok, Err, IfOk, is_some}
use Rattle.m5_source_site.specs.Waiting.{resumed}
use Rattle.m5_source_site.specs.declared.resume.Waiting.{Waiting}
use Rattle.m5_replay.specs.Settling.{Settling}
use Rattle.m5_replay.specs.code.Looking.{IsEnd, SettlesTo}
use Rattle.m5_replay.specs.declared.settle.Settled.{Settled}
use Rattle.m5_replay.specs.declared.settle.Settled.TheVariants as settled
use Rattle.m5_replay.specs.code.Making.{IsAnswerMade, IsMade}
use Rattle.m5_replay.specs.declared.check.Made.{Made}
use Rattle.m5_replay.specs.declared.check.Made.TheVariants as made

abbrev pub place : ℕ → World → Option Cause → Place
place s w cause = record { session = s; world = w; cause = cause }

three-ways : (m n : ℕ) → (m < n) ⊎ ((m ≡ n) ⊎ (n < m))
three-ways m n = grind arith

-- a settling that ended without the condition met no moment of it
no-licence : (P : Program) (S : Scenario) (w : World) (c : Cause) (n : ℕ) (a y : Site) → Settling P S w (Some c) n a y → (MayStop P S w c y → ⊥) → ((t : Site) → site_next P w y ≡ goes t → ⊥) → IsLicensed P S w c a → ⊥
no-licence P S w c n a y h u stuck l =
    let here : MayStop P S w c l.at = record { has_thread = l.has_thread; reached = l.reached } in
    elim (three-ways l.steps n) [
      | inl p ↦ h.unstopped l.steps l.at p l.comes here
      | inr q ↦ elim q [
        | inl e ↦ u (subst (MayStop P S w c) (one-way (site_next P w) n a l.at y (subst (λ (z : ℕ). Comes (site_next P w) z a l.at) e l.comes) h.comes) here)
        | inr p ↦ let g = goes-further (site_next P w) n l.steps a y l.at p h.comes l.comes in stuck g.0 g.1
      ]
    ]

-- nothing is made by a cause that is not licensed
pub unlicensed : (P : Program) (S : Scenario) (N : Network) (s : ℕ) (w : World) (c : Cause) (n : ℕ) (y : Site) → Settling P S w (Some c) n (N.site s w) y → (MayStop P S w c y → ⊥) → ((t : Site) → site_next P w y ≡ goes t → ⊥) → (d : Deed Item) (M : Network) → Step P S N (place s w (Some c)) d M → ⊥
unlicensed P S N s w c n y h u stuck d M t = no-licence P S w c n (N.site s w) y h u stuck t.makes.licence

asks-not-wrong : (n : SiteNext) (q : AskOf Item) (r : AnswerOf Item → Option Site) → n ≡ asks q r → n ≡ wrong → ⊥
asks-not-wrong n q r e f = cc

asks-not-goes : (n : SiteNext) (q : AskOf Item) (r : AnswerOf Item → Option Site) (t : Site) → n ≡ asks q r → n ≡ goes t → ⊥
asks-not-goes n q r t e f = cc

wrong-not-goes : (n : SiteNext) (t : Site) → n ≡ wrong → n ≡ goes t → ⊥
wrong-not-goes n t e f = cc

pub no-ask : (P : Program) (w : World) (n : ℕ) (a y : Site) (q : AskOf Item) (r : AnswerOf Item → Option Site) → Comes (site_next P w) n a y → site_next P w y ≡ wrong → NextAsk P w a q r → ⊥
no-ask P w n a y q r c e k =
    elim (three-ways k.steps n) [
      | inl p ↦ let g = goes-further (site_next P w) k.steps n a k.waiting y p k.comes c in asks-not-goes (site_next P w k.waiting) q r g.0 k.asking g.1
      | inr z ↦ elim z [
        | inl i ↦ asks-not-wrong (site_next P w y) q r (subst (λ (x : Site). site_next P w x ≡ asks q r) (one-way (site_next P w) n a k.waiting y (subst (λ (j : ℕ). Comes (site_next P w) j a k.waiting) i k.comes) c) k.asking) e
        | inr p ↦ let g = goes-further (site_next P w) n k.steps a y k.waiting p c k.comes in wrong-not-goes (site_next P w y) g.0 e g.1
      ]
    ]

-- nothing is made where the meaning goes wrong
pub wrong-makes-none : (P : Program) (S : Scenario) (N : Network) (s : ℕ) (w : World) (n : ℕ) (y : Site) → Comes (site_next P w) n (N.site s w) y → site_next P w y ≡ wrong → (d : Deed Item) (M : Network) → Step P S N (place s w None) d M → ⊥
wrong-makes-none P S N s w n y c e d M t = no-ask P w n (N.site s w) y d.query t.makes.resume c e t.makes.next

-- the stop of a site whose condition holds
pub stops-made : (P : Program) (S : Scenario) (N : Network) (s : ℕ) (w : World) (c : Cause) (n start : ℕ) (y : Site) (b : BoardLists Item) → IsSite S s w → board_of b ≡ N.board → (N.site s w).stopped ≡ false → start ≡ (N.site s w).weight → Comes (site_next P w) n (N.site s w) y → MayStop P S w c y → IsMade P S N (place s w (Some c)) b (made.Deed None start (act.Stop c))
stops-made P S N s w c n start y b i e r k h m = record {
  deed = record { session = s; world = w; query = ask.Stop c; reply = answer.Done };
  site = halted (N.site s w);
  step = record {
    site = i;
    runs = r;
    makes = record {
      licence = record { steps = n; at = y; comes = h; has_thread = m.has_thread; reached = m.reached };
      deed = refl;
      after = ap (λ (z : Board Item). with_site s w (halted (N.site s w)) z N) e;
    };
  };
  left_is = refl;
  weighs = k;
  entry = refl;
}

same-query : (q p : AskOf Item) (f g : AnswerOf Item → Option Site) → asks q f ≡ asks p g → q ≡ p
same-query q p f g e = cc

same-resume : (q p : AskOf Item) (f g : AnswerOf Item → Option Site) → asks q f ≡ asks p g → f ≡ g
same-resume q p f g e = cc

none-not-some : (o : Option Site) (x : Site) → o ≡ None → o ≡ Some x → ⊥
none-not-some o x e f = cc

-- no other ask is answered
not-answered : (P : Program) (N : Network) (s : ℕ) (w : World) (q : AskOf Item) (r : AnswerOf Item → Option Site) → NextAsk P w (N.site s w) q r → ((answer_of N.board s w q).reply ≡ answer.Nothing) ⊎ (r (answer_of N.board s w q).reply ≡ None) → (d : Deed Item) (M : Network) → Answers P N s w d M → ⊥
not-answered P N s w q r k h d M a =
    let one : asks q r ≡ asks d.query a.resume = first_ask Site (AskOf Item) (AnswerOf Item) (site_next P w) k.steps a.next.steps (N.site s w) k.waiting a.next.waiting q d.query r a.resume k.comes k.asking a.next.comes a.next.asking in
    let reply : d.reply ≡ (answer_of N.board s w q).reply = a.reply ∙ ap (λ (p : AskOf Item). (answer_of N.board s w p).reply) (sym (same-query q d.query r a.resume one)) in
    elim h [
      | inl e ↦ a.told (reply ∙ e)
      | inr e ↦ none-not-some (r d.reply) a.site (ap r reply ∙ e) (ap (λ (f : AnswerOf Item → Option Site). f d.reply) (same-resume q d.query r a.resume one) ∙ a.resumed)
    ]

-- the deed of a site that asks
pub asks-made : (P : Program) (S : Scenario) (N : Network) (s : ℕ) (w : World) (q : AskOf Item) (r : AnswerOf Item → Option Site) (b : BoardLists Item) (m : Made) → IsSite S s w → (N.site s w).stopped ≡ false → NextAsk P w (N.site s w) q r → IsAnswerMade q r (answer_of N.board s w q) b m → IsMade P S N (place s w None) b m
asks-made P S N s w q r b (made.Deed left weight shown) i h k a =
    let entry : Act → Entry = λ z. record { session = s; world = w; act = z } in
    record {
      deed = record { session = s; world = w; query = q; reply = (answer_of N.board s w q).reply };
      site = a.site;
      step = record {
        site = i;
        runs = h;
        makes = record {
          resume = r;
          next = k;
          session = refl;
          world = refl;
          reply = refl;
          told = a.told;
          site = a.site;
          resumed = a.resumed;
          after = ap (λ (z : Board Item). with_site s w a.site z N) a.board_is;
        };
      };
      left_is = a.left_is;
      weighs = a.weighs;
      entry = ap entry (sym a.act_is);
    }
asks-made P S N s w q r b made.Nothing i h k a = λ d M t. not-answered P N s w q r k a d M t.makes

same-head : (d e : Deed Item) (xs ys : List (Deed Item)) → d ∷ xs ≡ e ∷ ys → d ≡ e
same-head d e xs ys h = cc

-- a place makes one deed
pub one-deed : (P : Program) (S : Scenario) (N L M : Network) (p : Place) (d e : Deed Item) → Step P S N p d L → Step P S N p e M → d ≡ e
one-deed P S N L M p d e a b = same-head d e [] [] (determine (source P S) S.sessions N L M (p ∷ []) (d ∷ []) (e ∷ []) (L, a, refl) (M, b, refl)).0

-- nothing is made by a cause where the settling ends at an ask or goes wrong
pub cause-unmade : (P : Program) (S : Scenario) (N : Network) (s : ℕ) (w : World) (c : Cause) (before weight : ℕ) (end : Settled) → (h : SettlesTo P S w (Some c) before (N.site s w) weight end) → (MayStop P S w c h.at → ⊥) → ((t : Site) → site_next P w h.at ≡ goes t → ⊥) → (d : Deed Item) (M : Network) → Step P S N (place s w (Some c)) d M → ⊥
cause-unmade P S N s w c before weight end h u stuck = unlicensed P S N s w c h.settles.steps h.at h.settles.settling u stuck

-- so where an ask is next
pub ask-unmade : (P : Program) (S : Scenario) (N : Network) (s : ℕ) (w : World) (cause : Option Cause) (before weight : ℕ) (q : AskOf Item) (y : Waiting) (end : Settled) → cause ≢ None → end ≡ settled.Asks q y → SettlesTo P S w cause before (N.site s w) weight end → (d : Deed Item) (M : Network) → Step P S N (place s w cause) d M → ⊥
ask-unmade P S N s w None before weight q y end n e h = absurd (n refl)
ask-unmade P S N s w (Some c) before weight q y end n e h =
    let k : IsEnd P S w (Some c) h.at (settled.Asks q y) = subst (IsEnd P S w (Some c) h.at) e h.ends in
    cause-unmade P S N s w c before weight end h k.0 (λ t f. asks-not-goes (site_next P w h.at) q (resumed P w y.site y.wait) t k.1 f)

pub wrong-unmade : (P : Program) (S : Scenario) (N : Network) (s : ℕ) (w : World) (cause : Option Cause) (before weight : ℕ) (end : Settled) → end ≡ settled.Wrong → SettlesTo P S w cause before (N.site s w) weight end → (d : Deed Item) (M : Network) → Step P S N (place s w cause) d M → ⊥
wrong-unmade P S N s w None before weight end e h =
    let k : IsEnd P S w None h.at settled.Wrong = subst (IsEnd P S w None h.at) e h.ends in
    wrong-makes-none P S N s w h.settles.steps h.at h.settles.settling.comes k.1
wrong-unmade P S N s w (Some c) before weight end e h =
    let k : IsEnd P S w (Some c) h.at settled.Wrong = subst (IsEnd P S w (Some c) h.at) e h.ends in
    cause-unmade P S N s w c before weight end h k.0 (λ t f. wrong-not-goes (site_next P w h.at) t k.1 f)

-- the stop where the settling ended
pub stop-made : (P : Program) (S : Scenario) (N : Network) (s : ℕ) (w : World) (cause : Option Cause) (c : Cause) (before weight start : ℕ) (end : Settled) (b : BoardLists Item) → IsSite S s w → board_of b ≡ N.board → (N.site s w).stopped ≡ false → start ≡ (N.site s w).weight → end ≡ settled.Stops c → SettlesTo P S w cause before (N.site s w) weight end → IsMade P S N (place s w cause) b (made.Deed None start (act.Stop c))
stop-made P S N s w cause c before weight start end b i e r k f h =
    let m : IsEnd P S w cause h.at (settled.Stops c) = subst (IsEnd P S w cause h.at) f h.ends in
    subst (λ (o : Option Cause). IsMade P S N (place s w o) b (made.Deed None start (act.Stop c))) (sym m.0) (stops-made P S N s w c h.settles.steps start h.at b i e r k h.settles.settling.comes m.1)

-- the deed of the ask where the settling ended
ask-made : (P : Program) (S : Scenario) (N : Network) (s : ℕ) (w : World) (cause : Option Cause) (before weight : ℕ) (q : AskOf Item) (y : Waiting) (end : Settled) (old : Board Item) (b : BoardLists Item) (m : Made) → cause ≡ None → IsSite S s w → old ≡ N.board → (N.site s w).stopped ≡ false → end ≡ settled.Asks q y → SettlesTo P S w cause before (N.site s w) weight end → IsAnswerMade q (resumed P w y.site y.wait) (answer_of old s w q) b m → IsMade P S N (place s w cause) b m
ask-made P S N s w cause before weight q y end old b m n i e r f h a =
    let k : IsEnd P S w cause h.at (settled.Asks q y) = subst (IsEnd P S w cause h.at) f h.ends in
    let next : NextAsk P w (N.site s w) q (resumed P w y.site y.wait) = record { steps = h.settles.steps; waiting = h.at; comes = h.settles.settling.comes; asking = k.1 } in
    subst (λ (o : Option Cause). IsMade P S N (place s w o) b m) (sym n) (asks-made P S N s w q (resumed P w y.site y.wait) b m i r next (subst (λ (z : Board Item). IsAnswerMade q (resumed P w y.site y.wait) (answer_of z s w q) b m) e a))

pub answer-made : {E : Type 0} (o : Result Made E) (P : Program) (S : Scenario) (N : Network) (s : ℕ) (w : World) (cause : Option Cause) (before weight : ℕ) (q : AskOf Item) (y : Waiting) (end : Settled) (old : Board Item) (b : BoardLists Item) → cause ≡ None → IsSite S s w → old ≡ N.board → (N.site s w).stopped ≡ false → end ≡ settled.Asks q y → SettlesTo P S w cause before (N.site s w) weight end → IfOk o (IsAnswerMade q (resumed P w y.site y.wait) (answer_of old s w q) b) → IfOk o (IsMade P S N (place s w cause) b)
answer-made (Ok m) P S N s w cause before weight q y end old b n i e r f h a = ask-made P S N s w cause before weight q y end old b m n i e r f h a
answer-made (Err z) P S N s w cause before weight q y end old b n i e r f h a = tt

pub some-not-none : (o : Option Cause) (b : Bool) → b ≡ is_some o → b ≡ true → o ≢ None
some-not-none None b e t = absurd (let k : false ≡ true = sym e ∙ t in cc)
some-not-none (Some c) b e t = λ n. cc

pub none-there : (o : Option Cause) (b : Bool) → b ≡ is_some o → b ≡ false → o ≡ None
none-there None b e t = refl
none-there (Some c) b e t = absurd (let k : true ≡ false = sym e ∙ t in cc)
