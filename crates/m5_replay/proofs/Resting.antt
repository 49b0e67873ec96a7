-- Whether a site that came to an end of its settling is at rest.
use Rattle.std.proofs.Common.{◌≡◌, ℕ, Bool, true, false, IsTrue, None, Some, Option, refl, sym, ap, subst, ◌∙◌}
use Rattle.std.specs.Prelude.{Result, Ok, Err, IfOk, ◌↔◌}
use Rattle.m5_terms.specs.Machine.{asks}
use Rattle.m5_terms.specs.declared.types.World.{World}
use Rattle.m5_terms.specs.declared.ask.Cause.{Cause}
use Rattle.m5_terms.specs.declared.ask.AskOf.{AskOf}
use Rattle.m5_terms.specs.declared.ask.AskOf.TheVariants as ask
use Rattle.m5_terms.specs.declared.ask.AnswerOf.{AnswerOf}
use Rattle.m5_terms.specs.declared.ask.AnswerOf.TheVariants as answer
use Rattle.m5_meaning.specs.Site.{Program, Site, Item}
use Rattle.m5_meaning.specs.Step.{site_next}
use Rattle.m5_script.specs.Scenario.{Scenario}
use Rattle.m5_script.specs.declared.items.SiteName.{SiteName}
use Rattle.m5_network.specs.Board.{Board, answer_of}
use Rattle.m5_network.specs.Run.{Network, NextAsk, IsAtRest}
use Rattle.m5_network.proofs.Runs.{first_ask}
use Rattle.m5_board.specs.Boards.{BoardLists, board_of}
use Rattle.m5_source_site.specs.Waiting.{resumed}
use Rattle.m5_source_site.specs.declared.resume.Waiting.{Waiting}
use Rattle.m5_sites.specs.ClosedSites.{IsClosedBoard}
use Rattle.m5_sites.proofs.ClosedBoard.{answer-closed}
use Rattle.m5_sites.proofs.Silence.{stays}
use Rattle.m5_replay.specs.code.Looking.{IsEnd, SettlesTo, is_look}
use Rattle.m5_replay.specs.code.Running.{IsRestSeen}
use Rattle.m5_replay.specs.declared.settle.Settled.{Settled}
use Rattle.m5_replay.specs.declared.settle.Settled.TheVariants as settled
use Rattle.m5_replay.proofs.Makings.{no-ask}

-- the settling ended at this ask
next-ask : (P : Program) (S : Scenario) (w : World) (before weight : ℕ) (from : Site) (end : Settled) (q : AskOf Item) (y : Waiting) → end ≡ settled.Asks q y → SettlesTo P S w None before from weight end → NextAsk P w from q (resumed P w y.site y.wait)
next-ask P S w before weight from end q y e h =
    let k : IsEnd P S w None h.at (settled.Asks q y) = subst (IsEnd P S w None h.at) e h.ends in
    record { steps = h.settles.steps; waiting = h.at; comes = h.settles.settling.comes; asking = k.1 }

same-query : (q p : AskOf Item) (f g : AnswerOf Item → Option Site) → asks q f ≡ asks p g → q ≡ p
same-query q p f g e = cc

-- at rest only by a look
looks-alone : (P : Program) (N : Network) (x : SiteName) (q : AskOf Item) (f : AnswerOf Item → Option Site) → NextAsk P x.world (N.site x.session x.world) q f → IsAtRest P N x.session x.world → q ≡ ask.Take
looks-alone P N x q f a r =
    same-query q ask.Take f r.resume (first_ask Site (AskOf Item) (AnswerOf Item) (site_next P x.world) a.steps r.next.steps (N.site x.session x.world) a.waiting r.next.waiting q ask.Take f r.resume a.comes a.asking r.next.comes r.next.asking)

not-so : IsTrue false → ⊥
not-so t = cc

seen : (P : Program) (N : Network) (x : SiteName) (f : AnswerOf Item → Option Site) (old : Board Item) (b : BoardLists Item) (found : Bool) → old ≡ N.board → NextAsk P x.world (N.site x.session x.world) ask.Take f → IsTrue found ↔ ((answer_of old x.session x.world ask.Take).reply ≡ answer.Nothing) → board_of b ≡ (answer_of old x.session x.world ask.Take).board → IsRestSeen P N x b found
seen P N x f old b true e a h k =
    let none : (answer_of old x.session x.world ask.Take).reply ≡ answer.Nothing = h.0 refl in (
      record { resume = f; next = a; nothing_there = subst (λ (z : Board Item). (answer_of z x.session x.world ask.Take).reply ≡ answer.Nothing) e none },
      k ∙ (stays old x.session x.world none ∙ e),
    )
seen P N x f old b false e a h k = λ r. not-so (h.1 (subst (λ (z : Board Item). (answer_of z x.session x.world ask.Take).reply ≡ answer.Nothing) (sym e) r.nothing_there))

-- only a look is one
take-alone : (q : AskOf Item) (y : Waiting) → is_look (settled.Asks q y) ≡ true → q ≡ ask.Take
take-alone ask.Take y h = refl
take-alone (ask.Read k) y h = cc
take-alone (ask.GetText e) y h = cc
take-alone (ask.Say t) y h = cc
take-alone (ask.Set e t) y h = cc
take-alone (ask.On e n) y h = cc
take-alone (ask.Write k t) y h = cc
take-alone (ask.Watch k n) y h = cc
take-alone (ask.Show t) y h = cc
take-alone (ask.Send v i) y h = cc
take-alone (ask.Stop c) y h = cc

-- where the settling ended at a look
abbrev Looks : Program → SiteName → Network → Type 0
Looks P x N = (f : AnswerOf Item → Option Site) × NextAsk P x.world (N.site x.session x.world) ask.Take f

looked : (P : Program) (S : Scenario) (N : Network) (before weight : ℕ) (x : SiteName) (end : Settled) → is_look end ≡ true → SettlesTo P S x.world None before (N.site x.session x.world) weight end → Looks P x N
looked P S N before weight x (settled.Stops c) e h = absurd (let k : false ≡ true = e in cc)
looked P S N before weight x (settled.Asks q y) e h =
    let k : q ≡ ask.Take = take-alone q y e in
    (resumed P x.world y.site y.wait, next-ask P S x.world before weight (N.site x.session x.world) (settled.Asks q y) ask.Take y (ap (λ (p : AskOf Item). settled.Asks p y) k) h)
looked P S N before weight x settled.Wrong e h = absurd (let k : false ≡ true = e in cc)

pub look-seen : {E : Type 0} (o : Result Bool E) (P : Program) (S : Scenario) (N : Network) (before weight : ℕ) (x : SiteName) (end : Settled) (old : Board Item) (b : BoardLists Item) → old ≡ N.board → is_look end ≡ true → SettlesTo P S x.world None before (N.site x.session x.world) weight end →
    IfOk o (λ found. IsTrue found ↔ ((answer_of old x.session x.world ask.Take).reply ≡ answer.Nothing)) → IfOk o (λ found. board_of b ≡ (answer_of old x.session x.world ask.Take).board) → IfOk o (IsRestSeen P N x b)
look-seen (Ok found) P S N before weight x end old b e f h k l = let a = looked P S N before weight x end f h in seen P N x a.0 old b found e a.1 k l
look-seen (Err z) P S N before weight x end old b e f h k l = tt

pub look-closed : {E : Type 0} (o : Result Bool E) (x : SiteName) (old new : Board Item) → IsClosedBoard old → IfOk o (λ found. new ≡ (answer_of old x.session x.world ask.Take).board) → IfOk o (λ found. IsClosedBoard new)
look-closed (Ok found) x old new h e = subst IsClosedBoard (sym e) (answer-closed old x.session x.world ask.Take tt h).board_
look-closed (Err z) x old new h e = tt

none-not-some : (c : Cause) → None ≡ Some c → ⊥
none-not-some c e = cc

-- no other end is rest
pub other-end : (P : Program) (S : Scenario) (N : Network) (before weight : ℕ) (x : SiteName) (end : Settled) → is_look end ≡ false → SettlesTo P S x.world None before (N.site x.session x.world) weight end → IsAtRest P N x.session x.world → ⊥
other-end P S N before weight x (settled.Stops c) n h r = none-not-some c h.ends.0
other-end P S N before weight x (settled.Asks q y) n h r =
    let e : q ≡ ask.Take = looks-alone P N x q (resumed P x.world y.site y.wait) (next-ask P S x.world before weight (N.site x.session x.world) (settled.Asks q y) q y refl h) r in
    let k : true ≡ false = subst (λ (p : AskOf Item). is_look (settled.Asks p y) ≡ false) e n in
    cc
other-end P S N before weight x settled.Wrong n h r = no-ask P x.world h.settles.steps (N.site x.session x.world) h.at ask.Take r.resume h.settles.settling.comes h.ends.1 r.next
