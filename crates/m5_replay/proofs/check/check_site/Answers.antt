use Rattle.std.proofs.Common.{ℕ, Option, ◌≡◌, ap, subst, ◌∙◌}
use Rattle.m5_terms.specs.declared.ask.Cause.{Cause}
use Rattle.m5_meaning.specs.Site.{Site}
use Rattle.m5_replay.specs.Settling.{Exceeds}
use Rattle.m5_replay.specs.code.Looking.{SettlesTo}
use Rattle.m5_replay.specs.code.Making.{IsMade}
use Rattle.m5_replay.specs.Lines.{cause_named}
use Rattle.m5_replay.proofs.check.check_site.Goals as goal

pub returns-in-Beyond-clause-checked : goal.returns-in-Beyond-clause-checked
returns-in-Beyond-clause-checked c = λ S N before ds limits site stands board runs is named cause.
    let x : Exceeds c.args.program.now S c.args.name.world c.args.cause c.args.running.now.weight c.args.site = rw c.in-Beyond.is at (c.in_ok-settle.ensures.settled S limits) in
    record {
      needs = record { site = site; runs = runs };
      exceeds = subst (λ (o : Option Cause). Exceeds c.args.program.now S c.args.name.world o before (N.site c.args.name.session c.args.name.world)) cause
          (subst (λ (z : Site). Exceeds c.args.program.now S c.args.name.world c.args.cause before z) is (subst (λ (n : ℕ). Exceeds c.args.program.now S c.args.name.world c.args.cause n c.args.site) stands.weighs x));
    }

pub returns-in_ok-made-in-Ends-clause-checked : goal.returns-in_ok-made-in-Ends-clause-checked
returns-in_ok-made-in-Ends-clause-checked c = λ S N before ds limits site stands board runs is named cause.
    let here : Site = N.site c.args.name.session c.args.name.world in
    let To : Option Cause → ℕ → Site → Type 0 = λ o n z. SettlesTo c.args.program.now S c.args.name.world o n z c.in-Ends.weight c.in-Ends.settled in
    let x : To c.args.cause c.args.running.now.weight c.args.site = rw c.in-Ends.is at (c.in_ok-settle.ensures.settled S limits) in
    let y : To c.args.cause before here = subst (To c.args.cause before) is (subst (λ (n : ℕ). To c.args.cause n c.args.site) stands.weighs x) in
    let z : To (cause_named c.args.line.now) before here = subst (λ (o : Option Cause). To o before here) cause y in
    let start : c.weight-start.result ≡ here.weight = c.weight-start.ensures ∙ ap (λ (a : Site). a.weight) is in
    let made = c.in_ok-made-in-Ends.ensures.made S N before c.in-Ends.weight site board runs start y in
    c.compare.ensures.checked c.args.program.now S N before ds z.at (record { whole = stands.whole; taken = stands.taken; sites = stands.sites; weighs = stands.weighs; stops = stands.stops })
    (subst (λ (o : Option Cause). IsMade c.args.program.now S N (record { session = c.args.name.session; world = c.args.name.world; cause = o }) c.make.new.board c.in_ok-made-in-Ends.made) cause made) z.settles start z.weighs named
