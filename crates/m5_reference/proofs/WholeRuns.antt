-- A whole run: the named turns and then the rounds, in which no site strands.
use Rattle.std.proofs.Common.{◌≡◌, ℕ, ◌≤◌, ◌++◌, List, [], map, All, refl, sym, ap, subst, ◌∙◌}
use Rattle.std.specs.Prelude.{Result, Ok, Err, IfOk}
use Rattle.std.proofs.lemmas.List.Elements.{All-from_recursion, recursion_from_All, All-weaker}
use Rattle.m5_terms.specs.declared.ask.End.{End}
use Rattle.m5_terms.specs.declared.ask.Entry.{Entry}
use Rattle.m5_typing.specs.Program.{IsProgram}
use Rattle.m5_meaning.specs.Site.{Program}
use Rattle.m5_script.specs.Scenario.{Scenario, IsScript}
use Rattle.m5_script.specs.declared.items.SiteName.{SiteName}
use Rattle.m5_network.specs.Claim.{has_seal}
use Rattle.m5_network.specs.Entries.{entry_of}
use Rattle.m5_network.specs.Opening.{opening}
use Rattle.m5_network.specs.Plain.{sites_of, joined}
use Rattle.m5_network.specs.Run.{Network}
use Rattle.m5_reference.specs.Finishing.{Finishes, OrderEnds, end_of}
use Rattle.m5_reference.specs.Reference.{IsReferenceRun}
use Rattle.m5_reference.specs.Running.{IsNamed, TakesTurns, Settles, Strands, RoundsEnd}
use Rattle.m5_reference.specs.declared.running.Going.{Going}
use Rattle.m5_reference.specs.declared.running.Going.TheVariants as going
use Rattle.m5_reference.specs.declared.running.Running.{Running}
use Rattle.m5_reference.proofs.Claims.{first-order-claims}
use Rattle.m5_reference.proofs.NeverStuck.{reached-first, reached-turns, reached-not-stuck}
use Rattle.m5_network.specs.Laws.{IsSiteNamed}
use Rattle.m5_network.proofs.PlainRuns.{order-named, round-named}
use Rattle.m5_reference.proofs.TurnLists.{made-on, strands-after}

-- the sites that the script names, and all sites, are the run's
pub order-sites : (S : Scenario) → IsScript S → All (IsSiteNamed S.sessions) S.order
order-sites S h = All-from_recursion (IsSiteNamed S.sessions) S.order (order-named S h)

pub round-sites : (S : Scenario) → All (IsSiteNamed S.sessions) (sites_of S.sessions)
round-sites S = All-from_recursion (IsSiteNamed S.sessions) (sites_of S.sessions) (round-named S.sessions)

-- and they are held
pub are-held : (S : Scenario) (n : ℕ) (xs : List SiteName) → n ≡ S.sessions → All (IsSiteNamed S.sessions) xs → All (IsNamed n) xs
are-held S n xs e h =
    let held : (x : SiteName) → IsSiteNamed S.sessions x → IsNamed n x = λ x i. record { from_one = i.from_one; to_last = subst (λ (m : ℕ). x.session ≤ m) (sym e) i.to_last; world = i.world } in
    All-weaker (IsSiteNamed S.sessions) (IsNamed n) held xs h

finishes : (P : Program) (S : Scenario) (N : Network) (old mid new : Running) (h : TakesTurns P S N S.order old mid) → Settles P S h.after (sites_of S.sessions) mid new → Finishes P S N old new
finishes P S N old mid new h k = record {
  deeds = joined h.deeds ++ joined (map joined k.rounds);
  after = k.after;
  plain = record {
    named = h.deeds;
    opened = h.after;
    order = h.turns;
    rounds = k.rounds;
    settled = k.settled;
    going = k.going;
    silent = k.silent;
    last = k.last;
    found_nothing = k.found_nothing;
    all = refl;
  };
  made = made-on P S old mid new (joined h.deeds) (joined (map joined k.rounds)) h.after k.after h.made k.made;
}

strands-then : (P : Program) (S : Scenario) (N : Network) (old mid : Running) → IsScript S → (h : TakesTurns P S N S.order old mid) → Strands P S h.after → Strands P S N
strands-then P S N old mid i h k = strands-after P S N h.after S.order h.deeds (order-sites S i) h.turns k

-- however the rounds end after the named turns
pub ends : {E : Type 0} (r : Result Going E) (P : Program) (S : Scenario) (N : Network) (old mid new : Running) → IsScript S → (h : TakesTurns P S N S.order old mid) → IfOk r (RoundsEnd P S h.after (sites_of S.sessions) mid new) → IfOk r (OrderEnds P S N old new)
ends (Ok going.On) P S N old mid new i h k = finishes P S N old mid new h k
ends (Ok going.Wrong) P S N old mid new i h k = strands-then P S N old mid i h k
ends (Err e) P S N old mid new i h k = tt

-- a typed program's run never strands
pub never-strands : (P : Program) (S : Scenario) → IsProgram P → IsScript S → Strands P S (opening P S) → ⊥
never-strands P S p h k =
    let reached = reached-turns P S (opening P S) k.xs k.deeds k.at (reached-first P S) (recursion_from_All (IsSiteNamed S.sessions) k.xs k.names) k.turns in
    reached-not-stuck P S k.at k.session k.world p h reached k.site k.stuck

pub is-reference-run : (P : Program) (S : Scenario) (old new : Running) (e : End) → IsProgram P → IsScript S → old.entries ≡ [] → Finishes P S (opening P S) old new → e ≡ end_of new.entries → IsReferenceRun P S (record { entries = new.entries; end = e })
is-reference-run P S old new e p h none f ended =
    let shown : new.entries ≡ map (entry_of has_seal) f.deeds = f.made.entries ∙ ap (λ (xs : List Entry). xs ++ map (entry_of has_seal) f.deeds) none in
    first-order-claims P S (record { entries = new.entries; end = e }) f.deeds f.after f.plain p h shown ended
