-- A whole run: the named turns and then the rounds.
use Rattle.std.proofs.Common.{◌≡◌, ℕ, ◌≤◌, ◌++◌, List, [], ◌∷◌, map, All, inl, inr, refl, sym, ap, subst, ◌∙◌}
use Rattle.std.specs.Prelude.{Result, Ok, Err, IfOk}
use Rattle.std.specs.List.{AllByRecursion as Each}
use Rattle.std.proofs.lemmas.List.Elements.{All-nil, All-cons, All-from_recursion, All-weaker}
use Rattle.m5_terms.specs.declared.ask.Entry.{Entry}
use Rattle.m5_terms.specs.declared.ask.End.TheVariants as end
use Rattle.m5_script.specs.Scenario.{Scenario, IsScript}
use Rattle.m5_script.specs.declared.items.SiteName.{SiteName}
use Rattle.m5_network.specs.Claim.{IsAtItsWorld, primitive_of, place_of}
use Rattle.m5_network.specs.Entries.{Deed}
use Rattle.m5_network.specs.Kinds.{Place, RunOf}
use Rattle.m5_network.specs.Laws.{IsSiteNamed, places_shown}
use Rattle.m5_network.specs.Opening.{opening_of}
use Rattle.m5_network.specs.Plain.{sites_of, joined}
use Rattle.m5_network.proofs.Finished.{order-finished}
use Rattle.m5_network.proofs.PlainRuns.{places-are, order-run, order-named, round-named}
use Rattle.m5_shared.specs.Shared.{history_of}
use Rattle.m5_site.specs.Kind.{object_kind, limits_of}
use Rattle.m5_site.specs.Object.{Bundle}
use Rattle.m5_site.proofs.Apart.{stops_apart}
use Rattle.m5_net.specs.Run.{IsFinishedRun, IsWrongRun}
use Rattle.m5_net.specs.Running.{IsNamed, TakesTurns, Settles, TurnsEnd, RoundsEnd, Finishes, OrderEnds, IsOwnDeed, shows}
use Rattle.m5_net.specs.Turning.{Net}
use Rattle.m5_net.specs.declared.running.Going.{Going}
use Rattle.m5_net.specs.declared.running.Going.TheVariants as going
use Rattle.m5_net.specs.declared.running.Running.{Running}
use Rattle.m5_net.proofs.TurnLists.{made_on, entries_on, own_append}

-- the sites that the script names, and all sites, are the run's
pub order_sites : (S : Scenario) → IsScript S → All (IsSiteNamed S.sessions) S.order
order_sites S h = All-from_recursion (IsSiteNamed S.sessions) S.order (order-named S h)

pub round_sites : (S : Scenario) → All (IsSiteNamed S.sessions) (sites_of S.sessions)
round_sites S = All-from_recursion (IsSiteNamed S.sessions) (sites_of S.sessions) (round-named S.sessions)

-- and they are held
pub are_held : (S : Scenario) (n : ℕ) (xs : List SiteName) → n ≡ S.sessions → All (IsSiteNamed S.sessions) xs → All (IsNamed n) xs
are_held S n xs e h =
    let held : (x : SiteName) → IsSiteNamed S.sessions x → IsNamed n x = λ x i. record { from_one = i.from_one; to_last = subst (λ (m : ℕ). x.session ≤ m) (sym e) i.to_last; world = i.world } in
    All-weaker (IsSiteNamed S.sessions) (IsNamed n) held xs h

abbrev Open : (O : Bundle) (S : Scenario) → Net O (limits_of S)
Open O S = opening_of (object_kind O (limits_of S)) S

finishes : (O : Bundle) (S : Scenario) (old mid new : Running) (h : TakesTurns O (limits_of S) S.sessions (Open O S) S.order old mid) → Settles O (limits_of S) S.sessions h.after (sites_of S.sessions) mid new → Finishes O S old new
finishes O S old mid new h k = record {
  deeds = joined h.deeds ++ joined (map joined k.rounds);
  last = k.after;
  plain = record {
    named = h.deeds;
    opened = h.after;
    order = h.turns;
    rounds = k.rounds;
    settled = k.settled;
    going = k.going;
    silent = k.silent;
    last = k.last;
    found_nothing = k.found_nothing;
    all = refl;
  };
  made = made_on O (limits_of S) S.sessions old mid new (joined h.deeds) (joined (map joined k.rounds)) h.after k.after h.made k.made;
}

-- the meaning goes wrong at one of the named turns
pub strands_first : (O : Bundle) (S : Scenario) (old new : Running) (x : SiteName) (label : ℕ) → TurnsEnd O (limits_of S) S.sessions (Open O S) S.order old new (going.Wrong x label) → OrderEnds O S old new (going.Wrong x label)
strands_first O S old new x label k = record { deeds = k.deeds; at = k.at; way = inl k.way; entries = k.entries; own = k.own; runs = k.runs; stuck = k.stuck }

-- or in a round
strands_then : (O : Bundle) (S : Scenario) (old mid new : Running) (x : SiteName) (label : ℕ) (h : TakesTurns O (limits_of S) S.sessions (Open O S) S.order old mid) → RoundsEnd O (limits_of S) S.sessions h.after (sites_of S.sessions) mid new (going.Wrong x label) → OrderEnds O S old new (going.Wrong x label)
strands_then O S old mid new x label h k = record {
  deeds = joined h.deeds ++ k.deeds;
  at = k.at;
  way = inr (record { named = h.deeds; opened = h.after; order = h.turns; made = k.deeds; last = k.way; all = refl });
  entries = entries_on old mid new (joined h.deeds) k.deeds h.made.entries k.entries;
  own = own_append (joined h.deeds) k.deeds h.made.own k.own;
  runs = k.runs;
  stuck = k.stuck;
}

-- however the rounds end after the named turns
pub ends : {E : Type 0} (r : Result Going E) (O : Bundle) (S : Scenario) (old mid new : Running) (h : TakesTurns O (limits_of S) S.sessions (Open O S) S.order old mid) → IfOk r (RoundsEnd O (limits_of S) S.sessions h.after (sites_of S.sessions) mid new) → IfOk r (OrderEnds O S old new)
ends (Ok going.On) O S old mid new h k = finishes O S old mid new h k
ends (Ok (going.Wrong x label)) O S old mid new h k = strands_then O S old mid new x label h k
ends (Err e) O S old mid new h k = tt

abbrev IsOwnEntry : Entry → Type 0
IsOwnEntry e = IsAtItsWorld (primitive_of e.act) e.world

own_entries : (ds : List (Deed (List ℕ))) → Each IsOwnDeed ds → All IsOwnEntry (map shows ds)
own_entries [] h = All-nil IsOwnEntry
own_entries (d ∷ ds) h = All-cons IsOwnEntry (shows d) (map shows ds) h.0 (own_entries ds h.1)

-- what was shown from nothing
from_nothing : (old new : Running) (ds : List (Deed (List ℕ))) → old.shared.entries ≡ [] → new.shared.entries ≡ old.shared.entries ++ map shows ds → new.shared.entries ≡ map shows ds
from_nothing old new ds none h = h ∙ ap (λ (xs : List Entry). xs ++ map shows ds) none

pub is_finished : (O : Bundle) (S : Scenario) (old new : Running) → IsScript S → old.shared.entries ≡ [] → Finishes O S old new → IsFinishedRun O S (history_of new.shared.entries)
is_finished O S old new i none f =
    let K = object_kind O (limits_of S) in
    let shown : new.shared.entries ≡ map shows f.deeds = from_nothing old new f.deeds none f.made.entries in
    let run : RunOf K S.sessions (Open O S) (places_shown K f.deeds) f.deeds f.last = order-run K (stops_apart O (limits_of S)) S (Open O S) f.last f.deeds i f.plain in
    let names : map place_of new.shared.entries ≡ places_shown K f.deeds = ap (map place_of) shown ∙ places-are K f.deeds in
    record {
      deeds = f.deeds;
      last = f.last;
      plain = f.plain;
      shown = shown;
      claim = record {
        deeds = f.deeds;
        last = f.last;
        run = subst (λ (ps : List Place). RunOf K S.sessions (Open O S) ps f.deeds f.last) (sym names) run;
        shown = shown;
        finished = order-finished K S (Open O S) f.last f.deeds f.plain;
        worlds = subst (All IsOwnEntry) (sym shown) (own_entries f.deeds f.made.own);
        ended = refl;
      };
    }

pub is_wrong : (O : Bundle) (S : Scenario) (old new : Running) (x : SiteName) (label : ℕ) → old.shared.entries ≡ [] → OrderEnds O S old new (going.Wrong x label) → IsWrongRun O S (record { entries = new.shared.entries; end = end.Wrong x.session x.world label })
is_wrong O S old new x label none k =
    let shown : new.shared.entries ≡ map shows k.deeds = from_nothing old new k.deeds none k.entries in
    record {
      site = x;
      label = label;
      ended = refl;
      deeds = k.deeds;
      at = k.at;
      way = k.way;
      runs = k.runs;
      stuck = k.stuck;
      shown = shown;
      worlds = subst (All IsOwnEntry) (sym shown) (own_entries k.deeds k.own);
    }
