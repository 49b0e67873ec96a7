-- Turns one after another, and rounds of them.
use Rattle.std.proofs.Common.{◌≡◌, ◌≢◌, ℕ, ◌+◌, ◌<◌, List, [], ◌∷◌, ◌++◌, length, map, get_or, take, All, refl, sym, ap, subst, ◌∙◌, append_assoc, append-nil, arith}
use Rattle.std.proofs.lemmas.List.{map-append, take_more, length-append}
use Rattle.std.proofs.lemmas.List.Elements.{All-nil, All-take, All-append}
use Rattle.m5_terms.specs.declared.ask.Entry.{Entry}
use Rattle.m5_meaning.specs.Site.{Program, Item}
use Rattle.m5_script.specs.Scenario.{Scenario}
use Rattle.m5_script.specs.declared.items.SiteName.{SiteName}
use Rattle.m5_network.specs.Claim.{has_seal}
use Rattle.m5_network.specs.Entries.{Deed, entry_of}
use Rattle.m5_network.specs.Plain.{TurnTaking, Turns, Rounds, joined}
use Rattle.m5_network.specs.Run.{Network, IsSite}
use Rattle.m5_reference.specs.Reference.{FirstTurn}
use Rattle.m5_reference.specs.Running.{StandsFor, Made, TakesTurn, TakesTurns, TakesRounds, Settles, Strands}
use Rattle.m5_reference.specs.Turning.{IsStuck}
use Rattle.m5_reference.specs.declared.running.Running.{Running}

-- turns go on from where others end
pub turns-append : (T : TurnTaking) (N M L : Network) (xs ys : List SiteName) (dss ess : List (List (Deed Item))) → Turns T N xs dss M → Turns T M ys ess L → Turns T N (xs ++ ys) (dss ++ ess) L
turns-append T N M L [] ys [] ess h k = subst (λ (X : Network). Turns T X ys ess L) h k
turns-append T N M L [] ys (ds ∷ dss) ess h k = absurd h
turns-append T N M L (x ∷ xs) ys [] ess h k = absurd h
turns-append T N M L (x ∷ xs) ys (ds ∷ dss) ess h k = (h.0, h.1, turns-append T h.0 M L xs ys dss ess h.2 k)

pub joined-append : (dss ess : List (List (Deed Item))) → joined (dss ++ ess) ≡ joined dss ++ joined ess
joined-append [] ess = refl
joined-append (ds ∷ dss) ess = ap (λ (xs : List (Deed Item)). ds ++ xs) (joined-append dss ess) ∙ sym (append_assoc ds (joined dss) (joined ess))

joined-one : (dss : List (List (Deed Item))) (ds : List (Deed Item)) → joined (dss ++ ds ∷ []) ≡ joined dss ++ ds
joined-one dss ds = joined-append dss (ds ∷ []) ∙ ap (λ (xs : List (Deed Item)). joined dss ++ xs) (append-nil ds)

abbrev shows : List (Deed Item) → List Entry
shows ds = map (entry_of has_seal) ds

-- what was made first and what was made then
pub made-on : (P : Program) (S : Scenario) (old mid new : Running) (ds es : List (Deed Item)) (M L : Network) → Made P S old mid ds M → Made P S mid new es L → Made P S old new (ds ++ es) L
made-on P S old mid new ds es M L h k = record {
  stands = k.stands;
  entries = k.entries ∙ (ap (λ (xs : List Entry). xs ++ shows es) h.entries ∙ (append_assoc old.entries (shows ds) (shows es) ∙ ap (λ (xs : List Entry). old.entries ++ xs) (sym (map-append (entry_of has_seal) ds es))));
}

made-as : (P : Program) (S : Scenario) (old new : Running) (ds es : List (Deed Item)) (M : Network) → ds ≡ es → Made P S old new ds M → Made P S old new es M
made-as P S old new ds es M e h = subst (λ (xs : List (Deed Item)). Made P S old new xs M) e h

pub made-none : (P : Program) (S : Scenario) (r : Running) (N : Network) → StandsFor P S r N → Made P S r r [] N
made-none P S r N h = record { stands = h; entries = sym (append-nil r.entries) }

pub no-turns : (P : Program) (S : Scenario) (N : Network) (r : Running) → StandsFor P S r N → TakesTurns P S N [] r r
no-turns P S N r h = record { deeds = []; after = N; turns = refl; made = made-none P S r N h }

one-more : (P : Program) (S : Scenario) (N : Network) (xs : List SiteName) (x : SiteName) (old mid new : Running) (h : TakesTurns P S N xs old mid) → TakesTurn P S h.after x mid new → TakesTurns P S N (xs ++ x ∷ []) old new
one-more P S N xs x old mid new h k = record {
  deeds = h.deeds ++ k.deeds ∷ [];
  after = k.after;
  turns = turns-append (FirstTurn P S) N h.after k.after xs (x ∷ []) h.deeds (k.deeds ∷ []) h.turns (k.after, k.turn, refl);
  made = made-as P S old new (joined h.deeds ++ k.deeds) (joined (h.deeds ++ k.deeds ∷ [])) k.after (sym (joined-one h.deeds k.deeds)) (made-on P S old mid new (joined h.deeds) k.deeds h.after k.after h.made k.made);
}

-- the turn of the site at an index, after those before it
pub next-turn : (P : Program) (S : Scenario) (N : Network) (xs : List SiteName) (i : ℕ) (d : SiteName) (old mid new : Running) → i < length xs → (h : TakesTurns P S N (take i xs) old mid) → TakesTurn P S h.after (get_or xs i d) mid new → TakesTurns P S N (take (i + 1) xs) old new
next-turn P S N xs i d old mid new l h k = subst (λ (ys : List SiteName). TakesTurns P S N ys old new) (sym (take_more xs i d l)) (one-more P S N (take i xs) (get_or xs i d) old mid new h k)

abbrev AreSites : Scenario → List SiteName → Type 0
AreSites S xs = All (λ (x : SiteName). IsSite S x.session x.world) xs

pub stuck-there : (P : Program) (S : Scenario) (N : Network) (xs : List SiteName) (i : ℕ) (x : SiteName) (old mid : Running) → AreSites S xs → IsSite S x.session x.world → (h : TakesTurns P S N (take i xs) old mid) → IsStuck P h.after x.session x.world → Strands P S N
stuck-there P S N xs i x old mid a s h k = record {
  xs = take i xs;
  deeds = h.deeds;
  at = h.after;
  turns = h.turns;
  names = All-take (λ (y : SiteName). IsSite S y.session y.world) i xs a;
  session = x.session;
  world = x.world;
  site = s;
  stuck = k;
}

-- turns that strand after others strand from where those began
pub strands-after : (P : Program) (S : Scenario) (N M : Network) (xs : List SiteName) (dss : List (List (Deed Item))) → AreSites S xs → Turns (FirstTurn P S) N xs dss M → Strands P S M → Strands P S N
strands-after P S N M xs dss a t k = record {
  xs = xs ++ k.xs;
  deeds = dss ++ k.deeds;
  at = k.at;
  turns = turns-append (FirstTurn P S) N M k.at xs k.xs dss k.deeds t k.turns;
  names = All-append (λ (y : SiteName). IsSite S y.session y.world) xs k.xs a k.names;
  session = k.session;
  world = k.world;
  site = k.site;
  stuck = k.stuck;
}

pub no-rounds : (P : Program) (S : Scenario) (N : Network) (xs : List SiteName) (r : Running) → StandsFor P S r N → TakesRounds P S N xs r r
no-rounds P S N xs r h = record { rounds = []; after = N; going = refl; made = made-none P S r N h }

rounds-one : (T : TurnTaking) (xs : List SiteName) (N M L : Network) (rounds : List (List (List (Deed Item)))) (round : List (List (Deed Item))) → Rounds T xs N rounds M → Turns T M xs round L → joined round ≢ [] → Rounds T xs N (rounds ++ round ∷ []) L
rounds-one T xs N M L [] round h k n = (L, subst (λ (X : Network). Turns T X xs round L) h k, n, refl)
rounds-one T xs N M L (r ∷ rounds) round h k n = (h.0, h.1, h.2, rounds-one T xs h.0 M L rounds round h.3 k n)

all-one : (rounds : List (List (List (Deed Item)))) (round : List (List (Deed Item))) → joined (map joined (rounds ++ round ∷ [])) ≡ joined (map joined rounds) ++ joined round
all-one rounds round = ap joined (map-append joined rounds (round ∷ [])) ∙ joined-one (map joined rounds) (joined round)

-- one more round that makes deeds
pub next-round : (P : Program) (S : Scenario) (N : Network) (xs : List SiteName) (old mid new : Running) (h : TakesRounds P S N xs old mid) (k : TakesTurns P S h.after xs mid new) → joined k.deeds ≢ [] → TakesRounds P S N xs old new
next-round P S N xs old mid new h k n = record {
  rounds = h.rounds ++ k.deeds ∷ [];
  after = k.after;
  going = rounds-one (FirstTurn P S) xs N h.after k.after h.rounds k.deeds h.going k.turns n;
  made = made-as P S old new _ _ k.after (sym (all-one h.rounds k.deeds)) (made-on P S old mid new (joined (map joined h.rounds)) (joined k.deeds) h.after k.after h.made k.made);
}

-- a round that makes none
pub last-round : (P : Program) (S : Scenario) (N : Network) (xs : List SiteName) (old mid new : Running) (h : TakesRounds P S N xs old mid) (k : TakesTurns P S h.after xs mid new) → joined k.deeds ≡ [] → Settles P S N xs old new
last-round P S N xs old mid new h k n = record {
  rounds = h.rounds;
  settled = h.after;
  going = h.going;
  silent = k.deeds;
  after = k.after;
  last = k.turns;
  found_nothing = n;
  made = made-as P S old new _ _ k.after (ap (λ (es : List (Deed Item)). joined (map joined h.rounds) ++ es) n ∙ append-nil (joined (map joined h.rounds))) (made-on P S old mid new (joined (map joined h.rounds)) (joined k.deeds) h.after k.after h.made k.made);
}

-- rounds are turns of the same sites again and again
record Flat (T : TurnTaking) (S : Scenario) (N M : Network) : Type 0 where
  pub xs : List SiteName
  pub deeds : List (List (Deed Item))
  pub names : AreSites S xs
  pub turns : Turns T N xs deeds M

flat : (T : TurnTaking) (S : Scenario) (xs : List SiteName) (N M : Network) (rounds : List (List (List (Deed Item)))) → AreSites S xs → Rounds T xs N rounds M → Flat T S N M
flat T S xs N M [] a h = record { xs = []; deeds = []; names = All-nil (λ (y : SiteName). IsSite S y.session y.world); turns = h }
flat T S xs N M (r ∷ rounds) a h =
    let f = flat T S xs h.0 M rounds a h.3 in
    record { xs = xs ++ f.xs; deeds = r ++ f.deeds; names = All-append (λ (y : SiteName). IsSite S y.session y.world) xs f.xs a f.names; turns = turns-append T N h.0 M xs f.xs r f.deeds h.1 f.turns }

pub strands-rounds : (P : Program) (S : Scenario) (N : Network) (xs : List SiteName) (old mid : Running) → AreSites S xs → (h : TakesRounds P S N xs old mid) → Strands P S h.after → Strands P S N
strands-rounds P S N xs old mid a h k =
    let f = flat (FirstTurn P S) S xs N h.after h.rounds a h.going in
    strands-after P S N h.after f.xs f.deeds f.names f.turns k

no-length : (ds : List (Deed Item)) → length (shows ds) ≡ 0 → ds ≡ []
no-length [] h = refl
no-length (d ∷ ds) h = absurd (omega (arith, h))

-- where the history is no longer than before, no deed was made
pub silent-round : (P : Program) (S : Scenario) (old new : Running) (ds : List (Deed Item)) (M : Network) → Made P S old new ds M → length new.entries ≡ length old.entries → ds ≡ []
silent-round P S old new ds M h e =
    let sum : length new.entries ≡ length old.entries + length (shows ds) = ap length h.entries ∙ length-append old.entries (shows ds) in
    no-length ds (omega (arith, sum, e))

pub busy-round : (P : Program) (S : Scenario) (old new : Running) (ds : List (Deed Item)) (M : Network) → Made P S old new ds M → length new.entries ≢ length old.entries → ds ≢ []
busy-round P S old new ds M h n e = n (ap length (h.entries ∙ (ap (λ (xs : List (Deed Item)). old.entries ++ shows xs) e ∙ append-nil old.entries)))
