-- Turns one after another, and rounds of them.
use Rattle.std.proofs.Common.{◌≡◌, ◌≢◌, ℕ, ◌+◌, ◌<◌, List, [], ◌∷◌, ◌++◌, false, Some, length, map, get_or, take, refl, sym, ap, subst, ◌∙◌, append_assoc, append-nil, arith}
use Rattle.std.specs.List.{AllByRecursion as Each}
use Rattle.std.proofs.lemmas.List.{map-append, take_more, length-append}
use Rattle.std.proofs.lemmas.Option.{slice_get-get_or}
use Rattle.m5_terms.specs.declared.ask.Entry.{Entry}
use Rattle.m5_script.specs.declared.items.SiteName.{SiteName}
use Rattle.m5_network.specs.Entries.{Deed}
use Rattle.m5_network.specs.Plain.{TurnOf, Turns, Rounds, joined}
use Rattle.m5_site.specs.declared.state.Limits.{Limits}
use Rattle.m5_site.specs.Kind.{object_kind}
use Rattle.m5_site.specs.Object.{Bundle}
use Rattle.m5_net.specs.Turning.{Net, IsStuck}
use Rattle.m5_net.specs.Running.{StandsFor, Made, TakesTurn, TakesTurns, TakesRounds, Settles, TurnEnds, TurnsEnd, RoundsEnd, IsOwnDeed, shows}
use Rattle.m5_net.specs.declared.running.Going.TheVariants as going
use Rattle.m5_net.specs.declared.running.Running.{Running}

abbrev Deeds : Type 0
Deeds = List (Deed (List ℕ))

-- turns go on from where others end
turns_append : (O : Bundle) (n : Limits) (N M L : Net O n) (xs ys : List SiteName) (dss ess : List Deeds) → Turns (TurnOf (object_kind O n)) N xs dss M → Turns (TurnOf (object_kind O n)) M ys ess L → Turns (TurnOf (object_kind O n)) N (xs ++ ys) (dss ++ ess) L
turns_append O n N M L [] ys [] ess h k = subst (λ (X : Net O n). Turns (TurnOf (object_kind O n)) X ys ess L) h k
turns_append O n N M L [] ys (ds ∷ dss) ess h k = absurd h
turns_append O n N M L (x ∷ xs) ys [] ess h k = absurd h
turns_append O n N M L (x ∷ xs) ys (ds ∷ dss) ess h k = (h.0, h.1, turns_append O n h.0 M L xs ys dss ess h.2 k)

joined_append : (dss ess : List Deeds) → joined (dss ++ ess) ≡ joined dss ++ joined ess
joined_append [] ess = refl
joined_append (ds ∷ dss) ess = ap (λ (xs : Deeds). ds ++ xs) (joined_append dss ess) ∙ sym (append_assoc ds (joined dss) (joined ess))

joined_one : (dss : List Deeds) (ds : Deeds) → joined (dss ++ ds ∷ []) ≡ joined dss ++ ds
joined_one dss ds = joined_append dss (ds ∷ []) ∙ ap (λ (xs : Deeds). joined dss ++ xs) (append-nil ds)

pub own_append : (ds es : Deeds) → Each IsOwnDeed ds → Each IsOwnDeed es → Each IsOwnDeed (ds ++ es)
own_append [] es h k = k
own_append (d ∷ ds) es h k = (h.0, own_append ds es h.1 k)

-- entries of deeds, and of others after them
pub entries_on : (old mid new : Running) (ds es : Deeds) → mid.shared.entries ≡ old.shared.entries ++ map shows ds → new.shared.entries ≡ mid.shared.entries ++ map shows es → new.shared.entries ≡ old.shared.entries ++ map shows (ds ++ es)
entries_on old mid new ds es h k = k ∙ (ap (λ (xs : List Entry). xs ++ map shows es) h ∙ (append_assoc old.shared.entries (map shows ds) (map shows es) ∙ ap (λ (xs : List Entry). old.shared.entries ++ xs) (sym (map-append shows ds es))))

-- what was made first and what was made then
pub made_on : (O : Bundle) (n : Limits) (count : ℕ) (old mid new : Running) (ds es : Deeds) (M L : Net O n) → Made O n count old mid ds M → Made O n count mid new es L → Made O n count old new (ds ++ es) L
made_on O n count old mid new ds es M L h k = record {
  stands = k.stands;
  entries = entries_on old mid new ds es h.entries k.entries;
  own = own_append ds es h.own k.own;
}

made_as : (O : Bundle) (n : Limits) (count : ℕ) (old new : Running) (ds es : Deeds) (M : Net O n) → ds ≡ es → Made O n count old new ds M → Made O n count old new es M
made_as O n count old new ds es M e h = subst (λ (xs : Deeds). Made O n count old new xs M) e h

made_none : (O : Bundle) (n : Limits) (count : ℕ) (r : Running) (N : Net O n) → StandsFor O n count r N → Made O n count r r [] N
made_none O n count r N h = record { stands = h; entries = sym (append-nil r.shared.entries); own = tt }

pub no_turns : (O : Bundle) (n : Limits) (count : ℕ) (N : Net O n) (r : Running) → StandsFor O n count r N → TakesTurns O n count N [] r r
no_turns O n count N r h = record { deeds = []; after = N; turns = refl; made = made_none O n count r N h }

one_more : (O : Bundle) (n : Limits) (count : ℕ) (N : Net O n) (xs : List SiteName) (x : SiteName) (old mid new : Running) (h : TakesTurns O n count N xs old mid) → TakesTurn O n count h.after x mid new → TakesTurns O n count N (xs ++ x ∷ []) old new
one_more O n count N xs x old mid new h k = record {
  deeds = h.deeds ++ k.deeds ∷ [];
  after = k.after;
  turns = turns_append O n N h.after k.after xs (x ∷ []) h.deeds (k.deeds ∷ []) h.turns (k.after, k.turn, refl);
  made = made_as O n count old new _ _ k.after (sym (joined_one h.deeds k.deeds)) (made_on O n count old mid new (joined h.deeds) k.deeds h.after k.after h.made k.made);
}

-- the turn of the site at an index, after those before it
pub next_turn : (O : Bundle) (n : Limits) (count : ℕ) (N : Net O n) (xs : List SiteName) (i : ℕ) (d : SiteName) (old mid new : Running) → i < length xs → (h : TakesTurns O n count N (take i xs) old mid) → TakesTurn O n count h.after (get_or xs i d) mid new → TakesTurns O n count N (take (i + 1) xs) old new
next_turn O n count N xs i d old mid new l h k = subst (λ (ys : List SiteName). TakesTurns O n count N ys old new) (sym (take_more xs i d l)) (one_more O n count N (take i xs) (get_or xs i d) old mid new h k)

-- the meaning goes wrong at the site at an index, after the turns of those before it
pub stuck_there : (O : Bundle) (n : Limits) (count : ℕ) (N : Net O n) (xs : List SiteName) (i : ℕ) (d x : SiteName) (old mid new : Running) (label : ℕ) → i < length xs → (h : TakesTurns O n count N (take i xs) old mid) → TurnEnds O n count h.after (get_or xs i d) mid new (going.Wrong x label) → TurnsEnd O n count N xs old new (going.Wrong x label)
stuck_there O n count N xs i d x old mid new label l h k = record {
  deeds = joined h.deeds;
  at = h.after;
  way = record { number = i; site = slice_get-get_or xs i d l ∙ ap Some (sym k.0); made = h.deeds; turns = h.turns; all = refl };
  entries = k.1 ∙ h.made.entries;
  own = h.made.own;
  runs = subst (λ (y : SiteName). (h.after.site y.session y.world).stopped ≡ false) (sym k.0) k.2;
  stuck = subst (λ (y : SiteName). IsStuck O y.session y.world (h.after.site y.session y.world) label) (sym k.0) k.3;
}

-- ---- rounds

pub no_rounds : (O : Bundle) (n : Limits) (count : ℕ) (N : Net O n) (xs : List SiteName) (r : Running) → StandsFor O n count r N → TakesRounds O n count N xs r r
no_rounds O n count N xs r h = record { rounds = []; after = N; going = refl; made = made_none O n count r N h }

rounds_one : (O : Bundle) (n : Limits) (xs : List SiteName) (N M L : Net O n) (rounds : List (List Deeds)) (round : List Deeds) → Rounds (TurnOf (object_kind O n)) xs N rounds M → Turns (TurnOf (object_kind O n)) M xs round L → joined round ≢ [] → Rounds (TurnOf (object_kind O n)) xs N (rounds ++ round ∷ []) L
rounds_one O n xs N M L [] round h k b = (L, subst (λ (X : Net O n). Turns (TurnOf (object_kind O n)) X xs round L) h k, b, refl)
rounds_one O n xs N M L (r ∷ rounds) round h k b = (h.0, h.1, h.2, rounds_one O n xs h.0 M L rounds round h.3 k b)

all_one : (rounds : List (List Deeds)) (round : List Deeds) → joined (map joined (rounds ++ round ∷ [])) ≡ joined (map joined rounds) ++ joined round
all_one rounds round = ap joined (map-append joined rounds (round ∷ [])) ∙ joined_one (map joined rounds) (joined round)

-- one more round that makes deeds
pub next_round : (O : Bundle) (n : Limits) (count : ℕ) (N : Net O n) (xs : List SiteName) (old mid new : Running) (h : TakesRounds O n count N xs old mid) (k : TakesTurns O n count h.after xs mid new) → joined k.deeds ≢ [] → TakesRounds O n count N xs old new
next_round O n count N xs old mid new h k b = record {
  rounds = h.rounds ++ k.deeds ∷ [];
  after = k.after;
  going = rounds_one O n xs N h.after k.after h.rounds k.deeds h.going k.turns b;
  made = made_as O n count old new _ _ k.after (sym (all_one h.rounds k.deeds)) (made_on O n count old mid new (joined (map joined h.rounds)) (joined k.deeds) h.after k.after h.made k.made);
}

-- a round that makes none
pub last_round : (O : Bundle) (n : Limits) (count : ℕ) (N : Net O n) (xs : List SiteName) (old mid new : Running) (h : TakesRounds O n count N xs old mid) (k : TakesTurns O n count h.after xs mid new) → joined k.deeds ≡ [] → Settles O n count N xs old new
last_round O n count N xs old mid new h k e = record {
  rounds = h.rounds;
  settled = h.after;
  going = h.going;
  silent = k.deeds;
  after = k.after;
  last = k.turns;
  found_nothing = e;
  made = made_as O n count old new _ _ k.after (ap (λ (es : Deeds). joined (map joined h.rounds) ++ es) e ∙ append-nil (joined (map joined h.rounds))) (made_on O n count old mid new (joined (map joined h.rounds)) (joined k.deeds) h.after k.after h.made k.made);
}

-- the meaning goes wrong in the round after these
pub strands_rounds : (O : Bundle) (n : Limits) (count : ℕ) (N : Net O n) (xs : List SiteName) (old mid new : Running) (x : SiteName) (label : ℕ) (h : TakesRounds O n count N xs old mid) → TurnsEnd O n count h.after xs mid new (going.Wrong x label) → RoundsEnd O n count N xs old new (going.Wrong x label)
strands_rounds O n count N xs old mid new x label h k = record {
  deeds = joined (map joined h.rounds) ++ k.deeds;
  at = k.at;
  way = record { rounds = h.rounds; begins = h.after; going = h.going; made = k.deeds; last = k.way; all = refl };
  entries = entries_on old mid new (joined (map joined h.rounds)) k.deeds h.made.entries k.entries;
  own = own_append (joined (map joined h.rounds)) k.deeds h.made.own k.own;
  runs = k.runs;
  stuck = k.stuck;
}

no_length : (ds : Deeds) → length (map shows ds) ≡ 0 → ds ≡ []
no_length [] h = refl
no_length (d ∷ ds) h = absurd (omega (arith, h))

-- where the history is no longer than before, no deed was made
pub silent_round : (O : Bundle) (n : Limits) (count : ℕ) (old new : Running) (ds : Deeds) (M : Net O n) → Made O n count old new ds M → length new.shared.entries ≡ length old.shared.entries → ds ≡ []
silent_round O n count old new ds M h e =
    let sum : length new.shared.entries ≡ length old.shared.entries + length (map shows ds) = ap length h.entries ∙ length-append old.shared.entries (map shows ds) in
    no_length ds (omega (arith, sum, e))

pub busy_round : (O : Bundle) (n : Limits) (count : ℕ) (old new : Running) (ds : Deeds) (M : Net O n) → Made O n count old new ds M → length new.shared.entries ≢ length old.shared.entries → ds ≢ []
busy_round O n count old new ds M h b e = b (ap length (h.entries ∙ (ap (λ (xs : Deeds). old.shared.entries ++ map shows xs) e ∙ append-nil old.shared.entries)))
