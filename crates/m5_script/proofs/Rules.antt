-- A line without a fault keeps what holds of a reading.
use Rattle.std.proofs.Common.{◌≡◌, ◌≢◌, ℕ, zero, suc, ◌+◌, ◌≤◌, ◌<◌, Bool, true, false, not, ◌||◌, List, [], ◌∷◌, ◌++◌, length, take, get_or, Option, Some, None, refl, sym, arith}
use Rattle.std.specs.Prelude.{nat_le, nat_lt, IfSome}
use Rattle.std.specs.Option.{unwrap_or}
use Rattle.std.specs.List.{list_any, list_all, All}
use Rattle.std.proofs.lemmas.Bool.Decides.{nat_tests}
use Rattle.std.proofs.lemmas.List.{take_all, length-append}
use Rattle.std.proofs.lemmas.List.Elements.{All-push}
use Rattle.std.proofs.lemmas.List.Quantifiers.{all_pairs_push}
use Rattle.std.proofs.lemmas.List.Sums.{AllPass-from_list_all}
use Rattle.m5_terms.specs.declared.types.World.TheVariants.{Any}
use Rattle.m5_script.specs.declared.items.TextPair.{TextPair}
use Rattle.m5_script.specs.declared.items.PageEvent.{PageEvent}
use Rattle.m5_script.specs.declared.items.RawItem.{RawItem}
use Rattle.m5_script.specs.declared.items.SiteName.{SiteName}
use Rattle.m5_script.specs.declared.form.Form.{Form}
use Rattle.m5_script.specs.declared.form.Form.TheVariants as form
use Rattle.m5_script.specs.declared.reading.Reading.{Reading}
use Rattle.m5_script.specs.Line.{IsForm}
use Rattle.m5_script.specs.Scenario.{AreItems, IsScript, IsPair, IsEvent, IsRaw, IsSite, same_key}
use Rattle.m5_script.specs.Reading.{within, names_session, is_late, is_again, is_beyond, is_forged, is_many, first_fault, fault_of, next, fresh, finished, IsReading}

pub take_short : (s : List ℕ) → length s < 8 → s ≡ take 8 s
take_short s h = sym (take_all 8 s (omega arith))

-- ---- tests

pub record NoFault (a b c d e : Bool) : Type 0 where
  pub late : a ≡ false
  pub again : b ≡ false
  pub beyond : c ≡ false
  pub forged : d ≡ false
  pub many : e ≡ false

no_fault : (a b c d e : Bool) → first_fault a b c d e ≡ None → NoFault a b c d e
no_fault true b c d e h = absurd cc
no_fault false true c d e h = absurd cc
no_fault false false true d e h = absurd cc
no_fault false false false true e h = absurd cc
no_fault false false false false true h = absurd cc
no_fault false false false false false h = record { late = refl; again = refl; beyond = refl; forged = refl; many = refl }

not_false : (b : Bool) → not b ≡ false → b ≡ true
not_false true h = refl
not_false false h = absurd cc

or_false : (a b : Bool) → (a || b) ≡ false → (a ≡ false) × (b ≡ false)
or_false true b h = absurd cc
or_false false b h = (refl, h)

is_within : (limit n : ℕ) → within limit n ≡ true → (1 ≤ n) × (n ≤ limit)
is_within limit n h = (grind (arith, nat_tests), grind (arith, nat_tests))

lies_within : (limit n : ℕ) → not (within limit n) ≡ false → (1 ≤ n) × (n ≤ limit)
lies_within limit n h = is_within limit n (not_false (within limit n) h)

below : (limit n : ℕ) → nat_le limit n ≡ false → n + 1 ≤ limit
below limit n h = grind (arith, nat_tests)

at_most : (limit n : ℕ) → nat_lt limit n ≡ false → n ≤ limit
at_most limit n h = grind (arith, nat_tests)

none_passes : (test : TextPair → Bool) (xs : List TextPair) → list_any test xs ≡ false → (k : ℕ) (d : TextPair) → k < length xs → test (get_or xs k d) ≡ false
none_passes test [] h k d near = absurd (omega arith)
none_passes test (x ∷ xs) h zero d near = (or_false (test x) (list_any test xs) h).0
none_passes test (x ∷ xs) h (suc k) d near = none_passes test xs (or_false (test x) (list_any test xs) h).1 k d (omega arith)

one_more : {X : Type 0} (limit : ℕ) (xs : List X) (x : X) → nat_le limit (length xs) ≡ false → length (xs ++ x ∷ []) ≤ limit
one_more limit xs x h = omega (arith, length-append xs (x ∷ []), below limit (length xs) h)

-- ---- lines

none_there : {X : Type 0} (P : X → Type 0) (xs : List X) → length xs ≡ 0 → All P xs
none_there P xs h = λ k d near. absurd (omega arith)

by_sessions : (r : Reading) (n : ℕ) → IsReading r → NoFault r.begun false (not (within 32 n)) false false → IsReading (next r (form.Sessions n))
unfolding next
by_sessions r n h f =
    let none = h.empty f.late in
    record {
      sessions = lies_within 32 n f.beyond;
      steps = h.steps;
      region = h.region;
      items = record {
        texts = h.items.texts;
        keys = h.items.keys;
        events = none_there (IsEvent n) r.events none.0;
        few_events = h.items.few_events;
        raws = none_there (IsRaw n) r.raws none.1;
        few_raws = h.items.few_raws;
        order = none_there (IsSite n) r.order none.2;
        few_sites = h.items.few_sites;
      };
      empty = λ e. absurd cc;
    }

by_store : (r : Reading) (p : TextPair) → AreItems r.sessions r.pairs r.events r.raws r.order → IsPair p → list_any (same_key p.key) r.pairs ≡ false
    → AreItems r.sessions (r.pairs ++ p ∷ []) r.events r.raws r.order
by_store r p h k new = record {
  texts = All-push IsPair r.pairs p h.texts k;
  keys = all_pairs_push (λ (first second : TextPair). same_key second.key first ≡ false) r.pairs p h.keys (none_passes (same_key p.key) r.pairs new);
  events = h.events;
  few_events = h.few_events;
  raws = h.raws;
  few_raws = h.few_raws;
  order = h.order;
  few_sites = h.few_sites;
}

by_event : (r : Reading) (e : PageEvent) → AreItems r.sessions r.pairs r.events r.raws r.order → IsEvent r.sessions e → nat_le 4096 (length r.events) ≡ false
    → AreItems r.sessions r.pairs (r.events ++ e ∷ []) r.raws r.order
by_event r e h k room = record {
  texts = h.texts;
  keys = h.keys;
  events = All-push (IsEvent r.sessions) r.events e h.events k;
  few_events = one_more 4096 r.events e room;
  raws = h.raws;
  few_raws = h.few_raws;
  order = h.order;
  few_sites = h.few_sites;
}

by_raw : (r : Reading) (i : RawItem) → AreItems r.sessions r.pairs r.events r.raws r.order → IsRaw r.sessions i → nat_le 1024 (length r.raws) ≡ false
    → AreItems r.sessions r.pairs r.events (r.raws ++ i ∷ []) r.order
by_raw r i h k room = record {
  texts = h.texts;
  keys = h.keys;
  events = h.events;
  few_events = h.few_events;
  raws = All-push (IsRaw r.sessions) r.raws i h.raws k;
  few_raws = one_more 1024 r.raws i room;
  order = h.order;
  few_sites = h.few_sites;
}

all_there : (r : Reading) (sites : List SiteName) → list_all (names_session r.sessions) sites ≡ true → All (λ (s : SiteName). s.world ≢ Any) sites → All (IsSite r.sessions) sites
all_there r sites h k = λ i d near. record { there = is_within r.sessions (get_or sites i d).session (AllPass-from_list_all (names_session r.sessions) sites h i d near); world = k i d near }

by_order : (r : Reading) (sites : List SiteName) → AreItems r.sessions r.pairs r.events r.raws r.order → All (IsSite r.sessions) sites → nat_lt 4096 (length sites) ≡ false
    → AreItems r.sessions r.pairs r.events r.raws sites
by_order r sites h k room = record {
  texts = h.texts;
  keys = h.keys;
  events = h.events;
  few_events = h.few_events;
  raws = h.raws;
  few_raws = h.few_raws;
  order = k;
  few_sites = at_most 4096 (length sites) room;
}

-- what a line adds besides its session and numbers
with_items : (r q : Reading) → IsReading r → q.begun ≡ true → q.sessions ≡ r.sessions → q.steps ≡ r.steps → q.region ≡ r.region
    → AreItems r.sessions q.pairs q.events q.raws q.order → IsReading q
with_items r q h begun sessions steps region items = record {
  sessions = rw sessions h.sessions;
  steps = rw steps h.steps;
  region = rw region h.region;
  items = rw sessions items;
  empty = λ e. absurd cc;
}

faults : (r : Reading) (f : Form) → fault_of r f ≡ None → NoFault (is_late r f) (is_again r f) (is_beyond r f) (is_forged f) (is_many r f)
unfolding fault_of
faults r f none = no_fault (is_late r f) (is_again r f) (is_beyond r f) (is_forged f) (is_many r f) none

pub next_holds : (r : Reading) (f : Form) → IsReading r → IsForm f → fault_of r f ≡ None → IsReading (next r f)
unfolding next
next_holds r form.Skipped h k none = h
next_holds r (form.Sessions n) h k none = by_sessions r n h (faults r (form.Sessions n) none)
next_holds r (form.Steps n) h k none = record { sessions = h.sessions; steps = lies_within 200000 n (faults r (form.Steps n) none).beyond; region = h.region; items = h.items; empty = λ e. absurd cc }
next_holds r (form.Region n) h k none = record { sessions = h.sessions; steps = h.steps; region = lies_within 262144 n (faults r (form.Region n) none).beyond; items = h.items; empty = λ e. absurd cc }
next_holds r (form.Store key text) h k none =
    with_items r _ h refl refl refl refl (by_store r (record { key = key; text = text }) h.items k (faults r (form.Store key text) none).again)
next_holds r (form.Event session element text) h k none =
    let f = faults r (form.Event session element text) none in
    with_items r _ h refl refl refl refl
    (by_event r (record { session = session; element = element; text = text }) h.items (record { there = lies_within r.sessions session f.beyond; element = k.0; text = k.1 }) f.many)
next_holds r (form.Raw session world item) h k none =
    let f = faults r (form.Raw session world item) none in
    let b = or_false (not (within r.sessions session)) (nat_lt 4096 (length item)) f.beyond in
    with_items r _ h refl refl refl refl
    (by_raw r (record { session = session; world = world; bytes = item }) h.items
    (record { there = lies_within r.sessions session b.0; world = k; short = at_most 4096 (length item) b.1; unsealed = f.forged }) f.many)
next_holds r (form.Order sites) h k none =
    let f = faults r (form.Order sites) none in
    with_items r _ h refl refl refl refl (by_order r sites h.items (all_there r sites (not_false (list_all (names_session r.sessions) sites) f.beyond) k) f.many)

-- ---- the beginning and the end

pub fresh_holds : IsReading fresh
fresh_holds = record {
  sessions = (omega arith, omega arith);
  steps = tt;
  region = tt;
  items = record {
    texts = none_there IsPair [] refl;
    keys = λ i j d less near. absurd (omega arith);
    events = none_there (IsEvent 1) [] refl;
    few_events = omega arith;
    raws = none_there (IsRaw 1) [] refl;
    few_raws = omega arith;
    order = none_there (IsSite 1) [] refl;
    few_sites = omega arith;
  };
  empty = λ e. (refl, refl, refl);
}

some_or : (o : Option ℕ) (default limit : ℕ) → IfSome o (λ n. (1 ≤ n) × (n ≤ limit)) → 1 ≤ default → default ≤ limit → (1 ≤ unwrap_or o default) × (unwrap_or o default ≤ limit)
some_or None default limit h low high = (low, high)
some_or (Some n) default limit h low high = h

pub script_holds : (r : Reading) → IsReading r → IsScript (finished r)
script_holds r h = record {
  sessions = h.sessions;
  steps = some_or r.steps 50000 200000 h.steps (omega arith) (omega arith);
  region = some_or r.region 65536 262144 h.region (omega arith) (omega arith);
  items = h.items;
}
