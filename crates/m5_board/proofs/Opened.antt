-- The code's opening is the definition's.
use Rattle.std.proofs.Common.{◌≡◌, ◌≢◌, ◌⊎◌, inl, inr, ℕ, zero, suc, ◌+◌, ◌<◌, ◌≤◌, ◌==◌, ◌&&◌, Bool, false, List, [], ◌∷◌, ◌++◌, map, length, get_or, take, Some, refl, sym, ap, subst, ◌∙◌, arith}
use Rattle.std.specs.Prelude.{filter, slice_get, All}
use Rattle.std.proofs.lemmas.Bool.{ne_eqb}
use Rattle.std.proofs.lemmas.List.{map-append, take_more, length-append}
use Rattle.std.proofs.lemmas.List.Elements.{All-head, All-tail, filter-append}
use Rattle.std.proofs.lemmas.Option.{slice_get_past}
use Rattle.m5_terms.specs.TypeExpression.{same_world}
use Rattle.m5_terms.specs.declared.types.World.{World}
use Rattle.m5_script.specs.Scenario.{Scenario, IsThere, IsEvent, IsRaw, IsScript}
use Rattle.m5_script.specs.declared.items.TextPair.{TextPair}
use Rattle.m5_script.specs.declared.items.PageEvent.{PageEvent}
use Rattle.m5_script.specs.declared.items.RawItem.{RawItem}
use Rattle.m5_network.specs.Board.{Desk, Event}
use Rattle.m5_network.specs.Opening.{event_of, raw_from, opening_desk_by, opening_board_by}
use Rattle.m5_terms.specs.declared.per_world.PerWorld.{PerWorld}
use Rattle.m5_terms.specs.PerWorld.{each}
use Rattle.m5_board.specs.Boards.{BoardLists, empty_desk, desk_or_empty, desk_at, board_of}
use Rattle.m5_board.specs.Opening.{session_events, link_items, links_opened, desks_opened}

events-more : (es fs : List PageEvent) (s : ℕ) → session_events (es ++ fs) s ≡ session_events es s ++ session_events fs s
events-more es fs s =
    let p : PageEvent → Bool = λ e. e.session == s in
    ap (map event_of) (filter-append p es fs) ∙ map-append event_of (filter p es) (filter p fs)

pub events-next : (es : List PageEvent) (i : ℕ) (e : PageEvent) (s : ℕ) (old new : List Event) → i < length es → e ≡ get_or es i e → old ≡ session_events (take i es) s → new ≡ old ++ session_events (e ∷ []) s → new ≡ session_events (take (i + 1) es) s
events-next es i e s old new l q f g =
    let split : take (i + 1) es ≡ take i es ++ e ∷ [] = take_more es i e l ∙ ap (λ (x : PageEvent). take i es ++ x ∷ []) (sym q) in
    g ∙ (ap (λ (xs : List Event). xs ++ session_events (e ∷ []) s) f ∙ sym (ap (λ (xs : List PageEvent). session_events xs s) split ∙ events-more (take i es) (e ∷ []) s))

abbrev pub lies : ℕ → World → World → RawItem → Bool
lies s v w r = (r.session == s) && (same_world r.world w && same_world v (raw_from w))

raws-more : {I : Type 0} (make : List ℕ → I) (s : ℕ) (v w : World) (rs qs : List RawItem) → link_items make s v w (rs ++ qs) ≡ link_items make s v w rs ++ link_items make s v w qs
raws-more {I} make s v w rs qs =
    let f : RawItem → I = λ r. make r.bytes in
    ap (map f) (filter-append (lies s v w) rs qs) ∙ map-append f (filter (lies s v w) rs) (filter (lies s v w) qs)

pub link-next : {I : Type 0} (make : List ℕ → I) (rs : List RawItem) (i : ℕ) (r : RawItem) (s : ℕ) (v w : World) (old new : List I) → i < length rs → r ≡ get_or rs i r → old ≡ link_items make s v w (take i rs) → new ≡ old ++ link_items make s v w (r ∷ []) → new ≡ link_items make s v w (take (i + 1) rs)
link-next {I} make rs i r s v w old new l q f g =
    let split : take (i + 1) rs ≡ take i rs ++ r ∷ [] = take_more rs i r l ∙ ap (λ (x : RawItem). take i rs ++ x ∷ []) (sym q) in
    g ∙ (ap (λ (is : List I). is ++ link_items make s v w (r ∷ [])) f ∙ sym (ap (λ (xs : List RawItem). link_items make s v w xs) split ∙ raws-more make s v w (take i rs) (r ∷ [])))

filter-none : {X : Type 0} (p : X → Bool) (xs : List X) → All (λ (x : X). p x ≡ false) xs → filter p xs ≡ []
filter-none p [] h = refl
filter-none {X} p (x ∷ xs) h =
    let P : X → Type 0 = λ y. p y ≡ false in
    let e : p x ≡ false = All-head P x xs h in
    rw e (filter-none p xs (All-tail P x xs h))

-- a desk with the session's events and raw items
pub desk-opens : {I : Type 0} (make : List ℕ → I) (S T : Scenario) (s : ℕ) (d : Desk I) (left : List Event) (links : PerWorld (PerWorld (List I))) (es : List PageEvent) (rs : List RawItem) → T ≡ S → es ≡ T.events → rs ≡ T.raws
    → left ≡ session_events es s → links ≡ each (links_opened make rs s) → d ≡ record { texts = []; handlers = []; triggers = []; events = left; links = links } → d ≡ opening_desk_by make S s
desk-opens {I} make S T s d left links es rs q a b f g h =
    let events : left ≡ session_events S.events s = f ∙ ap (λ (xs : List PageEvent). session_events xs s) (a ∙ ap (λ (Z : Scenario). Z.events) q) in
    let raws : links ≡ each (links_opened make S.raws s) = g ∙ ap (λ (xs : List RawItem). each (links_opened make xs s)) (b ∙ ap (λ (Z : Scenario). Z.raws) q) in
    h ∙ (λ i. record { texts = []; handlers = []; triggers = []; events = events i; links = raws i })

-- no session has the number
abbrev pub IsOutside : Scenario → ℕ → Type 0
IsOutside S s = (m : ℕ) → IsThere S.sessions m → m ≢ s

events-outside : (n s : ℕ) (es : List PageEvent) → ((m : ℕ) → IsThere n m → m ≢ s) → All (IsEvent n) es → session_events es s ≡ []
events-outside n s [] o h = refl
events-outside n s (e ∷ es) o h =
    let x : IsEvent n e = All-head (IsEvent n) e es h in
    let k : (e.session == s) ≡ false = ne_eqb e.session s (o e.session x.there) in
    rw k (events-outside n s es o (All-tail (IsEvent n) e es h))

raws-outside : {I : Type 0} (make : List ℕ → I) (n s : ℕ) (v w : World) (rs : List RawItem) → ((m : ℕ) → IsThere n m → m ≢ s) → All (IsRaw n) rs → link_items make s v w rs ≡ []
raws-outside {I} make n s v w [] o h = refl
raws-outside {I} make n s v w (r ∷ rs) o h =
    let x : IsRaw n r = All-head (IsRaw n) r rs h in
    let k : (r.session == s) ≡ false = ne_eqb r.session s (o r.session x.there) in
    rw k (raws-outside make n s v w rs o (All-tail (IsRaw n) r rs h))

outside : {I : Type 0} (make : List ℕ → I) (S : Scenario) (s : ℕ) → IsScript S → IsOutside S s → empty_desk ≡ opening_desk_by make S s
outside {I} make S s h o = λ i. record {
  texts = [];
  handlers = [];
  triggers = [];
  events = sym (events-outside S.sessions s S.events o h.items.events) i;
  links = each (λ v. each (λ w. sym (raws-outside make S.sessions s v w S.raws o h.items.raws) i));
}

get-before : {X : Type 0} (xs : List X) (y : X) (k : ℕ) → k < length xs → slice_get (xs ++ y ∷ []) k ≡ slice_get xs k
get-before [] y k h = absurd (omega (arith, h))
get-before (x ∷ xs) y zero h = refl
get-before (x ∷ xs) y (suc k) h = get-before xs y k (omega (arith, h))

get-last : {X : Type 0} (xs : List X) (y : X) → slice_get (xs ++ y ∷ []) (length xs) ≡ Some y
get-last [] y = refl
get-last (x ∷ xs) y = get-last xs y

desks-count : {I : Type 0} (make : List ℕ → I) (S : Scenario) (n : ℕ) → length (desks_opened make S n) ≡ n
desks-count {I} make S zero = refl
desks-count {I} make S (suc n) = length-append (desks_opened make S n) (opening_desk_by make S (suc n) ∷ []) ∙ (let e : length (desks_opened make S n) ≡ n = desks-count make S n in omega (arith, e))

at-or-before : (k n : ℕ) → k < suc n → (k < n) ⊎ (k ≡ n)
at-or-before k n h = grind arith

desk-there : {I : Type 0} (make : List ℕ → I) (S : Scenario) (n k : ℕ) → k < n → slice_get (desks_opened make S n) k ≡ Some (opening_desk_by make S (suc k))
desk-there {I} make S zero k h = absurd (omega (arith, h))
desk-there {I} make S (suc n) k h =
    let c : length (desks_opened make S n) ≡ n = desks-count make S n in
    elim (at-or-before k n h) [
      | inl l ↦ get-before (desks_opened make S n) (opening_desk_by make S (suc n)) k (omega (arith, c, l)) ∙ desk-there make S n k l
      | inr e ↦ rw e (subst (λ (m : ℕ). slice_get (desks_opened make S n ++ opening_desk_by make S (suc n) ∷ []) m ≡ Some (opening_desk_by make S (suc n))) c (get-last (desks_opened make S n) (opening_desk_by make S (suc n))))
    ]

within-or-past : (k n : ℕ) → (k < n) ⊎ (n ≤ k)
within-or-past k n = grind arith

desk-at : {I : Type 0} (make : List ℕ → I) (S : Scenario) → IsScript S → (s : ℕ) → desk_at (desks_opened make S S.sessions) s ≡ opening_desk_by make S s
desk-at {I} make S h zero = outside make S zero h (λ m t e. omega (arith, t.0, e))
desk-at {I} make S h (suc k) = elim (within-or-past k S.sessions) [
  | inl l ↦ ap desk_or_empty (desk-there make S S.sessions k l)
  | inr l ↦
      let c : length (desks_opened make S S.sessions) ≡ S.sessions = desks-count make S S.sessions in
      ap desk_or_empty (slice_get_past (desks_opened make S S.sessions) k (omega (arith, c, l))) ∙ outside make S (suc k) h (λ m t e. omega (arith, t.1, e, l))
]

board-opened : {I : Type 0} (make : List ℕ → I) (S : Scenario) → IsScript S → board_of (record { pairs = S.pairs; watches = []; desks = desks_opened make S S.sessions }) ≡ opening_board_by make S
board-opened {I} make S h = ap (λ (f : ℕ → Desk I). record (opening_board_by make S) { desks = f }) (λ i. λ s. desk-at make S h s i)

pub board-opens : {I : Type 0} (make : List ℕ → I) (S T : Scenario) (b : BoardLists I) (ps : List TextPair) (ds : List (Desk I)) → T ≡ S → IsScript T → b ≡ record { pairs = ps; watches = []; desks = ds } → ps ≡ T.pairs → ds ≡ desks_opened make S S.sessions → board_of b ≡ opening_board_by make S
board-opens {I} make S T b ps ds e h q f g =
    let f' : ps ≡ S.pairs = f ∙ ap (λ (Z : Scenario). Z.pairs) e in
    let same : b ≡ record { pairs = S.pairs; watches = []; desks = desks_opened make S S.sessions } = q ∙ (λ i. record { pairs = f' i; watches = []; desks = g i }) in
    ap board_of same ∙ board-opened make S (subst IsScript e h)

pub desks-count-is : {I : Type 0} (make : List ℕ → I) (S : Scenario) (b : BoardLists I) (ps : List TextPair) (ds : List (Desk I)) → b ≡ record { pairs = ps; watches = []; desks = ds } → ds ≡ desks_opened make S S.sessions → length b.desks ≡ S.sessions
desks-count-is {I} make S b ps ds q g = ap (λ (z : BoardLists I). length z.desks) q ∙ (ap (λ (zs : List (Desk I)). length zs) g ∙ desks-count make S S.sessions)
