-- The code under labels is typed, and so is the block of each label that it names, where each label has its environment.
use Rattle.std.proofs.Common.{◌≡◌, inl, ℕ, suc, ◌+◌, ◌-◌, ◌<◌, ◌==◌, ◌||◌, Bool, true, false, IsTrue, if◌then◌else◌, List, [], ◌∷◌, ◌++◌, map, length, slice_get, Option, Some, None, option_map, refl, sym, ap, ap₂, subst, ◌∙◌, arith}
use Rattle.std.specs.List.{AllZip, AllByRecursion as Each}
use Rattle.std.proofs.lemmas.List.{map-append}
use Rattle.std.proofs.lemmas.Option.{slice_get-map}
use Rattle.m5_terms.proofs.Lists.{each-append}
use Rattle.m5_terms.specs.Substitution.{among}
use Rattle.m5_terms.specs.TypeExpression.{TypeExpression, unit, function, sum, list, same_world}
use Rattle.m5_terms.specs.declared.types.World.{World}
use Rattle.m5_typing.specs.Context.{Setting}
use Rattle.m5_cps_typing.specs.Rows.{Kinds, source_type, straight_type, entry_kinds, Known}
use Rattle.m5_cps_typing.proofs.Rows.{straight_known, known_fill, entry_known, captures_known}
use Rattle.m5_cps_typing.proofs.Used.{used_has}
use Rattle.m5_cps.specs.Entries.{SlotType, of, takes, Mode, only, everywhere, Entry, by_value, by_call, world_of, entry_mode, entry_type, entry_filled}
use Rattle.m5_cps.specs.Blocks.{Straight, Test, if_true, if_left, if_nil, if_here, Code, straight, closure, test, ends}
use Rattle.m5_cps.specs.Blocks as source
use Rattle.m5_cps.specs.Values.{put}
use Rattle.m5_cps.specs.Captured.{uses, straight_uses}
use Rattle.m5_cps.specs.TypeParts.{first_of, second_of, content_of}
use Rattle.m5_cps.specs.Program.{setting_of, IsProgram}
use Rattle.m5_cps.specs.Slots.{Slot, slot, Slots, fill, Needs, HasType, entry_slots, entered_at, Captures}
use Rattle.m5_cps.specs.Fits.{Chosen, StraightFits}
use Rattle.m5_cps.specs.Fits as cps
use Rattle.m5_flat.specs.Blocks.{Block, Blocks}
use Rattle.m5_flat.specs.Blocks as target
use Rattle.m5_flat.specs.Fits.{Environments, slot_type, TakesSlot, Fits}
use Rattle.m5_flat.specs.Program.{IsBlock}
use Rattle.m5_close.specs.Close.{free, place, anew, IsMade, IsClosed, labels_in}
use Rattle.m5_close.proofs.Slots.{or_left, or_right, itself, free_has, free_used, place_get, map_long}
use Rattle.m5_close.proofs.Follow.{Follows, Covered, anew_before, fill_follows, entry_follows, filled_alike, needs_at, needs_on, ending_on}
use Rattle.m5_close.proofs.Rowed.{Row, row_label, labels_of, Knows, IsTypedRow, first_of_both, second_of_both, unsaid, unsaid_labels, unsaid_typed}
use Rattle.m5_close.proofs.Forms.{Base, And, straight_fits}

below : (S : Slots) (n l : ℕ) (m : Mode) (T : SlotType) → l < n → HasType (fill n m T S) l → HasType S l
below S n l m T h d = let e : (l == n) ≡ false = grind (arith, h) in (d.0, d.1, sym (ap (λ b. if b then Some (slot m T) else S l) e) ∙ d.2)

-- what a block takes has a type before it begins
entry_below : (y : Entry) (n l : ℕ) (R : Slots) → l < n → HasType (entry_slots y n R) l → HasType R l
entry_below (by_value m T) n l R h d = below R n l (only (world_of m)) (takes T) h (below (fill n (only (world_of m)) (takes T) R) (suc n) l (only (world_of m)) T (omega (arith, h)) d)
entry_below (by_call m A D) n l R h d = below R n l (only (world_of m)) (of (function A D)) h (below (fill n (only (world_of m)) (of (function A D)) R) (suc n) l (only (world_of m)) (of A) (omega (arith, h)) (below (entered_at (world_of m) n (of (function A D)) (of A) R) (suc (suc n)) l (only (world_of m)) (takes (of D)) (omega (arith, h)) d))

more_filled : (y : Entry) (n l : ℕ) → l < n → l < entry_filled y n
more_filled (by_value m T) n l h = omega (arith, h)
more_filled (by_call m A D) n l h = omega (arith, h)

-- what is known of a slot, where something is
abbrev known_slot : Option Slot → Slot
known_slot None = slot everywhere (of unit)
known_slot (Some s) = s

types_of : (f : ℕ → Slot) (K : Kinds) (qs : List ℕ) → ((l : ℕ) → IsTrue (among l qs) → slot_type (f l) ≡ K l) → map slot_type (map f qs) ≡ map K qs
types_of f K [] h = refl
types_of f K (q ∷ qs) h = ap₂ (λ T Ts. T ∷ Ts) (h q (or_left (q == q) (among q qs) (itself q))) (types_of f K qs (λ l i. h l (or_right (l == q) (among l qs) i)))

takes_of : (b : World) (m : Mode) (Z : Slots) (r : ℕ → ℕ) (f : ℕ → Slot) (qs : List ℕ) → ((l : ℕ) → IsTrue (among l qs) → TakesSlot b m Z (r l) (f l)) → AllZip (TakesSlot b m Z) (map r qs) (map f qs)
takes_of b m Z r f [] h = tt
takes_of b m Z r f (q ∷ qs) h = (h q (or_left (q == q) (among q qs) (itself q)), takes_of b m Z r f qs (λ l i. h l (or_right (l == q) (among l qs) i)))

part_known : (S : Slots) (K : Kinds) (x : ℕ) (m : Mode) (A : TypeExpression) → Known S K → Needs S x m (of A) → source_type (K x) ≡ A
part_known S K x m A h d = ap source_type (h x d.0 (of A) d.1)

-- what a closure takes of the slots R, in a block with the slots S, of which n are filled
module _ (E : Setting) (b : World) (n : ℕ) (S R : Slots) (K : Kinds) (y : Entry) (c : Code) (cap : Captures b (entry_mode y) S R) (fits : cps.Fits E (world_of (entry_mode y)) (entry_filled y n) (entry_slots y n R) c) (h : Known R K) (low : (l : ℕ) (m : Mode) (T : SlotType) → S l ≡ Some (slot m T) → l < n) where
  abbrev pub slot_at : ℕ → Slot
  slot_at l = known_slot (R l)

  abbrev pub taken_slots : List Slot
  taken_slots = map slot_at (free n c)

  has_type : (l : ℕ) → IsTrue (among l (free n c)) → HasType R l
  has_type l i = let u = free_used n l c i in entry_below y n l R u.0 (used_has E c (world_of (entry_mode y)) (entry_filled y n) l (entry_slots y n R) (more_filled y n l u.0) u.1 fits)

  pub taken_types : map slot_type taken_slots ≡ map K (free n c)
  taken_types = types_of slot_at K (free n c) (λ l i. let t = has_type l i in ap (λ o. slot_type (known_slot o)) t.2 ∙ sym (h l t.0 t.1 t.2))

  pub taken_follow : Follows n (free n c) n R (slice_get taken_slots)
  taken_follow = record {
    long = omega arith;
    below = λ l m T e. low l (cap l m T e).0.0 T (cap l m T e).0.1;
    slots = λ l m T e cv. let lt : l < n = low l (cap l m T e).0.0 T (cap l m T e).0.1 in (
      m,
      ap (slice_get taken_slots) (anew_before n l (free n c) lt) ∙ slice_get-map slot_at (free n c) (place l (free n c)) ∙ ap (option_map slot_at) (place_get l (free n c) (cv lt)) ∙ ap (λ o. Some (known_slot o)) e,
      inl refl,
    );
  }

  pub takes_slots : (n0 : ℕ) (ls : List ℕ) (Z : Slots) → (f : Follows n0 ls n S Z) → Covered n0 ls n S Z f (uses c) → AllZip (TakesSlot b (entry_mode y) Z) (map (anew n0 ls) (free n c)) taken_slots
  takes_slots n0 ls Z f cv = takes_of b (entry_mode y) Z (anew n0 ls) slot_at (free n c) (λ l i. let t = has_type l i in let k = cap l t.0 t.1 t.2 in
      subst (λ o. TakesSlot b (entry_mode y) Z (anew n0 ls l) (known_slot o)) (sym t.2) (needs_at n0 ls n S Z f l t.0 t.1 (λ lt. cv l (free_used n l c i).1 lt) k.0, k.1))

module _ (C : source.Blocks) (B : Blocks) (d0 : IsProgram C) (made : IsClosed C B) where
  abbrev E : Setting
  E = setting_of C

  abbrev L : List ℕ
  L = made.labels

  abbrev Result : Environments → List Row → Type 0 → Type 0
  Result M rows X = Base B L M → Each (Knows M) rows → X × Each (IsTypedRow B M) rows

  -- the labels with their environments, and what holds where each label has its own
  pub record Out (labels : List ℕ) (X : Environments → Type 0) : Type 0 where
    pub rows : List Row
    pub named : labels_of rows ≡ labels
    pub holds : (M : Environments) → Result M rows (X M)

  both : (is js : List ℕ) (X Y V : Environments → Type 0) → Out is X → Out js Y → ((M : Environments) → X M → Y M → V M) → Out (is ++ js) V
  both is js X Y V a c join = record {
    rows = a.rows ++ c.rows;
    named = map-append row_label a.rows c.rows ∙ ap₂ (λ p q. p ++ q) a.named c.named;
    holds = λ M base k.
        let x = a.holds M base (first_of_both (Knows M) a.rows c.rows k) in
        let z = c.holds M base (second_of_both (Knows M) a.rows c.rows k) in
        (join M x.0 z.0, each-append (IsTypedRow B M) a.rows c.rows x.1 z.1);
  }

  so_then : (is : List ℕ) (X V : Environments → Type 0) → Out is X → ((M : Environments) → Base B L M → X M → V M) → Out is V
  so_then is X V a go = record { rows = a.rows; named = a.named; holds = λ M base k. let x = a.holds M base k in (go M base x.0, x.1) }

  skipped : (is : List ℕ) → Out is (λ M. Unit {0})
  skipped is = record { rows = unsaid is; named = unsaid_labels is; holds = λ M base k. (tt, unsaid_typed B M is) }

  abbrev pub CodeFits : World → ℕ → Slots → target.Code → Environments → Type 0
  CodeFits b m Z d M = Fits B M b m Z d

  -- the block of a label, before the rest
  pub labelled : (i : ℕ) (es : List Slot) (x : Block) (is js : List ℕ) (X Y : Environments → Type 0) → slice_get B.table i ≡ Some x → Out is X → Out js Y → ((M : Environments) → X M → IsBlock B M es x) → Out (i ∷ (is ++ js)) (λ M. (M i ≡ Some es) × Y M)
  labelled i es x is js X Y at a c block = record {
    rows = record { label = i; environment = Some es } ∷ (a.rows ++ c.rows);
    named = ap (λ ks. i ∷ ks) (map-append row_label a.rows c.rows ∙ ap₂ (λ p q. p ++ q) a.named c.named);
    holds = λ M base k.
        let z = a.holds M base (first_of_both (Knows M) a.rows c.rows k.1) in
        let w = c.holds M base (second_of_both (Knows M) a.rows c.rows k.1) in
        ((k.0, w.0), ((x, at, block M z.0), each-append (IsTypedRow B M) a.rows c.rows z.1 w.1));
  }

  module _ (b : World) (n0 : ℕ) (ls : List ℕ) (n m : ℕ) (S Z : Slots) (K : Kinds) (d : target.Code) where
    abbrev Made : Code → Type 0
    Made c = IsMade E B L (anew n0 ls) b K n c d

    abbrev TypedHere : Code → Type 0
    TypedHere c = cps.Fits E b n S c → Known S K → (md : Made c) → (f : Follows n0 ls n S Z) → Covered n0 ls n S Z f (uses c) → m ≡ length ls + (n - n0) → Out (labels_in E B L (anew n0 ls) b K n c d md) (CodeFits b m Z d)

  abbrev pub Typed : Code → Type 0
  Typed c = (b : World) (n0 : ℕ) (ls : List ℕ) (n m : ℕ) (S Z : Slots) (K : Kinds) (d : target.Code) → TypedHere b n0 ls n m S Z K d c

  straight_typed : (s : Straight) (c : Code) → Typed c → Typed (straight s c)
  straight_typed s c ih b n0 ls n m S Z K d fits h md f cv q =
      let cv1 : Covered n0 ls n S Z f (straight_uses s) = λ l u. cv l (or_left (straight_uses s l) (uses c l) u) in
      let P : Mode → SlotType → Type 0 = λ k T. cps.Fits E b (suc n) (fill n k T S) c in
      let x = straight_known E b S K s (And C B d0 made b n0 ls n m S Z f d md.0 P) (straight_fits C B d0 made b n0 ls n m S Z f d md.0 s P md.1 cv1 fits) h in
      let next = fill_follows n0 ls n m S Z x.0 x.2.1.0 x.1 q x.2.1.1 f in
      so_then _ (CodeFits b (suc m) (fill m x.2.1.0 x.1 Z) md.0) (CodeFits b m Z d)
      (ih b n0 ls (suc n) (suc m) (fill n x.0 x.1 S) (fill m x.2.1.0 x.1 Z) (put n (straight_type E b K s) K) md.0 x.2.0 (known_fill S K n x.0 x.1 (straight_type E b K s) x.3 h) md.2 next (λ l u. cv l (or_right (straight_uses s l) (uses c l) u)) (omega (arith, q, f.long)))
      x.2.1.2

  closure_typed : (y : Entry) (c k : Code) → Typed c → Typed k → Typed (closure y c k)
  closure_typed y c k ihc ihk b n0 ls n m S Z K d fits h md f cv q =
      let known = captures_known b (entry_mode y) S fits.0 K fits.1 h in
      let vs : List ℕ = free n c in
      let es : List Slot = taken_slots E b n S fits.0 K y c fits.1 fits.2 known f.below in
      let x : Block = record { entry = y; environment = map K vs; code = md.3.0 } in
      let w : ℕ = length (map K vs) in
      let begins = entry_follows y n w vs fits.0 (slice_get es) (map_long K vs) (taken_follow E b n S fits.0 K y c fits.1 fits.2 known f.below) in
      let inner = ihc (world_of (entry_mode y)) n vs (entry_filled y n) (entry_filled y w) (entry_slots y n fits.0) (entry_slots y w (slice_get es)) (entry_kinds y n K) md.3.0 fits.2 (entry_known y n fits.0 K known) md.3.3 begins (λ l u lt. free_has n l c lt u) (filled_alike y n w vs (map_long K vs)) in
      let rest = ihk b n0 ls (suc n) (suc m) (fill n (entry_mode y) (entry_type y) S) (fill m (entry_mode y) (entry_type y) Z) (put n (entry_type y) K) md.1 fits.3 (known_fill S K n (entry_mode y) (entry_type y) (entry_type y) refl h) md.4 (fill_follows n0 ls n m S Z (entry_mode y) (entry_mode y) (entry_type y) q (inl refl) f) (λ l u. cv l (or_right (uses c l) (uses k l) u)) (omega (arith, q, f.long)) in
      let takes_them = takes_slots E b n S fits.0 K y c fits.1 fits.2 known f.below n0 ls Z f (λ l u. cv l (or_left (uses c l) (uses k l) u)) in
      so_then _ (λ M. (M md.0 ≡ Some es) × CodeFits b (suc m) (fill m (entry_mode y) (entry_type y) Z) md.1 M) (CodeFits b m Z d)
      (labelled md.0 es x _ _ (CodeFits (world_of (entry_mode y)) (entry_filled y w) (entry_slots y w (slice_get es)) md.3.0) (CodeFits b (suc m) (fill m (entry_mode y) (entry_type y) Z) md.1) md.3.1 inner rest
      (λ M g. record { types = taken_types E b n S fits.0 K y c fits.1 fits.2 known f.below; fits = g }))
      (λ M base g. subst (λ z. Fits B M b m Z z) (sym md.2) (x, es, md.3.1, g.0, takes_them, g.1))

  -- the same count of slots, said in two ways
  way_typed : (o : ℕ) (c : Code) → Typed c → (b : World) (n0 : ℕ) (ls : List ℕ) (n m : ℕ) (S Z : Slots) (K : Kinds) (d : target.Code) → n ≡ o → cps.Fits E b n S c → Known S K → (md : IsMade E B L (anew n0 ls) b K o c d) → (f : Follows n0 ls n S Z) → Covered n0 ls n S Z f (uses c) → m ≡ length ls + (n - n0) → Out (labels_in E B L (anew n0 ls) b K o c d md) (CodeFits b m Z d)
  way_typed o c ih b n0 ls n m S Z K d e fits h md f cv q = ih b n0 ls o m S Z K d (subst (λ z. cps.Fits E b z S c) e fits) h md (subst (λ z. Follows n0 ls z S Z) e f) cv (omega (arith, q, e))

  true_typed : (x : ℕ) (c k : Code) → Typed c → Typed k → Typed (test if_true x c k)
  true_typed x c k ihc ihk b n0 ls n m S Z K d fits h md f cv q =
      let cv1 : Covered n0 ls n S Z f (λ l. uses c l || uses k l) = λ l u. cv l (or_right (l == x) (uses c l || uses k l) u) in
      both _ _ (CodeFits b m Z md.0) (CodeFits b m Z md.1) (CodeFits b m Z d)
      (way_typed (0 + n) c ihc b n0 ls n m S Z K md.0 (omega arith) fits.1 h md.3 f (λ l u. cv1 l (or_left (uses c l) (uses k l) u)) q)
      (way_typed (0 + n) k ihk b n0 ls n m S Z K md.1 (omega arith) fits.2 h md.4 f (λ l u. cv1 l (or_right (uses c l) (uses k l) u)) q)
      (λ M p w. subst (λ z. Fits B M b m Z z) (sym md.2) (needs_on n0 ls n S Z f (λ l. l == x) x _ _ (λ l u. cv l (or_left (l == x) (uses c l || uses k l) u)) (itself x) fits.0, p, w))

  left_typed : (x : ℕ) (c k : Code) → Typed c → Typed k → Typed (test if_left x c k)
  left_typed x c k ihc ihk b n0 ls n m S Z K d fits h md f cv q =
      let cv1 : Covered n0 ls n S Z f (λ l. uses c l || uses k l) = λ l u. cv l (or_right (l == x) (uses c l || uses k l) u) in
      let p = part_known S K x (only b) (sum fits.0 fits.1) h fits.2 in
      let A : SlotType = of fits.0 in
      let D : SlotType = of fits.1 in
      let q1 : suc m ≡ length ls + (suc n - n0) = omega (arith, q, f.long) in
      both _ _ (CodeFits b (suc m) (fill m (only b) A Z) md.0) (CodeFits b (suc m) (fill m (only b) D Z) md.1) (CodeFits b m Z d)
      (way_typed (1 + n) c ihc b n0 ls (suc n) (suc m) (fill n (only b) A S) (fill m (only b) A Z) (put n (of (first_of (source_type (K x)))) K) md.0 (omega arith) fits.3 (known_fill S K n (only b) A _ (ap (λ T. of (first_of T)) p) h) md.3 (fill_follows n0 ls n m S Z (only b) (only b) A q (inl refl) f) (λ l u. cv1 l (or_left (uses c l) (uses k l) u)) q1)
      (way_typed (1 + n) k ihk b n0 ls (suc n) (suc m) (fill n (only b) D S) (fill m (only b) D Z) (put n (of (second_of (source_type (K x)))) K) md.1 (omega arith) fits.4 (known_fill S K n (only b) D _ (ap (λ T. of (second_of T)) p) h) md.4 (fill_follows n0 ls n m S Z (only b) (only b) D q (inl refl) f) (λ l u. cv1 l (or_right (uses c l) (uses k l) u)) q1)
      (λ M v w. subst (λ z. Fits B M b m Z z) (sym md.2) (fits.0, fits.1, needs_on n0 ls n S Z f (λ l. l == x) x _ _ (λ l u. cv l (or_left (l == x) (uses c l || uses k l) u)) (itself x) fits.2, v, w))

  nil_typed : (x : ℕ) (c k : Code) → Typed c → Typed k → Typed (test if_nil x c k)
  nil_typed x c k ihc ihk b n0 ls n m S Z K d fits h md f cv q =
      let cv1 : Covered n0 ls n S Z f (λ l. uses c l || uses k l) = λ l u. cv l (or_right (l == x) (uses c l || uses k l) u) in
      let p = part_known S K x (only b) (list fits.0) h fits.1 in
      let A : SlotType = of fits.0 in
      let D : SlotType = of (list fits.0) in
      let q1 : suc m ≡ length ls + (suc n - n0) = omega (arith, q, f.long) in
      let q2 : suc (suc m) ≡ length ls + (suc (suc n) - n0) = omega (arith, q, f.long) in
      let f1 = fill_follows n0 ls n m S Z (only b) (only b) A q (inl refl) f in
      both _ _ (CodeFits b m Z md.0) (CodeFits b (suc (suc m)) (fill (suc m) (only b) D (fill m (only b) A Z)) md.1) (CodeFits b m Z d)
      (way_typed (0 + n) c ihc b n0 ls n m S Z K md.0 (omega arith) fits.2 h md.3 f (λ l u. cv1 l (or_left (uses c l) (uses k l) u)) q)
      (way_typed (2 + n) k ihk b n0 ls (suc (suc n)) (suc (suc m)) (fill (suc n) (only b) D (fill n (only b) A S)) (fill (suc m) (only b) D (fill m (only b) A Z)) (put (suc n) (of (source_type (K x))) (put n (of (content_of (source_type (K x)))) K)) md.1 (omega arith) fits.3
      (known_fill _ _ (suc n) (only b) D _ (ap of p) (known_fill S K n (only b) A _ (ap (λ T. of (content_of T)) p) h)) md.4 (fill_follows n0 ls (suc n) (suc m) _ _ (only b) (only b) D q1 (inl refl) f1) (λ l u. cv1 l (or_right (uses c l) (uses k l) u)) q2)
      (λ M v w. subst (λ z. Fits B M b m Z z) (sym md.2) (fits.0, needs_on n0 ls n S Z f (λ l. l == x) x _ _ (λ l u. cv l (or_left (l == x) (uses c l || uses k l) u)) (itself x) fits.1, v, w))

  -- of a test of an address the way that is taken
  way : (t : Bool) (is js : List ℕ) (F G : Type 0) (X Y : Environments → Type 0) → (F → Out is X) → (G → Out js Y) → Chosen t F G → Out (is ++ js) (λ M. Chosen t (X M) (Y M))
  way true is js F G X Y a c h = both is js X (λ M. Unit {0}) X (a h) (skipped js) (λ M v w. v)
  way false is js F G X Y a c h = both is js (λ M. Unit {0}) Y Y (skipped is) (c h) (λ M v w. w)

  here_typed : (x : ℕ) (c k : Code) → Typed c → Typed k → Typed (test if_here x c k)
  here_typed x c k ihc ihk b n0 ls n m S Z K d fits h md f cv q =
      let cv1 : Covered n0 ls n S Z f (λ l. uses c l || uses k l) = λ l u. cv l (or_right (l == x) (uses c l || uses k l) u) in
      let t : Bool = same_world fits.0 b in
      so_then _ (λ M. Chosen t (CodeFits b m Z md.0 M) (CodeFits b m Z md.1 M)) (CodeFits b m Z d)
      (way t _ _ (cps.Fits E b n S c) (cps.Fits E b n S k) (CodeFits b m Z md.0) (CodeFits b m Z md.1)
      (λ g. way_typed (0 + n) c ihc b n0 ls n m S Z K md.0 (omega arith) g h md.3 f (λ l u. cv1 l (or_left (uses c l) (uses k l) u)) q)
      (λ g. way_typed (0 + n) k ihk b n0 ls n m S Z K md.1 (omega arith) g h md.4 f (λ l u. cv1 l (or_right (uses c l) (uses k l) u)) q)
      fits.4)
      (λ M base g. subst (λ z. Fits B M b m Z z) (sym md.2) (fits.0, fits.1, fits.2, needs_on n0 ls n S Z f (λ l. l == x) x _ _ (λ l u. cv l (or_left (l == x) (uses c l || uses k l) u)) (itself x) fits.3, g))

  pub typed : (c : Code) → Typed c
  typed (straight s c) = straight_typed s c (typed c)
  typed (closure y c k) = closure_typed y c k (typed c) (typed k)
  typed (test if_true x c k) = true_typed x c k (typed c) (typed k)
  typed (test if_left x c k) = left_typed x c k (typed c) (typed k)
  typed (test if_nil x c k) = nil_typed x c k (typed c) (typed k)
  typed (test if_here x c k) = here_typed x c k (typed c) (typed k)
  typed (ends e) = λ b n0 ls n m S Z K d fits h md f cv q.
      record { rows = []; named = refl; holds = λ M base k. (subst (λ z. Fits B M b m Z z) (sym md) (ending_on n0 ls n S Z f b e cv fits), tt) }
