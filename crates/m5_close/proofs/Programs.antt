-- A closed program is a program of blocks under labels.
use Rattle.std.proofs.Common.{◌≡◌, inl, ℕ, zero, suc, ◌+◌, ◌==◌, ◌||◌, Bool, true, false, IsTrue, if◌then◌else◌, List, [], ◌∷◌, ◌++◌, map, slice_get, Some, refl, sym, ap, ap₂, subst, ◌∙◌, arith, true≢false}
use Rattle.std.specs.List.{AllZip, AllByRecursion as Each}
use Rattle.std.proofs.lemmas.List.{map-append}
use Rattle.m5_terms.proofs.Lists.{each-append}
use Rattle.m5_terms.specs.Substitution.{among}
use Rattle.m5_terms.specs.Primitives.{primitive_world}
use Rattle.m5_terms.specs.declared.types.World.{World}
use Rattle.m5_terms.specs.declared.types.World.TheVariants.{Home, Server, Panel, Any}
use Rattle.m5_terms.specs.declared.types.Primitive.{Primitive}
use Rattle.m5_typing.specs.Context.{Setting}
use Rattle.m5_cps_typing.specs.Rows.{Kinds, entry_kinds}
use Rattle.m5_cps_typing.proofs.Rows.{entry_known}
use Rattle.m5_cps.specs.Entries.{only, everywhere, Entry, by_value, by_call, world_of, entry_mode, entry_filled, main_entry}
use Rattle.m5_cps.specs.Blocks.{Code, straight, closure, test, ends, done}
use Rattle.m5_cps.specs.Blocks as source
use Rattle.m5_cps.specs.Values.{put_all}
use Rattle.m5_cps.specs.Slots.{Slot, Slots, no_slots, entry_slots}
use Rattle.m5_cps.specs.Fits as cps
use Rattle.m5_cps.specs.Limits.{parts_then, parts_else, AreLimited}
use Rattle.m5_cps.specs.Limits as cps_limits
use Rattle.m5_cps.specs.Program.{setting_of, IsFunctionBlock, IsProgram}
use Rattle.m5_flat.specs.Blocks.{Block, Named, Blocks, primitive_at}
use Rattle.m5_flat.specs.Blocks as target
use Rattle.m5_flat.specs.Fits.{Environments}
use Rattle.m5_flat.specs.Limits.{IsLimited}
use Rattle.m5_flat.specs.Program.{IsBlock, IsPrimitive}
use Rattle.m5_flat.specs.Program as flat_program
use Rattle.m5_close.specs.Close.{types_then, free, anew, no_kinds, asking_block, IsMade, IsBlockOf, labels_in, block_labels, finish_entry, declared_entry, IsDeclared, declared_labels, AsksBy, AreDistinct, closed_labels, IsClosed}
use Rattle.m5_close.specs.Closing.{ClosedIsProgram}
use Rattle.m5_close.proofs.Slots.{get_short}
use Rattle.m5_close.proofs.Limited.{closed_are_limited}
use Rattle.m5_close.proofs.Follow.{Follows, entry_follows, filled_alike}
use Rattle.m5_close.proofs.Rowed.{Row, row_label, labels_of, found, Knows, IsTypedRow, first_of_both, second_of_both, all_found, found_typed}
use Rattle.m5_close.proofs.Forms.{Base}
use Rattle.m5_close.proofs.Typed.{Out, CodeFits, typed}

each_by : {A : Type 0} (P : A → Type 0) (xs : List A) → ((i : ℕ) (x : A) → slice_get xs i ≡ Some x → P x) → Each P xs
each_by P [] h = tt
each_by P (x ∷ xs) h = (h 0 x refl, each_by P xs (λ i y e. h (suc i) y e))

each_among : (P : ℕ → Type 0) (is : List ℕ) (i : ℕ) → Each P is → IsTrue (among i is) → P i
each_among P [] i h a = absurd (true≢false (sym a))
each_among P (j ∷ is) i h a = by_test (λ k. each_among P is i h.1 k) (i == j) refl
  where
    by_test : (IsTrue (among i is) → P i) → (b : Bool) → (i == j) ≡ b → P i
    by_test ih true e = let same : i ≡ j = grind (arith, e) in subst P (sym same) h.0
    by_test ih false e = ih (sym (ap (λ b. b || among i is) e) ∙ a)

-- a declared function stands, is filled and begins as its block does
as_declared : (P : World → ℕ → Slots → Type 0) (y : Entry) → P (world_of (entry_mode y)) (entry_filled y 0) (entry_slots y 0 no_slots) → P (world_of (entry_mode (declared_entry y))) (entry_filled (declared_entry y) 0) (entry_slots (declared_entry y) 0 no_slots)
as_declared P (by_value m T) h = h
as_declared P (by_call everywhere A D) h = h
as_declared P (by_call (only Home) A D) h = h
as_declared P (by_call (only Server) A D) h = h
as_declared P (by_call (only Panel) A D) h = h
as_declared P (by_call (only Any) A D) h = h

declared_limited : (y : Entry) (c : Code) → cps_limits.IsLimited 0 y c → cps_limits.IsLimited 0 (declared_entry y) c
declared_limited (by_value m T) c h = h
declared_limited (by_call everywhere A D) c h = h
declared_limited (by_call (only Home) A D) c h = h
declared_limited (by_call (only Server) A D) c h = h
declared_limited (by_call (only Panel) A D) c h = h
declared_limited (by_call (only Any) A D) c h = record { depth = h.depth; slots = h.slots }

bare_primitive : (M : Environments) (ps : List Named) (i : ℕ) (p : Primitive) → Each (λ (a : Named). M a.label ≡ Some []) ps → primitive_at ps i ≡ Some p → M i ≡ Some []
bare_primitive M [] i p h e = absurd (cc (e))
bare_primitive M (a ∷ ps) i p h e = by_test (λ k. bare_primitive M ps i p h.1 k) (a.label == i) refl
  where
    by_test : (primitive_at ps i ≡ Some p → M i ≡ Some []) → (b : Bool) → (a.label == i) ≡ b → M i ≡ Some []
    by_test ih true q = let same : a.label ≡ i = grind (arith, q) in subst (λ z. M z ≡ Some []) same h.0
    by_test ih false q = ih (sym (ap (λ b. if b then Some a.primitive else primitive_at ps i) q) ∙ e)

module _ (C : source.Blocks) (B : Blocks) (d : IsProgram C) (made : IsClosed C B) where
  abbrev E : Setting
  E = setting_of C

  abbrev L : List ℕ
  L = made.labels

  abbrev LimitedAt : ℕ → Type 0
  LimitedAt i = (x : Block) → slice_get B.table i ≡ Some x → IsLimited x

  in_limits : (c : Code) (r : ℕ → ℕ) (b : World) (τ : Kinds) (n : ℕ) (z : target.Code) (md : IsMade E B L r b τ n c z) → AreLimited n c → Each LimitedAt (labels_in E B L r b τ n c z md)
  in_limits (straight f c) r b τ n z md h = in_limits c r b _ (suc n) md.0 md.2 h
  in_limits (closure y c k) r b τ n z md h = (
    λ x at. closed_are_limited E B L md.0 y τ n c md.3 x at h.0,
    each-append LimitedAt (labels_in E B L (anew n (free n c)) (world_of (entry_mode y)) (entry_kinds y n τ) (entry_filled y n) c md.3.0 md.3.3) _
        (in_limits c (anew n (free n c)) (world_of (entry_mode y)) (entry_kinds y n τ) (entry_filled y n) md.3.0 md.3.3 h.1) (in_limits k r b _ (suc n) md.1 md.4 h.2),
  )
  in_limits (test t x c k) r b τ n z md h =
      each-append LimitedAt (labels_in E B L r b (put_all n (types_then t (τ x)) τ) (parts_then t + n) c md.0 md.3) _
      (in_limits c r b _ (parts_then t + n) md.0 md.3 h.0) (in_limits k r b _ (parts_else t + n) md.1 md.4 h.1)
  in_limits (ends e) r b τ n z md h = tt

  block_limits : (i : ℕ) (y : Entry) (c : Code) (md : IsBlockOf E B L i y no_kinds 0 c) → cps_limits.IsLimited 0 y c → AreLimited (entry_filled y 0) c → Each LimitedAt (block_labels E B L i y no_kinds 0 c md)
  block_limits i y c md h k = (λ x at. closed_are_limited E B L i y no_kinds 0 c md x at h, in_limits c _ _ _ _ md.0 md.3 k)

  function_limits : (is : List ℕ) (bs : List source.Block) (md : AllZip (IsDeclared E B L) is bs) → Each (IsFunctionBlock E) bs → Each LimitedAt (declared_labels E B L is bs md)
  function_limits [] [] md h = tt
  function_limits [] (b ∷ bs) md h = absurd md
  function_limits (i ∷ is) [] md h = absurd md
  function_limits (i ∷ is) (b ∷ bs) md h =
      each-append LimitedAt (block_labels E B L i (declared_entry b.entry) no_kinds 0 b.code md.0) _
      (block_limits i (declared_entry b.entry) b.code md.0 (declared_limited b.entry b.code h.0.block.limited) (as_declared (λ w n S. AreLimited n b.code) b.entry h.0.block.inner)) (function_limits is bs md.1 h.1)

  asking_limited : (p : Primitive) (A D : _) → IsLimited (asking_block p A D)
  asking_limited p A D = record { depth = omega arith; slots = omega arith }

  primitive_limits : (ps : List Named) → Each (AsksBy B) ps → Each LimitedAt (map (λ (a : Named). a.label) ps)
  primitive_limits [] h = tt
  primitive_limits (a ∷ ps) h = (λ x at. let q : Some (asking_block a.primitive h.0.0 h.0.1) ≡ Some x = sym h.0.3 ∙ at in let same : asking_block a.primitive h.0.0 h.0.1 ≡ x = cc (q) in subst IsLimited same (asking_limited a.primitive h.0.0 h.0.1), primitive_limits ps h.1)

  abbrev labels : List ℕ
  labels = closed_labels C B L made.functions made.main

  all_limits : Each LimitedAt labels
  all_limits =
      each-append LimitedAt (block_labels E B L B.main main_entry no_kinds 0 C.main made.main) _
      (block_limits B.main main_entry C.main made.main d.main.limited d.main.inner) (
        (block_limits B.finish finish_entry (ends done) made.finish (record { depth = omega arith; slots = omega arith }) tt).0,
        each-append LimitedAt (map (λ (a : Named). a.label) B.primitives) _ (primitive_limits B.primitives made.primitives) (function_limits L C.functions made.functions d.functions),
      )

  -- labels with their environments; some of these are empty
  record Whole (is : List ℕ) (Bare : Environments → Type 0) : Type 0 where
    rows : List Row
    named : labels_of rows ≡ is
    bare : (M : Environments) → Each (Knows M) rows → Bare M
    typed : (M : Environments) → Base B L M → Each (Knows M) rows → Each (IsTypedRow B M) rows

  -- the block of a label that takes nothing, before the rest
  bare_block : (i : ℕ) (x : Block) (is js : List ℕ) (X Bare : Environments → Type 0) → slice_get B.table i ≡ Some x → Out C B d made is X → ((M : Environments) → X M → IsBlock B M [] x) → Whole js Bare → Whole (i ∷ (is ++ js)) (λ M. (M i ≡ Some []) × Bare M)
  bare_block i x is js X Bare at a block w = record {
    rows = record { label = i; environment = Some [] } ∷ (a.rows ++ w.rows);
    named = ap (λ ks. i ∷ ks) (map-append row_label a.rows w.rows ∙ ap₂ (λ p q. p ++ q) a.named w.named);
    bare = λ M k. (k.0, w.bare M (second_of_both (Knows M) a.rows w.rows k.1));
    typed = λ M base k. let z = a.holds M base (first_of_both (Knows M) a.rows w.rows k.1) in (
      (x, at, block M z.0),
      each-append (IsTypedRow B M) a.rows w.rows z.1 (w.typed M base (second_of_both (Knows M) a.rows w.rows k.1)),
    );
  }

  said : (is : List ℕ) (P Q : Environments → Type 0) → Whole is P → ((M : Environments) → P M → Q M) → Whole is Q
  said is P Q w f = record { rows = w.rows; named = w.named; bare = λ M k. f M (w.bare M k); typed = w.typed }

  no_labels : Whole [] (λ M. Unit {0})
  no_labels = record { rows = []; named = refl; bare = λ M k. tt; typed = λ M base k. tt }

  begins_bare : Follows 0 [] 0 no_slots (slice_get [])
  begins_bare = record { long = omega arith; below = λ l m T e. absurd (cc (e)); slots = λ l m T e cv. absurd (cc (e)) }

  own_block : (i : ℕ) (y : Entry) (c : Code) (md : IsBlockOf E B L i y no_kinds 0 c) (js : List ℕ) (Bare : Environments → Type 0) → cps.Fits E (world_of (entry_mode y)) (entry_filled y 0) (entry_slots y 0 no_slots) c → Whole js Bare → Whole (block_labels E B L i y no_kinds 0 c md ++ js) (λ M. (M i ≡ Some []) × Bare M)
  own_block i y c md js Bare h w =
      bare_block i (record { entry = y; environment = []; code = md.0 }) _ js (CodeFits C B d made (world_of (entry_mode y)) (entry_filled y 0) (entry_slots y 0 (slice_get [])) md.0) Bare md.1
      (typed C B d made c (world_of (entry_mode y)) 0 [] (entry_filled y 0) (entry_filled y 0) (entry_slots y 0 no_slots) (entry_slots y 0 (slice_get [])) (entry_kinds y 0 no_kinds) md.0 h (entry_known y 0 no_slots no_kinds (λ l m T e. absurd (cc (e)))) md.3
      (entry_follows y 0 0 [] no_slots (slice_get []) refl begins_bare) (λ l u lt. absurd (omega (arith, lt))) (filled_alike y 0 0 [] refl))
      (λ M g. record { types = refl; fits = g }) w

  abbrev BareFunctions : List ℕ → Environments → Type 0
  BareFunctions is M = (g i : ℕ) → slice_get is g ≡ Some i → M i ≡ Some []

  one_more : (i : ℕ) (is : List ℕ) (M : Environments) → (M i ≡ Some []) × BareFunctions is M → BareFunctions (i ∷ is) M
  one_more i is M h zero j e = let q : i ≡ j = cc (e) in subst (λ z. M z ≡ Some []) q h.0
  one_more i is M h (suc g) j e = h.1 g j e

  function_blocks : (is : List ℕ) (bs : List source.Block) (md : AllZip (IsDeclared E B L) is bs) → Each (IsFunctionBlock E) bs → Whole (declared_labels E B L is bs md) (BareFunctions is)
  function_blocks [] [] md h = said [] (λ M. Unit {0}) (BareFunctions []) no_labels (λ M u g i e. absurd (cc (e)))
  function_blocks [] (b ∷ bs) md h = absurd md
  function_blocks (i ∷ is) [] md h = absurd md
  function_blocks (i ∷ is) (b ∷ bs) md h =
      said _ (λ M. (M i ≡ Some []) × BareFunctions is M) (BareFunctions (i ∷ is))
      (own_block i (declared_entry b.entry) b.code md.0 _ (BareFunctions is) (as_declared (λ w n S. cps.Fits E w n S b.code) b.entry h.0.block.fits) (function_blocks is bs md.1 h.1))
      (λ M k. one_more i is M k)

  abbrev BarePrimitives : List Named → Environments → Type 0
  BarePrimitives ps M = Each (λ (a : Named). M a.label ≡ Some []) ps

  primitive_blocks : (ps : List Named) (js : List ℕ) (Bare : Environments → Type 0) → Each (AsksBy B) ps → Whole js Bare → Whole (map (λ (a : Named). a.label) ps ++ js) (λ M. BarePrimitives ps M × Bare M)
  primitive_blocks [] js Bare h w = said js Bare (λ M. BarePrimitives [] M × Bare M) w (λ M k. (tt, k))
  primitive_blocks (a ∷ ps) js Bare h w =
      said _ (λ M. (M a.label ≡ Some []) × (BarePrimitives ps M × Bare M)) (λ M. BarePrimitives (a ∷ ps) M × Bare M)
      (bare_block a.label (asking_block a.primitive h.0.0 h.0.1) [] _ (λ M. Unit {0}) (λ M. BarePrimitives ps M × Bare M) h.0.3
      (record { rows = []; named = refl; holds = λ M base k. (tt, tt) })
      (λ M u. record {
        types = refl;
        fits = (refl, (h.0.0, h.0.1, h.0.2, (only (primitive_world a.primitive), refl, inl refl), (only (primitive_world a.primitive), refl, inl refl)));
      }) (primitive_blocks ps js Bare h.1 w))
      (λ M k. ((k.0, k.1.0), k.1.1))

  abbrev Bared : Environments → Type 0
  Bared M = (M B.main ≡ Some []) × ((M B.finish ≡ Some []) × (BarePrimitives B.primitives M × BareFunctions L M))

  whole : Whole labels Bared
  whole =
      own_block B.main main_entry C.main made.main _ (λ M. (M B.finish ≡ Some []) × (BarePrimitives B.primitives M × BareFunctions L M)) d.main.fits
      (own_block B.finish finish_entry (ends done) made.finish _ (λ M. BarePrimitives B.primitives M × BareFunctions L M) tt
      (primitive_blocks B.primitives _ (BareFunctions L) made.primitives (function_blocks L C.functions made.functions d.functions)))

  abbrev M : Environments
  M = found whole.rows

  knows : Each (Knows M) whole.rows
  knows = all_found whole.rows (subst AreDistinct (sym whole.named) made.own)

  bared : Bared M
  bared = whole.bare M knows

  base : Base B L M
  base = record { functions = bared.1.1.1; primitives = λ i p e. bare_primitive M B.primitives i p bared.1.1.0 e }

  all_primitives : (ps : List Named) → Each (AsksBy B) ps → BarePrimitives ps M → Each (IsPrimitive B M) ps
  all_primitives [] h k = tt
  all_primitives (a ∷ ps) h k = (record { bare = k.0; argument = h.0.0; result = h.0.1; type = h.0.2; block = h.0.3 }, all_primitives ps h.1 k.1)

  same_block : (es : List Slot) (x y : Block) → Some x ≡ Some y → IsBlock B M es x → IsBlock B M es y
  same_block es x y e h = let same : x ≡ y = cc (e) in subst (IsBlock B M es) same h

  is_program : flat_program.IsProgram B
  is_program = record {
    environments = M;
    blocks = λ i es b e at. let t = found_typed B M whole.rows i es (whole.typed M base knows) e in same_block es t.0 b (sym t.1 ∙ at) t.2;
    limited = each_by IsLimited B.table (λ i b at. each_among LimitedAt labels i all_limits (made.all i (get_short B.table i b at)) b at);
    primitives = all_primitives B.primitives made.primitives bared.1.1.0;
    few = made.few;
    main = record { bare = bared.0; block = record { entry = main_entry; environment = []; code = made.main.0 }; at = made.main.1; entry = refl; environment = refl };
    finish = record { bare = bared.1.0; block = made.finish.1 ∙ ap (λ g. Some (record { entry = finish_entry; environment = []; code = g })) made.finish.3 };
  }

pub closed_is_program : ClosedIsProgram
closed_is_program = is_program
