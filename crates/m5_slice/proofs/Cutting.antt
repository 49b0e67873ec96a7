-- The cut of a program is a program.
use Rattle.std.proofs.Common.{◌≡◌, ℕ, zero, suc, ◌+◌, ◌≤◌, max, Bool, true, false, if◌then◌else◌, cond, List, [], ◌∷◌, map, length, slice_get, Some, refl, sym, ap, ap₂, ◌∙◌, subst, arith}
use Rattle.std.specs.Option.{option_map}
use Rattle.std.specs.List.{AllByRecursion as Each, filter}
use Rattle.std.proofs.lemmas.Option.{slice_get-map}
use Rattle.m5_terms.specs.TypeExpression.{TypeExpression, same_world}
use Rattle.m5_terms.specs.Primitives.{primitive_world}
use Rattle.m5_terms.proofs.SiteWorlds.{same-true}
use Rattle.m5_terms.specs.declared.types.World.{World}
use Rattle.m5_terms.specs.declared.types.World.TheVariants.{Home, Server, Panel, Any}
use Rattle.m5_typing.specs.Context.{Setting}
use Rattle.m5_cps.specs.Entries.{SlotType, Mode, only, by_call, world_of, entry_mode, entry_type, entry_filled}
use Rattle.m5_cps.specs.Blocks.{Straight, constant, one, two, unheld, unsham, spawn, if_true, if_left, if_nil, if_here, Ending, go, call, ask, send, done}
use Rattle.m5_cps.specs.Limits.{parts_then, parts_else, straight_slots, test_slots, begun_slots, ending_slots, straight_depth, ending_depth}
use Rattle.m5_cps.specs.Slots.{Slot, Slots, fill, entry_slots}
use Rattle.m5_cps.specs.Fits.{StraightFits, EndingFits, Chosen}
use Rattle.m5_flat.specs.Blocks.{Code, straight, closure, test, ends, Block, Named, Blocks}
use Rattle.m5_flat.specs.Fits.{no_setting, Environments, Fits}
use Rattle.m5_flat.specs.Limits.{path, depth, IsLimited}
use Rattle.m5_flat.specs.Program.{IsBlock, IsPrimitive, IsProgram}
use Rattle.m5_dictionary.specs.Dictionaries.{stands_at}
use Rattle.m5_slice.specs.Slicing.{cut_ending, cut_code, is_at, cut_block, is_primitive_at, cut}

-- the block of a label before it was cut
pub uncut : (w : World) (bs : List Block) (i : ℕ) (c : Block) → slice_get (map (cut_block w) bs) i ≡ Some c → (b : Block) × (slice_get bs i ≡ Some b) × (c ≡ cut_block w b)
uncut w [] i c e = absurd (cc)
uncut w (b ∷ bs) zero c e = (b, refl, cc)
uncut w (b ∷ bs) (suc i) c e = uncut w bs i c e

pub cut_there : (w : World) (bs : List Block) (i : ℕ) (b : Block) → slice_get bs i ≡ Some b → slice_get (map (cut_block w) bs) i ≡ Some (cut_block w b)
cut_there w bs i b e = slice_get-map (cut_block w) bs i ∙ ap (option_map (cut_block w)) e

straight_as : (E : Setting) (b : World) (S : Slots) (f : Straight) (P Q : Mode → SlotType → Type 0) → ((m : Mode) (T : SlotType) → P m T → Q m T) → StraightFits E b S f P → StraightFits E b S f Q
straight_as E b S (constant f) P Q k d = (d.0, d.1, d.2, d.3, k _ _ d.4)
straight_as E b S (one f x) P Q k d = (d.0, d.1, d.2, d.3, d.4, d.5, k _ _ d.6)
straight_as E b S (two f x y) P Q k d = (d.0, d.1, d.2, d.3, d.4, d.5, k _ _ d.6)
straight_as E b S (unheld x) P Q k d = (d.0, d.1, d.2, d.3, k _ _ d.4)
straight_as E b S (unsham x) P Q k d = (d.0, d.1, k _ _ d.2)
straight_as E b S (spawn x) P Q k d = (d.0, k _ _ d.1)

chosen_as : (q : Bool) (X Y V W : Type 0) → (X → V) → (Y → W) → Chosen q X Y → Chosen q V W
chosen_as true X Y V W f g d = f d
chosen_as false X Y V W f g d = g d

-- a block of the world's mode stands there
pub stands_itself : (v : World) → stands_at v v ≡ true
stands_itself Home = refl
stands_itself Server = refl
stands_itself Panel = refl
stands_itself Any = refl

module _ (w : World) where
  ending_fits : (b : World) (S : Slots) (e : Ending) → EndingFits b S e → EndingFits b S (cut_ending w e)
  ending_fits b S (ask p x k) d = by (same_world (primitive_world p) w)
    where
      by : (q : Bool) → EndingFits b S (if q then ask p x k else done)
      by true = d
      by false = tt
  ending_fits b S (go k x) d = d
  ending_fits b S (call f x k) d = d
  ending_fits b S (send a k x) d = d
  ending_fits b S done d = d

  depth_same : (c : Code) → depth (cut_code w c) ≡ depth c
  depth_same (straight f c) = ap (λ n. straight_depth f + n) (depth_same c)
  depth_same (closure ls i c) = depth_same c
  depth_same (test t x b c) = ap₂ (λ m n. suc (max m n)) (depth_same b) (depth_same c)
  depth_same (ends (ask p x k)) = by (same_world (primitive_world p) w)
    where
      by : (q : Bool) → ending_depth (if q then ask p x k else done) ≡ 1
      by true = refl
      by false = refl
  depth_same (ends (go k x)) = refl
  depth_same (ends (call f x k)) = refl
  depth_same (ends (send a k x)) = refl
  depth_same (ends done) = refl

  path_same : (c : Code) → path (cut_code w c) ≡ path c
  path_same (straight f c) = ap (λ n. straight_slots f + n) (path_same c)
  path_same (closure ls i c) = ap (λ n. 2 + n) (path_same c)
  path_same (test t x b c) = ap₂ (λ m n. test_slots t + max (parts_then t + m) (parts_else t + n)) (path_same b) (path_same c)
  path_same (ends (ask p x k)) = by (same_world (primitive_world p) w)
    where
      by : (q : Bool) → ending_slots (if q then ask p x k else done) ≡ 0
      by true = refl
      by false = refl
  path_same (ends (go k x)) = refl
  path_same (ends (call f x k)) = refl
  path_same (ends (send a k x)) = refl
  path_same (ends done) = refl

  limited : (b : Block) → IsLimited b → IsLimited (cut_block w b)
  limited b l = by (is_at w b)
    where
      by : (q : Bool) → IsLimited (record b { code = if q then cut_code w b.code else ends done })
      by true = record {
        depth = subst (λ n. n ≤ 1000) (sym (depth_same b.code)) l.depth;
        slots = subst (λ n. length b.environment + (begun_slots b.entry + n) ≤ 65536) (sym (path_same b.code)) l.slots;
      }
      by false = record {
        depth = omega arith;
        slots = (let z : length b.environment + (begun_slots b.entry + path b.code) ≤ 65536 = l.slots in omega (arith, z));
      }

  all_limited : (bs : List Block) → Each IsLimited bs → Each IsLimited (map (cut_block w) bs)
  all_limited [] h = tt
  all_limited (b ∷ bs) h = (limited b h.0, all_limited bs h.1)

  fewer : (ps : List Named) → length (filter (is_primitive_at w) ps) ≤ length ps
  fewer [] = omega arith
  fewer (a ∷ ps) = by (is_primitive_at w a) (fewer ps)
    where
      by : (q : Bool) → length (filter (is_primitive_at w) ps) ≤ length ps → length (cond q (a ∷ filter (is_primitive_at w) ps) (filter (is_primitive_at w) ps)) ≤ suc (length ps)
      by true l = omega (arith, l)
      by false l = omega (arith, l)

  module _ (B : Blocks) (M : Environments) where
    fits : (c : Code) (b : World) (n : ℕ) (S : Slots) → Fits B M b n S c → Fits (cut w B) M b n S (cut_code w c)
    fits (straight f c) b n S d = (d.0, straight_as no_setting b S f (λ m T. Fits B M b (suc n) (fill n m T S) c) (λ m T. Fits (cut w B) M b (suc n) (fill n m T S) (cut_code w c)) (λ m T h. fits c b (suc n) (fill n m T S) h) d.1)
    fits (closure ls i c) b n S d = (cut_block w d.0, d.1, cut_there w B.table i d.0 d.2, d.3, d.4, fits c b (suc n) (fill n (entry_mode d.0.entry) (entry_type d.0.entry) S) d.5)
    fits (test if_true x c e) b n S d = (d.0, fits c b n S d.1, fits e b n S d.2)
    fits (test if_left x c e) b n S d = (d.0, d.1, d.2, fits c b (suc n) _ d.3, fits e b (suc n) _ d.4)
    fits (test if_nil x c e) b n S d = (d.0, d.1, fits c b n S d.2, fits e b (suc (suc n)) _ d.3)
    fits (test if_here x c e) b n S d = (d.0, d.1, d.2, d.3, chosen_as (same_world d.0 b) (Fits B M b n S c) (Fits B M b n S e) (Fits (cut w B) M b n S (cut_code w c)) (Fits (cut w B) M b n S (cut_code w e)) (λ h. fits c b n S h) (λ h. fits e b n S h) d.4)
    fits (ends e) b n S d = ending_fits b S e d

    block_fits : (es : List Slot) (b : Block) → IsBlock B M es b → IsBlock (cut w B) M es (cut_block w b)
    block_fits es b h = record { types = h.types; fits = by (is_at w b) }
      where
        by : (q : Bool) → Fits (cut w B) M (world_of (entry_mode b.entry)) (entry_filled b.entry (length b.environment)) (entry_slots b.entry (length b.environment) (slice_get es)) (if q then cut_code w b.code else ends done)
        by true = fits b.code _ _ _ h.fits
        by false = tt

    -- the block of a primitive that stands at the world is not cut
    abbrev primitive_block : Named → TypeExpression → TypeExpression → Block
    primitive_block a A D = record { entry = by_call (only (primitive_world a.primitive)) A D; environment = []; code = ends (ask a.primitive 1 2) }

    primitive_kept : (a : Named) (A D : TypeExpression) → is_primitive_at w a ≡ true → cut_block w (primitive_block a A D) ≡ primitive_block a A D
    primitive_kept a A D e =
        ap (λ q. record (primitive_block a A D) { code = if q then ends (if is_primitive_at w a then ask a.primitive 1 2 else done) else ends done }) (subst (λ v. stands_at (primitive_world a.primitive) v ≡ true) (same-true (primitive_world a.primitive) w e) (stands_itself (primitive_world a.primitive)))
        ∙ ap (λ q. record (primitive_block a A D) { code = ends (if q then ask a.primitive 1 2 else done) }) e

    primitive_fits : (a : Named) → is_primitive_at w a ≡ true → IsPrimitive B M a → IsPrimitive (cut w B) M a
    primitive_fits a e h = record {
      bare = h.bare;
      argument = h.argument;
      result = h.result;
      type = h.type;
      block = cut_there w B.table a.label (primitive_block a h.argument h.result) h.block ∙ ap Some (primitive_kept a h.argument h.result e);
    }

    primitives_fit : (ps : List Named) → Each (IsPrimitive B M) ps → Each (IsPrimitive (cut w B) M) (filter (is_primitive_at w) ps)
    primitives_fit [] h = tt
    primitives_fit (a ∷ ps) h = by (is_primitive_at w a) refl (primitives_fit ps h.1)
      where
        by : (q : Bool) → is_primitive_at w a ≡ q → Each (IsPrimitive (cut w B) M) (filter (is_primitive_at w) ps) → Each (IsPrimitive (cut w B) M) (cond q (a ∷ filter (is_primitive_at w) ps) (filter (is_primitive_at w) ps))
        by true e rest = (primitive_fits a e h.0, rest)
        by false e rest = rest

  pub cut_is_program : (B : Blocks) → IsProgram B → IsProgram (cut w B)
  cut_is_program B d = record {
    environments = d.environments;
    blocks = λ i es c o g. let u = uncut w B.table i c g in subst (IsBlock (cut w B) d.environments es) (sym u.2) (block_fits B d.environments es u.0 (d.blocks i es u.0 o u.1));
    limited = all_limited B.table d.limited;
    primitives = primitives_fit B d.environments B.primitives d.primitives;
    few = (let l : length (filter (is_primitive_at w) B.primitives) ≤ length B.primitives = fewer B.primitives in let m : length B.primitives ≤ 8 = d.few in omega (arith, l, m));
    main = record { bare = d.main.bare; block = cut_block w d.main.block; at = cut_there w B.table B.main d.main.block d.main.at; entry = d.main.entry; environment = d.main.environment };
    finish = record { bare = d.finish.bare; block = cut_there w B.table B.finish _ d.finish.block };
  }
