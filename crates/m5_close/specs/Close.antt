-- Closing: each closure takes the slots that its block uses, and a block's slots are numbered anew.
use Rattle.std.specs.Prelude.{◌≡◌, ◌⊎◌, ℕ, zero, suc, ◌+◌, ◌-◌, ◌<◌, ◌≤◌, ◌==◌, nat_lt, IsTrue, false, if◌then◌else◌, List, [], ◌∷◌, ◌++◌, map, length, Some, None, slice_get}
use Rattle.std.specs.List.{AllZip, AllByRecursion as Each}
use Rattle.m5_terms.specs.TypeExpression.{TypeExpression, unit, function}
use Rattle.m5_terms.specs.Primitives.{primitive_world, primitive_type}
use Rattle.m5_terms.specs.Substitution.{among}
use Rattle.m5_terms.specs.declared.types.World.{World}
use Rattle.m5_terms.specs.declared.types.World.TheVariants.{Any}
use Rattle.m5_terms.specs.declared.types.Primitive.{Primitive}
use Rattle.m5_terms.specs.declared.form.LeafForm.{LeafForm}
use Rattle.m5_terms.specs.declared.form.LeafForm.TheVariants as leaf_form
use Rattle.m5_typing.specs.Context.{Setting}
use Rattle.m5_cps.specs.Entries.{SlotType, of, only, everywhere, Entry, by_value, by_call, world_of, entry_mode, entry_type, entry_filled, main_entry}
use Rattle.m5_cps.specs.Blocks.{Test, if_left, if_nil, Straight, constant, one, two, unheld, unsham, spawn, Ending, go, call, ask, send, done, Code, straight, closure, test, ends}
use Rattle.m5_cps.specs.Blocks as cps
use Rattle.m5_cps.specs.TypeParts.{first_of, second_of, content_of}
use Rattle.m5_cps.specs.Program.{setting_of}
use Rattle.m5_cps.specs.Captured.{uses}
use Rattle.m5_cps.specs.Limits.{parts_then, parts_else}
use Rattle.m5_cps.specs.Values.{put, put_all}
use Rattle.m5_flat.specs.Blocks.{Block, Named, Blocks, primitive_at}
use Rattle.m5_flat.specs.Blocks as flat
use Rattle.m5_cps_typing.specs.Rows.{Kinds, source_type, straight_type, entry_kinds}

-- the slots before n that a block uses, the last first
abbrev pub free : ℕ → Code → List ℕ
free zero c = []
free (suc n) c = if uses c n then n ∷ free n c else free n c

-- the place of a slot in the list
abbrev pub place : ℕ → List ℕ → ℕ
place l [] = zero
place l (x ∷ xs) = if l == x then zero else suc (place l xs)

-- the new number of a slot, in a block that stands over n slots and takes these of them: those come first
abbrev pub anew : ℕ → List ℕ → ℕ → ℕ
anew n ls l = if nat_lt l n then place l ls else length ls + (l - n)

abbrev pub straight_anew : (ℕ → ℕ) → Straight → Straight
straight_anew r (constant f) = constant f
straight_anew r (one f x) = one f (r x)
straight_anew r (two f x y) = two f (r x) (r y)
straight_anew r (unheld x) = unheld (r x)
straight_anew r (unsham x) = unsham (r x)
straight_anew r (spawn x) = spawn (r x)

abbrev pub ending_anew : (ℕ → ℕ) → Ending → Ending
ending_anew r (go k x) = go (r k) (r x)
ending_anew r (call f x k) = call (r f) (r x) (r k)
ending_anew r (ask p x k) = ask p (r x) (r k)
ending_anew r (send a k x) = send (r a) (r k) (r x)
ending_anew r done = done

-- the parts of what is tested, where the test holds and where it does not
abbrev pub types_then : Test → SlotType → List SlotType
types_then if_left T = of (first_of (source_type T)) ∷ []
types_then _ T = []

abbrev pub types_else : Test → SlotType → List SlotType
types_else if_left T = of (second_of (source_type T)) ∷ []
types_else if_nil T = of (content_of (source_type T)) ∷ of (source_type T) ∷ []
types_else _ T = []

-- nothing is known of slots that are not filled
abbrev pub no_kinds : Kinds
no_kinds l = of unit

-- the block of a primitive as a function asks by it
abbrev pub asking_block : Primitive → TypeExpression → TypeExpression → Block
asking_block p A D = record { entry = by_call (only (primitive_world p)) A D; environment = []; code = flat.ends (ask p 1 2) }

module _ (E : Setting) (B : Blocks) (functions : List ℕ) where
  -- the label of a declared function, of which each has one, or of a primitive. A function that is not declared, which only a way of
  -- a test names that is never taken, has a label without a block
  abbrev pub IsFunction : ℕ → LeafForm → Type 0
  IsFunction i (leaf_form.Glob f) =
      ((slice_get functions f ≡ Some i) ⊎ ((slice_get functions f ≡ None) × (slice_get B.table i ≡ None))) × (primitive_at B.primitives i ≡ None)
  IsFunction i (leaf_form.Extern p) =
      ((A : TypeExpression) × (D : TypeExpression) × (slice_get B.table i ≡ Some (asking_block p A D))) × (primitive_at B.primitives i ≡ Some p)
  IsFunction i f = ⊥

  -- a closure that takes nothing stands for a function as a value
  abbrev pub IsFunctionMade : LeafForm → flat.Code → flat.Code → Type 0
  IsFunctionMade f d e = (i : ℕ) × (d ≡ flat.closure [] i e) × IsFunction i f

  -- d is made of a straight form, before e; r is the new numbering
  abbrev pub IsStraightMade : (ℕ → ℕ) → Straight → flat.Code → flat.Code → Type 0
  IsStraightMade r (constant (leaf_form.Glob f)) d e = IsFunctionMade (leaf_form.Glob f) d e
  IsStraightMade r (constant (leaf_form.Extern p)) d e = IsFunctionMade (leaf_form.Extern p) d e
  IsStraightMade r f d e = d ≡ flat.straight (straight_anew r f) e

  -- the label, which is no primitive's, has a block that is entered so, and takes slots of these types
  abbrev pub HasBlock : ℕ → Entry → List SlotType → (flat.Code → Type 0) → Type 0
  HasBlock i y T IsCode =
      (g : flat.Code) × (slice_get B.table i ≡ Some (record { entry = y; environment = T; code = g })) × (primitive_at B.primitives i ≡ None) × IsCode g

  -- the code under labels is made of this code of a block at b, where n slots of these types are filled; each closure's block has a label
  abbrev pub IsMade : (ℕ → ℕ) → World → Kinds → ℕ → Code → flat.Code → Type 0
  IsMade r b τ n (straight f c) d = (e : flat.Code) × IsStraightMade r f d e × IsMade r b (put n (straight_type E b τ f) τ) (suc n) c e
  IsMade r b τ n (closure y c k) d =
      (i : ℕ) × (e : flat.Code) × (d ≡ flat.closure (map r (free n c)) i e)
      × HasBlock i y (map τ (free n c)) (λ g. IsMade (anew n (free n c)) (world_of (entry_mode y)) (entry_kinds y n τ) (entry_filled y n) c g)
      × IsMade r b (put n (entry_type y) τ) (suc n) k e
  IsMade r b τ n (test t x c k) d =
      (e : flat.Code) × (g : flat.Code) × (d ≡ flat.test t (r x) e g) × IsMade r b (put_all n (types_then t (τ x)) τ) (parts_then t + n) c e
      × IsMade r b (put_all n (types_else t (τ x)) τ) (parts_else t + n) k g
  IsMade r b τ n (ends e) d = d ≡ flat.ends (ending_anew r e)

  -- the label's block is made of this one, over n slots of these types
  abbrev pub IsBlockOf : ℕ → Entry → Kinds → ℕ → Code → Type 0
  IsBlockOf i y τ n c = HasBlock i y (map τ (free n c)) (λ g. IsMade (anew n (free n c)) (world_of (entry_mode y)) (entry_kinds y n τ) (entry_filled y n) c g)

  -- the labels of the closures in the code, each before those in its block
  abbrev pub labels_in : (r : ℕ → ℕ) (b : World) (τ : Kinds) (n : ℕ) (c : Code) (d : flat.Code) → IsMade r b τ n c d → List ℕ
  labels_in r b τ n (straight f c) d m = labels_in r b (put n (straight_type E b τ f) τ) (suc n) c m.0 m.2
  labels_in r b τ n (closure y c k) d m =
      m.0 ∷ (labels_in (anew n (free n c)) (world_of (entry_mode y)) (entry_kinds y n τ) (entry_filled y n) c m.3.0 m.3.3
      ++ labels_in r b (put n (entry_type y) τ) (suc n) k m.1 m.4)
  labels_in r b τ n (test t x c k) d m =
      labels_in r b (put_all n (types_then t (τ x)) τ) (parts_then t + n) c m.0 m.3 ++ labels_in r b (put_all n (types_else t (τ x)) τ) (parts_else t + n) k m.1 m.4
  labels_in r b τ n (ends e) d m = []

  -- the label of a block, and those of the closures in it
  abbrev pub block_labels : (i : ℕ) (y : Entry) (τ : Kinds) (n : ℕ) (c : Code) → IsBlockOf i y τ n c → List ℕ
  block_labels i y τ n c m = i ∷ labels_in (anew n (free n c)) (world_of (entry_mode y)) (entry_kinds y n τ) (entry_filled y n) c m.0 m.3

-- the block that ends a thread is entered with unit, at each world
abbrev pub finish_entry : Entry
finish_entry = by_value everywhere (of unit)

-- a function that is declared at any is a closure at each world
abbrev pub declared_entry : Entry → Entry
declared_entry (by_call (only Any) A D) = by_call everywhere A D
declared_entry y = y

-- the label of a declared function has its block
abbrev pub IsDeclared : Setting → Blocks → List ℕ → ℕ → cps.Block → Type 0
IsDeclared E B L i b = IsBlockOf E B L i (declared_entry b.entry) no_kinds 0 b.code

abbrev pub declared_labels : (E : Setting) (B : Blocks) (L : List ℕ) (is : List ℕ) (bs : List cps.Block) → AllZip (IsDeclared E B L) is bs → List ℕ
declared_labels E B L [] [] m = []
declared_labels E B L (i ∷ is) (b ∷ bs) m = block_labels E B L i (declared_entry b.entry) no_kinds 0 b.code m.0 ++ declared_labels E B L is bs m.1
declared_labels E B L [] (b ∷ bs) m = absurd m
declared_labels E B L (i ∷ is) [] m = absurd m

-- the block of a primitive's label asks by it, with the argument and for the result of its type
abbrev pub AsksBy : Blocks → Named → Type 0
AsksBy B a =
    (A : TypeExpression) × (D : TypeExpression) × (primitive_type a.primitive ≡ function A D) × (slice_get B.table a.label ≡ Some (asking_block a.primitive A D))

abbrev pub AreDistinct : List ℕ → Type 0
AreDistinct [] = Unit {0}
AreDistinct (x ∷ xs) = (among x xs ≡ false) × AreDistinct xs

-- the labels of main's block and those in it, of a thread's end, of primitives, and of the functions' blocks and those in them
abbrev pub closed_labels : (C : cps.Blocks) (B : Blocks) (L : List ℕ) → AllZip (IsDeclared (setting_of C) B L) L C.functions → IsBlockOf (setting_of C) B L B.main main_entry no_kinds 0 C.main → List ℕ
closed_labels C B L functions main =
    block_labels (setting_of C) B L B.main main_entry no_kinds 0 C.main main
    ++ (B.finish ∷ (map (λ (a : Named). a.label) B.primitives ++ declared_labels (setting_of C) B L L C.functions functions))

-- the blocks under labels are these, closed: each block has a label of its own, and each label of the table is one of these
pub record IsClosed (C : cps.Blocks) (B : Blocks) : Type 0 where
  pub labels : List ℕ
  pub functions : AllZip (IsDeclared (setting_of C) B labels) labels C.functions
  pub main : IsBlockOf (setting_of C) B labels B.main main_entry no_kinds 0 C.main
  pub finish : IsBlockOf (setting_of C) B labels B.finish finish_entry no_kinds 0 (ends done)
  pub primitives : Each (AsksBy B) B.primitives
  pub few : length B.primitives ≤ 8
  pub own : AreDistinct (closed_labels C B labels functions main)
  pub all : (i : ℕ) → i < length B.table → IsTrue (among i (closed_labels C B labels functions main))
