-- Each block has the types that are computed for its row.
use Rattle.std.proofs.Common.{◌≡◌, ℕ, suc, Bool, true, false, ◌==◌, if◌then◌else◌, Some, refl, sym, ap, subst, ◌∙◌}
use Rattle.std.specs.List.{AllByRecursion as Each}
use Rattle.m5_terms.specs.Expression.{leaf}
use Rattle.m5_terms.specs.TypeExpression.{TypeExpression, unit, address, sum, function, list, sham, at, same_world}
use Rattle.m5_terms.specs.declared.types.World.{World}
use Rattle.m5_terms.specs.declared.types.World.TheVariants.{Any}
use Rattle.m5_terms.specs.declared.form.LeafForm.{LeafForm}
use Rattle.m5_terms.specs.declared.form.LeafForm.TheVariants as leaf_form
use Rattle.m5_terms.specs.declared.form.UnaryForm.{UnaryForm}
use Rattle.m5_terms.specs.declared.form.UnaryForm.TheVariants as unary_form
use Rattle.m5_terms.specs.declared.form.BinaryForm.{BinaryForm}
use Rattle.m5_terms.specs.declared.form.BinaryForm.TheVariants as binary_form
use Rattle.m5_terms.proofs.Lists.{each-append}
use Rattle.m5_typing.specs.Context.{Setting, nothing}
use Rattle.m5_typing.specs.Rules.{Pick, unary_rule, binary_rule}
use Rattle.m5_typing.specs.Typing.{Typed}
use Rattle.m5_cps.specs.Entries.{SlotType, of, takes, Mode, only, everywhere, Entry, by_value, by_call, world_of, entry_mode, entry_type, entry_filled}
use Rattle.m5_cps.specs.Blocks.{Straight, constant, one, two, unheld, unsham, spawn, if_true, if_left, if_nil, if_here, Ending, go, ask, Code, straight, closure, test, Block, Blocks}
use Rattle.m5_cps.specs.Blocks as block
use Rattle.m5_cps.specs.Values.{put}
use Rattle.m5_cps.specs.Slots.{slot, Slots, fill, Needs, Allowed, Captures, entry_slots}
use Rattle.m5_cps.specs.Fits.{IsStraightOne, IsStraightTwo, part_mode, no_part, StraightFits, Chosen, Fits}
use Rattle.m5_cps.specs.TypeParts.{leaf_type, unary_whole, binary_whole, content_of, first_of, second_of, place_of}
use Rattle.m5_cps_typing.specs.Rows.{Kinds, source_type, entry_kinds, straight_type, rows, Known, RowFits}
use Rattle.m5_cps_typing.proofs.Found.{found}

slot_type_inj : (m k : Mode) (T U : SlotType) → Some (slot m T) ≡ Some (slot k U) → T ≡ U
slot_type_inj m k T U e = cc

pub known_fill : (S : Slots) (K : Kinds) (n : ℕ) (m : Mode) (T U : SlotType) → U ≡ T → Known S K → Known (fill n m T S) (put n U K)
known_fill S K n m T U q h l k V = at (l == n)
  where
    at : (t : Bool) → (if t then Some (slot m T) else S l) ≡ Some (slot k V) → (if t then U else K l) ≡ V
    at true e = q ∙ slot_type_inj m k T V e
    at false e = h l k V e

needs_known : (S : Slots) (K : Kinds) (x : ℕ) (m : Mode) (T : SlotType) → Known S K → Needs S x m T → K x ≡ T
needs_known S K x m T h d = h x d.0 T d.1

part_known : (S : Slots) (K : Kinds) (x : ℕ) (m : Mode) (A : TypeExpression) → Known S K → Needs S x m (of A) → source_type (K x) ≡ A
part_known S K x m A h d = ap source_type (needs_known S K x m (of A) h d)

pub captures_known : (b : World) (m : Mode) (S R : Slots) (K : Kinds) → Captures b m S R → Known S K → Known R K
captures_known b m S R K c h l k T e = needs_known S K l k T h (c l k T e).0

pub entry_known : (y : Entry) (n : ℕ) (R : Slots) (K : Kinds) → Known R K → Known (entry_slots y n R) (entry_kinds y n K)
entry_known (by_value m T) n R K h = known_fill _ _ (suc n) (only (world_of m)) T T refl (known_fill R K n (only (world_of m)) (takes T) (takes T) refl h)
entry_known (by_call m A B) n R K h = known_fill _ _ (suc (suc n)) (only (world_of m)) (takes (of B)) (takes (of B)) refl (known_fill _ _ (suc n) (only (world_of m)) (of A) (of A) refl (known_fill R K n (only (world_of m)) (of (function A B)) (of (function A B)) refl h))

leaf_known : (E : Setting) (m : Mode) (b : World) (f : LeafForm) (A : TypeExpression) → Allowed m b → Typed E nothing (world_of m) (leaf f) A → leaf_type E nothing b f ≡ A
leaf_known E (only v) b f A a d = subst (λ w. leaf_type E nothing w f ≡ A) a (found E (leaf f) nothing v A d)
leaf_known E everywhere b leaf_form.Here A a d = absurd (d.0.0 refl)
leaf_known E everywhere b (leaf_form.Var x) A a d = found E (leaf (leaf_form.Var x)) nothing Any A d
leaf_known E everywhere b (leaf_form.Valid x) A a d = found E (leaf (leaf_form.Valid x)) nothing Any A d
leaf_known E everywhere b (leaf_form.Glob x) A a d = found E (leaf (leaf_form.Glob x)) nothing Any A d
leaf_known E everywhere b (leaf_form.Extern x) A a d = found E (leaf (leaf_form.Extern x)) nothing Any A d
leaf_known E everywhere b leaf_form.Unit A a d = found E (leaf leaf_form.Unit) nothing Any A d
leaf_known E everywhere b (leaf_form.Bool x) A a d = found E (leaf (leaf_form.Bool x)) nothing Any A d
leaf_known E everywhere b (leaf_form.Int x) A a d = found E (leaf (leaf_form.Int x)) nothing Any A d
leaf_known E everywhere b (leaf_form.Str x) A a d = found E (leaf (leaf_form.Str x)) nothing Any A d
leaf_known E everywhere b (leaf_form.Addr x) A a d = found E (leaf (leaf_form.Addr x)) nothing Any A d
leaf_known E everywhere b (leaf_form.Nil x) A a d = found E (leaf (leaf_form.Nil x)) nothing Any A d
leaf_known E everywhere b (leaf_form.CellAt x y) A a d = found E (leaf (leaf_form.CellAt x y)) nothing Any A d

one_known : (f : UnaryForm) (m : Mode) (p : Pick) (b : World) → Allowed m b → IsStraightOne f m → (unary_rule f (world_of m) p).side no_part → unary_whole f b (unary_rule f (world_of m) p).part ≡ (unary_rule f (world_of m) p).whole
one_known unary_form.Fst m p b a st side = refl
one_known unary_form.Snd m p b a st side = refl
one_known unary_form.StrOf m p b a st side = refl
one_known unary_form.Div m p b a st side = refl
one_known unary_form.NewCell m p b a st side = refl
one_known unary_form.Load m p b a st side = refl
one_known unary_form.Sham m p b a st side = refl
one_known (unary_form.Inl T) m p b a st side = side
one_known (unary_form.Inr T) m p b a st side = side
one_known unary_form.Hold (only v) p b a st side = ap (at p.a) (sym a)
one_known unary_form.Hold everywhere p b a st side = absurd st
one_known (unary_form.Fn x A) m p b a st side = absurd st
one_known (unary_form.Rec f x A B) m p b a st side = absurd st
one_known unary_form.Spawn m p b a st side = absurd st
one_known (unary_form.Held v) m p b a st side = absurd st

two_known : (f : BinaryForm) (m : Mode) (p : Pick) → IsStraightTwo f m → binary_whole f (binary_rule f (world_of m) p).first (binary_rule f (world_of m) p).second ≡ (binary_rule f (world_of m) p).whole
two_known binary_form.Pair m p st = refl
two_known binary_form.Cons m p st = refl
two_known binary_form.Store m p st = refl
two_known (binary_form.Binary o) m p st = refl
two_known binary_form.Call m p st = absurd st
two_known binary_form.Do m p st = absurd st
two_known binary_form.Get m p st = absurd st
two_known (binary_form.Val x) m p st = absurd st
two_known (binary_form.Put x) m p st = absurd st
two_known (binary_form.Leta x) m p st = absurd st
two_known (binary_form.Lets x) m p st = absurd st

-- a straight form's type is the one that is computed
pub straight_known : (E : Setting) (b : World) (S : Slots) (K : Kinds) (f : Straight) (P : Mode → SlotType → Type 0) → StraightFits E b S f P → Known S K → (m : Mode) × (T : SlotType) × P m T × (straight_type E b K f ≡ T)
straight_known E b S K (constant f) P d h = (d.0, of d.1, d.4, ap of (leaf_known E d.0 b f d.1 d.2 d.3))
straight_known E b S K (one f x) P d h =
    (d.0, of (unary_rule f (world_of d.0) d.1).whole, d.6, ap of (ap (unary_whole f b) (part_known S K x (part_mode f d.0) (unary_rule f (world_of d.0) d.1).part h d.4) ∙ one_known f d.0 d.1 b d.2 d.3 d.5))
straight_known E b S K (two f x y) P d h =
    (d.0, of (binary_rule f (world_of d.0) d.1).whole, d.6, ap of ((λ i. binary_whole f (part_known S K x d.0 (binary_rule f (world_of d.0) d.1).first h d.4 i) (part_known S K y d.0 (binary_rule f (world_of d.0) d.1).second h d.5 i)) ∙ two_known f d.0 d.1 d.3))
straight_known E b S K (unheld x) P d h = (only d.1, of d.0, d.4, ap (λ T. of (content_of T)) (part_known S K x (only b) (at d.0 d.1) h d.3))
straight_known E b S K (unsham x) P d h = (everywhere, of d.0, d.2, ap (λ T. of (content_of T)) (part_known S K x (only b) (sham d.0) h d.1))
straight_known E b S K (spawn x) P d h = (everywhere, of unit, d.1, refl)

module _ (E : Setting) where
  abbrev Rowed : Code → Type 0
  Rowed c = (b : World) (n : ℕ) (S : Slots) (K : Kinds) → Fits E b n S c → Known S K → Each (RowFits E) (rows E b n K c)

  pub rows_fit : (c : Code) → Rowed c
  rows_fit (straight f c) = λ b n S K d h.
      let q = straight_known E b S K f (λ m T. Fits E b (suc n) (fill n m T S) c) d h in
      rows_fit c b (suc n) (fill n q.0 q.1 S) (put n (straight_type E b K f) K) q.2 (known_fill S K n q.0 q.1 (straight_type E b K f) q.3 h)
  rows_fit (closure y c e) = λ b n S K d h.
      let k = captures_known b (entry_mode y) S d.0 K d.1 h in (
        record { slots = d.0; fits = d.2; known = k },
        each-append (RowFits E) (rows E (world_of (entry_mode y)) (entry_filled y n) (entry_kinds y n K) c) _ (rows_fit c _ _ _ _ d.2 (entry_known y n d.0 K k)) (rows_fit e b (suc n) _ _ d.3 (known_fill S K n (entry_mode y) (entry_type y) (entry_type y) refl h)),
      )
  rows_fit (test if_true x c e) = λ b n S K d h. each-append (RowFits E) (rows E b n K c) (rows E b n K e) (rows_fit c b n S K d.1 h) (rows_fit e b n S K d.2 h)
  rows_fit (test if_left x c e) = λ b n S K d h.
      let q = part_known S K x (only b) (sum d.0 d.1) h d.2 in
      each-append (RowFits E) (rows E b (suc n) (put n (of (first_of (source_type (K x)))) K) c) _ (rows_fit c b (suc n) _ _ d.3 (known_fill S K n (only b) (of d.0) _ (ap (λ T. of (first_of T)) q) h)) (rows_fit e b (suc n) _ _ d.4 (known_fill S K n (only b) (of d.1) _ (ap (λ T. of (second_of T)) q) h))
  rows_fit (test if_nil x c e) = λ b n S K d h.
      let q = part_known S K x (only b) (list d.0) h d.1 in
      each-append (RowFits E) (rows E b n K c) _ (rows_fit c b n S K d.2 h) (rows_fit e b (suc (suc n)) _ _ d.3 (known_fill _ _ (suc n) (only b) (of (list d.0)) _ (ap of q) (known_fill S K n (only b) (of d.0) _ (ap (λ T. of (content_of T)) q) h)))
  rows_fit (test if_here x c e) = λ b n S K d h. ways b n S K h (rows_fit c) (rows_fit e) (same_world (place_of (source_type (K x))) b) (subst (λ T. Chosen (same_world (place_of T) b) (Fits E b n S c) (Fits E b n S e)) (sym (part_known S K x (only b) (address d.0) h d.3)) d.4)
    where
      ways : (b : World) (n : ℕ) (S : Slots) (K : Kinds) → Known S K → Rowed c → Rowed e → (t : Bool) → Chosen t (Fits E b n S c) (Fits E b n S e) → Each (RowFits E) (if t then rows E b n K c else rows E b n K e)
      ways b n S K h k j true f = k b n S K f h
      ways b n S K h k j false f = j b n S K f h
  rows_fit (block.ends e) = λ b n S K d h. tt
