-- Primitives are asked in the slices of their worlds, and what is sent begins where it goes.
use Rattle.std.proofs.Common.{◌≡◌, ◌≢◌, inl, inr, ℕ, Bool, true, false, if◌then◌else◌, cond, List, [], ◌∷◌, Option, refl, sym, ap, ◌∙◌, subst}
use Rattle.std.specs.List.{AllByRecursion as Each, filter}
use Rattle.m5_terms.specs.TypeExpression.{TypeExpression, unit, bool, int, string, address, product, sum, function, list, cell, sham, at, same_world}
use Rattle.m5_terms.specs.Primitives.{primitive_world}
use Rattle.m5_terms.specs.Machine.{asks}
use Rattle.m5_terms.specs.declared.ask.AskOf.TheVariants as query
use Rattle.m5_terms.specs.declared.ask.AnswerOf.{AnswerOf}
use Rattle.m5_terms.specs.declared.types.Primitive.{Primitive}
use Rattle.m5_terms.specs.declared.types.World.{World}
use Rattle.m5_terms.specs.declared.types.World.TheVariants.{Any}
use Rattle.m5_terms.specs.declared.form.LeafForm.TheVariants as leaf_form
use Rattle.m5_terms.proofs.Lists.{each-map}
use Rattle.m5_terms.proofs.SiteWorlds.{is-real, same-true}
use Rattle.m5_typing.specs.Context.{CellTypes, IsKnownAt}
use Rattle.m5_cps.specs.Entries.{SlotType, of, takes, world_of, entry_mode}
use Rattle.m5_cps.specs.Blocks.{Ending, go, call, ask, send, done}
use Rattle.m5_cps.specs.Values as value
use Rattle.m5_cps.specs.Values.{left, right, held, pair, cons, atom, wrap, join, closed, enter, thread}
use Rattle.m5_cps_typing.specs.States.{ThreadFits, NextFits, ValueFits}
use Rattle.m5_flat.specs.Blocks.{Code, straight, closure, test, ends, Block, Named, Blocks}
use Rattle.m5_flat.specs.Values.{under, Item, Value, Thread, Site}
use Rattle.m5_flat.specs.Running.{site_next}
use Rattle.m5_flat.specs.Fits.{no_setting}
use Rattle.m5_flat.specs.Program.{IsProgram}
use Rattle.m5_flat_typing.specs.Closures.{ClosureFits}
use Rattle.m5_flat_typing.proofs.Sites.{next_fits}
use Rattle.m5_terms.specs.Worlds.{IsSiteWorld}
use Rattle.m5_flat.specs.Table.{blocks_of}
use Rattle.m5_slice.specs.declared.slices.Slices.{Slices}
use Rattle.m5_slice.specs.Slicing.{cut_ending, cut_code, is_at, cut_block, is_primitive_at, cut}
use Rattle.m5_slice.specs.code.Slices.{slice_at}
use Rattle.m5_slice.specs.Machine.{IsTyped}
use Rattle.m5_slice.specs.Apart.{IsApart, EndsAsking, AsksBy, HasBlockAt, BeginsAt, SlicedAreApart}
use Rattle.m5_slice.proofs.Cutting.{uncut}
use Rattle.m5_slice.proofs.Same.{AreSlices, stands_there, next_same}

module _ (w : World) where
  -- a cut block asks by no other world's primitives
  ending_asks : (p : Primitive) (e : Ending) → EndsAsking p (cut_ending w e) → primitive_world p ≡ w
  ending_asks p (ask q x k) h = by (same_world (primitive_world q) w) refl h
    where
      by : (t : Bool) → same_world (primitive_world q) w ≡ t → EndsAsking p (if t then ask q x k else done) → primitive_world p ≡ w
      by true e i = ap primitive_world (sym i) ∙ same-true (primitive_world q) w e
      by false e i = absurd i
  ending_asks p (go k x) h = absurd h
  ending_asks p (call f x k) h = absurd h
  ending_asks p (send a k x) h = absurd h
  ending_asks p done h = absurd h

  code_asks : (p : Primitive) (c : Code) → AsksBy p (cut_code w c) → primitive_world p ≡ w
  code_asks p (straight f c) h = code_asks p c h
  code_asks p (closure ls i c) h = code_asks p c h
  code_asks p (test t x b c) h = elim h [ inl y ↦ code_asks p b y | inr y ↦ code_asks p c y ]
  code_asks p (ends e) h = ending_asks p e h

  block_asks : (p : Primitive) (b : Block) → AsksBy p (cut_block w b).code → primitive_world p ≡ w
  block_asks p b h = by (is_at w b) h
    where
      by : (t : Bool) → AsksBy p (if t then cut_code w b.code else ends done) → primitive_world p ≡ w
      by true i = code_asks p b.code i
      by false i = absurd i

  named_here : (ps : List Named) → Each (λ (a : Named). primitive_world a.primitive ≡ w) (filter (is_primitive_at w) ps)
  named_here [] = tt
  named_here (a ∷ ps) = by (is_primitive_at w a) refl (named_here ps)
    where
      by : (t : Bool) → is_primitive_at w a ≡ t → Each (λ (a : Named). primitive_world a.primitive ≡ w) (filter (is_primitive_at w) ps) → Each (λ (a : Named). primitive_world a.primitive ≡ w) (cond t (a ∷ filter (is_primitive_at w) ps) (filter (is_primitive_at w) ps))
      by true e h = (same-true (primitive_world a.primitive) w e, h)
      by false e h = h

module _ (B : Blocks) (d : IsProgram B) (L : CellTypes) (v : World) where
  abbrev Has : Value → SlotType → Type 0
  Has a T = ValueFits (ClosureFits B d.environments) no_setting L a v T

  -- a typed closure's label stands where the closure is
  label_at : (i k : ℕ) (ρ : ℕ → Value) (T : SlotType) → Has (closed (under i k) ρ) T → HasBlockAt B v i
  label_at i k ρ T h = record { block = h.block; there = h.at; at = stands_there v (world_of (entry_mode h.block.entry)) h.stands }

  entered_at : (f x : Value) (T : SlotType) → Has f (takes T) → BeginsAt B v (enter f x)
  entered_at (closed (under i k) ρ) x T d = label_at i k ρ (takes T) d
  entered_at (atom f) x T d = let q : takes T ≡ of d.0 = d.1 in absurd (cc)
  entered_at (wrap (left X) a) x T d = let q : takes T ≡ of (sum d.0 d.1) = d.2 in absurd (cc)
  entered_at (wrap (right X) a) x T d = let q : takes T ≡ of (sum d.0 d.1) = d.2 in absurd (cc)
  entered_at (wrap (held y) a) x T d = let q : takes T ≡ of (at d.0 y) = d.1 in absurd (cc)
  entered_at (wrap value.sham a) x T d = let q : takes T ≡ of (sham d.0) = d.1 in absurd (cc)
  entered_at (join pair a b) x T d = let q : takes T ≡ of (product d.0 d.1) = d.2 in absurd (cc)
  entered_at (join cons a b) x T d = let q : takes T ≡ of (list d.0) = d.1 in absurd (cc)

  called_at : (f x j : Value) (A D : TypeExpression) → Has f (of (function A D)) → BeginsAt B v (value.call f x j)
  called_at (closed (under i k) ρ) x j A D d = label_at i k ρ (of (function A D)) d
  called_at (atom (leaf_form.Extern p)) x j A D d = sym d.3.0
  called_at (atom (leaf_form.Glob g)) x j A D d = let q = d.3.3 in absurd (none q)
    where
      none : IsKnownAt (no_setting.functions g) v d.0 → ⊥
      none q = elim q [ inl e ↦ (let z = e.1 in cc) | inr e ↦ cc ]
  called_at (atom (leaf_form.Var y)) x j A D d = let q = d.2 in absurd (cc)
  called_at (atom (leaf_form.Valid y)) x j A D d = let q = d.2 in absurd (cc)
  called_at (atom leaf_form.Here) x j A D d = let q = d.2 in absurd (cc)
  called_at (atom leaf_form.Unit) x j A D d = let q : of (function A D) ≡ of unit = d.1 ∙ ap of d.3 in absurd (cc)
  called_at (atom (leaf_form.Bool y)) x j A D d = let q : of (function A D) ≡ of bool = d.1 ∙ ap of d.3 in absurd (cc)
  called_at (atom (leaf_form.Int y)) x j A D d = let q : of (function A D) ≡ of int = d.1 ∙ ap of d.3 in absurd (cc)
  called_at (atom (leaf_form.Str y)) x j A D d = let q : of (function A D) ≡ of string = d.1 ∙ ap of d.3.0 in absurd (cc)
  called_at (atom (leaf_form.Addr y)) x j A D d = let q : of (function A D) ≡ of (address y) = d.1 ∙ ap of d.3.1 in absurd (cc)
  called_at (atom (leaf_form.Nil y)) x j A D d = let q : of (function A D) ≡ of (list y) = d.1 ∙ ap of d.3 in absurd (cc)
  called_at (atom (leaf_form.CellAt y n)) x j A D d = let q : of (function A D) ≡ of (cell d.3.0) = d.1 ∙ ap of d.3.4 in absurd (cc)
  called_at (wrap (left X) a) x j A D d = let q : of (function A D) ≡ of (sum d.0 d.1) = d.2 in absurd (cc)
  called_at (wrap (right X) a) x j A D d = let q : of (function A D) ≡ of (sum d.0 d.1) = d.2 in absurd (cc)
  called_at (wrap (held y) a) x j A D d = let q : of (function A D) ≡ of (at d.0 y) = d.1 in absurd (cc)
  called_at (wrap value.sham a) x j A D d = let q : of (function A D) ≡ of (sham d.0) = d.1 in absurd (cc)
  called_at (join pair a b) x j A D d = let q : of (function A D) ≡ of (product d.0 d.1) = d.2 in absurd (cc)
  called_at (join cons a b) x j A D d = let q : of (function A D) ≡ of (list d.0) = d.1 in absurd (cc)

  begins_at : (th : Thread) → ThreadFits (ClosureFits B d.environments) no_setting L v th → BeginsAt B v th
  begins_at (enter f x) h = entered_at f x h.0 h.1
  begins_at (value.call f x j) h = called_at f x j h.0 h.1 h.2

sends_apart : (B : Blocks) (d : IsProgram B) (w : World) → w ≢ Any → (s : Site) (v : World) (th : Thread) (resume : AnswerOf Item → Option Site) → IsTyped B d w s → site_next (cut w B) w s ≡ asks (query.Send v (thread th)) resume → (v ≢ w) × BeginsAt B v th
sends_apart B d w site s v th resume t e =
    let n = subst (NextFits (ClosureFits B d.environments) no_setting t.cells w) (sym (next_same B d w site t.cells s t.site) ∙ e) (next_fits B d w site t.cells s t.site) in
    (n.typed.0.0, begins_at B d n.cells v th n.typed.0.2)

pub sliced_are_apart : SlicedAreApart
sliced_are_apart B d w site = record {
  primitives = λ i b p g h. let u = uncut w B.table i b g in block_asks w p u.0 (subst (λ (y : Block). AsksBy p y.code) u.2 h);
  named = named_here w B.primitives;
  begins = λ s t. each-map (ThreadFits (ClosureFits B d.environments) no_setting t.cells w) (BeginsAt B w) (begins_at B d t.cells w) s.threads t.site.0;
  sends = sends_apart B d w site;
}

pub slices_are_apart : (B : Blocks) (s : Slices) → AreSlices B s → (d : IsProgram B) (w : World) → IsSiteWorld w → IsApart B d (blocks_of (slice_at s w)) w
slices_are_apart B s a d w i = subst (λ C. IsApart B d C w) (sym (a w i)) (sliced_are_apart B d w (is-real w i))
