-- At its world a cut block runs as the block does, unless the block, where no handler is, asks by another world's primitive or is wrong.
use Rattle.std.proofs.Common.{◌≡◌, ◌≢◌, ◌⊎◌, inl, inr, ℕ, zero, suc, ◌+◌, nat_le, ◌==◌, Bool, true, false, if◌then◌else◌, cond, List, [], ◌∷◌, ◌++◌, length, slice_get, slice_set, Option, Some, None, refl, sym, ap, ◌∙◌, subst}
use Rattle.std.specs.List.{filter}
use Rattle.m5_terms.specs.TypeExpression.{same_world}
use Rattle.m5_terms.specs.Primitives.{primitive_world}
use Rattle.m5_terms.specs.declared.types.World.{World}
use Rattle.m5_terms.specs.declared.types.Primitive.{Primitive}
use Rattle.m5_terms.specs.declared.types.Primitive.TheVariants as primitive
use Rattle.m5_terms.specs.declared.form.LeafForm.TheVariants as leaf_form
use Rattle.m5_terms.proofs.SiteWorlds.{same-self}
use Rattle.m5_typing.specs.Context.{CellTypes}
use Rattle.m5_meaning.specs.Step.{is_full}
use Rattle.m5_cps.specs.Entries.{Entry, by_value, by_call}
use Rattle.m5_cps.specs.Blocks.{Straight, constant, one, two, unheld, unsham, spawn, Test, if_true, if_left, if_nil, if_here, Ending, go, ask, send, done}
use Rattle.m5_cps.specs.Blocks as cps
use Rattle.m5_cps.specs.Values.{left, right, held, sham, pair, cons, atom, wrap, join, closed, enter, put, put_all, filled_by, unit_value, text_value}
use Rattle.m5_cps.specs.Units.{leaf_units, closure_units}
use Rattle.m5_cps.specs.Made.{Made, gives, makes_text, makes_cell, loads, stores, fails, made_by_one, made_by_two, one_units, two_units}
use Rattle.m5_cps.specs.Deeds.{Ran, makes, taking, taking_some, stops_full, constant_value, loaded, stored, did, opened_held, opened_sham, spawned, performed, tested}
use Rattle.m5_cps.specs.Asks.{asked}
use Rattle.m5_cps_typing.specs.States.{RanFits}
use Rattle.m5_flat.specs.Blocks.{Code, straight, closure, test, ends, Named, Blocks, primitive_at}
use Rattle.m5_flat.specs.Values.{Closure, under, Value, Site, taken}
use Rattle.m5_flat.specs.Running.{primitive_of, asks_or_calls, ended, run, enter_block, call_block, started}
use Rattle.m5_flat.specs.Fits.{no_setting}
use Rattle.m5_flat.specs.Program.{IsProgram}
use Rattle.m5_flat_typing.specs.Closures.{ClosureFits}
use Rattle.m5_slice.specs.Slicing.{cut_ending, cut_code, is_primitive_at, cut}

module _ (B : Blocks) (d : IsProgram B) (u : World) where
  -- no typed block runs so
  abbrev pub Refused : Ran Closure → Type 0
  Refused r = (L : CellTypes) → RanFits (ClosureFits B d.environments) no_setting L u r → ⊥

  -- without handlers, so that a registration is asked and does not stop
  abbrev pub bare : Site → Site
  bare s = record s { handlers = [] }

  abbrev pub Alike : Ran Closure → Ran Closure → Ran Closure → Type 0
  Alike r q p = (r ≡ q) ⊎ Refused p

  took : (c : ℕ) (s : Site) (g h k : Site → Ran Closure) → ((t : Site) → Alike (g t) (h t) (k (bare t))) → Alike (taking c s g) (taking c s h) (taking c (bare s) k)
  took c s g h k i = elim (i (record s { units = s.units + c })) [
    | inl e ↦ inl (ap (makes (record { units = s.units + c; threads = suc (length s.threads); cells = length s.cells; handlers = length s.handlers })) e)
    | inr r ↦ inr r
  ]

  took_some : (c : ℕ) (s : Site) (g h k : Site → Ran Closure) → ((t : Site) → Alike (g t) (h t) (k (bare t))) → Alike (taking_some c s g) (taking_some c s h) (taking_some c (bare s) k)
  took_some zero s g h k i = i s
  took_some (suc c) s g h k i = took (suc c) s g h k i

  did_alike : (m : Made Closure) (s : Site) (g h k : Site → Value → Ran Closure) → ((t : Site) (a : Value) → Alike (g t a) (h t a) (k (bare t) a)) → Alike (did u s m g) (did u s m h) (did u (bare s) m k)
  did_alike (gives a) s g h k i = i s a
  did_alike (makes_text t) s g h k i = i s (text_value t)
  did_alike (makes_cell a) s g h k i = by (is_full s.cells)
    where
      more : Site → Site
      more t = record t { cells = s.cells ++ a ∷ [] }

      by : (q : Bool) → Alike (if q then stops_full s else g (more s) (atom (leaf_form.CellAt u (length s.cells)))) (if q then stops_full s else h (more s) (atom (leaf_form.CellAt u (length s.cells)))) (if q then stops_full (bare s) else k (more (bare s)) (atom (leaf_form.CellAt u (length s.cells))))
      by true = inl refl
      by false = i (more s) (atom (leaf_form.CellAt u (length s.cells)))
  did_alike (loads n) s g h k i = by (slice_get s.cells n)
    where
      by : (o : Option Value) → Alike (loaded s g o) (loaded s h o) (loaded (bare s) k o)
      by None = inl refl
      by (Some a) = i s a
  did_alike (stores n a) s g h k i = by (slice_get s.cells n)
    where
      by : (o : Option Value) → Alike (stored s g n a o) (stored s h n a o) (stored (bare s) k n a o)
      by None = inl refl
      by (Some old) = i (record s { cells = slice_set s.cells n a }) unit_value
  did_alike fails s g h k i = inl refl

  held_alike : (a : Value) (s : Site) (g h k : Site → Value → Ran Closure) → ((t : Site) (b : Value) → Alike (g t b) (h t b) (k (bare t) b)) → Alike (opened_held a (g s)) (opened_held a (h s)) (opened_held a (k (bare s)))
  held_alike (wrap (held w) a) s g h k i = i s a
  held_alike _ s g h k i = inl refl

  sham_alike : (a : Value) (s : Site) (g h k : Site → Value → Ran Closure) → ((t : Site) (b : Value) → Alike (g t b) (h t b) (k (bare t) b)) → Alike (opened_sham a (g s)) (opened_sham a (h s)) (opened_sham a (k (bare s)))
  sham_alike (wrap sham a) s g h k i = i s a
  sham_alike _ s g h k i = inl refl

  spawn_alike : (a : Value) (s : Site) (g h k : Site → Value → Ran Closure) → ((t : Site) (b : Value) → Alike (g t b) (h t b) (k (bare t) b)) → Alike (spawned s a g) (spawned s a h) (spawned (bare s) a k)
  spawn_alike a s g h k i = by (nat_le 4096 (suc (length s.threads)))
    where
      more : Site → Site
      more t = record t { threads = s.threads ++ enter a unit_value ∷ [] }

      by : (q : Bool) → Alike (if q then stops_full s else g (more s) unit_value) (if q then stops_full s else h (more s) unit_value) (if q then stops_full (bare s) else k (more (bare s)) unit_value)
      by true = inl refl
      by false = i (more s) unit_value

  performed_alike : (f : Straight) (ρ : ℕ → Value) (s : Site) (g h k : Site → Value → Ran Closure) → ((t : Site) (a : Value) → Alike (g t a) (h t a) (k (bare t) a)) → Alike (performed u f ρ s g) (performed u f ρ s h) (performed u f ρ (bare s) k)
  performed_alike (constant f) ρ s g h k i = took_some (leaf_units f) s _ _ _ (λ t. i t (constant_value u f))
  performed_alike (one f x) ρ s g h k i = took_some (one_units f (made_by_one u f (ρ x))) s _ _ _ (λ t. did_alike (made_by_one u f (ρ x)) t g h k i)
  performed_alike (two f x y) ρ s g h k i = took_some (two_units f (made_by_two u f (ρ x) (ρ y))) s _ _ _ (λ t. did_alike (made_by_two u f (ρ x) (ρ y)) t g h k i)
  performed_alike (unheld x) ρ s g h k i = held_alike (ρ x) s g h k i
  performed_alike (unsham x) ρ s g h k i = sham_alike (ρ x) s g h k i
  performed_alike (spawn x) ρ s g h k i = spawn_alike (ρ x) s g h k i

  -- either way of a test
  module _ (g h k g1 h1 k1 : List Value → Ran Closure) (i : (ps : List Value) → Alike (g ps) (h ps) (k ps)) (j : (ps : List Value) → Alike (g1 ps) (h1 ps) (k1 ps)) where
    tested_alike : (t : Test) (a : Value) → Alike (tested u t a g g1) (tested u t a h h1) (tested u t a k k1)
    tested_alike if_true (atom (leaf_form.Bool true)) = i []
    tested_alike if_true (atom (leaf_form.Bool false)) = j []
    tested_alike if_left (wrap (left T) a) = i (a ∷ [])
    tested_alike if_left (wrap (right T) a) = j (a ∷ [])
    tested_alike if_nil (atom (leaf_form.Nil A)) = i []
    tested_alike if_nil (join cons a b) = j (a ∷ b ∷ [])
    tested_alike if_here (atom (leaf_form.Addr v)) = by (same_world v u)
      where
        by : (q : Bool) → Alike (if q then g [] else g1 []) (if q then h [] else h1 []) (if q then k [] else k1 [])
        by true = i []
        by false = j []
    tested_alike t a = inl refl

  -- an ask by another world's primitive
  asked_refused : (s : Site) (k : Value) (p : Primitive) (a : Value) → primitive_world p ≢ u → Refused (asked (bare s) k p a)
  asked_refused s k primitive.Say (atom (leaf_form.Str t)) n L h = n (sym h.typed.0.0)
  asked_refused s k primitive.SetText (join pair (atom (leaf_form.Str e)) (atom (leaf_form.Str t))) n L h = n (sym h.typed.0.0)
  asked_refused s k primitive.GetText (atom (leaf_form.Str e)) n L h = n (sym h.typed.0.0)
  asked_refused s k primitive.On (join pair (atom (leaf_form.Str e)) f) n L h = n (sym h.typed.0.0)
  asked_refused s k primitive.Read (atom (leaf_form.Str e)) n L h = n (sym h.typed.0.0)
  asked_refused s k primitive.Write (join pair (atom (leaf_form.Str e)) (atom (leaf_form.Str t))) n L h = n (sym h.typed.0.0)
  asked_refused s k primitive.Watch (join pair (atom (leaf_form.Str e)) f) n L h = n (sym h.typed.0.0)
  asked_refused s k primitive.Show (atom (leaf_form.Str t)) n L h = n (sym h.typed.0.0)
  asked_refused s k p a n L h = h.typed

  not_at : (p : Primitive) → same_world (primitive_world p) u ≡ false → primitive_world p ≢ u
  not_at p e q = let z : true ≡ false = sym (same-self u) ∙ ap (λ v. same_world v u) (sym q) ∙ e in cc

  -- the primitive of a label in the slice is the one in the program, unless that is another world's
  abbrev KeepsPrimitive : Option Primitive → Option Primitive → Type 0
  KeepsPrimitive o q = (o ≡ q) ⊎ ((p : Primitive) × (q ≡ Some p) × (primitive_world p ≢ u))

  primitive_kept : (ps : List Named) (i : ℕ) → KeepsPrimitive (primitive_at (filter (is_primitive_at u) ps) i) (primitive_at ps i)
  primitive_kept [] i = inl refl
  primitive_kept (a ∷ ps) i = by (is_primitive_at u a) refl (primitive_kept ps i)
    where
      here : (e : Bool) → KeepsPrimitive (primitive_at (filter (is_primitive_at u) ps) i) (primitive_at ps i) → KeepsPrimitive (if e then Some a.primitive else primitive_at (filter (is_primitive_at u) ps) i) (if e then Some a.primitive else primitive_at ps i)
      here true h = inl refl
      here false h = h

      away : (e : Bool) → is_primitive_at u a ≡ false → KeepsPrimitive (primitive_at (filter (is_primitive_at u) ps) i) (primitive_at ps i) → KeepsPrimitive (primitive_at (filter (is_primitive_at u) ps) i) (if e then Some a.primitive else primitive_at ps i)
      away true s h = inr (a.primitive, refl, not_at a.primitive s)
      away false s h = h

      by : (q : Bool) → is_primitive_at u a ≡ q → KeepsPrimitive (primitive_at (filter (is_primitive_at u) ps) i) (primitive_at ps i) →
          KeepsPrimitive (primitive_at (cond q (a ∷ filter (is_primitive_at u) ps) (filter (is_primitive_at u) ps)) i) (if a.label == i then Some a.primitive else primitive_at ps i)
      by true s h = here (a.label == i) h
      by false s h = away (a.label == i) s h

  primitive_cut : (f : Value) → KeepsPrimitive (primitive_of (cut u B) f) (primitive_of B f)
  primitive_cut (closed (under i k) ρ) = primitive_kept B.primitives i
  primitive_cut (atom (leaf_form.Extern p)) = inl refl
  primitive_cut _ = inl refl

  ended_alike : (e : Ending) (ρ : ℕ → Value) (s : Site) → Alike (ended (cut u B) (cut_ending u e) ρ s) (ended B e ρ s) (ended B e ρ (bare s))
  ended_alike (cps.call f x k) ρ s = elim (primitive_cut (ρ f)) [
    | inl e ↦ inl (ap (λ o. asks_or_calls o (ρ f) (ρ x) (ρ k) s) e)
    | inr q ↦ inr (subst (λ o. Refused (asks_or_calls o (ρ f) (ρ x) (ρ k) (bare s))) (sym q.1) (asked_refused s (ρ k) q.0 (ρ x) q.2))
  ]
  ended_alike (ask p x k) ρ s = by (same_world (primitive_world p) u) refl
    where
      by : (q : Bool) → same_world (primitive_world p) u ≡ q → Alike (ended (cut u B) (if q then ask p x k else done) ρ s) (ended B (ask p x k) ρ s) (ended B (ask p x k) ρ (bare s))
      by true e = inl refl
      by false e = inr (asked_refused s (ρ k) p (ρ x) (not_at p e))
  ended_alike (go k x) ρ s = inl refl
  ended_alike (send a k x) ρ s = inl refl
  ended_alike done ρ s = inl refl

  pub run_alike : (c : Code) (n : ℕ) (ρ : ℕ → Value) (s : Site) → Alike (run (cut u B) u (cut_code u c) n ρ s) (run B u c n ρ s) (run B u c n ρ (bare s))
  run_alike (straight f c) n ρ s = performed_alike f ρ s _ _ _ (λ t a. run_alike c (suc n) (put n a ρ) t)
  run_alike (closure ls i c) n ρ s = took (closure_units (length ls)) s _ _ (λ t. run B u c (suc n) (put n (closed (under i (length ls)) (taken ls ρ)) ρ) t) (λ t. run_alike c (suc n) (put n (closed (under i (length ls)) (taken ls ρ)) ρ) t)
  run_alike (test t x b c) n ρ s = tested_alike _ _ _ _ _ _ (λ ps. run_alike b (filled_by ps n) (put_all n ps ρ) s) (λ ps. run_alike c (filled_by ps n) (put_all n ps ρ) s) t (ρ x)
  run_alike (ends e) n ρ s = ended_alike e ρ s

  -- a block that is entered, or called
  pub entered_alike : (s : Site) (i k : ℕ) (ρ : ℕ → Value) (x : Value) (y : Entry) (c : Code) → Alike (started (cut u B) u s (enter_block i k ρ x y (cut_code u c))) (started B u s (enter_block i k ρ x y c)) (started B u (bare s) (enter_block i k ρ x y c))
  entered_alike s i k ρ x (by_value m T) c = run_alike c _ _ (record s { entered = suc s.entered })
  entered_alike s i k ρ x (by_call m A T) c = inl refl

  pub called_alike : (s : Site) (i k : ℕ) (ρ : ℕ → Value) (x j : Value) (y : Entry) (c : Code) → Alike (started (cut u B) u s (call_block i k ρ x j y (cut_code u c))) (started B u s (call_block i k ρ x j y c)) (started B u (bare s) (call_block i k ρ x j y c))
  called_alike s i k ρ x j (by_call m A T) c = run_alike c _ _ (record s { entered = suc s.entered })
  called_alike s i k ρ x j (by_value m T) c = inl refl
