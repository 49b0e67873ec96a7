-- What a thread is about to run.
use Rattle.std.proofs.Common.{◌≡◌, inl, inr, ℕ, zero, suc, ◌+◌, ◌-◌, ◌<◌, List, [], ◌∷◌, length, Option, Some, None, IsTrue, refl, sym, ap, subst, arith, slice_get}
use Rattle.std.specs.List.{AllZip, AllByRecursion as Each}
use Rattle.m5_terms.specs.Substitution.{among}
use Rattle.m5_terms.specs.Primitives.{primitive_world}
use Rattle.m5_terms.specs.declared.types.World.{World}
use Rattle.m5_terms.specs.declared.types.World.TheVariants.{Home, Server, Panel, Any}
use Rattle.m5_terms.specs.declared.types.Primitive.{Primitive}
use Rattle.m5_terms.specs.declared.form.LeafForm.{LeafForm}
use Rattle.m5_terms.specs.declared.form.LeafForm.TheVariants as leaf_form
use Rattle.m5_typing.specs.Context.{Setting}
use Rattle.m5_cps_typing.specs.Rows.{Kinds}
use Rattle.m5_cps.specs.Entries.{Entry, by_value, by_call, only, everywhere}
use Rattle.m5_cps.specs.Blocks.{Code, constant, ask}
use Rattle.m5_cps.specs.Blocks as source
use Rattle.m5_cps.specs.Values.{atom, closed, enter, call, put}
use Rattle.m5_cps.specs.Captured.{over, uses}
use Rattle.m5_cps.specs.Captured as cps
use Rattle.m5_cps.specs.Running as cps_running
use Rattle.m5_cps.specs.Program.{IsProgram, IsFunctionBlock, setting_of}
use Rattle.m5_cps.specs.Program as program
use Rattle.m5_flat.specs.Blocks.{Block, Blocks}
use Rattle.m5_flat.specs.Blocks as target
use Rattle.m5_flat.specs.Values.{under}
use Rattle.m5_flat.specs.Values as flat
use Rattle.m5_flat.specs.Running.{with_block, enter_block, call_block, entered_by, called_by, resolved, started}
use Rattle.m5_flat.specs.Running as flat_running
use Rattle.m5_flat.specs.Fits.{IsPlain}
use Rattle.m5_close.specs.Close.{no_kinds, free, anew, IsMade, IsBlockOf, IsFunction, IsDeclared, declared_entry, IsClosed, asking_block}
use Rattle.m5_close.specs.Reading.{Reads, ReadsThread, ReadsSite, EmptyFrom}
use Rattle.m5_close.proofs.Slots.{Environment, fill, begins, free_has, free_used}
use Rattle.m5_close.proofs.Heads.{OptionReads, RanReads, by_heads}
use Rattle.m5_close.proofs.Runs.{runs}

pub each_at : {A : Type 0} (P : A → Type 0) (xs : List A) (i : ℕ) (x : A) → Each P xs → slice_get xs i ≡ Some x → P x
each_at P [] i x h e = absurd (cc (e))
each_at P (y ∷ xs) zero x h e = let q : y ≡ x = cc (e) in subst P q h.0
each_at P (y ∷ xs) (suc i) x h e = each_at P xs i x h.1 e

-- a block that is called, not entered with a value alone
abbrev IsCalled : Entry → Type 0
IsCalled (by_call m A D) = Unit {0}
IsCalled (by_value m T) = ⊥

declared_called : (y : Entry) → program.IsFunction y → IsCalled (declared_entry y)
declared_called (by_call (only Home) A D) h = tt
declared_called (by_call (only Server) A D) h = tt
declared_called (by_call (only Panel) A D) h = tt
declared_called (by_call (only Any) A D) h = tt
declared_called (by_call everywhere A D) h = tt
declared_called (by_value m T) h = absurd h

module _ (E : Setting) (B : Blocks) (L : List ℕ) where
  -- both begin a block, of which one is made of the other
  pub record Begins (e : flat_running.Entered) (i : cps_running.Entered) : Type 0 where
    pub over : ℕ
    pub takes : List ℕ
    pub world : World
    pub types : Kinds
    pub made : IsMade E B L (anew over takes) world types i.filled i.code e.code
    pub filled : e.filled ≡ length takes + (i.filled - over)
    pub covers : (l : ℕ) → IsTrue (uses i.code l) → l < over → IsTrue (among l takes)
    pub slots : Environment E B L over takes i.filled e.slots i.slots

  abbrev Both : Option flat_running.Entered → Option cps_running.Entered → Type 0
  Both = OptionReads Begins

  -- the closure and its argument, and of a call the continuation, fill slots
  module _ (n k : ℕ) (ls : List ℕ) (σ : ℕ → flat.Value) (ρ : ℕ → cps.Value) (q : k ≡ length ls) (e : Environment E B L n ls n σ ρ) (f x : flat.Value) (g z : cps.Value) (r : Reads E B L f g) (p : Reads E B L x z) where
    two_slots : Environment E B L n ls (suc (suc n)) (put (suc k) x (put k f σ)) (put (suc n) z (put n g ρ))
    two_slots = fill E B L n ls (suc n) (suc k) (put k f σ) (put n g ρ) x z (omega (arith, q)) (fill E B L n ls n k σ ρ f g (omega (arith, q)) e r) p

    entered_begins : (b : World) (τ : Kinds) (c : Code) (d : target.Code) → IsMade E B L (anew n ls) b τ (suc (suc n)) c d → ((l : ℕ) → IsTrue (uses c l) → l < n → IsTrue (among l ls)) → Begins (flat_running.entered f x k σ d) (cps_running.entered g z n ρ c)
    entered_begins b τ c d md cv = record { over = n; takes = ls; world = b; types = τ; made = md; filled = omega (arith, q); covers = cv; slots = two_slots }

    called_begins : (b : World) (τ : Kinds) (c : Code) (d : target.Code) (j : flat.Value) (l : cps.Value) → Reads E B L j l → IsMade E B L (anew n ls) b τ (suc (suc (suc n))) c d → ((l : ℕ) → IsTrue (uses c l) → l < n → IsTrue (among l ls)) → Begins (flat_running.called f x j k σ d) (cps_running.called g z l n ρ c)
    called_begins b τ c d j l o md cv = record { over = n; takes = ls; world = b; types = τ; made = md; filled = omega (arith, q); covers = cv; slots = fill E B L n ls (suc (suc n)) (suc (suc k)) (put (suc k) x (put k f σ)) (put (suc n) z (put n g ρ)) j l (omega (arith, q)) two_slots o }

  closure_environment : (i k : ℕ) (σ : ℕ → flat.Value) (y : Entry) (n : ℕ) (c : Code) (ρ : ℕ → cps.Value) → Reads E B L (closed (under i k) σ) (closed (over y n c) ρ) → Environment E B L n (free n c) n σ ρ
  closure_environment i k σ y n c ρ r = begins E B L n k (free n c) σ ρ r.1 (λ l h. (free_used n l c h).0) r.2 r.3 r.4

  value_begins : (i k : ℕ) (σ : ℕ → flat.Value) (y : Entry) (n : ℕ) (c : Code) (ρ : ℕ → cps.Value) (x : flat.Value) (z : cps.Value) → Reads E B L (closed (under i k) σ) (closed (over y n c) ρ) → Reads E B L x z → Both (entered_by B (closed (under i k) σ) x) (cps_running.entered_by (closed (over y n c) ρ) z)
  value_begins i k σ y n c ρ x z r q = subst (λ o. Both (with_block o (enter_block i k σ x)) (cps_running.entered_by (closed (over y n c) ρ) z)) (sym r.0.1.1) (by_entry y r)
    where
      by_entry : (y : Entry) → (r : Reads E B L (closed (under i k) σ) (closed (over y n c) ρ)) → Both (enter_block i k σ x y r.0.1.0) (cps_running.entered_by (closed (over y n c) ρ) z)
      by_entry (by_value m T) r = entered_begins n k (free n c) σ ρ r.1 (closure_environment i k σ (by_value m T) n c ρ r) (closed (under i k) σ) x (closed (over (by_value m T) n c) ρ) z r q _ _ c r.0.1.0 r.0.1.3 (λ l u lt. free_has n l c lt u)
      by_entry (by_call m A D) r = tt

  call_begins : (C0 : source.Blocks) (i k : ℕ) (σ : ℕ → flat.Value) (y : Entry) (n : ℕ) (c : Code) (ρ : ℕ → cps.Value) (x : flat.Value) (z : cps.Value) (j : flat.Value) (l : cps.Value) → Reads E B L (closed (under i k) σ) (closed (over y n c) ρ) → Reads E B L x z → Reads E B L j l → Both (called_by B (closed (under i k) σ) x j) (cps_running.called_by C0 (closed (over y n c) ρ) z l)
  call_begins C0 i k σ y n c ρ x z j l r q o = subst (λ b. Both (with_block b (call_block i k σ x j)) (cps_running.called_by C0 (closed (over y n c) ρ) z l)) (sym r.0.1.1) (by_entry y r)
    where
      by_entry : (y : Entry) → (r : Reads E B L (closed (under i k) σ) (closed (over y n c) ρ)) → Both (call_block i k σ x j y r.0.1.0) (cps_running.called_by C0 (closed (over y n c) ρ) z l)
      by_entry (by_call m A D) r = called_begins n k (free n c) σ ρ r.1 (closure_environment i k σ (by_call m A D) n c ρ r) (closed (under i k) σ) x (closed (over (by_call m A D) n c) ρ) z r q _ _ c r.0.1.0 j l o r.0.1.3 (λ h u lt. free_has n h c lt u)
      by_entry (by_value m T) r = tt

  -- a function has nothing from outside
  function_begins : (b : World) (τ : Kinds) (i : ℕ) (σ : ℕ → flat.Value) (f : LeafForm) (c : Code) (d : target.Code) (x : flat.Value) (z : cps.Value) (j : flat.Value) (l : cps.Value) → EmptyFrom 0 σ → IsFunction E B L i f → IsMade E B L (anew 0 []) b τ 3 c d → Reads E B L x z → Reads E B L j l → Begins (flat_running.called (closed (under i 0) σ) x j 0 σ d) (cps_running.called (atom f) z l 0 cps_running.no_values c)
  function_begins w τ i σ f c d x z j l ef e md q o =
      let b : Environment E B L 0 [] 0 σ cps_running.no_values = begins E B L 0 0 [] σ cps_running.no_values refl (λ h a. absurd (cc (a))) ef (λ h a. refl) (λ h a g. absurd (cc (g))) in
      called_begins 0 0 [] σ cps_running.no_values refl b (closed (under i 0) σ) x (atom f) z (e, refl, ef) q w τ c d j l o md (λ h u lt. absurd (omega (arith, lt)))

  -- a function is not entered with a value alone
  not_value : (i : ℕ) (σ : ℕ → flat.Value) (x : flat.Value) (b : Block) → slice_get B.table i ≡ Some b → IsCalled b.entry → Both (entered_by B (closed (under i 0) σ) x) None
  not_value i σ x b e h = subst (λ o. Both (with_block o (enter_block i 0 σ x)) None) (sym e) (by_entry b.entry h)
    where
      by_entry : (y : Entry) → IsCalled y → Both (enter_block i 0 σ x y b.code) None
      by_entry (by_call m A D) h = tt
      by_entry (by_value m T) h = absurd h

  pub function_block : (is : List ℕ) (cs : List source.Block) (f i : ℕ) → AllZip (IsDeclared E B L) is cs → slice_get is f ≡ Some i → (b : source.Block) × (slice_get cs f ≡ Some b) × IsDeclared E B L i b
  function_block [] [] f i h e = absurd (cc (e))
  function_block [] (c ∷ cs) f i h e = absurd h
  function_block (j ∷ is) [] f i h e = absurd h
  function_block (j ∷ is) (c ∷ cs) zero i h e = let q : j ≡ i = cc (e) in (c, refl, subst (λ z. IsDeclared E B L z c) q h.0)
  function_block (j ∷ is) (c ∷ cs) (suc f) i h e = function_block is cs f i h.1 e

  pub functions_missing : (is : List ℕ) (cs : List source.Block) (f : ℕ) → AllZip (IsDeclared E B L) is cs → slice_get is f ≡ None → slice_get cs f ≡ None
  functions_missing [] [] f h e = refl
  functions_missing [] (c ∷ cs) f h e = absurd h
  functions_missing (j ∷ is) [] f h e = absurd h
  functions_missing (j ∷ is) (c ∷ cs) zero h e = absurd (cc (e))
  functions_missing (j ∷ is) (c ∷ cs) (suc f) h e = functions_missing is cs f h.1 e

module _ (C0 : source.Blocks) (B : Blocks) (d : IsProgram C0) (made : IsClosed C0 B) where
  abbrev E : Setting
  E = setting_of C0

  abbrev L : List ℕ
  L = made.labels

  abbrev Start : Option flat_running.Entered → Option cps_running.Entered → Type 0
  Start = OptionReads (Begins E B L)

  glob_block : (i g : ℕ) → slice_get L g ≡ Some i → (b : source.Block) × (slice_get C0.functions g ≡ Some b) × IsDeclared E B L i b × IsCalled (declared_entry b.entry)
  glob_block i g e = let b = function_block E B L L C0.functions g i made.functions e in (b.0, b.1, b.2, declared_called b.0.entry (each_at (IsFunctionBlock (setting_of C0)) C0.functions g b.0 d.functions b.1).function)

  glob_begins : (i : ℕ) (σ : ℕ → flat.Value) (g : ℕ) (x : flat.Value) (z : cps.Value) (k : flat.Value) (l : cps.Value) → EmptyFrom 0 σ → IsFunction E B L i (leaf_form.Glob g) → Reads E B L x z → Reads E B L k l → Start (called_by B (closed (under i 0) σ) x k) (cps_running.called_by C0 (atom (leaf_form.Glob g)) z l)
  glob_begins i σ g x z k l ef (inr n, p) r q =
      subst (λ o. Start (with_block o (call_block i 0 σ x k)) (cps_running.called_by C0 (atom (leaf_form.Glob g)) z l)) (sym n.1)
      (subst (λ o. Start None (cps_running.declared_block g z l o)) (sym (functions_missing E B L L C0.functions g made.functions n.0)) tt)
  glob_begins i σ g x z k l ef (inl s, p) r q = let b = glob_block i g s in
      subst (λ o. Start (with_block o (call_block i 0 σ x k)) (cps_running.called_by C0 (atom (leaf_form.Glob g)) z l)) (sym b.2.1) (subst (λ o. Start (call_block i 0 σ x k (declared_entry b.0.entry) b.2.0) (cps_running.declared_block g z l o)) (sym b.1) (by_entry (declared_entry b.0.entry) b.0.code b.2 b.3))
    where
      by_entry : (y : Entry) (c : Code) → (m : IsBlockOf E B L i y no_kinds 0 c) → IsCalled y → Start (call_block i 0 σ x k y m.0) (Some (cps_running.called (atom (leaf_form.Glob g)) z l 0 cps_running.no_values c))
      by_entry (by_call m A D) c md h = function_begins E B L _ _ i σ (leaf_form.Glob g) c md.0 x z k l ef (inl s, p) md.3 r q
      by_entry (by_value m T) c md h = absurd h

  extern_begins : (i : ℕ) (σ : ℕ → flat.Value) (p : Primitive) (x : flat.Value) (z : cps.Value) (k : flat.Value) (l : cps.Value) → EmptyFrom 0 σ → IsFunction E B L i (leaf_form.Extern p) → Reads E B L x z → Reads E B L k l → Start (called_by B (closed (under i 0) σ) x k) (cps_running.called_by C0 (atom (leaf_form.Extern p)) z l)
  extern_begins i σ p x z k l ef e r q = subst (λ o. Start (with_block o (call_block i 0 σ x k)) (cps_running.called_by C0 (atom (leaf_form.Extern p)) z l)) (sym e.0.2) (function_begins E B L (primitive_world p) no_kinds i σ (leaf_form.Extern p) (source.ends (ask p 1 2)) (target.ends (ask p 1 2)) x z k l ef e refl r q)

  glob_value : (i g : ℕ) (σ : ℕ → flat.Value) (x : flat.Value) → IsFunction E B L i (leaf_form.Glob g) → Start (entered_by B (closed (under i 0) σ) x) None
  glob_value i g σ x (inl s, p) = let b = glob_block i g s in not_value E B L i σ x (record { entry = declared_entry b.0.entry; environment = []; code = b.2.0 }) b.2.1 b.3
  glob_value i g σ x (inr n, p) = subst (λ o. Start (with_block o (enter_block i 0 σ x)) None) (sym n.1) tt

  no_calls : (f : LeafForm) → IsPlain (constant f) → (x : flat.Value) (z : cps.Value) (k : flat.Value) (l : cps.Value) → Start (called_by B (atom f) x k) (cps_running.called_by C0 (atom f) z l)
  no_calls (leaf_form.Glob f) p x z k l = absurd p
  no_calls (leaf_form.Extern f) p x z k l = absurd p
  no_calls _ p x z k l = tt

  pub resolves : (th : flat.Thread) (ti : cps.Thread) → ReadsThread E B L th ti → Start (resolved B th) (cps_running.resolved C0 ti)
  resolves (enter k x) (enter l z) r = by_heads E B L (λ k l. Start (entered_by B k x) (cps_running.entered_by l z)) (λ f p. tt) (λ f a c e. tt) (λ f a b c d e o. tt) (λ i j σ y n c ρ e. value_begins E B L i j σ y n c ρ x z e r.1)
      (λ i σ g ef e. glob_value i g σ x e) (λ i σ p ef e. not_value E B L i σ x (asking_block p e.0.0 e.0.1) e.0.2 (at_world (primitive_world p) e.0.0 e.0.1)) k l r.0
    where
      at_world : (w : World) (A D : _) → IsCalled (by_call (only w) A D)
      at_world w A D = tt
  resolves (call f x k) (call g z l) r = by_heads E B L (λ f g. Start (called_by B f x k) (cps_running.called_by C0 g z l)) (λ f p. no_calls f p x z k l) (λ f a c e. tt) (λ f a b c d e o. tt) (λ i j σ y n c ρ e. call_begins E B L C0 i j σ y n c ρ x z k l e r.1 r.2)
      (λ i σ g ef e. glob_begins i σ g x z k l ef e r.1 r.2) (λ i σ p ef e. extern_begins i σ p x z k l ef e r.1 r.2) f g r.0
  resolves (enter k x) (call g z l) r = absurd r
  resolves (call f x k) (enter l z) r = absurd r

  pub starts : (u : World) (t : flat.Site) (s : cps.Site) (x : Option flat_running.Entered) (y : Option cps_running.Entered) → ReadsSite E B L t s → Start x y → RanReads E B L (started B u t x) (cps_running.started u s y)
  starts u t s None None h b = tt
  starts u t s None (Some i) h b = absurd b
  starts u t s (Some e) None h b = absurd b
  starts u t s (Some e) (Some i) h b = runs E B L u b.over b.takes i.code b.world b.types i.filled e.filled e.code e.slots i.slots (record t { entered = suc t.entered }) (record s { entered = suc s.entered }) b.filled b.made b.covers b.slots (record { threads = h.threads; cells = h.cells; handlers = h.handlers; entered = ap suc h.entered; units = h.units; stopped = h.stopped })
