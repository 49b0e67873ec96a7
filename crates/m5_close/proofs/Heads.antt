-- What the runs of a block under labels and of the block that it is made of owe one another, and the cases of what is read back.
use Rattle.std.proofs.Common.{◌≡◌, ℕ, zero, suc, ◌+◌, List, [], ◌∷◌, ◌++◌, length, Option, Some, None, Bool, true, false, if◌then◌else◌, refl, sym, ap, ◌∙◌, subst, slice_get, slice_set}
use Rattle.std.specs.List.{AllZip}
use Rattle.m5_terms.specs.Machine.{goes, asks, wrong}
use Rattle.m5_terms.specs.Related.{AskReads, AnswerReads}
use Rattle.m5_terms.specs.declared.ask.AnswerOf.{AnswerOf}
use Rattle.m5_terms.specs.declared.ask.AnswerOf.TheVariants as answer
use Rattle.m5_terms.specs.declared.types.World.{World}
use Rattle.m5_terms.specs.declared.types.Primitive.{Primitive}
use Rattle.m5_terms.specs.declared.form.LeafForm.{LeafForm}
use Rattle.m5_terms.specs.declared.form.LeafForm.TheVariants as leaf_form
use Rattle.m5_typing.specs.Context.{Setting}
use Rattle.m5_cps.specs.Entries.{Entry}
use Rattle.m5_cps.specs.Blocks.{constant, Code}
use Rattle.m5_cps.specs.Values.{Wrap, Join, pair, Value, atom, wrap, join, closed, SiteNext}
use Rattle.m5_cps.specs.Made.{Made, gives, makes_text, makes_cell, loads, stores, fails}
use Rattle.m5_cps.specs.Deeds.{Point, Ran, makes, ends, taking, taking_some, stops_full, after_stop}
use Rattle.m5_cps.specs.Captured.{over}
use Rattle.m5_cps.specs.Captured as cps
use Rattle.m5_flat.specs.Blocks.{Blocks}
use Rattle.m5_flat.specs.Values.{under}
use Rattle.m5_flat.specs.Values as flat
use Rattle.m5_flat.specs.Fits.{IsPlain}
use Rattle.m5_close.specs.Close.{IsFunction}
use Rattle.m5_close.specs.Reading.{EmptyFrom, Reads, ReadsThread, ReadsItem, ReadsSite}

pub same_length : {A D : Type 0} (P : A → D → Type 0) (xs : List A) (ys : List D) → AllZip P xs ys → length xs ≡ length ys
same_length P [] [] h = refl
same_length P [] (y ∷ ys) h = absurd h
same_length P (x ∷ xs) [] h = absurd h
same_length P (x ∷ xs) (y ∷ ys) h = ap suc (same_length P xs ys h.1)

pub append_reads : {A D : Type 0} (P : A → D → Type 0) (xs : List A) (ys : List D) (zs : List A) (ws : List D) → AllZip P xs ys → AllZip P zs ws → AllZip P (xs ++ zs) (ys ++ ws)
append_reads P [] [] zs ws h r = r
append_reads P [] (y ∷ ys) zs ws h r = absurd h
append_reads P (x ∷ xs) [] zs ws h r = absurd h
append_reads P (x ∷ xs) (y ∷ ys) zs ws h r = (h.0, append_reads P xs ys zs ws h.1 r)

abbrev pub OptionReads : {A D : Type 0} → (A → D → Type 0) → Option A → Option D → Type 0
OptionReads P None None = Unit {0}
OptionReads P (Some a) (Some d) = P a d
OptionReads P _ _ = ⊥

pub get_reads : {A D : Type 0} (P : A → D → Type 0) (xs : List A) (ys : List D) (i : ℕ) → AllZip P xs ys → OptionReads P (slice_get xs i) (slice_get ys i)
get_reads P [] [] i h = tt
get_reads P [] (y ∷ ys) i h = absurd h
get_reads P (x ∷ xs) [] i h = absurd h
get_reads P (x ∷ xs) (y ∷ ys) zero h = h.0
get_reads P (x ∷ xs) (y ∷ ys) (suc i) h = get_reads P xs ys i h.1

pub set_reads : {A D : Type 0} (P : A → D → Type 0) (xs : List A) (ys : List D) (i : ℕ) (a : A) (d : D) → AllZip P xs ys → P a d → AllZip P (slice_set xs i a) (slice_set ys i d)
set_reads P [] [] i a d h r = tt
set_reads P [] (y ∷ ys) i a d h r = absurd h
set_reads P (x ∷ xs) [] i a d h r = absurd h
set_reads P (x ∷ xs) (y ∷ ys) zero a d h r = (r, h.1)
set_reads P (x ∷ xs) (y ∷ ys) (suc i) a d h r = (h.0, set_reads P xs ys i a d h.1 r)

abbrev point : ℕ → ℕ → ℕ → ℕ → Point
point a b c d = record { units = a; threads = b; cells = c; handlers = d }

pub point_same : (a b c d e f g h : ℕ) → a ≡ e → b ≡ f → c ≡ g → d ≡ h → point a b c d ≡ point e f g h
point_same a b c d e f g h p q r s = ap (λ z. point z b c d) p ∙ ap (λ z. point e z c d) q ∙ ap (λ z. point e f z d) r ∙ ap (λ z. point e f g z) s

-- a value without parts that is no function, and one of two kinds of values, or neither
abbrev pub leaf_in : {C : Type 0} → Value C → Option LeafForm
leaf_in (atom (leaf_form.Glob f)) = None
leaf_in (atom (leaf_form.Extern p)) = None
leaf_in (atom f) = Some f
leaf_in _ = None

abbrev pub by_leaf : {X : Type 0} → X → (LeafForm → X) → Option LeafForm → X
by_leaf x f None = x
by_leaf x f (Some l) = f l

abbrev pub by_shape : {C X : Type 0} → X → (LeafForm → X) → (Value C → Value C → X) → Value C → X
by_shape x f g (atom (leaf_form.Glob n)) = x
by_shape x f g (atom (leaf_form.Extern p)) = x
by_shape x f g (atom l) = f l
by_shape x f g (join pair a b) = g a b
by_shape x f g _ = x

module _ (E : Setting) (B : Blocks) (L : List ℕ) where
  -- what each answer makes of the site
  abbrev pub Resumes : (AnswerOf flat.Item → Option flat.Site) → (AnswerOf cps.Item → Option cps.Site) → Type 0
  Resumes f g = (b : AnswerOf flat.Item) (c : AnswerOf cps.Item) → AnswerReads (ReadsItem E B L) b c → OptionReads (ReadsSite E B L) (f b) (g c)

  abbrev pub NextReads : SiteNext flat.Closure → SiteNext cps.Closure → Type 0
  NextReads (goes t) (goes s) = ReadsSite E B L t s
  NextReads (asks q f) (asks r g) = AskReads (λ v i j. ReadsItem E B L i j) q r × Resumes f g
  NextReads wrong wrong = Unit {0}
  NextReads _ _ = ⊥

  abbrev pub RanReads : Ran flat.Closure → Ran cps.Closure → Type 0
  RanReads (makes p r) (makes q s) = (p ≡ q) × RanReads r s
  RanReads (ends x) (ends y) = NextReads x y
  RanReads _ _ = ⊥

  abbrev pub MadeReads : Made flat.Closure → Made cps.Closure → Type 0
  MadeReads (gives a) (gives c) = Reads E B L a c
  MadeReads (makes_text t) (makes_text v) = t ≡ v
  MadeReads (makes_cell a) (makes_cell c) = Reads E B L a c
  MadeReads (loads n) (loads m) = n ≡ m
  MadeReads (stores n a) (stores m c) = (n ≡ m) × Reads E B L a c
  MadeReads fails fails = Unit {0}
  MadeReads _ _ = ⊥

  -- the cases of two values of which one is read back to the other
  pub by_heads : (P : flat.Value → cps.Value → Type 0) → ((f : LeafForm) → IsPlain (constant f) → P (atom f) (atom f)) →
      ((f : Wrap) (a : flat.Value) (c : cps.Value) → Reads E B L a c → P (wrap f a) (wrap f c)) →
      ((f : Join) (a b : flat.Value) (c d : cps.Value) → Reads E B L a c → Reads E B L b d → P (join f a b) (join f c d)) →
      ((i k : ℕ) (σ : ℕ → flat.Value) (y : Entry) (n : ℕ) (c : Code) (ρ : ℕ → cps.Value) → Reads E B L (closed (under i k) σ) (closed (over y n c) ρ) → P (closed (under i k) σ) (closed (over y n c) ρ)) →
      ((i : ℕ) (σ : ℕ → flat.Value) (f : ℕ) → EmptyFrom 0 σ → IsFunction E B L i (leaf_form.Glob f) → P (closed (under i 0) σ) (atom (leaf_form.Glob f))) →
      ((i : ℕ) (σ : ℕ → flat.Value) (p : Primitive) → EmptyFrom 0 σ → IsFunction E B L i (leaf_form.Extern p) → P (closed (under i 0) σ) (atom (leaf_form.Extern p))) →
      (a : flat.Value) (c : cps.Value) → Reads E B L a c → P a c
  by_heads P pa pw pj pc pg pe (atom f) (atom g) r = subst (λ z. P (atom f) (atom z)) r.0 (pa f r.1)
  by_heads P pa pw pj pc pg pe (wrap f a) (wrap g c) r = subst (λ z. P (wrap f a) (wrap z c)) r.0 (pw f a c r.1)
  by_heads P pa pw pj pc pg pe (join f a b) (join g c d) r = subst (λ z. P (join f a b) (join z c d)) r.0 (pj f a b c d r.1 r.2)
  by_heads P pa pw pj pc pg pe (closed (under i k) σ) (closed (over y n c) ρ) r = pc i k σ y n c ρ r
  by_heads P pa pw pj pc pg pe (closed (under i k) σ) (atom f) r = subst (λ z. P (closed (under i z) σ) (atom f)) (sym r.1) (functions f r.0)
    where
      functions : (f : LeafForm) → IsFunction E B L i f → P (closed (under i 0) σ) (atom f)
      functions (leaf_form.Glob g) e = pg i σ g r.2 e
      functions (leaf_form.Extern p) e = pe i σ p r.2 e
      functions _ e = absurd e
  by_heads P pa pw pj pc pg pe _ _ r = absurd r

  pub same_leaf : (a : flat.Value) (c : cps.Value) → Reads E B L a c → leaf_in a ≡ leaf_in c
  same_leaf = by_heads (λ a c. leaf_in a ≡ leaf_in c) plain (λ f a c r. refl) (λ f a b c d r q. refl) (λ i k σ y n c ρ r. refl) (λ i σ f e h. refl) (λ i σ p e h. refl)
    where
      plain : (f : LeafForm) → IsPlain (constant f) → (let a : flat.Value = atom f in let c : cps.Value = atom f in leaf_in a ≡ leaf_in c)
      plain (leaf_form.Glob f) p = refl
      plain (leaf_form.Extern f) p = refl
      plain _ p = refl

  -- what is made of leaves, and of values by their shape
  pub leaf_reads : {X Y : Type 0} (P : X → Y → Type 0) (x : X) (y : Y) (f : LeafForm → X) (g : LeafForm → Y) → P x y → ((l : LeafForm) → P (f l) (g l)) → (a : flat.Value) (c : cps.Value) → Reads E B L a c → P (by_leaf x f (leaf_in a)) (by_leaf y g (leaf_in c))
  leaf_reads {X} {Y} P x y f g h k a c r = subst (λ o. P (by_leaf x f (leaf_in a)) (by_leaf y g o)) (same_leaf a c r) (by_option (leaf_in a))
    where
      by_option : (o : Option LeafForm) → P (by_leaf x f o) (by_leaf y g o)
      by_option None = h
      by_option (Some l) = k l

  pub shape_reads : {X Y : Type 0} (P : X → Y → Type 0) (x : X) (y : Y) (f : LeafForm → X) (g : LeafForm → Y) (p : flat.Value → flat.Value → X) (q : cps.Value → cps.Value → Y) → P x y → ((l : LeafForm) → P (f l) (g l)) →
      ((a b : flat.Value) (c d : cps.Value) → Reads E B L a c → Reads E B L b d → P (p a b) (q c d)) → (a : flat.Value) (c : cps.Value) → Reads E B L a c → P (by_shape x f p a) (by_shape y g q c)
  shape_reads {X} {Y} P x y f g p q h k m = by_heads (λ a c. P (by_shape x f p a) (by_shape y g q c)) leaves (λ f a c r. h) joins (λ i k σ z n c ρ r. h) (λ i σ f e r. h) (λ i σ n e r. h)
    where
      leaves : (l : LeafForm) → IsPlain (constant l) → P (by_shape x f p (atom l)) (by_shape y g q (atom l))
      leaves (leaf_form.Glob n) i = absurd i
      leaves (leaf_form.Extern n) i = absurd i
      leaves l i = k l

      joins : (j : Join) (a b : flat.Value) (c d : cps.Value) → Reads E B L a c → Reads E B L b d → P (by_shape x f p (join j a b)) (by_shape y g q (join j c d))
      joins pair a b c d r e = m a b c d r e
      joins _ a b c d r e = h

  pub by_made : (P : Made flat.Closure → Made cps.Closure → Type 0) → ((a : flat.Value) (c : cps.Value) → Reads E B L a c → P (gives a) (gives c)) → ((t : List ℕ) → P (makes_text t) (makes_text t)) →
      ((a : flat.Value) (c : cps.Value) → Reads E B L a c → P (makes_cell a) (makes_cell c)) → ((n : ℕ) → P (loads n) (loads n)) → ((n : ℕ) (a : flat.Value) (c : cps.Value) → Reads E B L a c → P (stores n a) (stores n c)) → P fails fails →
      (m : Made flat.Closure) (k : Made cps.Closure) → MadeReads m k → P m k
  by_made P pg pt pc pl ps pf (gives a) (gives c) r = pg a c r
  by_made P pg pt pc pl ps pf (makes_text t) (makes_text v) r = subst (λ z. P (makes_text t) (makes_text z)) r (pt t)
  by_made P pg pt pc pl ps pf (makes_cell a) (makes_cell c) r = pc a c r
  by_made P pg pt pc pl ps pf (loads n) (loads m) r = subst (λ z. P (loads n) (loads z)) r (pl n)
  by_made P pg pt pc pl ps pf (stores n a) (stores m c) r = subst (λ z. P (stores n a) (stores z c)) r.0 (ps n a c r.1)
  by_made P pg pt pc pl ps pf fails fails r = pf
  by_made P pg pt pc pl ps pf _ _ r = absurd r

  pub by_answers : (P : AnswerOf flat.Item → AnswerOf cps.Item → Type 0) → P answer.Done answer.Done → ((t : List ℕ) → P (answer.Found t) (answer.Found t)) → P answer.Missing answer.Missing →
      ((v : World) (i : flat.Item) (j : cps.Item) → ReadsItem E B L i j → P (answer.Message v i) (answer.Message v j)) → ((k : List ℕ) (n : ℕ) (t : List ℕ) → P (answer.Fired k n t) (answer.Fired k n t)) →
      ((e ns t : List ℕ) → P (answer.Event e ns t) (answer.Event e ns t)) → P answer.Nothing answer.Nothing → (b : AnswerOf flat.Item) (c : AnswerOf cps.Item) → AnswerReads (ReadsItem E B L) b c → P b c
  by_answers P pd pf pm ps pi pe pn answer.Done c r = subst (P answer.Done) (sym r) pd
  by_answers P pd pf pm ps pi pe pn (answer.Found t) c r = subst (P (answer.Found t)) (sym r) (pf t)
  by_answers P pd pf pm ps pi pe pn answer.Missing c r = subst (P answer.Missing) (sym r) pm
  by_answers P pd pf pm ps pi pe pn (answer.Message v i) c r = subst (P (answer.Message v i)) (sym r.2) (ps v i r.0 r.1)
  by_answers P pd pf pm ps pi pe pn (answer.Fired k n t) c r = subst (P (answer.Fired k n t)) (sym r) (pi k n t)
  by_answers P pd pf pm ps pi pe pn (answer.Event e ns t) c r = subst (P (answer.Event e ns t)) (sym r) (pe e ns t)
  by_answers P pd pf pm ps pi pe pn answer.Nothing c r = subst (P answer.Nothing) (sym r) pn

  pub if_reads : (b c : Bool) (x y : Ran flat.Closure) (z w : Ran cps.Closure) → b ≡ c → RanReads x z → RanReads y w → RanReads (if b then x else y) (if c then z else w)
  if_reads b c x y z w e h r = subst (λ d. RanReads (if b then x else y) (if d then z else w)) e (by_test b)
    where
      by_test : (d : Bool) → RanReads (if d then x else y) (if d then z else w)
      by_test true = h
      by_test false = r

  -- with more units, and with one more thread
  pub more_units : (t : flat.Site) (s : cps.Site) (c d : ℕ) → ReadsSite E B L t s → c ≡ d → ReadsSite E B L (record t { units = t.units + c }) (record s { units = s.units + d })
  more_units t s c d h e = record { threads = h.threads; cells = h.cells; handlers = h.handlers; entered = h.entered; units = ap (λ z. z + c) h.units ∙ ap (λ z. s.units + z) e; stopped = h.stopped }

  pub with_front : (th : flat.Thread) (ti : cps.Thread) (t : flat.Site) (s : cps.Site) → ReadsSite E B L t s → ReadsThread E B L th ti → ReadsSite E B L (record t { threads = th ∷ t.threads }) (record s { threads = ti ∷ s.threads })
  with_front th ti t s h r = record { threads = (r, h.threads); cells = h.cells; handlers = h.handlers; entered = h.entered; units = h.units; stopped = h.stopped }

  abbrev pub Goes : (flat.Site → Ran flat.Closure) → (cps.Site → Ran cps.Closure) → Type 0
  Goes f g = (t : flat.Site) (s : cps.Site) → ReadsSite E B L t s → RanReads (f t) (g s)

  pub taking_reads : (c d : ℕ) (t : flat.Site) (s : cps.Site) (f : flat.Site → Ran flat.Closure) (g : cps.Site → Ran cps.Closure) → c ≡ d → ReadsSite E B L t s → Goes f g → RanReads (taking c t f) (taking d s g)
  taking_reads c d t s f g e h k = (point_same _ _ _ _ _ _ _ _ (ap (λ z. z + c) h.units ∙ ap (λ z. s.units + z) e) (ap suc (same_length _ _ _ h.threads)) (same_length _ _ _ h.cells) (same_length _ _ _ h.handlers), k _ _ (more_units t s c d h e))

  pub taking_some_reads : (c d : ℕ) (t : flat.Site) (s : cps.Site) (f : flat.Site → Ran flat.Closure) (g : cps.Site → Ran cps.Closure) → c ≡ d → ReadsSite E B L t s → Goes f g → RanReads (taking_some c t f) (taking_some d s g)
  taking_some_reads c d t s f g e h k = subst (λ z. RanReads (taking_some c t f) (taking_some z s g)) e (by_number c)
    where
      by_number : (z : ℕ) → RanReads (taking_some z t f) (taking_some z s g)
      by_number zero = k t s h
      by_number (suc z) = taking_reads (suc z) (suc z) t s f g refl h k

  pub stops_reads : (t : flat.Site) (s : cps.Site) → ReadsSite E B L t s → RanReads (stops_full t) (stops_full s)
  stops_reads t s h = (refl, by_answers (λ b c. OptionReads (ReadsSite E B L) (after_stop t b) (after_stop s c)) (record { threads = h.threads; cells = h.cells; handlers = h.handlers; entered = h.entered; units = h.units; stopped = refl }) (λ y. tt) tt (λ v i j q. tt) (λ y n z. tt) (λ y n z. tt) tt)
