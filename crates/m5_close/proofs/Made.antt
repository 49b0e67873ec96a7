-- What forms make of values that are read back, and their deeds.
use Rattle.std.proofs.Common.{◌≡◌, ℕ, suc, List, [], ◌∷◌, length, Option, Some, None, Bool, true, false, IsTrue, if◌then◌else◌, nat_le, pos, ◌==◌, refl, sym, ap, ◌∙◌, subst, slice_get}
use Rattle.std.specs.List.{AllZip}
use Rattle.std.specs.Ordering.{int_eq}
use Rattle.m5_terms.specs.TypeExpression.{same_world}
use Rattle.m5_terms.specs.declared.types.World.{World}
use Rattle.m5_terms.specs.declared.types.Op.{Op}
use Rattle.m5_terms.specs.declared.types.Op.TheVariants as op
use Rattle.m5_terms.specs.declared.form.LeafForm.{LeafForm}
use Rattle.m5_terms.specs.declared.form.LeafForm.TheVariants as leaf_form
use Rattle.m5_terms.specs.declared.form.UnaryForm.{UnaryForm}
use Rattle.m5_terms.specs.declared.form.UnaryForm.TheVariants as unary_form
use Rattle.m5_terms.specs.declared.form.BinaryForm.{BinaryForm}
use Rattle.m5_terms.specs.declared.form.BinaryForm.TheVariants as binary_form
use Rattle.m5_meaning.specs.Step.{is_full}
use Rattle.m5_typing.specs.Context.{Setting}
use Rattle.m5_cps.specs.Blocks.{Straight, constant, one, two, unheld, unsham, spawn}
use Rattle.m5_cps.specs.Values.{Wrap, held, sham, Join, pair, cons, Value, atom, wrap, join, enter, unit_value, text_value}
use Rattle.m5_cps.specs.Units.{leaf_units, text_units}
use Rattle.m5_cps.specs.Made.{Made, gives, makes_text, makes_cell, loads, stores, fails, first_of, second_of, text_of, divided, at_cell, made_by_one, operated, made_by_two, one_units, two_units}
use Rattle.m5_cps.specs.Deeds.{Ran, constant_value, loaded, stored, did, did_taking, opened_held, opened_sham, spawned, performed}
use Rattle.m5_cps.specs.Captured.{straight_uses}
use Rattle.m5_cps.specs.Captured as cps
use Rattle.m5_flat.specs.Blocks.{Blocks}
use Rattle.m5_flat.specs.Values as flat
use Rattle.m5_flat.specs.Fits.{IsPlain}
use Rattle.m5_close.specs.Close.{straight_anew}
use Rattle.m5_close.specs.Reading.{Reads, ReadsThread, ReadsSite}
use Rattle.m5_close.proofs.Slots.{or_left, or_right, itself}
use Rattle.m5_close.proofs.Heads.{leaf_in, by_leaf, OptionReads, RanReads, MadeReads, by_heads, by_made, leaf_reads, if_reads, taking_some_reads, stops_reads, same_length, append_reads, get_reads, set_reads}

-- what a form's object takes, where it makes this text
abbrev or_none : Option (List ℕ) → ℕ
or_none None = 0
or_none (Some t) = text_units (length t)

abbrev one_by : UnaryForm → Option (List ℕ) → ℕ
one_by (unary_form.Inl T) o = 3
one_by (unary_form.Inr T) o = 3
one_by unary_form.Div o = 3
one_by unary_form.StrOf o = or_none o
one_by _ o = 0

abbrev two_by : BinaryForm → Option (List ℕ) → ℕ
two_by binary_form.Pair o = 3
two_by binary_form.Cons o = 4
two_by f o = or_none o

-- of two values an operation and a division see leaves only
module _ {C : Type 0} where
  operated_first : (o : Op) (a b : Value C) → operated o a b ≡ by_leaf fails (λ l. operated o (atom l) b) (leaf_in a)
  operated_first op.Add (atom (leaf_form.Glob f)) b = refl
  operated_first _ (atom (leaf_form.Extern p)) b = refl
  operated_first _ _ b = refl

  operated_second : (o : Op) (l : LeafForm) (b : Value C) → operated o (atom l) b ≡ by_leaf fails (λ m. operated o (atom l) (atom m)) (leaf_in b)
  operated_second op.Add (leaf_form.Int m) (atom (leaf_form.Glob f)) = refl
  operated_second op.Sub (leaf_form.Int m) (atom (leaf_form.Glob f)) = refl
  operated_second op.Mul (leaf_form.Int m) (atom (leaf_form.Glob f)) = refl
  operated_second op.EqInt (leaf_form.Int m) (atom (leaf_form.Glob f)) = refl
  operated_second op.Less (leaf_form.Int m) (atom (leaf_form.Glob f)) = refl
  operated_second op.Cat (leaf_form.Str m) (atom (leaf_form.Glob f)) = refl
  operated_second op.EqStr (leaf_form.Str m) (atom (leaf_form.Glob f)) = refl
  operated_second _ _ (atom (leaf_form.Extern p)) = refl
  operated_second _ _ _ = refl

  divided_first : (a b : Value C) → divided (join pair a b) ≡ by_leaf fails (λ l. divided (join pair (atom l) b)) (leaf_in a)
  divided_first (atom (leaf_form.Glob f)) b = refl
  divided_first (atom (leaf_form.Extern p)) b = refl
  divided_first _ b = refl

  divided_second : (l : LeafForm) (b : Value C) → divided (join pair (atom l) b) ≡ by_leaf fails (λ m. divided (join pair (atom l) (atom m))) (leaf_in b)
  divided_second (leaf_form.Int m) (atom (leaf_form.Glob f)) = refl
  divided_second _ (atom (leaf_form.Extern p)) = refl
  divided_second _ _ = refl

  -- the text that a form makes is all that its units depend on
  abbrev text_made : Made C → Option (List ℕ)
  text_made (makes_text t) = Some t
  text_made _ = None

  one_is : (f : UnaryForm) (m : Made C) → one_units f m ≡ one_by f (text_made m)
  one_is unary_form.StrOf (makes_text t) = refl
  one_is _ m = refl

  two_is : (f : BinaryForm) (m : Made C) → two_units f m ≡ two_by f (text_made m)
  two_is binary_form.Pair (makes_text t) = refl
  two_is _ (makes_text t) = refl
  two_is _ _ = refl

module _ (E : Setting) (B : Blocks) (L : List ℕ) where
  abbrev M : Made flat.Closure → Made cps.Closure → Type 0
  M = MadeReads E B L

  abbrev R : flat.Value → cps.Value → Type 0
  R = Reads E B L

  through : (x y : Made flat.Closure) (z w : Made cps.Closure) → x ≡ y → z ≡ w → M y w → M x z
  through x y z w p q r = subst (λ v. M v z) (sym p) (subst (M y) (sym q) r)

  firsts : (a : flat.Value) (c : cps.Value) → R a c → M (first_of a) (first_of c)
  firsts = by_heads E B L (λ a c. M (first_of a) (first_of c)) (λ f p. tt) (λ f a c r. tt) joins (λ i k σ y n c ρ r. tt) (λ i σ f e h. tt) (λ i σ p e h. tt)
    where
      joins : (f : Join) (a b : flat.Value) (c d : cps.Value) → R a c → R b d → M (first_of (join f a b)) (first_of (join f c d))
      joins pair a b c d r q = r
      joins cons a b c d r q = tt

  seconds : (a : flat.Value) (c : cps.Value) → R a c → M (second_of a) (second_of c)
  seconds = by_heads E B L (λ a c. M (second_of a) (second_of c)) (λ f p. tt) (λ f a c r. tt) joins (λ i k σ y n c ρ r. tt) (λ i σ f e h. tt) (λ i σ p e h. tt)
    where
      joins : (f : Join) (a b : flat.Value) (c d : cps.Value) → R a c → R b d → M (second_of (join f a b)) (second_of (join f c d))
      joins pair a b c d r q = q
      joins cons a b c d r q = tt

  texts : (a : flat.Value) (c : cps.Value) → R a c → M (text_of a) (text_of c)
  texts = by_heads E B L (λ a c. M (text_of a) (text_of c)) leaves (λ f a c r. tt) (λ f a b c d r q. tt) (λ i k σ y n c ρ r. tt) (λ i σ f e h. tt) (λ i σ p e h. tt)
    where
      leaves : (f : LeafForm) → IsPlain (constant f) → M (text_of (atom f)) (text_of (atom f))
      leaves (leaf_form.Int n) p = refl
      leaves _ p = tt

  same_choice : (b : Bool) (x y : flat.Value) (z w : cps.Value) → R x z → R y w → M (if b then gives x else gives y) (if b then gives z else gives w)
  same_choice true x y z w r q = r
  same_choice false x y z w r q = q

  quotients : (a : flat.Value) (c : cps.Value) → R a c → M (divided a) (divided c)
  quotients = by_heads E B L (λ a c. M (divided a) (divided c)) (λ f p. tt) (λ f a c r. tt) joins (λ i k σ y n c ρ r. tt) (λ i σ f e h. tt) (λ i σ p e h. tt)
    where
      leaves : (l m : LeafForm) → M (divided (join pair (atom l) (atom m))) (divided (join pair (atom l) (atom m)))
      leaves (leaf_form.Int m) (leaf_form.Int n) = same_choice (int_eq n (pos 0)) _ _ _ _ (refl, (refl, tt)) (refl, (refl, tt))
      leaves _ _ = tt

      second : (b : flat.Value) (d : cps.Value) → R b d → (l : LeafForm) → M (divided (join pair (atom l) b)) (divided (join pair (atom l) d))
      second b d q l = through _ _ _ _ (divided_second l b) (divided_second l d) (leaf_reads E B L M fails fails (λ m. divided (join pair (atom l) (atom m))) (λ m. divided (join pair (atom l) (atom m))) tt (leaves l) b d q)

      joins : (f : Join) (a b : flat.Value) (c d : cps.Value) → R a c → R b d → M (divided (join f a b)) (divided (join f c d))
      joins pair a b c d r q = through _ _ _ _ (divided_first a b) (divided_first c d) (leaf_reads E B L M fails fails (λ l. divided (join pair (atom l) b)) (λ l. divided (join pair (atom l) d)) tt (second b d q) a c r)
      joins cons a b c d r q = tt

  if_made : (b : Bool) (x : Made flat.Closure) (z : Made cps.Closure) → M x z → M (if b then x else fails) (if b then z else fails)
  if_made true x z r = r
  if_made false x z r = tt

  at_cells : (w : World) (f : ℕ → Made flat.Closure) (g : ℕ → Made cps.Closure) → ((n : ℕ) → M (f n) (g n)) → (a : flat.Value) (c : cps.Value) → R a c → M (at_cell w f a) (at_cell w g c)
  at_cells w f g h = by_heads E B L (λ a c. M (at_cell w f a) (at_cell w g c)) leaves (λ k a c r. tt) (λ k a b c d r q. tt) (λ i k σ y n c ρ r. tt) (λ i σ n e r. tt) (λ i σ p e r. tt)
    where
      leaves : (k : LeafForm) → IsPlain (constant k) → M (at_cell w f (atom k)) (at_cell w g (atom k))
      leaves (leaf_form.CellAt v n) p = if_made (same_world v w) (f n) (g n) (h n)
      leaves _ p = tt

  pub ones : (w : World) (f : UnaryForm) (a : flat.Value) (c : cps.Value) → R a c → M (made_by_one w f a) (made_by_one w f c)
  ones w unary_form.Fst a c r = firsts a c r
  ones w unary_form.Snd a c r = seconds a c r
  ones w unary_form.StrOf a c r = texts a c r
  ones w unary_form.Div a c r = quotients a c r
  ones w unary_form.NewCell a c r = r
  ones w unary_form.Load a c r = at_cells w loads loads (λ n. refl) a c r
  ones w unary_form.Hold a c r = (refl, r)
  ones w unary_form.Sham a c r = (refl, r)
  ones w (unary_form.Inl T) a c r = (refl, r)
  ones w (unary_form.Inr T) a c r = (refl, r)
  ones w _ a c r = tt

  leaves_operated : (o : Op) (l m : LeafForm) → M (operated o (atom l) (atom m)) (operated o (atom l) (atom m))
  leaves_operated op.Add (leaf_form.Int m) (leaf_form.Int n) = (refl, tt)
  leaves_operated op.Sub (leaf_form.Int m) (leaf_form.Int n) = (refl, tt)
  leaves_operated op.Mul (leaf_form.Int m) (leaf_form.Int n) = (refl, tt)
  leaves_operated op.EqInt (leaf_form.Int m) (leaf_form.Int n) = (refl, tt)
  leaves_operated op.Less (leaf_form.Int m) (leaf_form.Int n) = (refl, tt)
  leaves_operated op.Cat (leaf_form.Str m) (leaf_form.Str n) = refl
  leaves_operated op.EqStr (leaf_form.Str m) (leaf_form.Str n) = (refl, tt)
  leaves_operated _ _ _ = tt

  operations : (o : Op) (a b : flat.Value) (c d : cps.Value) → R a c → R b d → M (operated o a b) (operated o c d)
  operations o a b c d r q = through _ _ _ _ (operated_first o a b) (operated_first o c d) (leaf_reads E B L M fails fails (λ l. operated o (atom l) b) (λ l. operated o (atom l) d) tt second a c r)
    where
      second : (l : LeafForm) → M (operated o (atom l) b) (operated o (atom l) d)
      second l = through _ _ _ _ (operated_second o l b) (operated_second o l d) (leaf_reads E B L M fails fails (λ m. operated o (atom l) (atom m)) (λ m. operated o (atom l) (atom m)) tt (leaves_operated o l) b d q)

  pub twos : (w : World) (f : BinaryForm) (a b : flat.Value) (c d : cps.Value) → R a c → R b d → M (made_by_two w f a b) (made_by_two w f c d)
  twos w binary_form.Pair a b c d r q = (refl, r, q)
  twos w binary_form.Cons a b c d r q = (refl, r, q)
  twos w binary_form.Store a b c d r q = at_cells w (λ n. stores n b) (λ n. stores n d) (λ n. (refl, q)) a c r
  twos w (binary_form.Binary o) a b c d r q = operations o a b c d r q
  twos w _ a b c d r q = tt

  same_text : (m : Made flat.Closure) (k : Made cps.Closure) → M m k → text_made m ≡ text_made k
  same_text = by_made E B L (λ m k. text_made m ≡ text_made k) (λ a c e. refl) (λ t. refl) (λ a c e. refl) (λ n. refl) (λ n a c e. refl) refl

  one_same : (f : UnaryForm) (m : Made flat.Closure) (k : Made cps.Closure) → M m k → one_units f m ≡ one_units f k
  one_same f m k r = one_is f m ∙ ap (one_by f) (same_text m k r) ∙ sym (one_is f k)

  two_same : (f : BinaryForm) (m : Made flat.Closure) (k : Made cps.Closure) → M m k → two_units f m ≡ two_units f k
  two_same f m k r = two_is f m ∙ ap (two_by f) (same_text m k r) ∙ sym (two_is f k)

  abbrev pub GoesWith : (flat.Site → flat.Value → Ran flat.Closure) → (cps.Site → cps.Value → Ran cps.Closure) → Type 0
  GoesWith f g = (t : flat.Site) (s : cps.Site) (a : flat.Value) (c : cps.Value) → ReadsSite E B L t s → R a c → RanReads E B L (f t a) (g s c)

  -- with other cells
  new_cells : (t : flat.Site) (s : cps.Site) (xs : List flat.Value) (ys : List cps.Value) → ReadsSite E B L t s → AllZip R xs ys → ReadsSite E B L (record t { cells = xs }) (record s { cells = ys })
  new_cells t s xs ys h r = record { threads = h.threads; cells = r; handlers = h.handlers; entered = h.entered; units = h.units; stopped = h.stopped }

  module _ (u : World) (f : flat.Site → flat.Value → Ran flat.Closure) (g : cps.Site → cps.Value → Ran cps.Closure) (go : GoesWith f g) where
    deeds : (t : flat.Site) (s : cps.Site) → ReadsSite E B L t s → (m : Made flat.Closure) (k : Made cps.Closure) → M m k → RanReads E B L (did u t m f) (did u s k g)
    deeds t s h = by_made E B L (λ m k. RanReads E B L (did u t m f) (did u s k g)) (λ a c r. go t s a c h r) (λ y. go t s (text_value y) (text_value y) h (refl, tt)) cells load stores_too tt
      where
        cells : (a : flat.Value) (c : cps.Value) → R a c → RanReads E B L (did u t (makes_cell a) f) (did u s (makes_cell c) g)
        cells a c r = if_reads E B L (is_full t.cells) (is_full s.cells) _ _ _ _ (ap (nat_le 4096) (same_length _ _ _ h.cells)) (stops_reads E B L t s h) (go _ _ _ _ (new_cells t s _ _ h (append_reads R t.cells s.cells (a ∷ []) (c ∷ []) h.cells (r, tt))) (ap (leaf_form.CellAt u) (same_length _ _ _ h.cells), tt))

        load_of : (x : Option flat.Value) (y : Option cps.Value) → OptionReads R x y → RanReads E B L (loaded t f x) (loaded s g y)
        load_of None None r = tt
        load_of None (Some c) r = absurd r
        load_of (Some a) None r = absurd r
        load_of (Some a) (Some c) r = go t s a c h r

        load : (n : ℕ) → RanReads E B L (did u t (loads n) f) (did u s (loads n) g)
        load n = load_of (slice_get t.cells n) (slice_get s.cells n) (get_reads R t.cells s.cells n h.cells)

        store_of : (n : ℕ) (a : flat.Value) (c : cps.Value) (x : Option flat.Value) (y : Option cps.Value) → R a c → OptionReads R x y → RanReads E B L (stored t f n a x) (stored s g n c y)
        store_of n a c None None e r = tt
        store_of n a c None (Some d) e r = absurd r
        store_of n a c (Some b) None e r = absurd r
        store_of n a c (Some b) (Some d) e r = go _ _ _ _ (new_cells t s _ _ h (set_reads R t.cells s.cells n a c h.cells e)) (refl, tt)

        stores_too : (n : ℕ) (a : flat.Value) (c : cps.Value) → R a c → RanReads E B L (did u t (stores n a) f) (did u s (stores n c) g)
        stores_too n a c r = store_of n a c (slice_get t.cells n) (slice_get s.cells n) r (get_reads R t.cells s.cells n h.cells)

    deeds_taking : (t : flat.Site) (s : cps.Site) (c d : ℕ) → ReadsSite E B L t s → c ≡ d → (m : Made flat.Closure) (k : Made cps.Closure) → M m k → RanReads E B L (did_taking u t c m f) (did_taking u s d k g)
    deeds_taking t s c d h e m k r = taking_some_reads E B L c d t s (λ t1. did u t1 m f) (λ s1. did u s1 k g) e h (λ t1 s1 h1. deeds t1 s1 h1 m k r)

    opens_held : (t : flat.Site) (s : cps.Site) → ReadsSite E B L t s → (a : flat.Value) (c : cps.Value) → R a c → RanReads E B L (opened_held a (f t)) (opened_held c (g s))
    opens_held t s h = by_heads E B L (λ a c. RanReads E B L (opened_held a (f t)) (opened_held c (g s))) (λ k p. tt) wraps (λ k a b c d r q. tt) (λ i k σ y n c ρ r. tt) (λ i σ n e r. tt) (λ i σ p e r. tt)
      where
        wraps : (k : Wrap) (a : flat.Value) (c : cps.Value) → R a c → RanReads E B L (opened_held (wrap k a) (f t)) (opened_held (wrap k c) (g s))
        wraps (held w) a c r = go t s a c h r
        wraps _ a c r = tt

    opens_sham : (t : flat.Site) (s : cps.Site) → ReadsSite E B L t s → (a : flat.Value) (c : cps.Value) → R a c → RanReads E B L (opened_sham a (f t)) (opened_sham c (g s))
    opens_sham t s h = by_heads E B L (λ a c. RanReads E B L (opened_sham a (f t)) (opened_sham c (g s))) (λ k p. tt) wraps (λ k a b c d r q. tt) (λ i k σ y n c ρ r. tt) (λ i σ n e r. tt) (λ i σ p e r. tt)
      where
        wraps : (k : Wrap) (a : flat.Value) (c : cps.Value) → R a c → RanReads E B L (opened_sham (wrap k a) (f t)) (opened_sham (wrap k c) (g s))
        wraps sham a c r = go t s a c h r
        wraps _ a c r = tt

    spawns : (t : flat.Site) (s : cps.Site) → ReadsSite E B L t s → (a : flat.Value) (c : cps.Value) → R a c → RanReads E B L (spawned t a f) (spawned s c g)
    spawns t s h a c r = if_reads E B L (nat_le 4096 (suc (length t.threads))) (nat_le 4096 (suc (length s.threads))) _ _ _ _ (ap (λ j. nat_le 4096 (suc j)) (same_length _ _ _ h.threads)) (stops_reads E B L t s h)
        (go _ _ unit_value unit_value (record { threads = append_reads (ReadsThread E B L) t.threads s.threads (enter a unit_value ∷ []) (enter c unit_value ∷ []) h.threads ((r, (refl, tt)), tt); cells = h.cells; handlers = h.handlers; entered = h.entered; units = h.units; stopped = h.stopped }) (refl, tt))

    constants : (l : LeafForm) → IsPlain (constant l) → R (constant_value u l) (constant_value u l)
    constants (leaf_form.Glob n) p = absurd p
    constants (leaf_form.Extern n) p = absurd p
    constants leaf_form.Here p = (refl, tt)
    constants _ p = (refl, tt)

    -- a straight form over other slots, of which those that it uses are read back
    pub performs : (r : ℕ → ℕ) (σ : ℕ → flat.Value) (ρ : ℕ → cps.Value) (t : flat.Site) (s : cps.Site) (k : Straight) → IsPlain k → ((x : ℕ) → IsTrue (straight_uses k x) → R (σ (r x)) (ρ x)) → ReadsSite E B L t s → RanReads E B L (performed u (straight_anew r k) σ t f) (performed u k ρ s g)
    performs r σ ρ t s (constant l) p v h = taking_some_reads E B L (leaf_units l) (leaf_units l) t s (λ t1. f t1 (constant_value u l)) (λ s1. g s1 (constant_value u l)) refl h (λ t1 s1 h1. go t1 s1 (constant_value u l) (constant_value u l) h1 (constants l p))
    performs r σ ρ t s (one k x) p v h = let m = ones u k (σ (r x)) (ρ x) (v x (itself x)) in deeds_taking t s _ _ h (one_same k _ _ m) _ _ m
    performs r σ ρ t s (two k x y) p v h =
        let m = twos u k (σ (r x)) (σ (r y)) (ρ x) (ρ y) (v x (or_left (x == x) (x == y) (itself x))) (v y (or_right (y == x) (y == y) (itself y))) in deeds_taking t s _ _ h (two_same k _ _ m) _ _ m
    performs r σ ρ t s (unheld x) p v h = opens_held t s h (σ (r x)) (ρ x) (v x (itself x))
    performs r σ ρ t s (unsham x) p v h = opens_sham t s h (σ (r x)) (ρ x) (v x (itself x))
    performs r σ ρ t s (spawn x) p v h = spawns t s h (σ (r x)) (ρ x) (v x (itself x))
