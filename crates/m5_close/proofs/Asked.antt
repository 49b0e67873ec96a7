-- How a block ends, and which way a test goes, on values that are read back.
use Rattle.std.proofs.Common.{◌≡◌, ℕ, ◌+◌, List, [], ◌∷◌, length, true, false, IsTrue, nat_le, ◌==◌, ◌||◌, refl, sym, ap, subst}
use Rattle.std.specs.List.{AllZip}
use Rattle.m5_terms.specs.TypeExpression as type
use Rattle.m5_terms.specs.TypeExpression.{same_world}
use Rattle.m5_terms.specs.Machine.{wrong}
use Rattle.m5_terms.specs.Related.{AskReads}
use Rattle.m5_terms.specs.declared.ask.AskOf.{AskOf}
use Rattle.m5_terms.specs.declared.ask.AskOf.TheVariants as query
use Rattle.m5_terms.specs.declared.types.World.{World}
use Rattle.m5_terms.specs.declared.types.Primitive.{Primitive}
use Rattle.m5_terms.specs.declared.types.Primitive.TheVariants as primitive
use Rattle.m5_terms.specs.declared.form.LeafForm.{LeafForm}
use Rattle.m5_terms.specs.declared.form.LeafForm.TheVariants as leaf_form
use Rattle.m5_meaning.specs.Reduction.{unit_or}
use Rattle.m5_meaning.specs.Step.{is_full}
use Rattle.m5_typing.specs.Context.{Setting}
use Rattle.m5_cps.specs.Blocks.{constant, Test, if_true, if_left, if_nil, if_here, Ending, go, call, ask, send, done}
use Rattle.m5_cps.specs.Limits.{parts_then, parts_else}
use Rattle.m5_cps.specs.Values.{Wrap, left, right, Join, pair, cons, Value, atom, wrap, join, closed, enter, thread, unit_value, text_value, Site}
use Rattle.m5_cps.specs.Values as value
use Rattle.m5_cps.specs.Units.{text_units, array_units}
use Rattle.m5_cps.specs.Deeds.{Ran, ends, taking, tested}
use Rattle.m5_cps.specs.Asks.{after_done, after_sent, after_get_text, after_read, adds_handler, asked, sent, goes_on, calls}
use Rattle.m5_cps.specs.Asks as cps_asks
use Rattle.m5_cps.specs.Captured.{over, ending_uses}
use Rattle.m5_cps.specs.Captured as cps
use Rattle.m5_flat.specs.Blocks.{Blocks}
use Rattle.m5_flat.specs.Values.{under}
use Rattle.m5_flat.specs.Values as flat
use Rattle.m5_flat.specs.Running.{primitive_of, asks_or_calls}
use Rattle.m5_flat.specs.Running as flat_running
use Rattle.m5_flat.specs.Fits.{IsPlain}
use Rattle.m5_close.specs.Close.{ending_anew}
use Rattle.m5_close.specs.Reading.{Reads, ReadsThread, ReadsItem, ReadsSite}
use Rattle.m5_close.proofs.Slots.{or_left, or_right, itself}
use Rattle.m5_close.proofs.Heads.{leaf_in, by_leaf, by_shape, OptionReads, Resumes, RanReads, by_heads, by_answers, leaf_reads, shape_reads, if_reads, more_units, with_front, taking_reads, stops_reads, same_length, append_reads}

-- a primitive sees of its argument a leaf, or a pair of which the first part is one
module _ {C : Type 0} (s : Site C) (k : Value C) where
  asked_is : (p : Primitive) (a : Value C) → asked s k p a ≡ by_shape (ends wrong) (λ l. asked s k p (atom l)) (λ b c. asked s k p (join pair b c)) a
  asked_is primitive.Say (atom (leaf_form.Glob f)) = refl
  asked_is _ (atom (leaf_form.Extern f)) = refl
  asked_is _ (join pair b c) = refl
  asked_is _ _ = refl

  asked_first : (p : Primitive) (b c : Value C) → asked s k p (join pair b c) ≡ by_leaf (ends wrong) (λ l. asked s k p (join pair (atom l) c)) (leaf_in b)
  asked_first primitive.Say (atom (leaf_form.Glob f)) c = refl
  asked_first _ (atom (leaf_form.Extern f)) c = refl
  asked_first _ _ c = refl

  set_second : (e : List ℕ) (c : Value C) → asked s k primitive.SetText (join pair (text_value e) c) ≡ by_leaf (ends wrong) (λ m. asked s k primitive.SetText (join pair (text_value e) (atom m))) (leaf_in c)
  set_second e (atom (leaf_form.Glob f)) = refl
  set_second e (atom (leaf_form.Extern f)) = refl
  set_second e _ = refl

  write_second : (e : List ℕ) (c : Value C) → asked s k primitive.Write (join pair (text_value e) c) ≡ by_leaf (ends wrong) (λ m. asked s k primitive.Write (join pair (text_value e) (atom m))) (leaf_in c)
  write_second e (atom (leaf_form.Glob f)) = refl
  write_second e (atom (leaf_form.Extern f)) = refl
  write_second e _ = refl

module _ (E : Setting) (B : Blocks) (L : List ℕ) where
  abbrev R : flat.Value → cps.Value → Type 0
  R = Reads E B L

  abbrev G : Ran flat.Closure → Ran cps.Closure → Type 0
  G = RanReads E B L

  through : (x y : Ran flat.Closure) (z w : Ran cps.Closure) → x ≡ y → z ≡ w → G y w → G x z
  through x y z w p q r = subst (λ v. G v z) (sym p) (subst (G y) (sym q) r)

  done_resumes : (t : flat.Site) (s : cps.Site) (th : flat.Thread) (ti : cps.Thread) → ReadsSite E B L t s → ReadsThread E B L th ti → Resumes E B L (after_done t th) (after_done s ti)
  done_resumes t s th ti h r = by_answers E B L (λ b c. OptionReads (ReadsSite E B L) (after_done t th b) (after_done s ti c)) (with_front E B L th ti t s h r) (λ y. tt) tt (λ v i j q. tt) (λ y n z. tt) (λ y n z. tt) tt

  sent_resumes : (t : flat.Site) (s : cps.Site) → ReadsSite E B L t s → Resumes E B L (after_sent t) (after_sent s)
  sent_resumes t s h = by_answers E B L (λ b c. OptionReads (ReadsSite E B L) (after_sent t b) (after_sent s c)) h (λ y. tt) tt (λ v i j q. tt) (λ y n z. tt) (λ y n z. tt) tt

  -- an answer's objects
  answers_reads : (t : flat.Site) (s : cps.Site) (c : ℕ) (k a : flat.Value) (l d : cps.Value) → ReadsSite E B L t s → R k l → R a d → ReadsSite E B L (record t { threads = enter k a ∷ t.threads; units = t.units + c }) (record s { threads = enter l d ∷ s.threads; units = s.units + c })
  answers_reads t s c k a l d h r q = more_units E B L _ _ c c (with_front E B L (enter k a) (enter l d) t s h (r, q)) refl

  text_resumes : (t : flat.Site) (s : cps.Site) (k : flat.Value) (l : cps.Value) → ReadsSite E B L t s → R k l → Resumes E B L (after_get_text t k) (after_get_text s l)
  text_resumes t s k l h r = by_answers E B L (λ b c. OptionReads (ReadsSite E B L) (after_get_text t k b) (after_get_text s l c)) tt (λ y. answers_reads t s (text_units (length y)) k (text_value y) l (text_value y) h r (refl, tt)) tt (λ v i j q. tt) (λ y n z. tt) (λ y n z. tt) tt

  read_resumes : (t : flat.Site) (s : cps.Site) (k : flat.Value) (l : cps.Value) → ReadsSite E B L t s → R k l → Resumes E B L (after_read t k) (after_read s l)
  read_resumes t s k l h r = by_answers E B L (λ b c. OptionReads (ReadsSite E B L) (after_read t k b) (after_read s l c)) tt
      (λ y. answers_reads t s (text_units (length y) + 3) k (wrap (right (unit_or type.string)) (text_value y)) l (wrap (right (unit_or type.string)) (text_value y)) h r (refl, (refl, tt)))
      (answers_reads t s 3 k (wrap (left (unit_or type.string)) unit_value) l (wrap (left (unit_or type.string)) unit_value) h r (refl, (refl, tt))) (λ v i j q. tt) (λ y n z. tt) (λ y n z. tt) tt

  -- an ask that names the new handler
  adds : (t : flat.Site) (s : cps.Site) (q : ℕ → AskOf flat.Item) (r : ℕ → AskOf cps.Item) (a : flat.Value) (c : cps.Value) (k : flat.Value) (l : cps.Value) → ReadsSite E B L t s → ((n : ℕ) → AskReads (λ v i j. ReadsItem E B L i j) (q n) (r n)) → R a c → R k l → G (adds_handler t q a k) (adds_handler s r c l)
  adds t s q r a c k l h nm e o = if_reads E B L (is_full t.handlers) (is_full s.handlers) _ _ _ _ (ap (nat_le 4096) (same_length _ _ _ h.handlers)) (stops_reads E B L t s h)
      (subst (λ z. AskReads (λ v i j. ReadsItem E B L i j) (q (length t.handlers)) (r z)) (same_length _ _ _ h.handlers) (nm (length t.handlers)), done_resumes _ _ (enter k unit_value) (enter l unit_value) (record { threads = h.threads; cells = h.cells; handlers = append_reads R t.handlers s.handlers (a ∷ []) (c ∷ []) h.handlers (e, tt); entered = h.entered; units = h.units; stopped = h.stopped }) (o, (refl, tt)))

  module _ (t : flat.Site) (s : cps.Site) (k : flat.Value) (l : cps.Value) (h : ReadsSite E B L t s) (o : R k l) where
    unit_resumes : Resumes E B L (after_done t (enter k unit_value)) (after_done s (enter l unit_value))
    unit_resumes = done_resumes t s (enter k unit_value) (enter l unit_value) h (o, (refl, tt))

    leaf_asked : (p : Primitive) (f : LeafForm) → G (asked t k p (atom f)) (asked s l p (atom f))
    leaf_asked primitive.Say (leaf_form.Str y) = (refl, unit_resumes)
    leaf_asked primitive.Show (leaf_form.Str y) = (refl, unit_resumes)
    leaf_asked primitive.GetText (leaf_form.Str y) = (refl, text_resumes t s k l h o)
    leaf_asked primitive.Read (leaf_form.Str y) = (refl, read_resumes t s k l h o)
    leaf_asked _ _ = tt

    -- two texts
    set_leaves : (e : List ℕ) (m : LeafForm) → G (asked t k primitive.SetText (join pair (text_value e) (atom m))) (asked s l primitive.SetText (join pair (text_value e) (atom m)))
    set_leaves e (leaf_form.Str y) = (refl, unit_resumes)
    set_leaves e _ = tt

    write_leaves : (e : List ℕ) (m : LeafForm) → G (asked t k primitive.Write (join pair (text_value e) (atom m))) (asked s l primitive.Write (join pair (text_value e) (atom m)))
    write_leaves e (leaf_form.Str y) = (refl, unit_resumes)
    write_leaves e _ = tt

    -- a leaf, and a text or a handler
    first_asked : (p : Primitive) (f : LeafForm) (b : flat.Value) (d : cps.Value) → R b d → G (asked t k p (join pair (atom f) b)) (asked s l p (join pair (atom f) d))
    first_asked primitive.On (leaf_form.Str e) b d q = adds t s (query.On e) (query.On e) b d k l h (λ n. refl) q o
    first_asked primitive.Watch (leaf_form.Str e) b d q = adds t s (query.Watch e) (query.Watch e) b d k l h (λ n. refl) q o
    first_asked primitive.SetText (leaf_form.Str e) b d q =
        through _ _ _ _ (set_second t k e b) (set_second s l e d) (leaf_reads E B L G (ends wrong) (ends wrong) (λ m. asked t k primitive.SetText (join pair (text_value e) (atom m))) (λ m. asked s l primitive.SetText (join pair (text_value e) (atom m))) tt (set_leaves e) b d q)
    first_asked primitive.Write (leaf_form.Str e) b d q =
        through _ _ _ _ (write_second t k e b) (write_second s l e d) (leaf_reads E B L G (ends wrong) (ends wrong) (λ m. asked t k primitive.Write (join pair (text_value e) (atom m))) (λ m. asked s l primitive.Write (join pair (text_value e) (atom m))) tt (write_leaves e) b d q)
    first_asked _ _ b d q = tt

    pair_asked : (p : Primitive) (a b : flat.Value) (c d : cps.Value) → R a c → R b d → G (asked t k p (join pair a b)) (asked s l p (join pair c d))
    pair_asked p a b c d r q = through _ _ _ _ (asked_first t k p a b) (asked_first s l p c d) (leaf_reads E B L G (ends wrong) (ends wrong) (λ f. asked t k p (join pair (atom f) b)) (λ f. asked s l p (join pair (atom f) d)) tt (λ f. first_asked p f b d q) a c r)

    pub asked_reads : (p : Primitive) (a : flat.Value) (c : cps.Value) → R a c → G (asked t k p a) (asked s l p c)
    asked_reads p a c r = through _ _ _ _ (asked_is t k p a) (asked_is s l p c) (shape_reads E B L G (ends wrong) (ends wrong) (λ f. asked t k p (atom f)) (λ f. asked s l p (atom f)) (λ b e. asked t k p (join pair b e)) (λ b e. asked s l p (join pair b e)) tt (leaf_asked p) (pair_asked p) a c r)

  sends_reads : (t : flat.Site) (s : cps.Site) (th : flat.Thread) (ti : cps.Thread) → ReadsSite E B L t s → ReadsThread E B L th ti → (a : flat.Value) (c : cps.Value) → R a c → G (sent t a th) (sent s c ti)
  sends_reads t s th ti h r = by_heads E B L (λ a c. G (sent t a th) (sent s c ti)) leaves (λ f a c q. tt) (λ f a b c d q e. tt) (λ i k σ y n c ρ q. tt) (λ i σ f e q. tt) (λ i σ p e q. tt)
    where
      leaves : (f : LeafForm) → IsPlain (constant f) → G (sent t (atom f) th) (sent s (atom f) ti)
      leaves (leaf_form.Addr v) p = ((thread ti, r, refl), sent_resumes t s h)
      leaves _ p = tt

  -- a primitive's label asks, and what else is called takes the array of the call
  calls_reads : (x : flat.Value) (y : cps.Value) (k : flat.Value) (l : cps.Value) (t : flat.Site) (s : cps.Site) → R x y → R k l → ReadsSite E B L t s → (a : flat.Value) (c : cps.Value) → R a c → G (asks_or_calls (primitive_of B a) a x k t) (calls c y l s)
  calls_reads x y k l t s r q h = by_heads E B L (λ a c. G (asks_or_calls (primitive_of B a) a x k t) (calls c y l s)) leaves (λ f a c z. called (wrap f a) (wrap f c) (refl, z)) (λ f a b c d z w. called (join f a b) (join f c d) (refl, z, w))
      (λ i j σ z n c ρ e. subst (λ o. G (asks_or_calls o (closed (under i j) σ) x k t) (calls (closed (over z n c) ρ) y l s)) (sym e.0.1.2) (called (closed (under i j) σ) (closed (over z n c) ρ) e))
      (λ i σ f e z. subst (λ o. G (asks_or_calls o (closed (under i 0) σ) x k t) (calls (atom (leaf_form.Glob f)) y l s)) (sym z.1) (called (closed (under i 0) σ) (atom (leaf_form.Glob f)) (z, refl, e)))
      (λ i σ p e z. subst (λ o. G (asks_or_calls o (closed (under i 0) σ) x k t) (asked s l p y)) (sym z.1) (asked_reads t s k l h q p x y r))
    where
      called : (a : flat.Value) (c : cps.Value) → R a c → G (taking array_units t (λ s1. goes_on s1 (value.call a x k))) (taking array_units s (λ s1. goes_on s1 (value.call c y l)))
      called a c e = taking_reads E B L array_units array_units t s (λ s1. goes_on s1 (value.call a x k)) (λ s1. goes_on s1 (value.call c y l)) refl h (λ t1 s1 h1. with_front E B L (value.call a x k) (value.call c y l) t1 s1 h1 (e, r, q))

      leaves : (f : LeafForm) → IsPlain (constant f) → G (asks_or_calls (primitive_of B (atom f)) (atom f) x k t) (calls (atom f) y l s)
      leaves (leaf_form.Glob f) p = absurd p
      leaves (leaf_form.Extern f) p = absurd p
      leaves f p = called (atom f) (atom f) (refl, tt)

  -- an ending over other slots, of which those that it uses are read back
  pub ended_reads : (r : ℕ → ℕ) (σ : ℕ → flat.Value) (ρ : ℕ → cps.Value) (t : flat.Site) (s : cps.Site) (e : Ending) → ((x : ℕ) → IsTrue (ending_uses e x) → R (σ (r x)) (ρ x)) → ReadsSite E B L t s → G (flat_running.ended B (ending_anew r e) σ t) (cps_asks.ended e ρ s)
  ended_reads r σ ρ t s (go k x) v h = with_front E B L (enter (σ (r k)) (σ (r x))) (enter (ρ k) (ρ x)) t s h (v k (or_left (k == k) (k == x) (itself k)), v x (or_right (x == k) (x == x) (itself x)))
  ended_reads r σ ρ t s (call f x k) v h = calls_reads (σ (r x)) (ρ x) (σ (r k)) (ρ k) t s (v x (or_right (x == f) (x == x || x == k) (or_left (x == x) (x == k) (itself x)))) (v k (or_right (k == f) (k == x || k == k) (or_right (k == x) (k == k) (itself k)))) h (σ (r f)) (ρ f) (v f (or_left (f == f) (f == x || f == k) (itself f)))
  ended_reads r σ ρ t s (ask p x k) v h = asked_reads t s (σ (r k)) (ρ k) h (v k (or_right (k == x) (k == k) (itself k))) p (σ (r x)) (ρ x) (v x (or_left (x == x) (x == k) (itself x)))
  ended_reads r σ ρ t s (send a k x) v h = sends_reads t s (enter (σ (r k)) (σ (r x))) (enter (ρ k) (ρ x)) h (v k (or_right (k == a) (k == k || k == x) (or_left (k == k) (k == x) (itself k))), v x (or_right (x == a) (x == k || x == x) (or_right (x == k) (x == x) (itself x)))) (σ (r a)) (ρ a) (v a (or_left (a == a) (a == k || a == x) (itself a)))
  ended_reads r σ ρ t s done v h = h

  -- so many parts that are read back
  abbrev pub Both : ℕ → (List flat.Value → Ran flat.Closure) → (List cps.Value → Ran cps.Closure) → Type 0
  Both n f g = (xs : List flat.Value) (ys : List cps.Value) → length xs ≡ n → AllZip R xs ys → G (f xs) (g ys)

  -- either way of a test
  pub tests : (u : World) (e : Test) (f g : List flat.Value → Ran flat.Closure) (p q : List cps.Value → Ran cps.Closure) → Both (parts_then e) f p → Both (parts_else e) g q → (a : flat.Value) (c : cps.Value) → R a c → G (tested u e a f g) (tested u e c p q)
  tests u if_true f g p q h r = by_heads E B L (λ a c. G (tested u if_true a f g) (tested u if_true c p q)) leaves (λ k a c e. tt) (λ k a b c d e z. tt) (λ i k σ y n c ρ e. tt) (λ i σ n e z. tt) (λ i σ n e z. tt)
    where
      leaves : (k : LeafForm) → IsPlain (constant k) → G (tested u if_true (atom k) f g) (tested u if_true (atom k) p q)
      leaves (leaf_form.Bool true) i = h [] [] refl tt
      leaves (leaf_form.Bool false) i = r [] [] refl tt
      leaves _ i = tt
  tests u if_here f g p q h r = by_heads E B L (λ a c. G (tested u if_here a f g) (tested u if_here c p q)) leaves (λ k a c e. tt) (λ k a b c d e z. tt) (λ i k σ y n c ρ e. tt) (λ i σ n e z. tt) (λ i σ n e z. tt)
    where
      leaves : (k : LeafForm) → IsPlain (constant k) → G (tested u if_here (atom k) f g) (tested u if_here (atom k) p q)
      leaves (leaf_form.Addr v) i = if_reads E B L (same_world v u) (same_world v u) _ _ _ _ refl (h [] [] refl tt) (r [] [] refl tt)
      leaves _ i = tt
  tests u if_left f g p q h r = by_heads E B L (λ a c. G (tested u if_left a f g) (tested u if_left c p q)) (λ k i. tt) wraps (λ k a b c d e z. tt) (λ i k σ y n c ρ e. tt) (λ i σ n e z. tt) (λ i σ n e z. tt)
    where
      wraps : (k : Wrap) (a : flat.Value) (c : cps.Value) → R a c → G (tested u if_left (wrap k a) f g) (tested u if_left (wrap k c) p q)
      wraps (left T) a c e = h (a ∷ []) (c ∷ []) refl (e, tt)
      wraps (right T) a c e = r (a ∷ []) (c ∷ []) refl (e, tt)
      wraps _ a c e = tt
  tests u if_nil f g p q h r = by_heads E B L (λ a c. G (tested u if_nil a f g) (tested u if_nil c p q)) leaves (λ k a c e. tt) joins (λ i k σ y n c ρ e. tt) (λ i σ n e z. tt) (λ i σ n e z. tt)
    where
      leaves : (k : LeafForm) → IsPlain (constant k) → G (tested u if_nil (atom k) f g) (tested u if_nil (atom k) p q)
      leaves (leaf_form.Nil A) i = h [] [] refl tt
      leaves _ i = tt

      joins : (k : Join) (a b : flat.Value) (c d : cps.Value) → R a c → R b d → G (tested u if_nil (join k a b) f g) (tested u if_nil (join k c d) p q)
      joins cons a b c d e z = r (a ∷ b ∷ []) (c ∷ d ∷ []) refl (e, (z, tt))
      joins _ a b c d e z = tt
