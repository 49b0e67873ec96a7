-- A closed value form in the place of a variable.
use Rattle.std.proofs.Common.{if◌then◌else◌, ◌≡◌, ℕ, Bool, true, false, IsTrue, ◌==◌, ◌||◌, ◌&&◌, Option, Some, None, List, [], ◌∷◌, refl, sym, subst, arith}
use Rattle.std.proofs.lemmas.Bool.{eqb-true}
use Rattle.std.proofs.lemmas.Bool.Decides.{nat_tests}
use Rattle.m5_terms.specs.Expression.{Expression, leaf, unary, binary, ternary}
use Rattle.m5_terms.specs.TypeExpression.{TypeExpression}
use Rattle.m5_terms.specs.Substitution.{unary_binders, binary_binders, second_binders, third_binders, among, substituted, substituted_leaf, unless}
use Rattle.m5_terms.specs.declared.types.World.{World}
use Rattle.m5_terms.specs.declared.form.LeafForm.{LeafForm}
use Rattle.m5_terms.specs.declared.form.LeafForm.TheVariants as leaf_form
use Rattle.m5_terms.specs.declared.form.UnaryForm.{UnaryForm}
use Rattle.m5_terms.specs.declared.form.UnaryForm.TheVariants as unary_form
use Rattle.m5_terms.specs.declared.form.BinaryForm.{BinaryForm}
use Rattle.m5_terms.specs.declared.form.BinaryForm.TheVariants as binary_form
use Rattle.m5_typing.specs.Value.{is_value, is_value_form, leaf_is_value, leaf_is_value_form, unary_is_value, binary_is_value}
use Rattle.m5_typing.specs.Context.{Bound, local, valid, Context, Setting, nothing, with, with_all, if_valid}
use Rattle.m5_typing.specs.Rules.{IsSmall, LeafRule, Pick, unary_rule, binary_rule, ternary_rule}
use Rattle.m5_typing.specs.Typing.{Typed, part_context}
use Rattle.m5_typing.specs.Laws.{Includes, Suits, Substitution}
use Rattle.m5_typing.proofs.Weaken.{if_either, with-includes, weaker, closed}

abbrev pub After : Bool → Setting → Expression → Option Bound → Bound → Type 0
After true E v now b = Suits E v b
After false E v now b = now ≡ Some b

-- H knows what G knows, but for x, for which v may stand
abbrev pub Fills : Setting → ℕ → Expression → Context → Context → Type 0
Fills E x v G H = (y : ℕ) (b : Bound) → G y ≡ Some b → After (y == x) E v (H y) b

abbrev Except : ℕ → Context → Context → Type 0
Except x G H = (y : ℕ) (b : Bound) → G y ≡ Some b → y == x ≡ false → H y ≡ Some b

fills-except : (E : Setting) (x : ℕ) (v : Expression) (G H : Context) → Fills E x v G H → Except x G H
fills-except E x v G H h = λ y b e n. subst (λ t. After t E v (H y) b) n (h y b e)

except-with : (x z : ℕ) (o : Option Bound) (G H : Context) → Except x G H → Except x (with z o G) (with z o H)
except-with x z o G H h = λ y b e n. if_either (y == z) o (G y) (H y) b (λ p. h y b p n) e

hidden : (t s : Bool) (o p q : Option Bound) (b : Bound) → (t ≡ false → s ≡ false) → (p ≡ Some b → s ≡ false → q ≡ Some b) → (if t then o else p) ≡ Some b → (if t then o else q) ≡ Some b
hidden true s o p q b n h e = e
hidden false s o p q b n h e = h e (n refl)

except-bound : (x z : ℕ) (o : Option Bound) (G H : Context) → x == z ≡ true → Except x G H → Includes (with z o G) (with z o H)
except-bound x z o G H same h = λ y b e. hidden (y == z) (y == x) o (G y) (H y) b (λ n. subst (λ k. y == k ≡ false) (sym (eqb-true x z same)) n) (h y b) e

either-true : (s r : Bool) (P : Type 0) → (s ≡ true → P) → (r ≡ true → P) → (s || r) ≡ true → P
either-true true r P f g e = f refl
either-true false r P f g e = g e

except-all : (x : ℕ) (xs : List ℕ) (bs : List Bound) (G H : Context) → Except x G H → Except x (with_all xs bs G) (with_all xs bs H)
except-all x [] bs G H h = h
except-all x (z ∷ xs) [] G H h = except-with x z None _ _ (except-all x xs [] G H h)
except-all x (z ∷ xs) (b ∷ bs) G H h = except-with x z (Some b) _ _ (except-all x xs bs G H h)

bound-all : (x : ℕ) (xs : List ℕ) (bs : List Bound) (G H : Context) → among x xs ≡ true → Except x G H → Includes (with_all xs bs G) (with_all xs bs H)
bound-all x [] bs G H e h = cc
bound-all x (z ∷ xs) [] G H e h =
    either-true (x == z) (among x xs) (Includes (with_all (z ∷ xs) [] G) (with_all (z ∷ xs) [] H))
    (λ s. except-bound x z None (with_all xs [] G) (with_all xs [] H) s (except-all x xs [] G H h))
    (λ r. with-includes (with_all xs [] G) (with_all xs [] H) z None (bound-all x xs [] G H r h)) e
bound-all x (z ∷ xs) (b ∷ bs) G H e h =
    either-true (x == z) (among x xs) (Includes (with_all (z ∷ xs) (b ∷ bs) G) (with_all (z ∷ xs) (b ∷ bs) H))
    (λ s. except-bound x z (Some b) (with_all xs bs G) (with_all xs bs H) s (except-all x xs bs G H h))
    (λ r. with-includes (with_all xs bs G) (with_all xs bs H) z (Some b) (bound-all x xs bs G H r h)) e

after-with : (E : Setting) (v : Expression) (t s : Bool) (o p q : Option Bound) (b : Bound) → (t ≡ true → s ≡ false) → (p ≡ Some b → After s E v q b) → (if t then o else p) ≡ Some b → After s E v (if t then o else q) b
after-with E v true s o p q b n h e = subst (λ k. After k E v o b) (sym (n refl)) e
after-with E v false s o p q b n h e = h e

differ : (x y z : ℕ) → x == z ≡ false → y == z ≡ true → y == x ≡ false
differ x y z n e = grind (arith, nat_tests)

fills-with : (E : Setting) (x z : ℕ) (v : Expression) (o : Option Bound) (G H : Context) → x == z ≡ false → Fills E x v G H → Fills E x v (with z o G) (with z o H)
fills-with E x z v o G H n h = λ y b e. after-with E v (y == z) (y == x) o (G y) (H y) b (differ x y z n) (h y b) e

neither : (s r : Bool) → (s || r) ≡ false → (s ≡ false) × (r ≡ false)
neither true r e = cc
neither false r e = (refl, e)

fills-all : (E : Setting) (x : ℕ) (v : Expression) (xs : List ℕ) (bs : List Bound) (G H : Context) → among x xs ≡ false → Fills E x v G H → Fills E x v (with_all xs bs G) (with_all xs bs H)
fills-all E x v [] bs G H e h = h
fills-all E x v (z ∷ xs) [] G H e h = let n = neither (x == z) (among x xs) e in fills-with E x z v None _ _ n.0 (fills-all E x v xs [] G H n.1 h)
fills-all E x v (z ∷ xs) (b ∷ bs) G H e h = let n = neither (x == z) (among x xs) e in fills-with E x z v (Some b) _ _ n.0 (fills-all E x v xs bs G H n.1 h)

valid-after : (E : Setting) (v : Expression) (t : Bool) (o p : Option Bound) → ((b : Bound) → o ≡ Some b → After t E v p b) → (b : Bound) → if_valid o ≡ Some b → After t E v (if_valid p) b
valid-after E v true None p h b e = cc
valid-after E v true (Some (local w A)) p h b e = cc
valid-after E v true (Some (valid A)) p h b e = h b e
valid-after E v false None p h b e = cc
valid-after E v false (Some (local w A)) p h b e = cc
valid-after E v false (Some (valid A)) p h b e = rw (h (valid A) refl) e

outer-fills : (E : Setting) (x : ℕ) (v : Expression) (f : UnaryForm) (G H : Context) → Fills E x v G H → Fills E x v (part_context f G) (part_context f H)
outer-fills E x v unary_form.Sham G H h = λ y b e. valid-after E v (y == x) (G y) (H y) (h y) b e
outer-fills E x v _ G H h = h

-- ---- value forms

pub one-form : (f : UnaryForm) (p q : Bool) → (IsTrue p → IsTrue q) → IsTrue (unary_is_value f p) → IsTrue (unary_is_value f q)
one-form (unary_form.Held w) p q h e = h e
one-form (unary_form.Inl T) p q h e = h e
one-form (unary_form.Inr T) p q h e = h e
one-form unary_form.Sham p q h e = h e
one-form _ p q h e = e

pub both : (p q r s : Bool) → (IsTrue p → IsTrue r) → (IsTrue q → IsTrue s) → IsTrue (p && q) → IsTrue (r && s)
both true true true true h k e = e
both true true false s h k e = h e
both true true true false h k e = k e
both true false r s h k e = cc
both false q r s h k e = cc

two-form : (f : BinaryForm) (p q r s : Bool) → (IsTrue p → IsTrue r) → (IsTrue q → IsTrue s) → IsTrue (binary_is_value f p q) → IsTrue (binary_is_value f r s)
two-form binary_form.Pair p q r s h k e = both p q r s h k e
two-form binary_form.Cons p q r s h k e = both p q r s h k e
two-form _ p q r s h k e = e

unless-form : (b : Bool) (a c : Expression) → IsTrue (is_value_form a) → (IsTrue (is_value_form a) → IsTrue (is_value_form c)) → IsTrue (is_value_form (unless b a c))
unless-form true a c e h = e
unless-form false a c e h = h e

if-form : (b : Bool) (v a : Expression) → IsTrue (is_value_form v) → IsTrue (is_value_form a) → IsTrue (is_value_form (if b then v else a))
if-form true v a p q = p
if-form false v a p q = q

leaf-form : (x : ℕ) (v : Expression) → IsTrue (is_value_form v) → (f : LeafForm) → IsTrue (leaf_is_value_form f) → IsTrue (is_value_form (substituted_leaf x v f))
leaf-form x v p (leaf_form.Var y) e = if-form (y == x) v (leaf (leaf_form.Var y)) p refl
leaf-form x v p (leaf_form.Valid y) e = if-form (y == x) v (leaf (leaf_form.Valid y)) p refl
leaf-form x v p _ e = e

form-stays : (x : ℕ) (v : Expression) → IsTrue (is_value_form v) → (e : Expression) → IsTrue (is_value_form e) → IsTrue (is_value_form (substituted x v e))
form-stays x v p (leaf f) e = leaf-form x v p f e
form-stays x v p (unary f a) e = one-form f (is_value_form a) _ (λ q. unless-form (among x (unary_binders f)) a (substituted x v a) q (form-stays x v p a)) e
form-stays x v p (binary f a b) e =
    two-form f (is_value_form a) (is_value_form b) _ _ (form-stays x v p a) (λ q. unless-form (among x (binary_binders f)) b (substituted x v b) q (form-stays x v p b)) e
form-stays x v p (ternary f a b c) e = e

leaf-closed : (x : ℕ) (v : Expression) (f : LeafForm) → IsTrue (leaf_is_value f) → IsTrue (is_value (substituted_leaf x v f))
leaf-closed x v (leaf_form.Var y) e = cc
leaf-closed x v (leaf_form.Valid y) e = cc
leaf-closed x v _ e = e

unless-value : (b : Bool) (a c : Expression) → IsTrue (is_value a) → (IsTrue (is_value a) → IsTrue (is_value c)) → IsTrue (is_value (unless b a c))
unless-value true a c e h = e
unless-value false a c e h = h e

pub value-stays : (x : ℕ) (v e : Expression) → IsTrue (is_value e) → IsTrue (is_value (substituted x v e))
value-stays x v (leaf f) e = leaf-closed x v f e
value-stays x v (unary f a) e = one-form f (is_value a) _ (λ q. unless-value (among x (unary_binders f)) a (substituted x v a) q (value-stays x v a)) e
value-stays x v (binary f a b) e = two-form f (is_value a) (is_value b) _ _ (value-stays x v a) (λ q. unless-value (among x (binary_binders f)) b (substituted x v b) q (value-stays x v b)) e
value-stays x v (ternary f a b c) e = e

side-stays : (f : UnaryForm) (w : World) (p : Pick) (a c : Expression) → (IsTrue (is_value_form a) → IsTrue (is_value_form c)) → (IsTrue (is_value a) → IsTrue (is_value c)) → (unary_rule f w p).side a → (unary_rule f w p).side c
side-stays unary_form.Sham w p a c h k s = h s
side-stays (unary_form.Held v) w p a c h k s = (s.0, k s.1)
side-stays _ w p a c h k s = s

-- ---- the law

fills-leaf : (E : Setting) (v : Expression) (H : Context) (w : World) (A : TypeExpression) (t : Bool) (b : Bound) (a : Expression) → (Suits E v b → Typed E nothing w v A) → (o : Option Bound) → After t E v o b → (o ≡ Some b → Typed E H w a A) → Typed E H w (if t then v else a) A
fills-leaf E v H w A true b a s o h k = closed E v H w A (s h)
fills-leaf E v H w A false b a s o h k = k h

leaf-fills : (E : Setting) (x : ℕ) (v : Expression) (G H : Context) (w : World) (f : LeafForm) (A : TypeExpression) → Fills E x v G H → LeafRule E G w f A → IsSmall A → Typed E H w (substituted_leaf x v f) A
leaf-fills E x v G H w (leaf_form.Var y) A h d s = fills-leaf E v H w A (y == x) (local w A) (leaf (leaf_form.Var y)) (λ t. t) (H y) (h y (local w A) d) (λ e. (e, s))
leaf-fills E x v G H w (leaf_form.Valid y) A h d s = fills-leaf E v H w A (y == x) (valid A) (leaf (leaf_form.Valid y)) (λ t. t w) (H y) (h y (valid A) d) (λ e. (e, s))
leaf-fills E x v G H w _ A h d s = (d, s)

under : (E : Setting) (x : ℕ) (v : Expression) (xs : List ℕ) (bs : List Bound) (G H : Context) (w : World) (a : Expression) (A : TypeExpression) → Fills E x v G H → ((H' : Context) → Fills E x v (with_all xs bs G) H' → Typed E H' w (substituted x v a) A) → Typed E (with_all xs bs G) w a A → Typed E (with_all xs bs H) w (unless (among x xs) a (substituted x v a)) A
under E x v xs bs G H w a A h k d = cases (among x xs) refl
  where
    cases : (t : Bool) → among x xs ≡ t → Typed E (with_all xs bs H) w (unless t a (substituted x v a)) A
    cases true e = weaker E a _ _ w A (bound-all x xs bs G H e (fills-except E x v G H h)) d
    cases false e = k _ (fills-all E x v xs bs G H e h)

pub substitution : (E : Setting) (x : ℕ) (v : Expression) → IsTrue (is_value_form v) → (e : Expression) (G H : Context) (w : World) (A : TypeExpression) → Fills E x v G H → Typed E G w e A → Typed E H w (substituted x v e) A
substitution E x v p (leaf f) G H w A h d = leaf-fills E x v G H w f A h d.0 d.1
substitution E x v p (unary f a) G H w A h d =
    let r = unary_rule f w d.pick in
    record {
      pick = d.pick;
      part = under E x v (unary_binders f) r.bounds (part_context f G) (part_context f H) r.world a r.part (outer-fills E x v f G H h) (λ H' g. substitution E x v p a _ H' r.world r.part g d.part) d.part;
      side = side-stays f w d.pick a _ (λ q. unless-form (among x (unary_binders f)) a (substituted x v a) q (form-stays x v p a)) (λ q. unless-value (among x (unary_binders f)) a (substituted x v a) q (value-stays x v a)) d.side;
      is = d.is;
      small = d.small;
    }
substitution E x v p (binary f a b) G H w A h d =
    let r = binary_rule f w d.pick in
    record {
      pick = d.pick;
      first = substitution E x v p a G H w r.first h d.first;
      second = under E x v (binary_binders f) r.bounds G H r.world b r.second h (λ H' g. substitution E x v p b _ H' r.world r.second g d.second) d.second;
      side = d.side;
      is = d.is;
      small = d.small;
    }
substitution E x v p (ternary f a b c) G H w A h d =
    let r = ternary_rule f w d.pick in
    record {
      pick = d.pick;
      first = substitution E x v p a G H w r.first h d.first;
      second = under E x v (second_binders f) r.second_bounds G H w b r.whole h (λ H' g. substitution E x v p b _ H' w r.whole g d.second) d.second;
      third = under E x v (third_binders f) r.third_bounds G H w c r.whole h (λ H' g. substitution E x v p c _ H' w r.whole g d.third) d.third;
      is = d.is;
      small = d.small;
    }

fills-one : (E : Setting) (x : ℕ) (v : Expression) (b : Bound) (G : Context) → Suits E v b → Fills E x v (with x (Some b) G) G
fills-one E x v b G s = λ y c e. here (y == x) (G y) c e
  where
    here : (k : Bool) (o : Option Bound) (c : Bound) → (if k then Some b else o) ≡ Some c → After k E v o c
    here true o c e = subst (λ a. Suits E v a) (let q : b ≡ c = cc in q) s
    here false o c e = e

pub substitution_law : Substitution
substitution_law E G x b v w e A p s d = substitution E x v p e (with x (Some b) G) G w A (fills-one E x v b G s) d
