-- Closed terms have no free variable among any, and a substitution leaves them as they are.
use Rattle.std.proofs.Common.{◌≡◌, if◌then◌else◌, ℕ, Bool, true, false, IsTrue, ◌==◌, ◌||◌, ◌&&◌, List, [], ◌∷◌, ◌++◌, refl, sym, subst, ◌∙◌}
use Rattle.std.proofs.lemmas.Bool.{eqb-true}
use Rattle.m5_terms.specs.Expression.{Expression, leaf, unary, binary, ternary}
use Rattle.m5_terms.specs.Substitution.{unary_binders, binary_binders, second_binders, third_binders, among, substituted, substituted_leaf, unless}
use Rattle.m5_terms.specs.declared.form.LeafForm.{LeafForm}
use Rattle.m5_terms.specs.declared.form.LeafForm.TheVariants as leaf_form
use Rattle.m5_terms.specs.declared.form.UnaryForm.{UnaryForm}
use Rattle.m5_terms.specs.declared.form.BinaryForm.{BinaryForm}
use Rattle.m5_terms.specs.declared.form.TernaryForm.{TernaryForm}
use Rattle.m5_terms.specs.Closed.{closed_under, closed_leaf, IsClosed}

pub both : (p q : Bool) → IsTrue p → IsTrue q → IsTrue (p && q)
both true q s t = t
both false q s t = s

pub left : (p q : Bool) → IsTrue (p && q) → IsTrue p
left true q h = refl
left false q h = h

pub right : (p q : Bool) → IsTrue (p && q) → IsTrue q
right true q h = h
right false q h = cc

pub either : (p q r : Bool) → (IsTrue p → IsTrue r) → (IsTrue q → IsTrue r) → IsTrue (p || q) → IsTrue r
either true q r f g h = f refl
either false q r f g h = g h

pub or-left : (p q : Bool) → IsTrue p → IsTrue (p || q)
or-left true q h = refl
or-left false q h = cc

pub or-right : (p q : Bool) → IsTrue q → IsTrue (p || q)
or-right true q h = refl
or-right false q h = h

-- whichever is among these is among those
unfoldable pub Within : List ℕ → List ℕ → Type 0
Within xs ys = (y : ℕ) → IsTrue (among y xs) → IsTrue (among y ys)

pub grow : (bs xs ys : List ℕ) → Within xs ys → Within (bs ++ xs) (bs ++ ys)
unfolding Within
grow [] xs ys h = h
grow (b ∷ bs) xs ys h = λ y e. either (y == b) (among y (bs ++ xs)) (y == b || among y (bs ++ ys)) (or-left (y == b) (among y (bs ++ ys))) (λ k. or-right (y == b) (among y (bs ++ ys)) (grow bs xs ys h y k)) e

leaf-within : (f : LeafForm) (xs ys : List ℕ) → Within xs ys → IsTrue (closed_leaf xs f) → IsTrue (closed_leaf ys f)
unfolding Within
leaf-within (leaf_form.Var x) xs ys h e = h x e
leaf-within (leaf_form.Valid x) xs ys h e = h x e
leaf-within _ xs ys h e = refl

pub within : (e : Expression) (xs ys : List ℕ) → Within xs ys → IsTrue (closed_under xs e) → IsTrue (closed_under ys e)
within (leaf f) xs ys h e = leaf-within f xs ys h e
within (unary f a) xs ys h e = within a _ _ (grow (unary_binders f) xs ys h) e
within (binary f a b) xs ys h e =
    both (closed_under ys a) _ (within a xs ys h (left (closed_under xs a) _ e))
    (within b _ _ (grow (binary_binders f) xs ys h) (right (closed_under xs a) _ e))
within (ternary f a b c) xs ys h e =
    let e2 = right (closed_under xs a) _ e in
    both (closed_under ys a) _ (within a xs ys h (left (closed_under xs a) _ e))
    (both (closed_under (second_binders f ++ ys) b) _
    (within b _ _ (grow (second_binders f) xs ys h) (left (closed_under (second_binders f ++ xs) b) _ e2))
    (within c _ _ (grow (third_binders f) xs ys h) (right (closed_under (second_binders f ++ xs) b) _ e2)))

-- a closed term has no free variable among any
pub everywhere : (e : Expression) (ys : List ℕ) → IsClosed e → IsTrue (closed_under ys e)
unfolding Within
everywhere e ys h = within e [] ys (λ y k. cc) h

-- a term of closed parts is closed
pub unary-closed : (f : UnaryForm) (a : Expression) → IsClosed a → IsClosed (unary f a)
unary-closed f a h = everywhere a _ h

pub binary-closed : (f : BinaryForm) (a b : Expression) → IsClosed a → IsClosed b → IsClosed (binary f a b)
binary-closed f a b h k = both (closed_under [] a) _ h (everywhere b _ k)

pub ternary-closed : (f : TernaryForm) (a b c : Expression) → IsClosed a → IsClosed b → IsClosed c → IsClosed (ternary f a b c)
ternary-closed f a b c h k m = both (closed_under [] a) _ h (both (closed_under (second_binders f ++ []) b) _ (everywhere b _ k) (everywhere c _ m))

falls : (t : Bool) → (IsTrue t → false ≡ true) → t ≡ false
falls true f = sym (f refl)
falls false f = refl

-- a number that is not among those of another
differs : (x y : ℕ) (xs : List ℕ) → among x xs ≡ false → IsTrue (among y xs) → (y == x) ≡ false
differs x y xs p h = falls (y == x) (λ k. let P : ℕ → Type 0 = λ n. IsTrue (among n xs) in sym p ∙ subst P (eqb-true y x k) h)

or-false : (p q r : Bool) → (p || q) ≡ false → (q ≡ false → r ≡ false) → (p || r) ≡ false
or-false true q r h f = h
or-false false q r h f = f h

-- a number that is among neither is not among both
in-neither : (x : ℕ) (bs xs : List ℕ) → among x bs ≡ false → among x xs ≡ false → among x (bs ++ xs) ≡ false
in-neither x [] xs p q = q
in-neither x (b ∷ bs) xs p q = or-false (x == b) (among x bs) (among x (bs ++ xs)) p (λ k. in-neither x bs xs k q)

other : (t : Bool) (a b : Expression) → t ≡ false → (if t then a else b) ≡ b
other true a b p = cc
other false a b p = refl

leaf-unchanged : (x : ℕ) (v : Expression) (f : LeafForm) (xs : List ℕ) → among x xs ≡ false → IsTrue (closed_leaf xs f) → substituted_leaf x v f ≡ leaf f
leaf-unchanged x v (leaf_form.Var y) xs p h = other (y == x) v (leaf (leaf_form.Var y)) (differs x y xs p h)
leaf-unchanged x v (leaf_form.Valid y) xs p h = other (y == x) v (leaf (leaf_form.Valid y)) (differs x y xs p h)
leaf-unchanged x v _ xs p h = refl

part-unchanged : (t : Bool) (a b : Expression) → (t ≡ false → b ≡ a) → unless t a b ≡ a
part-unchanged true a b f = refl
part-unchanged false a b f = f refl

-- where the variable is not among those that may be free, nothing changes
unchanged : (x : ℕ) (v e : Expression) (xs : List ℕ) → among x xs ≡ false → IsTrue (closed_under xs e) → substituted x v e ≡ e
unchanged x v (leaf f) xs p h = leaf-unchanged x v f xs p h
unchanged x v (unary f a) xs p h =
    let bs = unary_binders f in
    λ i. unary f (part-unchanged (among x bs) a _ (λ k. unchanged x v a (bs ++ xs) (in-neither x bs xs k p) h) i)
unchanged x v (binary f a b) xs p h =
    let bs = binary_binders f in
    λ i. binary f (unchanged x v a xs p (left (closed_under xs a) _ h) i)
    (part-unchanged (among x bs) b _ (λ k. unchanged x v b (bs ++ xs) (in-neither x bs xs k p) (right (closed_under xs a) _ h)) i)
unchanged x v (ternary f a b c) xs p h =
    let bs = second_binders f in
    let ds = third_binders f in
    let g = right (closed_under xs a) _ h in
    λ i. ternary f (unchanged x v a xs p (left (closed_under xs a) _ h) i)
    (part-unchanged (among x bs) b _ (λ k. unchanged x v b (bs ++ xs) (in-neither x bs xs k p) (left (closed_under (bs ++ xs) b) _ g)) i)
    (part-unchanged (among x ds) c _ (λ k. unchanged x v c (ds ++ xs) (in-neither x ds xs k p) (right (closed_under (bs ++ xs) b) _ g)) i)

-- a closed term stays as it is
pub closed-unchanged : (x : ℕ) (v e : Expression) → IsClosed e → substituted x v e ≡ e
closed-unchanged x v e h = unchanged x v e [] refl h

-- a part of which this is known, bound or not
pub closed-part : (b : Bool) (x : ℕ) (v e : Expression) → IsClosed e → unless b e (substituted x v e) ≡ e
closed-part b x v e h = part-unchanged b e _ (λ k. closed-unchanged x v e h)
