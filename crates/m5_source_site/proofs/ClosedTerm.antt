-- A closed value in the place of a variable leaves no variable free.
use Rattle.std.proofs.Common.{if◌then◌else◌, ℕ, Bool, true, false, IsTrue, ◌==◌, ◌||◌, ◌&&◌, List, [], ◌∷◌, ◌++◌, refl, sym, subst}
use Rattle.std.proofs.lemmas.Bool.{eqb-true}
use Rattle.m5_terms.specs.Expression.{Expression, leaf, unary, binary, ternary}
use Rattle.m5_terms.specs.Substitution.{unary_binders, binary_binders, second_binders, third_binders, among, substituted, substituted_leaf, unless}
use Rattle.m5_terms.specs.declared.form.LeafForm.{LeafForm}
use Rattle.m5_terms.specs.declared.form.LeafForm.TheVariants as leaf_form
use Rattle.m5_terms.specs.Closed.{closed_under, closed_leaf, IsClosed}
use Rattle.m5_terms.proofs.ClosedTerms.{Within, grow, within, both, left, right, either, or-left, or-right, everywhere}

-- whichever is among these is the variable or among those
Beside : ℕ → List ℕ → List ℕ → Type 0
Beside x xs ys = (y : ℕ) → IsTrue (among y xs) → IsTrue (y == x || among y ys)

-- under more binders
grow-beside : (x : ℕ) (bs xs ys : List ℕ) → Beside x xs ys → Beside x (bs ++ xs) (bs ++ ys)
unfolding Beside
grow-beside x [] xs ys h = h
grow-beside x (b ∷ bs) xs ys h = λ y e.
    let t : Bool = y == x || (y == b || among y (bs ++ ys)) in
    either (y == b) (among y (bs ++ xs)) t
    (λ k. or-right (y == x) _ (or-left (y == b) _ k))
    (λ k. either (y == x) (among y (bs ++ ys)) t (or-left (y == x) _) (λ m. or-right (y == x) _ (or-right (y == b) _ m)) (grow-beside x bs xs ys h y k)) e

join-left : (y : ℕ) (bs ys : List ℕ) → IsTrue (among y bs) → IsTrue (among y (bs ++ ys))
join-left y [] ys h = cc
join-left y (b ∷ bs) ys h = either (y == b) (among y bs) (y == b || among y (bs ++ ys)) (or-left (y == b) _) (λ k. or-right (y == b) _ (join-left y bs ys k)) h

join-right : (y : ℕ) (bs ys : List ℕ) → IsTrue (among y ys) → IsTrue (among y (bs ++ ys))
join-right y [] ys h = h
join-right y (b ∷ bs) ys h = or-right (y == b) _ (join-right y bs ys h)

split : (y : ℕ) (bs xs : List ℕ) (r : Bool) → (IsTrue (among y bs) → IsTrue r) → (IsTrue (among y xs) → IsTrue r) → IsTrue (among y (bs ++ xs)) → IsTrue r
split y [] xs r f g h = g h
split y (b ∷ bs) xs r f g h = either (y == b) (among y (bs ++ xs)) r (λ k. f (or-left (y == b) _ k)) (split y bs xs r (λ k. f (or-right (y == b) _ k)) g) h

same-number : (y x : ℕ) (bs : List ℕ) → IsTrue (y == x) → IsTrue (among x bs) → IsTrue (among y bs)
same-number y x bs e k =
    let P : ℕ → Type 0 = λ n. IsTrue (among n bs) in
    subst P (sym (eqb-true y x e)) k

-- under a binder of the variable itself
hide : (x : ℕ) (bs xs ys : List ℕ) → IsTrue (among x bs) → Beside x xs ys → Within (bs ++ xs) (bs ++ ys)
unfolding Beside Within
hide x bs xs ys k h = λ y e.
    split y bs xs (among y (bs ++ ys)) (join-left y bs ys)
    (λ m. either (y == x) (among y ys) (among y (bs ++ ys)) (λ q. join-left y bs ys (same-number y x bs q k)) (join-right y bs ys) (h y m)) e

at-use : (t q : Bool) (v : Expression) (f : LeafForm) (ys : List ℕ) → IsTrue (closed_under ys v) → IsTrue (t || q) → (IsTrue q → IsTrue (closed_leaf ys f)) → IsTrue (closed_under ys (if t then v else leaf f))
at-use true q v f ys c h g = c
at-use false q v f ys c h g = g h

in-leaf : (x : ℕ) (v : Expression) (f : LeafForm) (xs ys : List ℕ) → IsClosed v → Beside x xs ys → IsTrue (closed_leaf xs f) → IsTrue (closed_under ys (substituted_leaf x v f))
unfolding Beside
in-leaf x v (leaf_form.Var y) xs ys c h e = at-use (y == x) (among y ys) v (leaf_form.Var y) ys (everywhere v ys c) (h y e) (λ k. k)
in-leaf x v (leaf_form.Valid y) xs ys c h e = at-use (y == x) (among y ys) v (leaf_form.Valid y) ys (everywhere v ys c) (h y e) (λ k. k)
in-leaf x v _ xs ys c h e = refl

in-part : (t : Bool) (a b : Expression) (zs : List ℕ) → (IsTrue t → IsTrue (closed_under zs a)) → IsTrue (closed_under zs b) → IsTrue (closed_under zs (unless t a b))
in-part true a b zs f h = f refl
in-part false a b zs f h = h

closes : (x : ℕ) (v e : Expression) (xs ys : List ℕ) → IsClosed v → Beside x xs ys → IsTrue (closed_under xs e) → IsTrue (closed_under ys (substituted x v e))
closes x v (leaf f) xs ys c h e = in-leaf x v f xs ys c h e
closes x v (unary f a) xs ys c h e =
    let bs = unary_binders f in
    in-part (among x bs) a (substituted x v a) (bs ++ ys) (λ k. within a _ _ (hide x bs xs ys k h) e) (closes x v a _ _ c (grow-beside x bs xs ys h) e)
closes x v (binary f a b) xs ys c h e =
    let bs = binary_binders f in
    let g = right (closed_under xs a) _ e in
    both (closed_under ys (substituted x v a)) _ (closes x v a xs ys c h (left (closed_under xs a) _ e))
    (in-part (among x bs) b (substituted x v b) (bs ++ ys) (λ k. within b _ _ (hide x bs xs ys k h) g) (closes x v b _ _ c (grow-beside x bs xs ys h) g))
closes x v (ternary f a b d) xs ys c h e =
    let bs = second_binders f in
    let ds = third_binders f in
    let g = right (closed_under xs a) _ e in
    let m = left (closed_under (bs ++ xs) b) _ g in
    let n = right (closed_under (bs ++ xs) b) _ g in
    both (closed_under ys (substituted x v a)) _ (closes x v a xs ys c h (left (closed_under xs a) _ e))
    (both (closed_under (bs ++ ys) (unless (among x bs) b (substituted x v b))) _
    (in-part (among x bs) b (substituted x v b) (bs ++ ys) (λ k. within b _ _ (hide x bs xs ys k h) m) (closes x v b _ _ c (grow-beside x bs xs ys h) m))
    (in-part (among x ds) d (substituted x v d) (ds ++ ys) (λ k. within d _ _ (hide x ds xs ys k h) n) (closes x v d _ _ c (grow-beside x ds xs ys h) n)))

-- what is bound by the variable and others is bound by the others once a closed value stands for it
pub bound : (x : ℕ) (v e : Expression) (zs : List ℕ) → IsClosed v → IsTrue (closed_under (x ∷ zs) e) → IsTrue (closed_under zs (substituted x v e))
unfolding Beside
bound x v e zs c h = closes x v e (x ∷ zs) zs c (λ y k. k) h
