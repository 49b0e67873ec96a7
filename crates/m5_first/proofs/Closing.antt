-- A term whose variables are replaced by the texts that they stand for.
use Rattle.std.proofs.Common.{◌≡◌, ℕ, Bool, true, false, ◌==◌, ◌||◌, if◌then◌else◌, List, [], ◌∷◌, Option, Some, None, refl, sym, ap, ◌∙◌, subst, eqb-true}
use Rattle.m5_terms.specs.Expression.{Expression, leaf, unary, binary, ternary}
use Rattle.m5_terms.specs.Substitution.{substituted, unless, among, unary_binders, binary_binders, second_binders, third_binders}
use Rattle.m5_terms.specs.declared.form.LeafForm.{LeafForm}
use Rattle.m5_terms.specs.declared.form.LeafForm.TheVariants as leaf_form
use Rattle.m5_first.specs.Says.{Texts, with_text}

abbrev pub text_value : List ℕ → Expression
text_value t = leaf (leaf_form.Str t)

-- these variables stand for nothing
abbrev pub without : List ℕ → Texts → Texts
without xs env = λ y. if among y xs then None else env y

abbrev pub text_or : Option (List ℕ) → Expression → Expression
text_or None e = e
text_or (Some t) e = text_value t

abbrev pub close_leaf : Texts → LeafForm → Expression
close_leaf env (leaf_form.Var x) = text_or (env x) (leaf (leaf_form.Var x))
close_leaf env (leaf_form.Valid x) = text_or (env x) (leaf (leaf_form.Valid x))
close_leaf env f = leaf f

abbrev pub close : Texts → Expression → Expression
close env (leaf f) = close_leaf env f
close env (unary f a) = unary f (close (without (unary_binders f) env) a)
close env (binary f a b) = binary f (close env a) (close (without (binary_binders f) env) b)
close env (ternary f a b c) = ternary f (close env a) (close (without (second_binders f) env) b) (close (without (third_binders f) env) c)

-- ---- choices between texts

abbrev Found : Type 0
Found = Option (List ℕ)

or-false : (b : Bool) → (b || false) ≡ b
or-false true = refl
or-false false = refl

-- two choices in a row hide what the first hides
covered : (b c : Bool) (some other : Found) → (c ≡ true → b ≡ true)
    → (if b then None else (if c then None else other)) ≡ (if b then None else (if c then some else other))
covered true c some other h = refl
covered false false some other h = refl
covered false true some other h = let e = h refl in cc

swapped-none : (b c : Bool) (other : Found) → (if b then None else (if c then None else other)) ≡ (if c then None else (if b then None else other))
swapped-none true true other = refl
swapped-none true false other = refl
swapped-none false true other = refl
swapped-none false false other = refl

swapped : (b c : Bool) (some other : Found) → (c ≡ true → b ≡ false)
    → (if b then None else (if c then some else other)) ≡ (if c then some else (if b then None else other))
swapped true true some other h = let e = h refl in cc
swapped true false some other h = refl
swapped false true some other h = refl
swapped false false some other h = refl

-- ---- the same for variables

-- without binders of which x is one, x stands for nothing anyway
hidden : (x : ℕ) (t : List ℕ) (env : Texts) (bs : List ℕ) → among x bs ≡ true → without bs (without (x ∷ []) env) ≡ without bs (with_text x t env)
hidden x t env bs h i y =
    (ap (λ c. if among y bs then None else (if c then None else env y)) (or-false (y == x))
    ∙ covered (among y bs) (y == x) (Some t) (env y) (λ e. subst (λ z. among z bs ≡ true) (sym (eqb-true y x e)) h)) i

later-hidden : (x : ℕ) (env : Texts) (bs : List ℕ) → without bs (without (x ∷ []) env) ≡ without (x ∷ []) (without bs env)
later-hidden x env bs i y = swapped-none (among y bs) (y == x || false) (env y) i

later-text : (x : ℕ) (t : List ℕ) (env : Texts) (bs : List ℕ) → among x bs ≡ false → without bs (with_text x t env) ≡ with_text x t (without bs env)
later-text x t env bs h i y = swapped (among y bs) (y == x) (Some t) (env y) (λ e. subst (λ z. among z bs ≡ false) (sym (eqb-true y x e)) h) i

-- ---- the law

-- a variable that stands for nothing, replaced, is the variable that stands for the text
leaf-closed : (x : ℕ) (t : List ℕ) (y : ℕ) (c : Bool) (found : Found) (uses : Expression)
    → (y == x ≡ c) → substituted x (text_value t) uses ≡ (if c then text_value t else uses)
    → substituted x (text_value t) (text_or (if (c || false) then None else found) uses) ≡ text_or (if c then Some t else found) uses
leaf-closed x t y true found uses e h = h
leaf-closed x t y false None uses e h = h
leaf-closed x t y false (Some s) uses e h = refl

under : (x : ℕ) (t : List ℕ) (env : Texts) (bs : List ℕ) (a : Expression) (c : Bool) → among x bs ≡ c
    → ((inner : Texts) → substituted x (text_value t) (close (without (x ∷ []) inner) a) ≡ close (with_text x t inner) a)
    → unless c (close (without bs (without (x ∷ []) env)) a) (substituted x (text_value t) (close (without bs (without (x ∷ []) env)) a)) ≡ close (without bs (with_text x t env)) a
under x t env bs a true e law = ap (λ f. close f a) (hidden x t env bs e)
under x t env bs a false e law =
    ap (λ f. substituted x (text_value t) (close f a)) (later-hidden x env bs) ∙ law (without bs env) ∙ ap (λ f. close f a) (sym (later-text x t env bs e))

-- to close all but x and then put the text for x is to close with the text for x
pub substituted-close : (e : Expression) (x : ℕ) (t : List ℕ) (env : Texts) → substituted x (text_value t) (close (without (x ∷ []) env) e) ≡ close (with_text x t env) e
substituted-close (leaf (leaf_form.Var y)) x t env = leaf-closed x t y (y == x) (env y) (leaf (leaf_form.Var y)) refl refl
substituted-close (leaf (leaf_form.Valid y)) x t env = leaf-closed x t y (y == x) (env y) (leaf (leaf_form.Valid y)) refl refl
substituted-close (leaf f) x t env = refl
substituted-close (unary f a) x t env = ap (unary f) (under x t env (unary_binders f) a (among x (unary_binders f)) refl (λ inner. substituted-close a x t inner))
substituted-close (binary f a b) x t env =
    λ i. binary f (substituted-close a x t env i) (under x t env (binary_binders f) b (among x (binary_binders f)) refl (λ inner. substituted-close b x t inner) i)
substituted-close (ternary f a b c) x t env =
    λ i. ternary f (substituted-close a x t env i) (under x t env (second_binders f) b (among x (second_binders f)) refl (λ inner. substituted-close b x t inner) i)
    (under x t env (third_binders f) c (among x (third_binders f)) refl (λ inner. substituted-close c x t inner) i)
