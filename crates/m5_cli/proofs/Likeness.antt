-- Trees that differ in their places alone: their names are resolved alike.
use Rattle.std.proofs.Common.{◌≡◌, ℕ, ◌+◌, ◌++◌, Bool, true, false, nat_le, if◌then◌else◌, pos, Option, Some, None, List, [], ◌∷◌, length, refl, ap, subst, arith}
use Rattle.std.specs.List.{list_all}
use Rattle.std.proofs.lemmas.List.{length-append}
use Rattle.m5_lex.specs.declared.place.Place.{Place}
use Rattle.m5_terms.specs.Text.{text_byte}
use Rattle.m5_terms.specs.Expression as term
use Rattle.m5_terms.specs.Outcome.{Outcome, found, fault, and_then}
use Rattle.m5_terms.specs.declared.table.Binding.{Binding}
use Rattle.m5_terms.specs.declared.form.LeafForm as term_leaf
use Rattle.m5_terms.specs.declared.form.LeafForm.TheVariants as leaf_form
use Rattle.m5_terms.specs.declared.form.UnaryForm.TheVariants as unary_form
use Rattle.m5_tree.specs.TypeSyntax.{TypeSyntax, plain, wrapped, joined}
use Rattle.m5_tree.specs.Syntax.{Syntax, leaf, unary, binary, ternary}
use Rattle.m5_tree.specs.Tuple.{pairs, tuple}
use Rattle.m5_tree.specs.declared.expr.Part.{Part}
use Rattle.m5_tree.specs.declared.form.LeafForm.{LeafForm}
use Rattle.m5_tree.specs.declared.form.LeafForm.TheVariants as leaf_tree
use Rattle.m5_tree.specs.declared.form.UnaryForm.{UnaryForm}
use Rattle.m5_tree.specs.declared.form.UnaryForm.TheVariants as unary_tree
use Rattle.m5_tree.specs.declared.form.BinaryForm.{BinaryForm}
use Rattle.m5_tree.specs.declared.form.BinaryForm.TheVariants as binary_tree
use Rattle.m5_tree.specs.declared.form.TernaryForm.{TernaryForm}
use Rattle.m5_tree.specs.declared.form.TypePlain.{TypePlain}
use Rattle.m5_tree.specs.declared.form.TypeWrap.{TypeWrap}
use Rattle.m5_tree.specs.declared.form.TypeJoin.{TypeJoin}
use Rattle.m5_raw.specs.Resolved as raw
use Rattle.m5_raw.specs.Resolved.{Resolved}
use Rattle.m5_scope.specs.Written.{wrapped_type, joined_type, type_of}
use Rattle.m5_scope.specs.Places.{type_places, leaf_places, unary_places, places}
use Rattle.m5_scope.specs.Meaning.{Scope, entered}
use Rattle.m5_scope.specs.Forms.{unary_resolved, unary_binding, unary_count, binary_resolved, binary_binding, binary_count, ternary_resolved, second_binding, third_binding, second_count, third_count}
use Rattle.m5_scope.specs.Resolving.{binders, named, leaf_resolved, resolved}
use Rattle.m5_scope.specs.declared.end.ScopeEnd.{ScopeEnd}
use Rattle.m5_scope.specs.declared.end.ScopeEnd.TheVariants.{Memory}
use Rattle.m5_scope.specs.declared.meaning.Meaning.{Meaning}
use Rattle.m5_elaborate.specs.Erased.{erased}

-- both are found, and so related, or both are faults
abbrev pub OutcomeLike : {A B : Type 0} → (A → B → Type 0) → Outcome A ScopeEnd → Outcome B ScopeEnd → Type 0
OutcomeLike R (found x) (found y) = R x y
OutcomeLike R (fault d) (fault e) = Unit {0}
OutcomeLike R _ _ = ⊥

pub then_like : {A B C D : Type 0} (R : A → B → Type 0) (S : C → D → Type 0) (o : Outcome A ScopeEnd) (p : Outcome B ScopeEnd) (f : A → Outcome C ScopeEnd) (g : B → Outcome D ScopeEnd)
    → OutcomeLike R o p → ((x : A) (y : B) → R x y → OutcomeLike S (f x) (g y)) → OutcomeLike S (and_then o f) (and_then p g)
then_like R S (found x) (found y) f g h k = k x y h
then_like R S (fault d) (fault e) f g h k = tt
then_like R S (found x) (fault e) f g h k = absurd h
then_like R S (fault d) (found y) f g h k = absurd h

-- ---- types

pub record TypeLike (t u : TypeSyntax) : Type 0 where
  pub same : type_of t ≡ type_of u
  pub nodes : length (type_places t) ≡ length (type_places u)

pub plain_like : (p q : Place) (f : TypePlain) → TypeLike (plain p f) (plain q f)
plain_like p q f = record { same = refl; nodes = refl }

pub wrapped_like : (p q : Place) (f : TypeWrap) {t u : TypeSyntax} → TypeLike t u → TypeLike (wrapped p f t) (wrapped q f u)
wrapped_like p q f h = record { same = ap (wrapped_type f) h.same; nodes = omega (arith, h.nodes) }

pub joined_like : (p q : Place) (f : TypeJoin) {t u v w : TypeSyntax} → TypeLike t u → TypeLike v w → TypeLike (joined p f t v) (joined q f u w)
joined_like p q f {t} {u} {v} {w} h k = record {
  same = λ i. joined_type f (h.same i) (k.same i);
  nodes = omega (arith, h.nodes, k.nodes, length-append (type_places t) (type_places v), length-append (type_places u) (type_places w));
}

-- ---- expressions

-- resolved terms that differ in their places alone
abbrev pub Same : Resolved → Resolved → Type 0
Same x y = erased x ≡ erased y

abbrev pub SameForm : term_leaf.LeafForm → term_leaf.LeafForm → Type 0
SameForm x y = x ≡ y

pub record LeafLike (f g : LeafForm) : Type 0 where
  pub means : (s : Scope) (p q : Place) → OutcomeLike SameForm (leaf_resolved s p f) (leaf_resolved s q g)
  pub nodes : length (leaf_places f) ≡ length (leaf_places g)

pub record UnaryLike (f g : UnaryForm) : Type 0 where
  pub means : (n : ℕ) → unary_resolved n f ≡ unary_resolved n g
  pub binding : (n : ℕ) → unary_binding n f ≡ unary_binding n g
  pub count : unary_count f ≡ unary_count g
  pub nodes : length (unary_places f) ≡ length (unary_places g)

pub record Like (e d : Syntax) : Type 0 where
  pub means : (s : Scope) (n : ℕ) → OutcomeLike Same (resolved s n e) (resolved s n d)
  pub binds : binders e ≡ binders d
  pub nodes : length (places e) ≡ length (places d)

named_like : (p q : Place) (m : Option Meaning) → OutcomeLike SameForm (named p m) (named q m)
named_like p q None = tt
named_like p q (Some m) = refl

tested_like : (b : Bool) (x : term_leaf.LeafForm) → OutcomeLike SameForm (if b then found x else fault Memory) (if b then found x else fault Memory)
tested_like true x = refl
tested_like false x = tt

pub same_leaf : (f : LeafForm) → LeafLike f f
same_leaf (leaf_tree.Name x) = record { means = λ s p q. named_like p q (s x); nodes = refl }
same_leaf (leaf_tree.Number n) = record { means = λ s p q. tested_like (nat_le n 9223372036854775807) (leaf_form.Int (pos n)); nodes = refl }
same_leaf (leaf_tree.Str t) = record { means = λ s p q. tested_like (list_all text_byte t) (leaf_form.Str t); nodes = refl }
same_leaf _ = record { means = λ s p q. refl; nodes = refl }

pub nil_like : {t u : TypeSyntax} → TypeLike t u → LeafLike (leaf_tree.Nil t) (leaf_tree.Nil u)
nil_like h = record { means = λ s p q. ap leaf_form.Nil h.same; nodes = h.nodes }

pub leaf_like : (p q : Place) {f g : LeafForm} → LeafLike f g → Like (leaf p f) (leaf q g)
leaf_like p q {f} {g} h = record {
  means = λ s n. then_like SameForm Same (leaf_resolved s p f) (leaf_resolved s q g) (λ x. found (raw.leaf p x)) (λ x. found (raw.leaf q x)) (h.means s p q) (λ x y e. ap term.leaf e);
  binds = refl;
  nodes = omega (arith, h.nodes);
}

pub same_unary : (f : UnaryForm) → UnaryLike f f
same_unary f = record { means = λ n. refl; binding = λ n. refl; count = refl; nodes = refl }

pub fn_like : (x : ℕ) {t u : TypeSyntax} → TypeLike t u → UnaryLike (unary_tree.Fn x t) (unary_tree.Fn x u)
fn_like x h = record { means = λ n. ap (unary_form.Fn n) h.same; binding = λ n. refl; count = refl; nodes = h.nodes }

pub rec_like : (f x : ℕ) {t u v w : TypeSyntax} → TypeLike t u → TypeLike v w → UnaryLike (unary_tree.Rec f x t v) (unary_tree.Rec f x u w)
rec_like f x {t} {u} {v} {w} h k = record {
  means = λ n i. unary_form.Rec n (n + 1) (h.same i) (k.same i);
  binding = λ n. refl;
  count = refl;
  nodes = omega (arith, h.nodes, k.nodes, length-append (type_places t) (type_places v), length-append (type_places u) (type_places w));
}

pub inl_like : {t u : TypeSyntax} → TypeLike t u → UnaryLike (unary_tree.Inl t) (unary_tree.Inl u)
inl_like h = record { means = λ n. ap unary_form.Inl h.same; binding = λ n. refl; count = refl; nodes = h.nodes }

pub inr_like : {t u : TypeSyntax} → TypeLike t u → UnaryLike (unary_tree.Inr t) (unary_tree.Inr u)
inr_like h = record { means = λ n. ap unary_form.Inr h.same; binding = λ n. refl; count = refl; nodes = h.nodes }

unary_means : (p q : Place) {f g : UnaryForm} {a b : Syntax} → UnaryLike f g → Like a b → (s : Scope) (n : ℕ)
    → OutcomeLike Same (resolved s n (unary p f a)) (resolved s n (unary q g b))
unary_means p q {f} {g} {a} {b} h k s n =
    let P : Binding Meaning → ℕ → Type 0 = λ c m. OutcomeLike Same (resolved (entered s (unary_binding n f)) (n + unary_count f) a) (resolved (entered s c) (n + m) b) in
    let named_so : P (unary_binding n g) (unary_count f) = subst (λ c. P c (unary_count f)) (h.binding n) (k.means (entered s (unary_binding n f)) (n + unary_count f)) in
    let inside : P (unary_binding n g) (unary_count g) = subst (λ m. P (unary_binding n g) m) h.count named_so in
    then_like Same Same (resolved (entered s (unary_binding n f)) (n + unary_count f) a) (resolved (entered s (unary_binding n g)) (n + unary_count g) b)
    (λ x. found (raw.unary p (unary_resolved n f) x)) (λ x. found (raw.unary q (unary_resolved n g) x)) inside (λ x y e i. term.unary (h.means n i) (e i))

pub unary_like : (p q : Place) {f g : UnaryForm} {a b : Syntax} → UnaryLike f g → Like a b → Like (unary p f a) (unary q g b)
unary_like p q {f} {g} {a} {b} h k = record {
  means = unary_means p q h k;
  binds = omega (arith, h.count, k.binds);
  nodes = omega (arith, h.nodes, k.nodes, length-append (unary_places f) (places a), length-append (unary_places g) (places b));
}

-- the second part of a node, behind so many binders of the first
abbrev second_of : Place → BinaryForm → Scope → ℕ → Syntax → Resolved → ℕ → Outcome Resolved ScopeEnd
second_of p f s n b x m = and_then (resolved (entered s (binary_binding n f)) (n + binary_count f + m) b) (λ y. found (raw.binary p (binary_resolved n f) x y))

binary_means : (p q : Place) (f : BinaryForm) {a b c d : Syntax} → Like a c → Like b d → (s : Scope) (n : ℕ)
    → OutcomeLike Same (resolved s n (binary p f a b)) (resolved s n (binary q f c d))
binary_means p q f {a} {b} {c} {d} h k s n =
    then_like Same Same (resolved s (n + binary_count f) a) (resolved s (n + binary_count f) c)
    (λ x. second_of p f s n b x (binders a)) (λ y. second_of q f s n d y (binders c)) (h.means s (n + binary_count f))
    (λ x y e. subst (λ m. OutcomeLike Same (second_of p f s n b x (binders a)) (second_of q f s n d y m)) h.binds
    (then_like Same Same (resolved (entered s (binary_binding n f)) (n + binary_count f + binders a) b) (resolved (entered s (binary_binding n f)) (n + binary_count f + binders a) d)
    (λ z. found (raw.binary p (binary_resolved n f) x z)) (λ z. found (raw.binary q (binary_resolved n f) y z))
    (k.means (entered s (binary_binding n f)) (n + binary_count f + binders a)) (λ v w r i. term.binary (binary_resolved n f) (e i) (r i))))

pub binary_like : (p q : Place) (f : BinaryForm) {a b c d : Syntax} → Like a c → Like b d → Like (binary p f a b) (binary q f c d)
binary_like p q f {a} {b} {c} {d} h k = record {
  means = binary_means p q f h k;
  binds = omega (arith, h.binds, k.binds);
  nodes = omega (arith, h.nodes, k.nodes, length-append (places a) (places b), length-append (places c) (places d));
}

-- a node of three parts, with the numbers before its second part and before its third
abbrev three_of : Place → TernaryForm → Scope → ℕ → Syntax → Syntax → Syntax → ℕ → ℕ → Outcome Resolved ScopeEnd
three_of p f s n a b c m k =
    and_then (resolved s n a)
    (λ x. and_then (resolved (entered s (second_binding m f)) (m + second_count f) b)
    (λ y. and_then (resolved (entered s (third_binding k f)) (k + third_count f) c)
    (λ z. found (raw.ternary p (ternary_resolved m k f) x y z))))

three_like : (p q : Place) (f : TernaryForm) {a b c u v w : Syntax} → Like a u → Like b v → Like c w → (s : Scope) (n m k : ℕ)
    → OutcomeLike Same (three_of p f s n a b c m k) (three_of q f s n u v w m k)
three_like p q f {a} {b} {c} {u} {v} {w} h i j s n m k =
    then_like Same Same (resolved s n a) (resolved s n u)
    (λ x. and_then (resolved (entered s (second_binding m f)) (m + second_count f) b) (λ y. and_then (resolved (entered s (third_binding k f)) (k + third_count f) c) (λ z. found (raw.ternary p (ternary_resolved m k f) x y z))))
    (λ x. and_then (resolved (entered s (second_binding m f)) (m + second_count f) v) (λ y. and_then (resolved (entered s (third_binding k f)) (k + third_count f) w) (λ z. found (raw.ternary q (ternary_resolved m k f) x y z))))
    (h.means s n)
    (λ x x' e. then_like Same Same (resolved (entered s (second_binding m f)) (m + second_count f) b) (resolved (entered s (second_binding m f)) (m + second_count f) v)
    (λ y. and_then (resolved (entered s (third_binding k f)) (k + third_count f) c) (λ z. found (raw.ternary p (ternary_resolved m k f) x y z)))
    (λ y. and_then (resolved (entered s (third_binding k f)) (k + third_count f) w) (λ z. found (raw.ternary q (ternary_resolved m k f) x' y z)))
    (i.means (entered s (second_binding m f)) (m + second_count f))
    (λ y y' d. then_like Same Same (resolved (entered s (third_binding k f)) (k + third_count f) c) (resolved (entered s (third_binding k f)) (k + third_count f) w)
    (λ z. found (raw.ternary p (ternary_resolved m k f) x y z)) (λ z. found (raw.ternary q (ternary_resolved m k f) x' y' z))
    (j.means (entered s (third_binding k f)) (k + third_count f)) (λ z z' r l. term.ternary (ternary_resolved m k f) (e l) (d l) (r l))))

ternary_means : (p q : Place) (f : TernaryForm) {a b c u v w : Syntax} → Like a u → Like b v → Like c w → (s : Scope) (n : ℕ)
    → OutcomeLike Same (resolved s n (ternary p f a b c)) (resolved s n (ternary q f u v w))
ternary_means p q f {a} {b} {c} {u} {v} {w} h i j s n =
    let m : ℕ = n + binders a in
    let k : ℕ = m + second_count f + binders b in
    let third : OutcomeLike Same (three_of p f s n a b c m k) (three_of q f s n u v w m (m + second_count f + binders v)) =
    subst (λ l. OutcomeLike Same (three_of p f s n a b c m k) (three_of q f s n u v w m (m + second_count f + l))) i.binds (three_like p q f h i j s n m k) in
    subst (λ l. OutcomeLike Same (three_of p f s n a b c m k) (three_of q f s n u v w (n + l) (n + l + second_count f + binders v))) h.binds third

pub ternary_like : (p q : Place) (f : TernaryForm) {a b c u v w : Syntax} → Like a u → Like b v → Like c w → Like (ternary p f a b c) (ternary q f u v w)
ternary_like p q f {a} {b} {c} {u} {v} {w} h i j = record {
  means = ternary_means p q f h i j;
  binds = omega (arith, h.binds, i.binds, j.binds);
  nodes = omega (
    arith,
    h.nodes,
    i.nodes,
    j.nodes,
    length-append (places a) (places b ++ places c),
    length-append (places b) (places c),
    length-append (places u) (places v ++ places w),
    length-append (places v) (places w),
  );
}

-- ---- tuples

pub data PartsLike : List Part → List Part → Type 0 where
  no_parts : PartsLike [] []
  a_part : {p q : Place} {e d : Syntax} {ps qs : List Part} → Like e d → PartsLike ps qs → PartsLike (record { place = p; expr = e } ∷ ps) (record { place = q; expr = d } ∷ qs)

pub parts_more : {ps qs : List Part} {e d : Syntax} (p q : Place) → PartsLike ps qs → Like e d
    → PartsLike (ps ++ record { place = p; expr = e } ∷ []) (qs ++ record { place = q; expr = d } ∷ [])
parts_more p q no_parts k = a_part k no_parts
parts_more p q (a_part h r) k = a_part h (parts_more p q r k)

pairs_like : (p q : Place) {e d : Syntax} {ps qs : List Part} → Like e d → PartsLike ps qs → Like (pairs p e ps) (pairs q d qs)
pairs_like p q h no_parts = h
pairs_like p q h (a_part {p = at} {q = other} k r) = binary_like p q binary_tree.Pair h (pairs_like at other k r)

pub tuple_like : (p q : Place) {ps qs : List Part} → PartsLike ps qs → Like (tuple p ps) (tuple q qs)
tuple_like p q no_parts = leaf_like p q (same_leaf leaf_tree.Unit)
tuple_like p q (a_part h r) = pairs_like p q h r
