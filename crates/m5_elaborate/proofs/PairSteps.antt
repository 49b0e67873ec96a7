-- Nested pairs that grow at their inner end.
use Rattle.std.proofs.Common.{◌≡◌, ℕ, Option, List, [], ◌∷◌, ◌++◌, refl, ap, sym, ◌∙◌}
use Rattle.m5_lex.specs.declared.place.Place.{Place}
use Rattle.m5_terms.specs.Expression as terms
use Rattle.m5_terms.specs.TypeExpression.{TypeExpression, product}
use Rattle.m5_terms.specs.declared.types.World.{World}
use Rattle.m5_terms.specs.declared.form.BinaryForm.TheVariants.{Pair}
use Rattle.m5_typing.specs.Context.{Bound, Context}
use Rattle.m5_raw.specs.Resolved.{Resolved, binary}
use Rattle.m5_elaborate.specs.declared.end.TypeEnd.{TypeEnd}
use Rattle.m5_elaborate.specs.declared.pairs.Waiting.{Waiting}
use Rattle.m5_terms.specs.Outcome.{found, fault, and_then}
use Rattle.m5_elaborate.specs.Outcome.{Outcome, IsFault}
use Rattle.m5_elaborate.specs.Pairs.{paired, nested, nested_terms}
use Rattle.m5_elaborate.specs.Erased.{erased}
use Rattle.m5_elaborate.specs.Checked.{checked, limited}

pub nested_more : (es : List Waiting) (e : Waiting) (o : Outcome TypeExpression) → nested (es ++ e ∷ []) o ≡ nested es (paired e o)
nested_more [] e o = refl
nested_more (d ∷ es) e o = ap (λ x. paired d x) (nested_more es e o)

pub nested_fault : (es : List Waiting) (t : TypeEnd) → nested es (fault t) ≡ fault t
nested_fault [] t = refl
nested_fault (d ∷ es) t = ap (λ x. paired d x) (nested_fault es t)

pub pair_found : (F : ℕ → Option Bound) (G : Context) (w : World) (p : Place) (a b : Resolved) (A : TypeExpression) → checked F G w a ≡ found A
    → checked F G w (binary p Pair a b) ≡ paired (record { place = p; ty = A }) (checked F G w b)
pair_found F G w p a b A e = ap (λ o. limited p (and_then o (λ X. and_then (checked F G w b) (λ B. found (product X B))))) e

pub pair_fault : (F : ℕ → Option Bound) (G : Context) (w : World) (p : Place) (a b : Resolved) (t : TypeEnd) → checked F G w a ≡ fault t
    → checked F G w (binary p Pair a b) ≡ fault t
pair_fault F G w p a b t e = ap (λ o. limited p (and_then o (λ X. and_then (checked F G w b) (λ B. found (product X B))))) e

pub nested_terms_more : (xs : List terms.Expression) (x last : terms.Expression) → nested_terms (xs ++ x ∷ []) last ≡ nested_terms xs (terms.binary Pair x last)
nested_terms_more [] x last = refl
nested_terms_more (y ∷ xs) x last = ap (λ e. terms.binary Pair y e) (nested_terms_more xs x last)

-- a term that is nested pairs round r, which wait for r's type
pub nests_next : (F : ℕ → Option Bound) (G : Context) (w : World) (p : Place) (a b r : Resolved) (A : TypeExpression) (whole : Outcome TypeExpression) (es more : List Waiting) (o : Place)
    → whole ≡ nested es (checked F G w r) → binary p Pair a b ≡ r → checked F G w a ≡ found A → more ≡ es ++ record { place = o; ty = A } ∷ [] → o ≡ p
    → whole ≡ nested more (checked F G w b)
nests_next F G w p a b r A whole es more o h q e m k =
    h ∙ (ap (λ x. nested es (checked F G w x)) (sym q)
    ∙ (ap (λ o. nested es o) (pair_found F G w p a b A e)
    ∙ (sym (nested_more es (record { place = p; ty = A }) (checked F G w b))
    ∙ (ap (λ x. nested (es ++ record { place = x; ty = A } ∷ []) (checked F G w b)) (sym k) ∙ ap (λ l. nested l (checked F G w b)) (sym m)))))

pub nests_part_fault : (F : ℕ → Option Bound) (G : Context) (w : World) (p : Place) (a b r : Resolved) (t : TypeEnd) (whole : Outcome TypeExpression) (es : List Waiting)
    → whole ≡ nested es (checked F G w r) → binary p Pair a b ≡ r → IsFault (checked F G w a) t → IsFault whole t
nests_part_fault F G w p a b r t whole es h q i =
    λ n. h ∙ (ap (λ x. nested es (checked F G w x)) (sym q) ∙ (ap (λ o. nested es o) (pair_fault F G w p a b t (i n)) ∙ nested_fault es t))

pub nests_fault : (whole o : Outcome TypeExpression) (t : TypeEnd) (es : List Waiting) → whole ≡ nested es o → IsFault o t → IsFault whole t
nests_fault whole o t es h i = λ n. h ∙ (ap (λ x. nested es x) (i n) ∙ nested_fault es t)

pub nests_found : (whole o : Outcome TypeExpression) (A : TypeExpression) (es : List Waiting) → whole ≡ nested es o → o ≡ found A → whole ≡ nested es (found A)
nests_found whole o A es h e = h ∙ ap (λ x. nested es x) e

pub terms_next : (whole x : terms.Expression) (es more : List terms.Expression) (p : Place) (a b r : Resolved)
    → nested_terms es (erased r) ≡ whole → binary p Pair a b ≡ r → x ≡ erased a → more ≡ es ++ x ∷ [] → nested_terms more (erased b) ≡ whole
terms_next whole x es more p a b r h q e m =
    ap (λ l. nested_terms l (erased b)) m
    ∙ (nested_terms_more es x (erased b)
    ∙ (ap (λ y. nested_terms es (terms.binary Pair y (erased b))) e ∙ (ap (λ z. nested_terms es (erased z)) q ∙ h)))
