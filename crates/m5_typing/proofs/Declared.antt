-- A declared function stays typed where later ones are known too.
use Rattle.std.proofs.Common.{◌≡◌, ℕ, zero, suc, Some, List, [], ◌∷◌, ◌++◌, slice_get, refl, subst}
use Rattle.m5_typing.specs.declared.functions.Function.{Function}
use Rattle.m5_typing.specs.Context.{Bound}
use Rattle.m5_typing.specs.Program.{FunctionTyped, FunctionsTyped, setting_of, declared_bound}
use Rattle.m5_typing.specs.Laws.{Extends, DeclaredIsTyped}
use Rattle.m5_typing.proofs.Weaken.{weaken}

still-there : (xs ys : List Function) (f : ℕ) (b : Bound) → declared_bound (slice_get xs f) ≡ Some b → declared_bound (slice_get (xs ++ ys) f) ≡ Some b
still-there [] ys f b e = cc
still-there (x ∷ xs) ys zero b e = e
still-there (x ∷ xs) ys (suc f) b e = still-there xs ys f b e

extends : (xs ys : List Function) → Extends (setting_of xs) (setting_of (xs ++ ys))
extends xs ys = record { functions = λ f b e. still-there xs ys f b e; cells = λ w n A e. e }

stays : (xs ys : List Function) (g : Function) → FunctionTyped xs g → FunctionTyped (xs ++ ys) g
stays xs ys g d = record { small = d.small; body = weaken (setting_of xs) (setting_of (xs ++ ys)) (extends xs ys) g.body _ _ g.world g.result (λ x b e. e) d.body }

append-assoc : (xs ys zs : List Function) → (xs ++ ys) ++ zs ≡ xs ++ (ys ++ zs)
append-assoc [] ys zs = refl
append-assoc (x ∷ xs) ys zs = let P : List Function → List Function = λ l. x ∷ l in λ i. P (append-assoc xs ys zs i)

some-inj : (a b : Function) → Some a ≡ Some b → a ≡ b
some-inj a b e = cc

typed-among : (rest before : List Function) (f : ℕ) (g : Function) → FunctionsTyped before rest → slice_get rest f ≡ Some g → FunctionTyped (before ++ rest) g
typed-among [] before f g d e = cc
typed-among (h ∷ rest) before zero g d e =
    subst (λ x. FunctionTyped (before ++ (h ∷ rest)) x) (some-inj h g e)
    (subst (λ l. FunctionTyped l h) (append-assoc before (h ∷ []) rest) (stays (before ++ h ∷ []) rest h d.0))
typed-among (h ∷ rest) before (suc f) g d e =
    subst (λ l. FunctionTyped l g) (append-assoc before (h ∷ []) rest) (typed-among rest (before ++ h ∷ []) f g d.1 e)

pub declared_is_typed : DeclaredIsTyped
declared_is_typed p f g h e = typed-among p.functions [] f g h.functions e
