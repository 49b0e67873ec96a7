-- What an outcome that finds something was made of.
use Rattle.std.proofs.Common.{◌≡◌, ◌≤◌, ℕ, Bool, true, false, if◌then◌else◌, nat_le, inl, inr, refl, ap, sym, ◌∙◌, subst}
use Rattle.std.proofs.lemmas.Bool.Decides.{leb_tells}
use Rattle.m5_lex.specs.declared.place.Place.{Place}
use Rattle.m5_terms.specs.TypeExpression.{TypeExpression, type_node_count}
use Rattle.m5_typing.specs.Rules.{IsSmall}
use Rattle.m5_elaborate.specs.declared.end.TypeEnd.{TypeEnd}
use Rattle.m5_terms.specs.Outcome.{found, fault, and_then}
use Rattle.m5_elaborate.specs.Outcome.{Outcome}
use Rattle.m5_elaborate.specs.Checked.{limited}

-- what is found, as an outcome of types
abbrev pub finds : {A : Type 0} → A → Outcome A
finds a = found a

pub found_is : {A : Type 0} (a b : A) → finds a ≡ finds b → a ≡ b
found_is a b e = cc

-- both steps found something
pub record Both {A B : Type 0} (o : Outcome A) (k : A → Outcome B) (b : B) : Type 0 where
  pub value : A
  pub first : o ≡ found value
  pub second : k value ≡ found b

pub both : {A B : Type 0} (o : Outcome A) (k : A → Outcome B) (b : B) → and_then o k ≡ found b → Both o k b
both (found a) k b e = record { value = a; first = refl; second = e }
both (fault t) k b e = cc

-- and together they do
pub joined : {A B : Type 0} (o : Outcome A) (k : A → Outcome B) (a : A) (b : B) → o ≡ found a → k a ≡ found b → and_then o k ≡ found b
joined o k a b p q = ap (λ x. and_then x k) p ∙ q

-- a test that was passed on the way
pub record Passed {A : Type 0} (t : Bool) (o : Outcome A) (a : A) : Type 0 where
  pub test : t ≡ true
  pub then_found : o ≡ found a

pub passed : {A : Type 0} (t : Bool) (o : Outcome A) (e : TypeEnd) (a : A) → (if t then o else fault e) ≡ found a → Passed t o a
passed true o e a h = record { test = refl; then_found = h }
passed false o e a h = cc

-- a refusal that was not made on the way
pub record Allowed {A : Type 0} (t : Bool) (o : Outcome A) (a : A) : Type 0 where
  pub test : t ≡ false
  pub then_found : o ≡ found a

pub allowed : {A : Type 0} (t : Bool) (o : Outcome A) (e : TypeEnd) (a : A) → (if t then fault e else o) ≡ found a → Allowed t o a
allowed true o e a h = cc
allowed false o e a h = record { test = refl; then_found = h }

-- what was found is not too large
pub record Limited (o : Outcome TypeExpression) (A : TypeExpression) : Type 0 where
  pub is : o ≡ found A
  pub small : IsSmall A

small_enough : (n : ℕ) → nat_le n 1024 ≡ true → n ≤ 1024
small_enough n e =
    elim (leb_tells n 1024) [
      | inl p ↦ p.1
      | inr p ↦ absurd (let q : true ≡ false = sym e ∙ p.0 in cc)
    ]

pub limits : (p : Place) (o : Outcome TypeExpression) (A : TypeExpression) → limited p o ≡ found A → Limited o A
limits p (fault t) A e = cc
limits p (found B) A e =
    let t = passed (nat_le (type_node_count B) 1024) (found B) _ A e in
    let q = found_is B A t.then_found in
    record { is = t.then_found; small = subst (λ C. IsSmall C) q (small_enough (type_node_count B) t.test) }
