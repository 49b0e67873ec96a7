-- Chains with a block more.
use Rattle.std.proofs.Common.{◌≡◌, ◌∙◌, ◌⊎◌, ℕ, zero, suc, ◌≤◌, ◌+◌, List, [], ◌∷◌, ◌++◌, length, Some, slice_get, refl, sym, ap, subst, inl, inr, arith, append_assoc}
use Rattle.std.proofs.lemmas.Option.{slice_get_within}
use Rattle.m5_terms.specs.TypeExpression.{TypeExpression, unit}
use Rattle.m5_cps.proofs.Lists.{get_before, get_last}
use Rattle.m5_cps.specs.Entries as entries
use Rattle.m5_cps.specs.Entries.{of, everywhere, by_value, main_entry}
use Rattle.m5_cps.specs.Steps.{entry_of}
use Rattle.m5_cps.specs.TypesByNumber.{type_in, or_unit}
use Rattle.m5_cps.specs.declared.entry.Mode.{Mode}
use Rattle.m5_cps.specs.declared.entry.Mode.TheVariants.{Only, Everywhere}
use Rattle.m5_cps.specs.declared.entry.Argument.TheVariants.{Value}
use Rattle.m5_cps.specs.declared.entry.Entry.TheVariants.{ByValue}
use Rattle.m5_cps.specs.declared.step.Ending.TheVariants.{Go, Done}
use Rattle.m5_terms.specs.declared.types.World.TheVariants.{Home}
use Rattle.m5_flat.specs.declared.step.Step.{Step}
use Rattle.m5_flat.specs.declared.step.Step.TheVariants.{Closure, Ends}
use Rattle.m5_flat.specs.declared.label.Kind.{Kind}
use Rattle.m5_flat.specs.declared.label.Label.{Label}
use Rattle.flat_bench.specs.declared.chains.Built.{Built}
use Rattle.flat_bench.specs.Chains.{with_block, EndsAtOnce, EntersAnother, IsChained, IsBare, AreChains}

there : {A : Type 0} (xs ys : List A) (i : ℕ) (x : A) → slice_get xs i ≡ Some x → slice_get (xs ++ ys) i ≡ Some x
there xs ys i x e = get_before xs ys i (slice_get_within xs i x e) ∙ e

-- where an item of a list with one more is
behind : {A : Type 0} (xs : List A) (x y : A) (n : ℕ) → slice_get (xs ++ x ∷ []) n ≡ Some y → (slice_get xs n ≡ Some y) ⊎ ((n ≡ length xs) × (x ≡ y))
behind [] x y zero e = inr (refl, (cc))
behind [] x y (suc n) e = absurd (cc)
behind (z ∷ xs) x y zero e = inl e
behind (z ∷ xs) x y (suc n) e = elim (behind xs x y n e) [ inl h ↦ inl h | inr h ↦ inr (ap suc h.0, h.1) ]

module _ (b : Built) (ss : List Step) (m : Label) where
  abbrev c : Built
  c = with_block b ss m

  abbrev placed : Label
  placed = record m { place = length b.steps }

  chained_on : (l : Label) → IsChained b l → IsChained c l
  chained_on l h = record {
    mode = h.mode;
    argument = h.argument;
    entry = h.entry;
    code = elim h.code [
      | inl e ↦ inl (record { few = e.few; done = there b.steps ss l.place (Ends Done) e.done })
      | inr e ↦ inr (record {
        held = e.held;
        environment = e.environment;
        next = e.next;
        block = e.block;
        at = there b.labels (placed ∷ []) e.next e.block e.at;
        same_entry = e.same_entry;
        same_environment = e.same_environment;
        closure = there b.steps ss l.place (Closure (0 ∷ []) e.next (suc l.place)) e.closure;
        enters = there b.steps ss (suc l.place) (Ends (Go 3 2)) e.enters;
      })
    ];
  }

  bare_on : (types : List TypeExpression) (i : ℕ) (y : entries.Entry) → IsBare types b i y → IsBare types c i y
  bare_on types i y h = record {
    label = h.label;
    at = there b.labels (placed ∷ []) i h.label h.at;
    entry = h.entry;
    environment = h.environment;
    done = there b.steps ss h.label.place (Ends Done) h.done;
  }

  pub one_more : (types : List TypeExpression) → AreChains types b → length m.environment ≡ 1 → IsChained c placed → AreChains types c
  one_more types h one new = record {
    finish = bare_on types 0 (by_value everywhere (of unit)) h.finish;
    main = bare_on types 1 main_entry h.main;
    chained = λ i l e. elim (behind b.labels placed l i e) [
      | inl old ↦ chained_on l (h.chained i l old)
      | inr last ↦ subst (IsChained c) last.1 new
    ];
    held = λ i l far e. elim (behind b.labels placed l i e) [
      | inl old ↦ h.held i l far old
      | inr last ↦ subst (λ (x : Label). length x.environment ≡ 1) last.1 one
    ];
  }

-- one that ends at once
pub ended_more : (types : List TypeExpression) (b : Built) (m : Label) → AreChains types b → (k : Mode) (n : ℕ) → m.entry ≡ ByValue k (Value n) → length m.environment ≡ 1 → AreChains types (with_block b (Ends Done ∷ []) m)
ended_more types b m h k n e one = one_more b (Ends Done ∷ []) m types h one (record {
  mode = k;
  argument = Value n;
  entry = e;
  code = inl (record { few = omega (arith, one); done = get_last b.steps (Ends Done) [] });
})

get_second : {A : Type 0} (xs : List A) (x y : A) → slice_get (xs ++ x ∷ y ∷ []) (suc (length xs)) ≡ Some y
get_second [] x y = refl
get_second (z ∷ xs) x y = get_second xs x y

one_item : (ks : List Kind) → length ks ≡ 1 → (k : Kind) × (ks ≡ k ∷ [])
one_item [] e = absurd (omega (arith, e))
one_item (k ∷ []) e = (k, refl)
one_item (k ∷ l ∷ ks) e = absurd (omega (arith, e))

-- one that enters an earlier one
pub linked_more : (types : List TypeExpression) (b : Built) (next : ℕ) (l : Label) → AreChains types b → 2 ≤ next → slice_get b.labels next ≡ Some l
    → AreChains types (with_block b (Closure (0 ∷ []) next (suc (length b.steps)) ∷ Ends (Go 3 2) ∷ []) l)
linked_more types b next l h far at =
    let one : length l.environment ≡ 1 = h.held next l far at in
    let old : IsChained b l = h.chained next l at in
    let k = one_item l.environment one in
    let place : Label = record l { place = length b.steps } in
    let first : Step = Closure (0 ∷ []) next (suc (length b.steps)) in
    one_more b (first ∷ Ends (Go 3 2) ∷ []) l types h one (record {
      mode = old.mode;
      argument = old.argument;
      entry = old.entry;
      code = inr (record {
        held = k.0;
        environment = k.1;
        next = next;
        block = l;
        at = there b.labels (place ∷ []) next l at;
        same_entry = refl;
        same_environment = refl;
        closure = get_last b.steps first (Ends (Go 3 2) ∷ []);
        enters = get_second b.steps first (Ends (Go 3 2));
      });
    })

abbrev ends_thread : ℕ → Label
ends_thread n = record { entry = ByValue Everywhere (Value n); environment = []; place = 0 }

abbrev begins_main : ℕ → Label
begins_main n = record { entry = ByValue (Only Home) (Value n); environment = []; place = 1 }

-- the first two
abbrev pub first_two : ℕ → Built
first_two n = record { steps = Ends Done ∷ Ends Done ∷ []; labels = ends_thread n ∷ begins_main n ∷ [] }

first : (n i : ℕ) (l : Label) → slice_get (first_two n).labels i ≡ Some l → IsChained (first_two n) l
first n zero l at =
    let q : ends_thread n ≡ l = cc (at) in
    subst (IsChained (first_two n)) q (record { mode = Everywhere; argument = Value n; entry = refl; code = inl (record { few = omega arith; done = refl }) })
first n (suc zero) l at =
    let q : begins_main n ≡ l = cc (at) in
    subst (IsChained (first_two n)) q (record { mode = Only Home; argument = Value n; entry = refl; code = inl (record { few = omega arith; done = refl }) })
first n (suc (suc i)) l at = absurd (cc (at))

no_more : (n i : ℕ) (l : Label) → 2 ≤ i → slice_get (first_two n).labels i ≡ Some l → ⊥
no_more n zero l far at = omega (arith, far)
no_more n (suc zero) l far at = omega (arith, far)
no_more n (suc (suc i)) l far at = cc (at)

pub begun : (types : List TypeExpression) (n : ℕ) → slice_get types n ≡ Some unit → AreChains types (first_two n)
begun types n e =
    let is : type_in types n ≡ unit = ap or_unit e in record {
      finish = record { label = ends_thread n; at = refl; entry = ap (λ T. by_value everywhere (of T)) is; environment = refl; done = refl };
      main = record { label = begins_main n; at = refl; entry = ap (λ T. by_value (entries.only Home) (of T)) is; environment = refl; done = refl };
      chained = first n;
      held = λ i l far at. absurd (no_more n i l far at);
    }

-- the same, as the steps and the labels are written
pub linked_as : (types : List TypeExpression) (b : Built) (next : ℕ) (l : Label) → AreChains types b → 2 ≤ next → slice_get b.labels next ≡ Some l
    → (ts : List ℕ) (ks : List Kind) (p q : ℕ) (s t : List Step) (ls : List Label) → ts ≡ 0 ∷ [] → ks ≡ l.environment → p ≡ length b.steps → q ≡ p + 1
    → s ≡ b.steps ++ Closure ts next q ∷ [] → t ≡ s ++ Ends (Go 3 2) ∷ [] → ls ≡ b.labels ++ record { entry = l.entry; environment = ks; place = p } ∷ []
    → AreChains types (record { steps = t; labels = ls })
linked_as types b next l h far at ts ks p q s t ls et ek ep eq es e2 el =
    let place : q ≡ suc (length b.steps) = omega (arith, ep, eq) in
    rw e2 (rw es (rw el (rw et (rw ek (rw ep (rw place (rw (append_assoc b.steps (Closure (0 ∷ []) next (suc (length b.steps)) ∷ []) (Ends (Go 3 2) ∷ [])) (linked_more types b next l h far at))))))))
