-- A tuple resolved from its first part on: the parts before one and what that one and the later ones give.
use Rattle.std.proofs.Common.{◌≡◌, ℕ, ◌+◌, ◌*◌, ◌<◌, ◌≤◌, List, [], ◌∷◌, ◌++◌, refl, ap, sym, subst, ◌∙◌, arith}
use Rattle.m5_lex.specs.declared.place.Place.{Place}
use Rattle.m5_terms.specs.declared.form.BinaryForm.TheVariants.{Pair}
use Rattle.m5_tree.specs.Syntax.{Syntax, node_count}
use Rattle.m5_tree.specs.Tuple.{pairs}
use Rattle.m5_tree.specs.declared.expr.Part.{Part}
use Rattle.m5_raw.specs.Resolved.{Resolved, binary}
use Rattle.m5_scope.specs.Meaning.{Scope}
use Rattle.m5_terms.specs.Outcome.{found, fault, and_then}
use Rattle.m5_scope.specs.Resolving.{Outcome, IsFault, binders, resolved}
use Rattle.m5_scope.specs.Tuple.{paired}
use Rattle.m5_scope.specs.declared.tuple.Head.{Head}
use Rattle.m5_scope.specs.declared.end.ScopeEnd.{ScopeEnd}
use Rattle.m5_scope.proofs.Measures.{weight, later_weighs, part_weighs}

-- the pairs of parts that are resolved and of what comes after them
abbrev pub around : List Head → Outcome Resolved → Outcome Resolved
around hs o = and_then o (λ x. found (paired hs x))

pub around_none : (o : Outcome Resolved) → around [] o ≡ o
around_none (found x) = refl
around_none (fault e) = refl

pub paired_more : (hs : List Head) (h : Head) (x : Resolved) → paired (hs ++ h ∷ []) x ≡ paired hs (binary h.place Pair h.node x)
paired_more [] h x = refl
paired_more (g ∷ hs) h x = ap (λ y. binary g.place Pair g.node y) (paired_more hs h x)

around_more : (hs : List Head) (h : Head) (o : Outcome Resolved) → around hs (and_then o (λ x. found (binary h.place Pair h.node x))) ≡ around (hs ++ h ∷ []) o
around_more hs h (found x) = ap (λ y. found y) (sym (paired_more hs h x))
around_more hs h (fault e) = refl

abbrev pair_of : List Head → Place → Outcome Resolved → Outcome Resolved → Outcome Resolved
pair_of hs at o rest = around hs (and_then o (λ x. and_then rest (λ y. found (binary at Pair x y))))

pair_parts : (s : Scope) (n : ℕ) (at : Place) (e : Syntax) (p : Part) (ps : List Part) (hs : List Head)
    → around hs (resolved s n (pairs at e (p ∷ ps))) ≡ pair_of hs at (resolved s n e) (resolved s (n + binders e) (pairs p.place p.expr ps))
pair_parts s n at e p ps hs =
    let none_bound : n + 0 ≡ n = omega arith in
    ap (λ (i : ℕ). pair_of hs at (resolved s i e) (resolved s (i + binders e) (pairs p.place p.expr ps))) none_bound

-- a part is resolved, and the later ones are still to be
pub pair_step : (s : Scope) (n : ℕ) (at : Place) (e : Syntax) (p : Part) (ps : List Part) (hs : List Head) (x : Resolved) → resolved s n e ≡ found x
    → around hs (resolved s n (pairs at e (p ∷ ps))) ≡ around (hs ++ record { place = at; node = x } ∷ []) (resolved s (n + binders e) (pairs p.place p.expr ps))
pair_step s n at e p ps hs x h =
    pair_parts s n at e p ps hs
    ∙ ap (λ (o : Outcome Resolved). pair_of hs at o (resolved s (n + binders e) (pairs p.place p.expr ps))) h
    ∙ around_more hs (record { place = at; node = x }) (resolved s (n + binders e) (pairs p.place p.expr ps))

-- a fault in a part is one of the whole
pub first_faults : (s : Scope) (n : ℕ) (at : Place) (e : Syntax) (ps : List Part) (hs : List Head) (err : ScopeEnd) → IsFault (resolved s n e) err → IsFault (around hs (resolved s n (pairs at e ps))) err
first_faults s n at e [] hs err h = λ other. ap (λ o. around hs o) (h other)
first_faults s n at e (p ∷ ps) hs err h = λ other.
    pair_parts s n at e p ps hs
    ∙ ap (λ (o : Outcome Resolved). pair_of hs at o (resolved s (n + binders e) (pairs p.place p.expr ps))) (h other)

first_binders : (at : Place) (e : Syntax) (ps : List Part) → binders e ≤ binders (pairs at e ps)
first_binders at e [] = omega arith
first_binders at e (p ∷ ps) = omega arith

-- the parts before this one are resolved; from here on the whole is what this one and the later ones give
pub record IsPartway (s : Scope) (n : ℕ) (whole : Syntax) (most : ℕ) (hs : List Head) (m : ℕ) (at : Place) (e : Syntax) (ps : List Part) : Type 0 where
  pub answer : resolved s n whole ≡ around hs (resolved s m (pairs at e ps))
  pub numbers : m + binders (pairs at e ps) ≡ n + binders whole
  pub weighs : weight at e ps ≤ most

pub partway_start : (s : Scope) (n : ℕ) (at : Place) (e : Syntax) (ps : List Part) → IsPartway s n (pairs at e ps) (weight at e ps) [] n at e ps
partway_start s n at e ps = record { answer = sym (around_none (resolved s n (pairs at e ps))); numbers = refl; weighs = omega arith }

pub partway_next : (s : Scope) (n : ℕ) (whole : Syntax) (most : ℕ) (hs : List Head) (m : ℕ) (at : Place) (e : Syntax) (p : Part) (ps : List Part) (x : Resolved)
    → IsPartway s n whole most hs m at e (p ∷ ps) → resolved s m e ≡ found x
    → IsPartway s n whole most (hs ++ record { place = at; node = x } ∷ []) (m + binders e) p.place p.expr ps
partway_next s n whole most hs m at e p ps x so h =
    record {
      answer = so.answer ∙ pair_step s m at e p ps hs x h;
      numbers = omega (arith, so.numbers);
      weighs = omega (arith, so.weighs, later_weighs at e p ps);
    }

pub partway_goes : (s t : Scope) (n : ℕ) (whole : Syntax) (most : ℕ) (hs gs : List Head) (m k : ℕ) (at : Place) (e : Syntax) (rest : List Part) (p : Part) (ps : List Part) (x : Resolved)
    → IsPartway s n whole most hs m at e rest → rest ≡ p ∷ ps → t ≡ s → resolved t m e ≡ found x → k ≡ m + binders e → gs ≡ hs ++ record { place = at; node = x } ∷ []
    → IsPartway s n whole most gs k p.place p.expr ps
partway_goes s t n whole most hs gs m k at e rest p ps x so split same h count heads =
    let here : IsPartway s n whole most hs m at e (p ∷ ps) = subst (λ (r : List Part). IsPartway s n whole most hs m at e r) split so in
    let known_here : resolved s m e ≡ found x = ap (λ (u : Scope). resolved u m e) (sym same) ∙ h in
    let after : IsPartway s n whole most (hs ++ record { place = at; node = x } ∷ []) (m + binders e) p.place p.expr ps = partway_next s n whole most hs m at e p ps x here known_here in
    subst (λ (i : ℕ). IsPartway s n whole most gs i p.place p.expr ps) (sym count)
    (subst (λ (q : List Head). IsPartway s n whole most q (m + binders e) p.place p.expr ps) (sym heads) after)

-- what the calls for this part need
pub partway_few : (s : Scope) (n : ℕ) (whole : Syntax) (most : ℕ) (hs : List Head) (m : ℕ) (at : Place) (e : Syntax) (ps : List Part)
    → IsPartway s n whole most hs m at e ps → m + binders e ≤ n + binders whole
partway_few s n whole most hs m at e ps so = omega (arith, so.numbers, first_binders at e ps)

pub partway_weighs : (s : Scope) (n : ℕ) (whole : Syntax) (most : ℕ) (hs : List Head) (m : ℕ) (at : Place) (e : Syntax) (ps : List Part)
    → IsPartway s n whole most hs m at e ps → 4 * node_count e + 2 < most
partway_weighs s n whole most hs m at e ps so = omega (arith, so.weighs, part_weighs at e ps)

pub partway_end : (s : Scope) (n : ℕ) (whole : Syntax) (most : ℕ) (hs : List Head) (m : ℕ) (at : Place) (e : Syntax) (x : Resolved)
    → IsPartway s n whole most hs m at e [] → resolved s m e ≡ found x → resolved s n whole ≡ found (paired hs x)
partway_end s n whole most hs m at e x so h = so.answer ∙ ap (λ o. around hs o) h

pub partway_fault : (s : Scope) (n : ℕ) (whole : Syntax) (most : ℕ) (hs : List Head) (m : ℕ) (at : Place) (e : Syntax) (ps : List Part) (err : ScopeEnd)
    → IsPartway s n whole most hs m at e ps → IsFault (resolved s m e) err → IsFault (resolved s n whole) err
partway_fault s n whole most hs m at e ps err so h = λ other. so.answer ∙ first_faults s m at e ps hs err h other
