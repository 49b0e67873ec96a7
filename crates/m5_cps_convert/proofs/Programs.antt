-- A program's text is proper and closed, and its blocks are narrow.
use Rattle.std.proofs.Common.{◌≡◌, ℕ, zero, suc, ◌+◌, ◌≤◌, inr, List, [], ◌∷◌, max, fold, Option, Some, None, Bool, true, false, ◌&&◌, IsTrue, refl, sym, ap, ap₂, subst, arith, if◌then◌else◌, ◌==◌, ◌||◌, slice_get, true≢false}
use Rattle.std.proofs.Math.Nat.{le-max_left, le-max_right}
use Rattle.std.specs.List.{list_all}
use Rattle.m5_terms.specs.TypeExpression.{TypeExpression}
use Rattle.m5_terms.specs.TypeExpression as type
use Rattle.m5_terms.specs.Expression.{Expression, leaf, unary, binary, ternary}
use Rattle.m5_terms.specs.declared.types.World.{World}
use Rattle.m5_terms.specs.declared.form.LeafForm.{LeafForm}
use Rattle.m5_terms.specs.declared.form.LeafForm.TheVariants as leaf_form
use Rattle.m5_terms.specs.declared.form.UnaryForm.{UnaryForm}
use Rattle.m5_terms.specs.declared.form.UnaryForm.TheVariants as unary_form
use Rattle.m5_typing.specs.declared.functions.Function.{Function}
use Rattle.m5_typing.specs.Context.{Bound}
use Rattle.m5_meaning.specs.Site.{Program}
use Rattle.m5_cps.specs.Entries.{only}
use Rattle.m5_cps.specs.Values.{put}
use Rattle.m5_cps_convert.specs.Scopes.{fn_scope}
use Rattle.m5_cps_convert.specs.Continuations.{Tail}
use Rattle.m5_cps_convert.specs.Closing.{Values, hide, value_or, close}
use Rattle.m5_cps_convert.specs.Proper.{ProperForm, Proper}
use Rattle.m5_cps_convert.specs.Narrow.{Narrow}
use Rattle.m5_cps_convert.specs.Reading.{setting}
use Rattle.m5_terms.specs.InText.{leaf_in_text, unary_in_text}
use Rattle.m5_terms.specs.Substitution.{among, unary_binders, binary_binders, second_binders, third_binders}
use Rattle.m5_terms.specs.declared.types.World.TheVariants.{Home}
use Rattle.m5_terms.proofs.SiteWorlds.{has-site}
use Rattle.m5_typing.specs.Context.{local, valid, Context, Setting, nothing, with, with_all, if_valid}
use Rattle.m5_typing.specs.Rules.{LeafRule, Pick, unary_rule}
use Rattle.m5_typing.specs.Typing.{Typed, part_context}
use Rattle.m5_typing.specs.Program.{IsProgram, in_text}
use Rattle.m5_typing.specs.Width.{term_width, functions_width}
use Rattle.m5_typing.proofs.Declared.{declared_is_typed}
use Rattle.m5_typing.proofs.Mobile.{both-left, both-right}
use Rattle.m5_cps_convert.specs.Convert.{function_code, main_code}
use Rattle.m5_cps_convert.specs.Continuations.{thread_end}
use Rattle.m5_cps_convert.specs.Scopes.{empty_scope}
use Rattle.m5_cps_convert.proofs.Meets.{W}
use Rattle.m5_cps_convert.proofs.Uses.{end_safe, own_slot, first_true}
use Rattle.m5_cps_convert.proofs.Widths.{narrow_at, in_slot, Here}
use Rattle.m5_cps_convert.proofs.Entering.{Good, units_everywhere}

leaf_proper : (f : LeafForm) (E : Setting) (G : Context) (w : World) (A : TypeExpression) → IsTrue (leaf_in_text f) → LeafRule E G w f A → Proper (leaf f)
leaf_proper (leaf_form.Addr v) E G w A t d = has-site v d.0
leaf_proper (leaf_form.CellAt v n) E G w A t d = absurd (true≢false (sym t))
leaf_proper _ E G w A t d = tt

form_proper : (f : UnaryForm) (a : Expression) (w : World) (p : Pick) → IsTrue (unary_in_text f) → (unary_rule f w p).side a → ProperForm f a
form_proper unary_form.Sham a w p t s = s
form_proper (unary_form.Held v) a w p t s = absurd (true≢false (sym t))
form_proper _ a w p t s = tt

-- a typed term of a text is proper
proper_term : (E : Setting) (e : Expression) (G : Context) (w : World) (A : TypeExpression) → IsTrue (in_text e) → Typed E G w e A → Proper e
proper_term E (leaf f) G w A t d = leaf_proper f E G w A t d.0
proper_term E (unary f a) G w A t d = (form_proper f a w d.pick (both-left (unary_in_text f) (in_text a) t) d.side, proper_term E a _ (unary_rule f w d.pick).world _ (both-right (unary_in_text f) (in_text a) t) d.part)
proper_term E (binary f a b) G w A t d = (proper_term E a G w _ (both-left (in_text a) (in_text b) t) d.first, proper_term E b _ _ _ (both-right (in_text a) (in_text b) t) d.second)
proper_term E (ternary f a b c) G w A t d =
    let u = both-right (in_text a) (in_text b && in_text c) t in
    (proper_term E a G w _ (both-left (in_text a) (in_text b && in_text c) t) d.first, proper_term E b _ w _ (both-left (in_text b) (in_text c) u) d.second, proper_term E c _ w _ (both-right (in_text b) (in_text c) u) d.third)

-- no variable that is known has a value
abbrev NoneOf : Context → Values → Type 0
NoneOf G γ = (x : ℕ) (b : Bound) → G x ≡ Some b → γ x ≡ None

none_under : (ys : List ℕ) (bs : List Bound) (G : Context) (γ : Values) → NoneOf G γ → NoneOf (with_all ys bs G) (hide ys γ)
none_under [] bs G γ h x b = h x b
none_under (y ∷ ys) [] G γ h x b = at (x == y) (none_under ys [] G γ h x b)
  where
    at : (t : Bool) → (with_all ys [] G x ≡ Some b → hide ys γ x ≡ None) → (if t then None else with_all ys [] G x) ≡ Some b → (if t || among x ys then None else γ x) ≡ None
    at true k e = refl
    at false k e = k e
none_under (y ∷ ys) (c ∷ bs) G γ h x b = at (x == y) (none_under ys bs G γ h x b)
  where
    at : (t : Bool) → (with_all ys bs G x ≡ Some b → hide ys γ x ≡ None) → (if t then Some c else with_all ys bs G x) ≡ Some b → (if t || among x ys then None else γ x) ≡ None
    at true k e = refl
    at false k e = k e

if_valid_is : (o : Option Bound) (b : Bound) → if_valid o ≡ Some b → (c : Bound) × (o ≡ Some c)
if_valid_is None b e = absurd (cc)
if_valid_is (Some c) b e = (c, refl)

none_part : (f : UnaryForm) (G : Context) (γ : Values) → NoneOf G γ → NoneOf (part_context f G) γ
none_part unary_form.Sham G γ h x b e = let q = if_valid_is (G x) b e in h x q.0 q.1
none_part _ G γ h x b e = h x b e

leaf_stays : (E : Setting) (G : Context) (w : World) (f : LeafForm) (A : TypeExpression) (γ : Values) → NoneOf G γ → LeafRule E G w f A → close γ (leaf f) ≡ leaf f
leaf_stays E G w (leaf_form.Var x) A γ h d = ap (λ o. value_or o (leaf_form.Var x)) (h x (local w A) d)
leaf_stays E G w (leaf_form.Valid x) A γ h d = ap (λ o. value_or o (leaf_form.Valid x)) (h x (valid A) d)
leaf_stays E G w _ A γ h d = refl

-- where no known variable has a value, a typed term stays
stays : (E : Setting) (e : Expression) (G : Context) (w : World) (A : TypeExpression) (γ : Values) → NoneOf G γ → Typed E G w e A → close γ e ≡ e
stays E (leaf f) G w A γ h d = leaf_stays E G w f A γ h d.0
stays E (unary f a) G w A γ h d = ap (unary f) (stays E a _ _ _ (hide (unary_binders f) γ) (none_under (unary_binders f) (unary_rule f w d.pick).bounds (part_context f G) γ (none_part f G γ h)) d.part)
stays E (binary f a b) G w A γ h d = ap₂ (binary f) (stays E a G w _ γ h d.first) (stays E b _ _ _ (hide (binary_binders f) γ) (none_under (binary_binders f) _ G γ h) d.second)
stays E (ternary f a b c) G w A γ h d = cc (stays E a G w _ γ h d.first, stays E b _ w _ (hide (second_binders f) γ) (none_under (second_binders f) _ G γ h) d.second, stays E c _ w _ (hide (third_binders f) γ) (none_under (third_binders f) _ G γ h) d.third)

-- each function's body is within the widest one
fold_from : (gs : List Function) (n : ℕ) → n ≤ fold (λ widest g. max widest (1 + term_width g.body)) n gs
fold_from [] n = omega arith
fold_from (g ∷ gs) n = omega (arith, le-max_left n (1 + term_width g.body), fold_from gs (max n (1 + term_width g.body)))

among_widths : (gs : List Function) (i : ℕ) (g : Function) (n : ℕ) → slice_get gs i ≡ Some g → 1 + term_width g.body ≤ fold (λ widest g. max widest (1 + term_width g.body)) n gs
among_widths [] i g n e = absurd (cc)
among_widths (h ∷ gs) zero g n e = let q : h ≡ g = cc in subst (λ y. 1 + term_width y.body ≤ fold (λ widest g. max widest (1 + term_width g.body)) n (h ∷ gs)) q (omega (arith, le-max_right n (1 + term_width h.body), fold_from gs (max n (1 + term_width h.body))))
among_widths (h ∷ gs) (suc i) g n e = among_widths gs i g (max n (1 + term_width h.body)) e

pub all_at : (p : Function → Bool) (gs : List Function) (i : ℕ) (g : Function) → IsTrue (list_all p gs) → slice_get gs i ≡ Some g → IsTrue (p g)
all_at p [] i g h e = absurd (cc)
all_at p (f ∷ gs) zero g h e = subst (λ x. IsTrue (p x)) (let q : f ≡ g = cc in q) (both-left (p f) (list_all p gs) h)
all_at p (f ∷ gs) (suc i) g h e = all_at p gs i g (both-right (p f) (list_all p gs) h) e

none_but : (p : ℕ) (b : Bound) (γ : Values) → NoneOf (with p (Some b) nothing) (hide (p ∷ []) γ)
none_but p b γ x c = at (x == p)
  where
    at : (t : Bool) → (if t then Some b else None) ≡ Some c → (if t || false then None else γ x) ≡ None
    at true e = refl
    at false e = absurd (cc)

-- the parameter's slot
covers_one : (x l : ℕ) (z k : ℕ) → put x (Some l) (λ y. None) z ≡ Some k → IsTrue (among k (l ∷ []))
covers_one x l z k = at (z == x)
  where
    at : (t : Bool) → (if t then Some l else None) ≡ Some k → IsTrue (among k (l ∷ []))
    at true e = let q : l ≡ k = cc in subst (λ y. IsTrue (among y (l ∷ []))) q (first_true (l == l) false (own_slot l))
    at false e = absurd (cc)

module _ (P : Program) (d : IsProgram P) where
  function_narrow : (i : ℕ) (g : Function) → slice_get P.functions i ≡ Some g → Narrow (W P) (function_code (setting P) g) 3
  function_narrow i g e = narrow_at P g.body (fn_scope g.parameter g.ty 0 (empty_scope (only g.world))) 3 (Tail 2) (1 ∷ []) (2 ∷ []) 1 1
      (in_slot P (put g.parameter (Some 1) (λ y. None)) 3 2 (1 ∷ []) 1 1 (covers_one g.parameter 1) (omega arith) (omega arith))
      (omega (arith, among_widths P.functions i g 0 e, le-max_left (functions_width P.functions) (term_width P.main)))

  pub main_narrow : Narrow (W P) (main_code (setting P) P.main) 2
  main_narrow = narrow_at P P.main (empty_scope (only Home)) 2 thread_end [] [] 0 1
      (record { covers = λ z l e. absurd (cc); variables = omega arith; others = omega arith; some = omega arith; uses = λ m x p g h. end_safe m (Here [] x) x p h (λ q. inr refl); narrow = λ x m g. tt })
      (omega (arith, le-max_right (functions_width P.functions) (term_width P.main)))

  pub program_good : Good P
  program_good = record {
    proper = λ i g e. proper_term (setting P) g.body _ g.world g.result (all_at (λ h. in_text h.body) P.functions i g d.bodies_in_text e) (declared_is_typed P i g d e).body;
    closed_ = λ i g e. stays (setting P) g.body _ g.world g.result (hide (g.parameter ∷ []) units_everywhere) (none_but g.parameter (local g.world g.ty) units_everywhere) (declared_is_typed P i g d e).body;
    narrow = function_narrow;
  }

  pub main_proper : Proper P.main
  main_proper = proper_term (setting P) P.main nothing Home type.unit d.main_in_text d.main

  pub main_stays : (γ : Values) → close γ P.main ≡ P.main
  main_stays γ = stays (setting P) P.main nothing Home type.unit γ (λ x b e. absurd (cc)) d.main
