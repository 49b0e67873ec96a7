-- A block that asks by a primitive does so at its world, and goes on with typed answers.
use Rattle.std.proofs.Common.{◌≡◌, ℕ, Bool, true, false, if◌then◌else◌, List, [], ◌∷◌, ◌++◌, length, refl, sym, ap, subst, ◌∙◌}
use Rattle.m5_terms.specs.TypeExpression.{TypeExpression, unit, string, product, sum, function}
use Rattle.m5_terms.specs.Text.{IsText}
use Rattle.m5_terms.specs.Primitives.{primitive_world, primitive_type}
use Rattle.m5_terms.specs.Machine.{asks}
use Rattle.m5_terms.specs.declared.ask.AskOf.{AskOf}
use Rattle.m5_terms.specs.declared.ask.AskOf.TheVariants as query
use Rattle.m5_terms.specs.declared.ask.AnswerOf.TheVariants as answer
use Rattle.m5_terms.specs.declared.types.World.{World}
use Rattle.m5_terms.specs.declared.types.Primitive.{Primitive}
use Rattle.m5_terms.specs.declared.types.Primitive.TheVariants as primitive
use Rattle.m5_terms.specs.declared.form.LeafForm.TheVariants as leaf_form
use Rattle.m5_terms.proofs.Lists.{each-append}
use Rattle.m5_typing.specs.Context.{Setting, CellTypes}
use Rattle.m5_meaning.specs.Reduction.{unit_or}
use Rattle.m5_meaning.specs.Step.{is_full}
use Rattle.m5_cps.specs.Entries.{of, takes}
use Rattle.m5_cps.specs.Values.{left, right, pair, Value, atom, wrap, join, enter, Item, Site}
use Rattle.m5_cps.specs.Deeds.{ends, stops_full}
use Rattle.m5_cps.specs.Asks.{after_done, after_get_text, after_read, adds_handler, asked}
use Rattle.m5_cps_typing.specs.States.{ClosureTyping, ValueFits, HandlerFits, SiteFits, QueryFits, AnswersFit, RanFits}
use Rattle.m5_cps_typing.proofs.Worlds.{ClosureLaws, value_grown}
use Rattle.m5_cps_typing.proofs.Shapes.{shape}
use Rattle.m5_cps_typing.proofs.Deeds.{at_once, stop_fits, told_fits, IsTold, site_grown}

fn_parts : (A B C D : TypeExpression) → function A B ≡ function C D → (A ≡ C) × (B ≡ D)
fn_parts A B C D e = (cc, cc)

module _ {C : Type 0} (K : ClosureTyping C) (laws : ClosureLaws K) (F : Setting) (L : CellTypes) (u : World) where
  unit_fits : (M : CellTypes) → ValueFits K F M (atom leaf_form.Unit) u (of unit)
  unit_fits M = (unit, refl, refl, refl)

  -- asks that are only told that they are done
  told : (q : AskOf (Item C)) (s : Site C) (k : Value C) → IsTold K laws F u q → QueryFits K F L u q → ValueFits K F L k u (takes (of unit)) → SiteFits K F L u s → RanFits K F L u (ends (asks q (after_done s (enter k (atom leaf_form.Unit)))))
  told q s k t f d h = at_once K laws F u L (asks q (after_done s (enter k (atom leaf_form.Unit)))) (f, told_fits K laws F u L q (after_done s (enter k (atom leaf_form.Unit))) (record s { threads = enter k (atom leaf_form.Unit) ∷ s.threads }) t refl (((of unit, d, unit_fits L), h.0), h.1, h.2))

  text_found : (e : List ℕ) (s : Site C) (k : Value C) → ValueFits K F L k u (takes (of string)) → SiteFits K F L u s → AnswersFit K F L u (query.GetText e) (after_get_text s k)
  text_found e s k d h M (answer.Found t) g same a f = (record s { threads = enter k (atom (leaf_form.Str t)) ∷ s.threads; units = _ }, refl, (let q = site_grown K laws F u L M g same s h in (((of string, value_grown K laws F L M g k u (takes (of string)) d, (string, refl, refl, (refl, f))), q.0), q.1, q.2)))
  text_found e s k d h M _ g same a f = absurd a

  key_found : (e : List ℕ) (s : Site C) (k : Value C) → ValueFits K F L k u (takes (of (sum unit string))) → SiteFits K F L u s → AnswersFit K F L u (query.Read e) (after_read s k)
  key_found e s k d h M (answer.Found t) g same a f = (record s { threads = enter k (wrap (right (unit_or string)) (atom (leaf_form.Str t))) ∷ s.threads; units = _ }, refl, (let q = site_grown K laws F u L M g same s h in (((of (sum unit string), value_grown K laws F L M g k u (takes (of (sum unit string))) d, (unit, string, refl, (string, refl, refl, (refl, f)))), q.0), q.1, q.2)))
  key_found e s k d h M answer.Missing g same a f = (record s { threads = enter k (wrap (left (unit_or string)) (atom leaf_form.Unit)) ∷ s.threads; units = _ }, refl, (let q = site_grown K laws F u L M g same s h in (((of (sum unit string), value_grown K laws F L M g k u (takes (of (sum unit string))) d, (unit, string, refl, unit_fits M)), q.0), q.1, q.2)))
  key_found e s k d h M _ g same a f = absurd a

  handler_asked : (q : ℕ → AskOf (Item C)) (s : Site C) (a k : Value C) → ((n : ℕ) → IsTold K laws F u (q n)) → ((n : ℕ) → QueryFits K F L u (q n)) → ValueFits K F L a u (of (function string unit)) → ValueFits K F L k u (takes (of unit)) → SiteFits K F L u s → RanFits K F L u (adds_handler s q a k)
  handler_asked q s a k t f c d h = full (is_full s.handlers)
    where
      full : (b : Bool) → RanFits K F L u (if b then stops_full s else ends (asks (q (length s.handlers)) (after_done (record s { handlers = s.handlers ++ a ∷ [] }) (enter k (atom leaf_form.Unit)))))
      full true = stop_fits K laws F u L s h
      full false = told (q (length s.handlers)) (record s { handlers = s.handlers ++ a ∷ [] }) k (t (length s.handlers)) (f (length s.handlers)) d (h.0, h.1, each-append (HandlerFits K F L u) s.handlers (a ∷ []) h.2 (c, tt))

  -- an argument of two texts, or of a text and a handler
  two_texts : (a : Value C) → ValueFits K F L a u (of (product string string)) → (e t : List ℕ) × (a ≡ join pair (atom (leaf_form.Str e)) (atom (leaf_form.Str t))) × IsText e × IsText t
  two_texts a d =
      let s = shape K laws F L u a (product string string) d in
      let x = shape K laws F L u s.0 string s.3 in
      let y = shape K laws F L u s.1 string s.4 in
      (x.0, y.0, s.2 ∙ (λ i. join pair (x.1 i) (y.1 i)), x.2, y.2)

  text_and : (a : Value C) → ValueFits K F L a u (of (product string (function string unit))) → (e : List ℕ) × (b : Value C) × (a ≡ join pair (atom (leaf_form.Str e)) b) × IsText e × ValueFits K F L b u (of (function string unit))
  text_and a d =
      let s = shape K laws F L u a (product string (function string unit)) d in
      let x = shape K laws F L u s.0 string s.3 in
      (x.0, s.1, s.2 ∙ ap (λ y. join pair y s.1) x.1, x.2, s.4)

  primitive_asked : (p : Primitive) (s : Site C) (k x : Value C) → u ≡ primitive_world p → ((A B : TypeExpression) → primitive_type p ≡ function A B → ValueFits K F L x u (of A) × ValueFits K F L k u (takes (of B))) → SiteFits K F L u s → RanFits K F L u (asked s k p x)
  primitive_asked primitive.Say s k x w d h = let q = d string unit refl in let t = shape K laws F L u x string q.0 in subst (λ x. RanFits K F L u (asked s k primitive.Say x)) (sym t.1) (told (query.Say t.0) s k tt (w, t.2) q.1 h)
  primitive_asked primitive.Show s k x w d h = let q = d string unit refl in let t = shape K laws F L u x string q.0 in subst (λ x. RanFits K F L u (asked s k primitive.Show x)) (sym t.1) (told (query.Show t.0) s k tt (w, t.2) q.1 h)
  primitive_asked primitive.GetText s k x w d h = let q = d string string refl in let t = shape K laws F L u x string q.0 in subst (λ x. RanFits K F L u (asked s k primitive.GetText x)) (sym t.1) (at_once K laws F u L (asks (query.GetText t.0) (after_get_text s k)) ((w, t.2), text_found t.0 s k q.1 h))
  primitive_asked primitive.Read s k x w d h = let q = d string (sum unit string) refl in let t = shape K laws F L u x string q.0 in subst (λ x. RanFits K F L u (asked s k primitive.Read x)) (sym t.1) (at_once K laws F u L (asks (query.Read t.0) (after_read s k)) ((w, t.2), key_found t.0 s k q.1 h))
  primitive_asked primitive.SetText s k x w d h = let q = d (product string string) unit refl in let t = two_texts x q.0 in subst (λ x. RanFits K F L u (asked s k primitive.SetText x)) (sym t.2) (told (query.Set t.0 t.1) s k tt (w, t.3, t.4) q.1 h)
  primitive_asked primitive.Write s k x w d h = let q = d (product string string) unit refl in let t = two_texts x q.0 in subst (λ x. RanFits K F L u (asked s k primitive.Write x)) (sym t.2) (told (query.Write t.0 t.1) s k tt (w, t.3, t.4) q.1 h)
  primitive_asked primitive.On s k x w d h = let q = d (product string (function string unit)) unit refl in let t = text_and x q.0 in subst (λ x. RanFits K F L u (asked s k primitive.On x)) (sym t.2) (handler_asked (query.On t.0) s t.1 k (λ n. tt) (λ n. (w, t.3)) t.4 q.1 h)
  primitive_asked primitive.Watch s k x w d h = let q = d (product string (function string unit)) unit refl in let t = text_and x q.0 in subst (λ x. RanFits K F L u (asked s k primitive.Watch x)) (sym t.2) (handler_asked (query.Watch t.0) s t.1 k (λ n. tt) (λ n. (w, t.3)) t.4 q.1 h)

  pub asked_fits : (p : Primitive) (A B : TypeExpression) (s : Site C) (k x : Value C) → u ≡ primitive_world p → primitive_type p ≡ function A B → ValueFits K F L x u (of A) → ValueFits K F L k u (takes (of B)) → SiteFits K F L u s → RanFits K F L u (asked s k p x)
  asked_fits p A B s k x w e d c h = primitive_asked p s k x w
      (λ C D f. let q = fn_parts A B C D (sym e ∙ f) in (subst (λ T. ValueFits K F L x u (of T)) q.0 d, subst (λ T. ValueFits K F L k u (takes (of T))) q.1 c)) h
