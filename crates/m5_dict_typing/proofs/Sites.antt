-- Threads of typed sites bring to labels what the labels' lines say, and sites go on so.
use Rattle.std.proofs.Common.{◌≡◌, ◌≢◌, ◌∙◌, inl, inr, ℕ, zero, suc, IsTrue, List, [], ◌∷◌, refl, sym, ap, subst}
use Rattle.std.specs.List.{AllByRecursion as Each}
use Rattle.m5_terms.specs.TypeExpression.{TypeExpression, unit, bool, int, string, address, product, sum, function, list, cell, sham, at}
use Rattle.m5_terms.specs.Machine.{goes, asks, wrong}
use Rattle.m5_terms.specs.declared.ask.AskOf.{AskOf}
use Rattle.m5_terms.specs.declared.ask.AskOf.TheVariants as query
use Rattle.m5_terms.specs.declared.form.LeafForm.TheVariants as leaf_form
use Rattle.m5_terms.specs.declared.types.World.{World}
use Rattle.m5_terms.specs.declared.types.World.TheVariants.{Home, Server, Panel, Any}
use Rattle.m5_typing.specs.Context.{CellTypes, IsKnownAt}
use Rattle.m5_dictionary.specs.Dictionaries.{Dictionaries, IsDictionaries, stands_at}
use Rattle.m5_dict.specs.Standing.{fun, Stands, type_target, slot_target, entry_target}
use Rattle.m5_dict.specs.Dictionaries.{AreDictionariesOf}
use Rattle.m5_cps.specs.Entries.{SlotType, of, takes, Entry, by_value, by_call, entry_type}
use Rattle.m5_cps.specs.Values.{left, right, held, cons, atom, wrap, join, closed, enter, call, thread, raw, SiteNext}
use Rattle.m5_cps.specs.Values as value
use Rattle.m5_cps_typing.specs.States as states
use Rattle.m5_cps_typing.specs.States.{ThreadFits, SiteFits, QueryFits, IsFitNext}
use Rattle.m5_flat.specs.Blocks.{Blocks}
use Rattle.m5_flat.specs.Values.{Closure, under, Value, Thread, Item, Site}
use Rattle.m5_flat.specs.Running.{site_next}
use Rattle.m5_flat.specs.Fits.{no_setting}
use Rattle.m5_flat.specs.Program.{IsProgram}
use Rattle.m5_flat_typing.specs.Closures.{LabelHolds, ClosureFits}
use Rattle.m5_flat_typing.proofs.Sites.{next_fits, opening_fits}
use Rattle.m5_dict_typing.specs.Values.{IsOf}
use Rattle.m5_dict_typing.specs.Sites.{Enters, IsCallOf, EntersClosure, CallsFunction, BringsItsTypes, SendsItsTypes, ValuesHaveTheirTypes, NextKeeps, GoesOnTo, KeepsTypes}
use Rattle.m5_dict_typing.specs.Laws.{TypedValuesHaveIds, ThreadsBringTheirTypes, OpeningIsTyped, SitesGoOn, RunsKeepTypes}
use Rattle.m5_dict_typing.proofs.Sent.{AskEnters, NextEnters, next_enters}
use Rattle.m5_dict_typing.proofs.Values.{Has, has_id, entrance_at, closure_from}

there : (u b : World) → states.Stands u b → IsTrue (stands_at b u)
there Home b (inl e) = subst (λ (w : World). IsTrue (stands_at w Home)) (sym e) refl
there Server b (inl e) = subst (λ (w : World). IsTrue (stands_at w Server)) (sym e) refl
there Panel b (inl e) = subst (λ (w : World). IsTrue (stands_at w Panel)) (sym e) refl
there Any b (inl e) = subst (λ (w : World). IsTrue (stands_at w Any)) (sym e) refl
there u b (inr e) = subst (λ (w : World). IsTrue (stands_at w u)) (sym e) refl

module _ (B : Blocks) (p : IsProgram B) (d : Dictionaries) (ok : IsDictionaries d) (are : AreDictionariesOf B d) where
  module _ (L : CellTypes) (u : World) where
    -- what a label takes
    Takes : SlotType → (ℕ → Type 0) → Type 0
    Takes T Argument = (y : Entry) (i : ℕ) → T ≡ entry_type y → Stands d.types i (entry_target y) → Argument i

    enters : (l k : ℕ) (ρ : ℕ → Value) (T : SlotType) (Argument : ℕ → Type 0) → LabelHolds B p.environments l k (λ j. Has B p d ok are L (ρ j)) u T → Takes T Argument → Enters d u l k ρ Argument
    unfolding Takes
    enters l k ρ T Argument h f =
        let e = entrance_at B p d ok are L l h.block h.at in record {
          id = e.2.closure.0;
          code = closure_from B p d ok are L l k ρ (λ j. has_id B p d ok are L (ρ j)) u T h e.0 e.1 e.2 e.2.closure.0 e.2.closure.1;
          stands = subst (λ (w : World). IsTrue (stands_at w u)) (sym e.2.world) (there u _ h.stands);
          argument = f h.block.entry e.0.argument h.is e.2.argument;
        }

    entered : (x : Value) (T : SlotType) → Has B p d ok are L x u T → Takes (takes T) (λ id. IsOf d id x)
    unfolding Takes
    entered x T h (by_value m U) i e s = has_id B p d ok are L x u T i h (subst (λ X. Stands d.types i (slot_target X)) (let q : U ≡ T = cc in q) s)
    entered x T h (by_call m A D) i e s = absurd (cc)

    called : (x j : Value) (A D : TypeExpression) → Has B p d ok are L x u (of A) → Has B p d ok are L j u (takes (of D)) → Takes (of (function A D)) (λ id. IsCallOf d id x j)
    unfolding Takes
    called x j A D h k (by_value m U) i e s = absurd (cc)
    called x j A D h k (by_call m X Y) i e s =
        let a : X ≡ A = cc in
        let c : Y ≡ D = cc in
        record {
          argument = s.first;
          continuation = s.second;
          line = s.is;
          argument_is = has_id B p d ok are L x u (of A) s.first h (subst (λ Z. Stands d.types s.first (type_target Z)) a s.first_stands);
          continuation_is = has_id B p d ok are L j u (takes (of D)) s.second k (subst (λ Z. Stands d.types s.second (fun (type_target Z))) c s.second_stands);
        }

    enter_brings : (f x : Value) (T : SlotType) → Has B p d ok are L f u (takes T) → Has B p d ok are L x u T → EntersClosure d u f (λ id. IsOf d id x)
    enter_brings (closed (under l k) ρ) x T h g = enters l k ρ (takes T) (λ id. IsOf d id x) h (entered x T g)
    enter_brings (atom f) x T h g = let q : takes T ≡ of h.0 = h.1 in absurd (cc)
    enter_brings (wrap (left X) a) x T h g = let q : takes T ≡ of (sum h.0 h.1) = h.2 in absurd (cc)
    enter_brings (wrap (right X) a) x T h g = let q : takes T ≡ of (sum h.0 h.1) = h.2 in absurd (cc)
    enter_brings (wrap (held v) a) x T h g = let q : takes T ≡ of (at h.0 v) = h.1 in absurd (cc)
    enter_brings (wrap value.sham a) x T h g = let q : takes T ≡ of (sham h.0) = h.1 in absurd (cc)
    enter_brings (join value.pair a b) x T h g = let q : takes T ≡ of (product h.0 h.1) = h.2 in absurd (cc)
    enter_brings (join cons a b) x T h g = let q : takes T ≡ of (list h.0) = h.1 in absurd (cc)

    call_brings : (f x j : Value) (A D : TypeExpression) → Has B p d ok are L f u (of (function A D)) → Has B p d ok are L x u (of A) → Has B p d ok are L j u (takes (of D)) → CallsFunction d u f (λ id. IsCallOf d id x j)
    call_brings (closed (under l k) ρ) x j A D h g c = enters l k ρ (of (function A D)) (λ id. IsCallOf d id x j) h (called x j A D g c)
    call_brings (atom (leaf_form.Extern y)) x j A D h g c = tt
    call_brings (atom (leaf_form.Glob y)) x j A D h g c = absurd (none h.3.3)
      where
        none : IsKnownAt (no_setting.functions y) u h.0 → ⊥
        none q = elim q [ inl e ↦ (let z = e.1 in cc) | inr e ↦ cc ]
    call_brings (atom (leaf_form.Var y)) x j A D h g c = let q = h.2 in absurd (cc)
    call_brings (atom (leaf_form.Valid y)) x j A D h g c = let q = h.2 in absurd (cc)
    call_brings (atom leaf_form.Here) x j A D h g c = let q = h.2 in absurd (cc)
    call_brings (atom leaf_form.Unit) x j A D h g c = let q : of (function A D) ≡ of unit = h.1 ∙ ap of h.3 in absurd (cc)
    call_brings (atom (leaf_form.Bool y)) x j A D h g c = let q : of (function A D) ≡ of bool = h.1 ∙ ap of h.3 in absurd (cc)
    call_brings (atom (leaf_form.Int y)) x j A D h g c = let q : of (function A D) ≡ of int = h.1 ∙ ap of h.3 in absurd (cc)
    call_brings (atom (leaf_form.Str y)) x j A D h g c = let q : of (function A D) ≡ of string = h.1 ∙ ap of h.3.0 in absurd (cc)
    call_brings (atom (leaf_form.Addr y)) x j A D h g c = let q : of (function A D) ≡ of (address y) = h.1 ∙ ap of h.3.1 in absurd (cc)
    call_brings (atom (leaf_form.Nil y)) x j A D h g c = let q : of (function A D) ≡ of (list y) = h.1 ∙ ap of h.3 in absurd (cc)
    call_brings (atom (leaf_form.CellAt y n)) x j A D h g c = let q : of (function A D) ≡ of (cell h.3.0) = h.1 ∙ ap of h.3.4 in absurd (cc)
    call_brings (wrap (left X) a) x j A D h g c = let q : of (function A D) ≡ of (sum h.0 h.1) = h.2 in absurd (cc)
    call_brings (wrap (right X) a) x j A D h g c = let q : of (function A D) ≡ of (sum h.0 h.1) = h.2 in absurd (cc)
    call_brings (wrap (held v) a) x j A D h g c = let q : of (function A D) ≡ of (at h.0 v) = h.1 in absurd (cc)
    call_brings (wrap value.sham a) x j A D h g c = let q : of (function A D) ≡ of (sham h.0) = h.1 in absurd (cc)
    call_brings (join value.pair a b) x j A D h g c = let q : of (function A D) ≡ of (product h.0 h.1) = h.2 in absurd (cc)
    call_brings (join cons a b) x j A D h g c = let q : of (function A D) ≡ of (list h.0) = h.1 in absurd (cc)

    brings : (t : Thread) → ThreadFits (ClosureFits B p.environments) no_setting L u t → BringsItsTypes d u t
    brings (enter k x) h = enter_brings k x h.0 h.1 h.2
    brings (call f x j) h = call_brings f x j h.0 h.1 h.2 h.3 h.4

    each_brings : (ts : List Thread) → Each (ThreadFits (ClosureFits B p.environments) no_setting L u) ts → Each (BringsItsTypes d u) ts
    each_brings [] h = tt
    each_brings (t ∷ ts) h = (brings t h.0, each_brings ts h.1)

    keeps : (s : Site) → SiteFits (ClosureFits B p.environments) no_setting L u s → ValuesHaveTheirTypes B p d L u s
    keeps s h = record { typed = h; threads = each_brings s.threads h.0 }

  sends : (L : CellTypes) (u : World) (q : AskOf Item) → QueryFits (ClosureFits B p.environments) no_setting L u q → AskEnters q → SendsItsTypes d q
  sends L u (query.Send v (thread (enter k x))) h e = brings L v (enter k x) h.2
  sends L u (query.Send v (thread (call f x j))) h e = absurd e
  sends L u (query.Send v (raw bytes)) h e = absurd e
  sends L u (query.Say t) h n = tt
  sends L u (query.Set e t) h n = tt
  sends L u (query.GetText e) h n = tt
  sends L u (query.On e i) h n = tt
  sends L u (query.Read k) h n = tt
  sends L u (query.Write k t) h n = tt
  sends L u (query.Watch k i) h n = tt
  sends L u (query.Show t) h n = tt
  sends L u query.Take h n = tt
  sends L u (query.Stop c) h n = tt

  next_keeps : (Kept : CellTypes → World → Site → Type 0) (u : World) → ((M : CellTypes) (x : Site) → SiteFits (ClosureFits B p.environments) no_setting M u x → Kept M u x) → (L : CellTypes) (x : SiteNext Closure) → IsFitNext (ClosureFits B p.environments) no_setting L u x → NextEnters x → NextKeeps B p d Kept L u x
  next_keeps Kept u f L (goes s) h e = f L s h
  next_keeps Kept u f L (asks q resume) h n = (h.0, sends L u q h.0 n, (λ M r g e a k. let z = h.1 M r g e a k in (z.0, z.1, f M z.0 z.2)))
  next_keeps Kept u f L wrong h e = absurd h

  goes_on : (Kept : CellTypes → World → Site → Type 0) (u : World) → u ≢ Any → ((M : CellTypes) (x : Site) → SiteFits (ClosureFits B p.environments) no_setting M u x → Kept M u x) → (L : CellTypes) (s : Site) → SiteFits (ClosureFits B p.environments) no_setting L u s → GoesOnTo B p d Kept L u (site_next B u s)
  goes_on Kept u r f L s h =
      let n = next_fits B p u r L s h in
      record { cells = n.cells; grows = n.grows; keeps = next_keeps Kept u f n.cells (site_next B u s) n.typed (next_enters B u s) }

  runs : (n : ℕ) (u : World) → u ≢ Any → (L : CellTypes) (s : Site) → SiteFits (ClosureFits B p.environments) no_setting L u s → KeepsTypes B p d n L u s
  runs zero u r L s h = keeps L u s h
  runs (suc n) u r L s h = (keeps L u s h, goes_on (KeepsTypes B p d n) u r (runs n u r) L s h)

pub typed_values_have_ids : TypedValuesHaveIds
typed_values_have_ids B p d ok are L u v T i h s = has_id B p d ok are L v u T i h s

pub threads_bring_their_types : ThreadsBringTheirTypes
threads_bring_their_types B p d ok are L u t h = brings B p d ok are L u t h

pub opening_is_typed : OpeningIsTyped
opening_is_typed B p d ok are u r = keeps B p d ok are (λ w. []) u _ (opening_fits B p u r)

pub sites_go_on : SitesGoOn
sites_go_on B p d ok are L u s r h = goes_on B p d ok are (ValuesHaveTheirTypes B p d) u r (λ M x k. keeps B p d ok are M u x k) L s h.typed

pub runs_keep_types : RunsKeepTypes
runs_keep_types B p d ok are n L u s r h = runs B p d ok are n u r L s h.typed
