-- A typed site goes on to a typed site or a typed ask, and each lawful answer makes a typed site.
use Rattle.std.proofs.Common.{◌≡◌, ◌≢◌, inl, inr, length, ℕ, zero, suc, Bool, true, false, if◌then◌else◌, List, [], ◌∷◌, ◌++◌, slice_get, Some, refl, sym, ap, subst, ◌∙◌}
use Rattle.std.specs.List.{AllByRecursion as Each}
use Rattle.m5_terms.specs.TypeExpression.{unit, string}
use Rattle.m5_terms.specs.Text.{IsText}
use Rattle.m5_terms.specs.Machine.{asks}
use Rattle.m5_terms.specs.declared.ask.AskOf.TheVariants as query
use Rattle.m5_terms.specs.declared.ask.AnswerOf.TheVariants as answer
use Rattle.m5_terms.specs.declared.types.World.{World}
use Rattle.m5_terms.specs.declared.types.World.TheVariants.{Home, Server, Panel, Any}
use Rattle.m5_terms.proofs.Lists.{each-append}
use Rattle.m5_typing.specs.Context.{CellTypes}
use Rattle.m5_cps.specs.Entries.{SlotType, of, takes, world_of, entry_mode, entry_type}
use Rattle.m5_cps.specs.Values.{thread, raw}
use Rattle.m5_cps.specs.Deeds.{Ran, makes, ends, stops_full}
use Rattle.m5_cps.specs.Asks.{handler_thread, handler_threads, after_take}
use Rattle.m5_cps.specs.Running.{last}
use Rattle.m5_cps.specs.Slots.{slot}
use Rattle.m5_cps_typing.specs.States.{SlotsFit, Stands, ThreadFits, HandlerFits, SiteFits, AnswersFit, NextFits, RanFits}
use Rattle.m5_cps_typing.proofs.Deeds.{at_once, stop_fits, site_grown}
use Rattle.m5_flat.specs.Blocks.{Block, Blocks}
use Rattle.m5_flat.specs.Values.{Closure, Value, Thread, Site, value_units, no_values}
use Rattle.m5_flat.specs.Running.{finish_value, front, ran, site_next}
use Rattle.m5_flat.specs.Machine.{opening_site, opening_threads}
use Rattle.m5_flat.specs.Fits.{no_setting, Environments}
use Rattle.m5_flat.specs.Program.{finish_block, IsProgram}
use Rattle.m5_flat_typing.specs.Closures.{ClosureFits}
use Rattle.m5_flat_typing.proofs.Environments.{closure_laws, EnvOf}
use Rattle.m5_flat_typing.proofs.Runs.{Has}
use Rattle.m5_flat_typing.proofs.Entered.{thread_runs}

module _ (B : Blocks) (d : IsProgram B) (u : World) (site : u ≢ Any) where
  abbrev M : Environments
  M = d.environments

  abbrev In : CellTypes → Value → SlotType → Type 0
  In L a T = Has B M d.blocks d.primitives u site L a T

  -- a closure that took nothing
  takes_nothing : (L : CellTypes) (ρ : ℕ → Value) → SlotsFit (EnvOf B M L ρ) u (slice_get [])
  takes_nothing L ρ l m T e = absurd (cc)

  finish_fits : (L : CellTypes) → In L (finish_value B) (takes (of unit))
  finish_fits L = record { block = finish_block; at = d.finish.block; environment = []; known = d.finish.bare; count = refl; stands = inr refl; is = refl; filled = takes_nothing L no_values }

  handler_fits : (L : CellTypes) (hs : List Value) (i : ℕ) (t : List ℕ) → IsText t → Each (HandlerFits (ClosureFits B M) no_setting L u) hs → Each (ThreadFits (ClosureFits B M) no_setting L u) (handler_thread (finish_value B) t (slice_get hs i))
  handler_fits L [] i t x h = tt
  handler_fits L (a ∷ hs) zero t x h = ((string, unit, h.0, (string, refl, refl, (refl, x)), finish_fits L), tt)
  handler_fits L (a ∷ hs) (suc i) t x h = handler_fits L hs i t x h.1

  handlers_fit : (L : CellTypes) (s : Site) (is : List ℕ) (t : List ℕ) → IsText t → Each (HandlerFits (ClosureFits B M) no_setting L u) s.handlers → Each (ThreadFits (ClosureFits B M) no_setting L u) (handler_threads (finish_value B) s is t)
  handlers_fit L s [] t x h = tt
  handlers_fit L s (i ∷ is) t x h = each-append (ThreadFits (ClosureFits B M) no_setting L u) (handler_thread (finish_value B) t (slice_get s.handlers i)) (handler_threads (finish_value B) s is t) (handler_fits L s.handlers i t x h) (handlers_fit L s is t x h)

  more_threads : (L : CellTypes) (s : Site) (ths : List Thread) → Each (ThreadFits (ClosureFits B M) no_setting L u) ths → SiteFits (ClosureFits B M) no_setting L u s → SiteFits (ClosureFits B M) no_setting L u (record s { threads = s.threads ++ ths })
  more_threads L s ths h t = (each-append (ThreadFits (ClosureFits B M) no_setting L u) s.threads ths t.0 h, t.1, t.2)

  take_fits : (L : CellTypes) (s : Site) → SiteFits (ClosureFits B M) no_setting L u s → AnswersFit (ClosureFits B M) no_setting L u query.Take (after_take value_units (finish_value B) s)
  take_fits L s t N (answer.Message v (thread th)) g same a f = (_, refl, more_threads N s (th ∷ []) (f, tt) (site_grown (ClosureFits B M) (closure_laws B M) no_setting u L N g same s t))
  take_fits L s t N (answer.Message v (raw bytes)) g same a f = (s, refl, site_grown (ClosureFits B M) (closure_laws B M) no_setting u L N g same s t)
  take_fits L s t N (answer.Fired e i x) g same a f = let q = site_grown (ClosureFits B M) (closure_laws B M) no_setting u L N g same s t in (_, refl, more_threads N s (handler_threads (finish_value B) s (i ∷ []) x) (handlers_fit N s (i ∷ []) x f.1 q.2) q)
  take_fits L s t N (answer.Event e is x) g same a f = let q = site_grown (ClosureFits B M) (closure_laws B M) no_setting u L N g same s t in (_, refl, more_threads N s (handler_threads (finish_value B) s is x) (handlers_fit N s is x f.1 q.2) q)
  take_fits L s t N _ g same a f = absurd a

  front_fits : (L : CellTypes) (s : Site) (ths : List Thread) → Each (ThreadFits (ClosureFits B M) no_setting L u) ths → SiteFits (ClosureFits B M) no_setting L u (record s { threads = [] }) → SiteFits (ClosureFits B M) no_setting L u s → RanFits (ClosureFits B M) no_setting L u (front B u s ths)
  front_fits L s [] h e t = at_once (ClosureFits B M) (closure_laws B M) no_setting u L (asks query.Take (after_take value_units (finish_value B) s)) (tt, take_fits L s t)
  front_fits L s (th ∷ ths) h e t = thread_runs B M d.blocks d.primitives u site L (record s { threads = ths }) th h.0 (h.1, t.1, t.2)

  ran_fits : (L : CellTypes) (s : Site) → SiteFits (ClosureFits B M) no_setting L u s → RanFits (ClosureFits B M) no_setting L u (ran B u s)
  ran_fits L s t = by s.stopped
    where
      by : (b : Bool) → RanFits (ClosureFits B M) no_setting L u (if b then stops_full s else front B u s s.threads)
      by true = stop_fits (ClosureFits B M) (closure_laws B M) no_setting u L s t
      by false = front_fits L s s.threads t.0 (tt, t.1, t.2) t

  last_fits : (L : CellTypes) (r : Ran Closure) → RanFits (ClosureFits B M) no_setting L u r → NextFits (ClosureFits B M) no_setting L u (last r)
  last_fits L (makes p r) h = last_fits L r h
  last_fits L (ends x) h = h

  pub next_fits : (L : CellTypes) (s : Site) → SiteFits (ClosureFits B M) no_setting L u s → NextFits (ClosureFits B M) no_setting L u (site_next B u s)
  next_fits L s t = last_fits L (ran B u s) (ran_fits L s t)

  main_fits : u ≡ Home → SiteFits (ClosureFits B M) no_setting (λ w. []) u (opening_site (opening_threads B Home))
  main_fits e =
      let m = d.main in (
        (
          (
            of unit,
            record {
              block = m.block;
              at = m.at;
              environment = [];
              known = m.bare;
              count = sym (ap length m.environment);
              stands = subst (λ y. Stands u (world_of (entry_mode y))) (sym m.entry) (inl (sym e));
              is = sym (ap entry_type m.entry);
              filled = takes_nothing (λ w. []) no_values;
            },
            (unit, refl, refl, refl),
          ),
          tt,
        ),
        tt,
        tt,
      )

pub opening_fits : (B : Blocks) (d : IsProgram B) (u : World) → u ≢ Any → SiteFits (ClosureFits B d.environments) no_setting (λ w. []) u (opening_site (opening_threads B u))
opening_fits B d Home r = main_fits B d Home r refl
opening_fits B d Server r = (tt, tt, tt)
opening_fits B d Panel r = (tt, tt, tt)
opening_fits B d Any r = absurd (r refl)
