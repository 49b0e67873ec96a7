-- A message that arrives.
use Rattle.std.proofs.Common.{◌≡◌, ℕ, ◌-◌, ◌<◌, ◌≤◌, pos, List, ◌∷◌, ◌++◌, length, map, refl, sym, ap, subst, arith, ◌∙◌, Bool, true, false, cond, Option, Some, None, Result, Ok, Err, slice_get, is_some, IsSome}
use Rattle.std.proofs.lemmas.Bool.{le-ltb, lt-ltb}
use Rattle.std.proofs.lemmas.Option.{slice_get_within}
use Rattle.m5_region.specs.declared.value.Value.{Value}
use Rattle.m5_region.specs.declared.value.Value.TheVariants as values
use Rattle.m5_region.specs.declared.queue.Ready.{Ready}
use Rattle.m5_region.specs.Region.{Contents, Object, ArrayOf, units_in}
use Rattle.m5_machine.specs.Blocks.{Flat, start_of}
use Rattle.m5_machine.specs.Closure.{CanRun, entry}
use Rattle.m5_terms.specs.declared.types.World.{World}
use Rattle.m5_terms.specs.declared.types.World.TheVariants.{Home, Server, Panel, Any}
use Rattle.m5_dictionary.specs.Dictionaries.{Entrance}
use Rattle.m5_message.specs.Message.{Message, Fault, label_in, label_stands, stands_there}
use Rattle.m5_message.specs.Sharing.{shifted_object}
use Rattle.m5_marshal.specs.Unpack.{Adds, AreThere, StandsAt, ready_behind}
use Rattle.m5_site.specs.declared.state.State.{State}
use Rattle.m5_site.specs.Making.{with_region, begins, to_stop}
use Rattle.m5_site.specs.Answers.{arrived, arrived_at}
use Rattle.m5_site.specs.Object.{Bundle, IsObject, HasItsLabels, code_of}
use Rattle.m5_terms.specs.Worlds.{IsSiteWorld}
use Rattle.m5_terms.specs.declared.ask.Cause.TheVariants.{Region}
use Rattle.m5_site.specs.code.Sound.{IsSoundState}
use Rattle.m5_terms.proofs.SiteWorlds.{is-real}
use Rattle.m5_site.proofs.Made.{grows_on}
use Rattle.m5_site.proofs.Opened.{label_enters}

pub nothing_arrived : (m : Result Message Fault) (f : Fault) (x : State) → m ≡ Err f → x ≡ arrived m x
nothing_arrived m f x e = ap (λ (r : Result Message Fault). arrived r x) (sym e)

pub too_much : (r : Result Message Fault) (m : Message) (x : State) → r ≡ Ok m → x.bench.region.left < units_in m.objects → to_stop Region x ≡ arrived r x
too_much r m x e l = sym (
    ap (λ (y : Result Message Fault). arrived y x) e
    ∙ ap (λ (b : Bool). cond b (to_stop Region x) (arrived_at (length x.bench.region.objects) m (with_region (record {
      objects = x.bench.region.objects ++ map (shifted_object (length x.bench.region.objects)) m.objects;
      left = x.bench.region.left - units_in m.objects;
    }) x))) (lt-ltb _ _ l)
    )

contents_are : (r : Contents) (os : List Object) (n : ℕ) → r.objects ≡ os → r.left ≡ n → r ≡ record { objects = os; left = n }
contents_are r os n e f = ap (λ (x : List Object). record { objects = x; left = r.left }) e ∙ ap (λ (k : ℕ). record { objects = os; left = k }) f

pub one_arrived : (r : Result Message Fault) (m : Message) (x : State) (new : Contents) (t : Ready) → r ≡ Ok m → Adds x.bench.region new m → t ≡ ready_behind (length x.bench.region.objects) m → begins t.code t.argument (with_region new x) ≡ arrived r x
one_arrived r m x new t e a is =
    let base = length x.bench.region.objects in
    let objects = x.bench.region.objects ++ map (shifted_object base) m.objects in
    let left : new.left ≡ x.bench.region.left - units_in m.objects = omega (arith, a.left) in
    let fits : units_in m.objects ≤ x.bench.region.left = omega (arith, a.left) in
    ap (λ (y : Ready). begins y.code y.argument (with_region new x)) is
    ∙ ap (λ (c : Contents). arrived_at base m (with_region c x)) (contents_are new objects (x.bench.region.left - units_in m.objects) a.objects left)
    ∙ sym (ap (λ (y : Result Message Fault). arrived y x) e
    ∙ ap (λ (b : Bool). cond b (to_stop Region x) (arrived_at base m (with_region (record { objects = objects; left = x.bench.region.left - units_in m.objects }) x))) (le-ltb _ _ fits))

-- its closure enters a block of the world's code

its_labels : (O : Bundle) (w : World) → IsSiteWorld w → IsObject O → HasItsLabels O.dicts w (code_of O w)
its_labels O Home i o = o.home.labels
its_labels O Server i o = o.server.labels
its_labels O Panel i o = o.panel.labels
its_labels O Any i o = absurd (is-real Any i refl)

there_is : (m : Option Entrance) (w : World) → stands_there m w ≡ true → (e : Entrance) × (m ≡ Some e)
there_is None w h = absurd (let wrong : false ≡ true = h in cc)
there_is (Some e) w h = (e, refl)

stands_enters : (O : Bundle) (w : World) (label : ℕ) → IsSiteWorld w → IsObject O → label_stands O.dicts w (Some label) ≡ true → label < 65536 × (is_some (start_of (code_of O w) label) ≡ true)
stands_enters O w label i o h =
    let there = there_is (slice_get O.dicts.labels label) w h in
    let within = slice_get_within O.dicts.labels label there.0 there.1 in
    (omega (arith, within, o.dicts.labels.few), its_labels O w i o label ∙ h)

pub may_arrive : (O : Bundle) (w : World) (os : List Object) (t : Ready) → IsSiteWorld w → IsObject O → AreThere os t → StandsAt O.dicts w os t → CanRun (code_of O w) os t
may_arrive O w os t i o r s = record {
  code_refers = r.0;
  argument_refers = r.1;
  closure = subst (λ (v : Value). IsSome (entry (code_of O w) os v)) (sym s.1) (by_object (slice_get os s.0) refl s.2);
}
  where
    by_object : (m : Option Object) → slice_get os s.0 ≡ m → label_stands O.dicts w (label_in m) ≡ true → IsSome (entry (code_of O w) os (values.Array (record { 0 = s.0 })))
    by_object None e k = absurd (let wrong : false ≡ true = k in cc)
    by_object (Some (ArrayOf (values.Int (pos n) ∷ vs))) e k =
        let both = stands_enters O w n i o k in
        rw e (label_enters (code_of O w) n both.0 both.1)
    by_object (Some p) e k = absurd (let wrong : false ≡ true = k in cc)

pub more_sound : (code : Flat) (x : State) (new : Contents) (m : Message) → Adds x.bench.region new m → IsSoundState code x → IsSoundState code (with_region new x)
more_sound code x new m a s = (grows_on x new (map (shifted_object (length x.bench.region.objects)) m.objects) a.objects).sound code s
