-- The closure and the argument with which a thread begins.
use Rattle.std.proofs.Common.{◌≡◌, ◌∷◌, ℕ, true, inl, inr, Some, slice_get, refl, sym, ap, subst, ◌∙◌, IsSomeAnd, List, length, Bool, Result, Ok, Err, IfOk, ◌↔◌}
use Rattle.std.specs.Prelude.{IsTrue}
use Rattle.m5_region.specs.declared.queue.Ready.{Ready}
use Rattle.m5_region.specs.Region.{Object, IsArray}
use Rattle.m5_terms.specs.declared.types.World.{World}
use Rattle.m5_terms.specs.declared.types.World.TheVariants.{Home, Server, Panel, Any}
use Rattle.m5_dictionary.specs.declared.line.TypeLine.TheVariants as lines
use Rattle.m5_dictionary.specs.Dictionaries.{Dictionaries, Entrance, stands_at}
use Rattle.m5_message.specs.Reading.{is_object_line}
use Rattle.m5_message.specs.Message.{label_stands, label_in}
use Rattle.m5_message.specs.Spelling.{IsOf}
use Rattle.m5_message.specs.Packing.{Sending, value_reaches, sent_from}
use Rattle.m5_marshal.specs.Pack.{HasBytes}
use Rattle.m5_marshal.specs.code.Keys.{Entered}
use Rattle.m5_marshal.specs.code.Fits.{Within, IsKinded, AreKinded, FewFit, CanStart, Starts}
use Rattle.m5_marshal.proofs.Marked.{head_cases}
use Rattle.m5_marshal.proofs.Fitting.{value_kinded}
use Rattle.m5_marshal.proofs.Testing.{kinded_below}

some_is : {A : Type 0} (x y : A) → Some x ≡ Some y → x ≡ y
some_is x y e = cc

stands_own : (w : World) → stands_at w w ≡ true
stands_own Home = refl
stands_own Server = refl
stands_own Panel = refl
stands_own Any = refl

-- a closure is of one label
pub entrance_is : (d : Dictionaries) (os : List Object) (at : ℕ) (e f : Entrance) → Entered d os at e → Entered d os at f → e ≡ f
entrance_is d os at e f h k =
    let label : h.0 ≡ k.0 = some_is h.0 k.0 (sym h.1 ∙ k.1) in
    some_is e f (sym h.2 ∙ ap (slice_get d.labels) label ∙ k.2)

-- a label stands at its own world
pub label_own : (d : Dictionaries) (os : List Object) (at : ℕ) (e : Entrance) → Entered d os at e → label_stands d e.world (label_in (slice_get os at)) ≡ true
label_own d os at e en = rw (en.1, en.2) (stands_own e.world)

pub start_kinded : (d : Dictionaries) (os : List Object) (at id i : ℕ) → IsSomeAnd (slice_get os at) IsArray → slice_get d.types id ≡ Some (lines.Fun i) → IsKinded d os (record { at = at; id = id })
start_kinded d os at id i h line = rw line h

-- a thread that starts so has bytes where all that it reaches is fit, and few
pub starts_few : (d : Dictionaries) (os : List Object) (thread : Ready) (t : Sending) → Starts d os thread t → IsOf (Within d (length os)) t.argument_id (slice_get d.types t.argument_id) t.argument → FewFit d os (sent_from d os t) → HasBytes d os thread
starts_few d os thread t s argument fits = (
  s.stands.0,
  t,
  s.same,
  record {
    few = fits.1;
    fit = fits.0;
    code = (kinded_below d os t.code s.code).0;
    closure = s.closure;
    stands = s.stands.1;
    argument = argument;
  },
)

-- and only then
pub starts_bytes : (d : Dictionaries) (os : List Object) (thread : Ready) (t : Sending) → Starts d os thread t → IsOf (Within d (length os)) t.argument_id (slice_get d.types t.argument_id) t.argument → (b : Bool) → IsTrue b ↔ FewFit d os (sent_from d os t) → IsTrue b ↔ HasBytes d os thread
starts_bytes d os thread t s argument b h = (
  λ x. starts_few d os thread t s argument (h.0 x),
  λ hb. (
      let is = s.only hb.1 hb.0 hb.2 hb.3 in
      h.1 (subst (λ (u : Sending). FewFit d os (sent_from d os u)) is (hb.3.fit, hb.3.few))
      ),
)

pub if_ok_to : {A E : Type 0} (P Q : A → Type 0) (r : Result A E) → ((a : A) → P a → Q a) → IfOk r P → IfOk r Q
if_ok_to P Q (Ok a) f h = f a h
if_ok_to P Q (Err e) f h = tt

pub thread_kinded : (d : Dictionaries) (os : List Object) (t : Sending) → CanStart d os t → AreKinded d os (t.code ∷ value_reaches (is_object_line (slice_get d.types t.argument_id)) t.argument_id t.argument)
thread_kinded d os t h q e = elim (head_cases t.code _ q e) [
  | inl same ↦ subst (IsKinded d os) same h.code
  | inr there ↦ value_kinded d os (length os) t.argument_id (slice_get d.types t.argument_id) t.argument refl h.argument h.refers q there
]
