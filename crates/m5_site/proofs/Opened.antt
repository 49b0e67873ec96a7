-- A site as it opens is sound.
use Rattle.std.proofs.Common.{◌≡◌, ℕ, ◌+◌, ◌-◌, ◌*◌, ◌<◌, length, pos, List, [], ◌∷◌, refl, sym, subst, arith, ◌∙◌, Bool, true, false, cond, Option, Some, None, is_some, IsSome, slice_get}
use Rattle.std.proofs.lemmas.Bool.{le-ltb, and_parts}
use Rattle.std.proofs.lemmas.List.Elements.{All-cons, All-nil}
use Rattle.std.proofs.lemmas.Option.{slice_get_within}
use Rattle.m5_region.specs.declared.queue.Ready.{Ready}
use Rattle.m5_machine.specs.Operand.{with_one}
use Rattle.m5_region.specs.declared.value.Value.{Value}
use Rattle.m5_region.specs.declared.value.Value.TheVariants.{Null, Int, Array}
use Rattle.m5_region.specs.Region.{Contents, Object, ArrayOf, Refers}
use Rattle.m5_machine.specs.declared.made.Made.{Made}
use Rattle.m5_machine.specs.declared.made.Made.TheVariants.{Gives, NoRegion}
use Rattle.m5_machine.specs.Blocks.{Flat, start_of}
use Rattle.m5_machine.specs.Closure.{CanRun, entry, entry_at, label_in}
use Rattle.m5_terms.specs.declared.types.World.{World}
use Rattle.m5_terms.specs.declared.types.World.TheVariants.{Home, Server, Panel, Any}
use Rattle.m5_dictionary.specs.Dictionaries.{Dictionaries, Entrance}
use Rattle.m5_message.specs.Message.{label_stands, stands_there}
use Rattle.m5_site.specs.declared.state.Limits.{Limits}
use Rattle.m5_site.specs.declared.state.State.{State}
use Rattle.m5_site.specs.Object.{Bundle, IsObject, code_of, unit_entrance}
use Rattle.m5_site.specs.Making.{with_region, if_made, begins}
use Rattle.m5_site.specs.Site.{empty, opening}
use Rattle.m5_site.specs.code.Sound.{IsSoundState, IsClosureIn}

empty_sound : (code : Flat) (n : Limits) → IsSoundState code (empty n)
empty_sound code n = record {
  bench = record { cells = All-nil (Refers []); threads = All-nil (CanRun code []) };
  handlers = All-nil (IsClosureIn code []);
}

unit_stands : (d : Dictionaries) (w : World) (m : Option Entrance) → unit_entrance d w m ≡ true → stands_there m w ≡ true
unit_stands d w None h = absurd (let wrong : false ≡ true = h in cc)
unit_stands d w (Some e) h = (and_parts _ _ h).0

entry_some : (label : ℕ) (m : Option ℕ) → is_some m ≡ true → IsSome (entry_at label m)
entry_some label None h = absurd (let wrong : false ≡ true = h in cc)
entry_some label (Some start) h = refl

unit_there : (d : Dictionaries) (w : World) (m : Option Entrance) → unit_entrance d w m ≡ true → (e : Entrance) × (m ≡ Some e)
unit_there d w None h = absurd (let wrong : false ≡ true = h in cc)
unit_there d w (Some e) h = (e, refl)

-- the closure of a label that stands at a world enters the block there
pub label_enters : (code : Flat) (label : ℕ) → label < 65536 → is_some (start_of code label) ≡ true → IsSome (with_one (label_in (pos label)) (λ n. entry_at n (start_of code n)))
label_enters code label l h =
    subst (λ (b : Bool). IsSome (with_one (cond b None (Some label)) (λ n. entry_at n (start_of code n)))) (sym (le-ltb 65535 label (omega (arith, l)))) (entry_some label (start_of code label) h)

start_enters : (O : Bundle) → IsObject O → IsSome (entry O.home (ArrayOf (Int (pos O.start) ∷ []) ∷ []) (Array (record { 0 = 0 })))
start_enters O o =
    let stands : label_stands O.dicts Home (Some O.start) ≡ true = unit_stands O.dicts Home (slice_get O.dicts.labels O.start) o.start in
    let there = unit_there O.dicts Home (slice_get O.dicts.labels O.start) o.start in
    let within : O.start < length O.dicts.labels = slice_get_within O.dicts.labels O.start there.0 there.1 in
    label_enters O.home O.start (omega (arith, within, o.dicts.labels.few)) (o.home.labels O.start ∙ stands)

-- a home's first thread
abbrev begun : Bundle → Limits → Bool → State
begun O n b =
    let r : Contents = record { objects = []; left = 4 * n.region + 64 } in
    let o : Object = ArrayOf (Int (pos O.start) ∷ []) in
    let p : Made × Contents = cond b (NoRegion, r) (Gives (Array (record { 0 = 0 })), record { objects = o ∷ []; left = r.left - 2 }) in
    if_made p.0 (with_region p.1 (empty n)) (λ v x. begins v Null x)

begun_sound : (O : Bundle) (n : Limits) → IsObject O → IsSoundState O.home (begun O n false)
begun_sound O n o =
    let os : List Object = ArrayOf (Int (pos O.start) ∷ []) ∷ [] in
    let code : Value = Array (record { 0 = 0 }) in
    let t : Ready = record { code = code; argument = Null } in
    record {
      bench = record {
        cells = All-nil (Refers os);
        threads = All-cons (CanRun O.home os) t [] (record { code_refers = tt; argument_refers = tt; closure = start_enters O o }) (All-nil (CanRun O.home os));
      };
      handlers = All-nil (IsClosureIn O.home os);
    }

pub opening_sound : (O : Bundle) (n : Limits) (w : World) → IsObject O → IsSoundState (code_of O w) (opening O n w)
opening_sound O n Home o =
    subst (λ (b : Bool). IsSoundState O.home (begun O n b)) (sym (le-ltb (4 * n.region + 64) 2 (omega arith))) (begun_sound O n o)
opening_sound O n Server o = empty_sound O.server n
opening_sound O n Panel o = empty_sound O.panel n
opening_sound O n Any o = empty_sound O.home n
