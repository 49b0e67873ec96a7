-- An object: the dictionaries, where a session begins and where a handler ends, and each world's code.
use Rattle.std.specs.Prelude.{◌≡◌, ℕ, Bool, true, false, not, ◌&&◌, ◌==◌, nat_le, Option, Some, None, is_some, slice_get, List, [], ◌∷◌, IsTrue}
use Rattle.std.specs.List.{list_all}
use Rattle.m5_terms.specs.declared.types.World.{World}
use Rattle.m5_terms.specs.declared.types.World.TheVariants.{Home, Server, Panel, Any}
use Rattle.m5_dictionary.specs.declared.line.TypeLine.{TypeLine}
use Rattle.m5_dictionary.specs.declared.line.TypeLine.TheVariants as lines
use Rattle.m5_dictionary.specs.Dictionaries.{Dictionaries, Entrance, IsDictionaries, stands_at, code_of_world}
use Rattle.m5_machine.specs.declared.step.Step.{Step}
use Rattle.m5_machine.specs.declared.step.Step.TheVariants as steps
use Rattle.m5_machine.specs.Blocks.{Flat, start_of}
use Rattle.m5_message.specs.Message.{label_stands}
use Rattle.m5_bytecode.specs.Server.{IsServerCode}
use Rattle.m5_js.specs.Page.{IsPageCode}

pub record Bundle : Type 0 where
  pub dicts : Dictionaries
  pub start : ℕ
  pub finish : ℕ
  pub server : Flat
  pub home : Flat
  pub panel : Flat

-- no site is at any
abbrev pub code_of : Bundle → World → Flat
code_of O Home = O.home
code_of O Server = O.server
code_of O Panel = O.panel
code_of O Any = O.home

abbrev pub is_unit : Option TypeLine → Bool
is_unit (Some lines.Unit) = true
is_unit _ = false

abbrev pub is_empty : List ℕ → Bool
is_empty [] = true
is_empty (i ∷ is) = false

-- the label stands at the world, takes unit, and nothing from outside; at Any it stands at each world
abbrev pub unit_entrance : Dictionaries → World → Option Entrance → Bool
unit_entrance d w None = false
unit_entrance d w (Some e) =
    stands_at e.world w && (is_unit (slice_get d.types e.argument) && is_empty e.environment)

abbrev pub takes_unit : Dictionaries → World → ℕ → Bool
takes_unit d w label = unit_entrance d w (slice_get d.labels label)

-- the primitives of a world, by their codes
abbrev pub is_asked_at : World → ℕ → Bool
is_asked_at Home p = nat_le p 3
is_asked_at Server p = nat_le 4 p && nat_le p 6
is_asked_at Panel p = p == 7
is_asked_at Any p = false

-- a world's code asks its own primitives, and does not send to its own world
abbrev pub is_step_at : World → Step → Bool
is_step_at w (steps.Ask primitive argument next) = is_asked_at w primitive
is_step_at w (steps.Send to closure value) = not (to == code_of_world w)
is_step_at w _ = true

-- there is a block for exactly the labels that stand at the world
abbrev pub HasItsLabels : Dictionaries → World → Flat → Type 0
HasItsLabels d w code = (label : ℕ) → is_some (start_of code label) ≡ label_stands d w (Some label)

pub record IsCodeAt (d : Dictionaries) (w : World) (code : Flat) : Type 0 where
  pub own : IsTrue (list_all (is_step_at w) code.steps)
  pub labels : HasItsLabels d w code

-- the parts are those of some bundle
pub record IsObject (O : Bundle) : Type 0 where
  pub dicts : IsDictionaries O.dicts
  pub start : IsTrue (takes_unit O.dicts Home O.start)
  pub finish : IsTrue (takes_unit O.dicts Any O.finish)
  pub server_code : IsServerCode O.server
  pub home_code : IsPageCode O.home
  pub panel_code : IsPageCode O.panel
  pub server : IsCodeAt O.dicts Server O.server
  pub home : IsCodeAt O.dicts Home O.home
  pub panel : IsCodeAt O.dicts Panel O.panel
