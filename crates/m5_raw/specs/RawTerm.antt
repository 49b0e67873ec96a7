-- Resolved programs as contracts see them.
use Rattle.std.specs.Prelude.{ℕ, ◌+◌, ◌≤◌, IsTrue, List, sum_by, refl}
use Rattle.std.specs.List.{list_all}
use Rattle.std.specs.Coded.{Coded, code_by, coded×, coded_list}
use Rattle.m5_lex.specs.declared.place.Place.{Place}
use Rattle.m5_lex.specs.contracts.place.Place as placed
use Rattle.m5_terms.specs.TypeExpression.{type_node_count}
use Rattle.m5_raw.specs.Resolved.{Resolved, resolved_code}
use Rattle.m5_raw.specs.InText.{written_nodes, in_text}
use Rattle.m5_raw.specs.declared.function.Function.{Function}
use Rattle.m5_raw.specs.contracts.function.Function as function_row

-- the functions by their numbers, and what is evaluated at home, with the place of its `main`
pub record RawTerm : Type 0 where
  pub functions : List Function
  pub place : Place
  pub main : Resolved

abbrev pub raw_code : Coded RawTerm
raw_code =
    code_by (List Function × (Place × Resolved)) (coded× (coded_list function_row.the_row.coded) (coded× placed.the_row.coded resolved_code))
    (λ r. (r.functions, (r.place, r.main))) (λ q. record { functions = q.0; place = q.1.0; main = q.1.1 }) (λ _. refl)

abbrev pub function_nodes : Function → ℕ
function_nodes g = type_node_count g.ty + (type_node_count g.result + written_nodes g.body)

abbrev pub raw_nodes : RawTerm → ℕ
raw_nodes r = sum_by function_nodes r.functions + written_nodes r.main

-- at most 16,000 nodes, those of written types among them, and only forms that a text has
pub record IsRaw (r : RawTerm) : Type 0 where
  pub size : raw_nodes r ≤ 16000
  pub bodies_in_text : IsTrue (list_all (λ g. in_text g.body) r.functions)
  pub main_in_text : IsTrue (in_text r.main)
