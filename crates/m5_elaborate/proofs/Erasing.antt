-- A term and the one without its places have as many nodes, and both or neither are of a text.
use Rattle.std.proofs.Common.{◌≡◌, ℕ, ◌≤◌, ◌<◌, ◌&&◌, IsTrue, List, [], ◌∷◌, length, slice_index_or, sum_by, refl, ap, subst, sym, ◌∙◌, arith}
use Rattle.std.specs.List.{list_all}
use Rattle.std.proofs.lemmas.List.Sums.{get_or-le-sum_by, sum_by-cons}
use Rattle.m5_terms.specs.InText.{unary_in_text}
use Rattle.m5_raw.specs.Resolved.{Resolved, leaf, unary, binary, ternary, node_count}
use Rattle.m5_raw.specs.InText as raw_text
use Rattle.m5_raw.specs.RawTerm as raws
use Rattle.m5_raw.specs.RawTerm.{RawTerm, IsRaw}
use Rattle.m5_raw.specs.declared.function.Function.{Function}
use Rattle.m5_typing.specs.Program as programs
use Rattle.m5_elaborate.specs.Erased.{erased, erased_function, erased_functions, erased_program}

pub nodes : (r : Resolved) → programs.written_nodes (erased r) ≡ raw_text.written_nodes r
nodes (leaf p f) = refl
nodes (unary p f a) = omega (arith, nodes a)
nodes (binary p f a b) = omega (arith, nodes a, nodes b)
nodes (ternary p f a b c) = omega (arith, nodes a, nodes b, nodes c)

pub text : (r : Resolved) → programs.in_text (erased r) ≡ raw_text.in_text r
text (leaf p f) = refl
text (unary p f a) = λ i. unary_in_text f && text a i
text (binary p f a b) = λ i. text a i && text b i
text (ternary p f a b c) = λ i. text a i && (text b i && text c i)

function_nodes : (g : Function) → programs.function_nodes (erased_function g) ≡ raws.function_nodes g
function_nodes g = omega (arith, nodes g.body)

functions_nodes : (gs : List Function) → sum_by programs.function_nodes (erased_functions gs) ≡ sum_by raws.function_nodes gs
functions_nodes [] = refl
functions_nodes (g ∷ gs) =
    omega (arith, function_nodes g, functions_nodes gs, sum_by-cons programs.function_nodes (erased_function g) (erased_functions gs), sum_by-cons raws.function_nodes g gs)

functions_text : (gs : List Function) → list_all (λ g. programs.in_text g.body) (erased_functions gs) ≡ list_all (λ g. raw_text.in_text g.body) gs
functions_text [] = refl
functions_text (g ∷ gs) = λ i. text g.body i && functions_text gs i

pub program_nodes : (r : RawTerm) → programs.program_nodes (erased_program r) ≡ raws.raw_nodes r
program_nodes r = omega (arith, functions_nodes r.functions, nodes r.main)

pub bodies_text : (r : RawTerm) → IsRaw r → IsTrue (list_all (λ g. programs.in_text g.body) (erased_functions r.functions))
bodies_text r h = subst (λ b. IsTrue b) (sym (functions_text r.functions)) h.bodies_in_text

pub main_text : (r : RawTerm) → IsRaw r → IsTrue (programs.in_text (erased r.main))
main_text r h = subst (λ b. IsTrue b) (sym (text r.main)) h.main_in_text

nodes_written : (r : Resolved) → node_count r ≤ raw_text.written_nodes r
nodes_written (leaf p f) = omega arith
nodes_written (unary p f a) = omega (arith, nodes_written a)
nodes_written (binary p f a b) = omega (arith, nodes_written a, nodes_written b)
nodes_written (ternary p f a b c) = omega (arith, nodes_written a, nodes_written b, nodes_written c)

-- no term of the program has more nodes than the program
pub main_bounded : (r : RawTerm) → IsRaw r → node_count r.main ≤ 16000
main_bounded r h = omega (arith, nodes_written r.main, h.size)

pub body_bounded : (r : RawTerm) → IsRaw r → (k : ℕ) (d : Function) → k < length r.functions → node_count (slice_index_or r.functions k d).body ≤ 16000
body_bounded r h k d i = omega (arith, get_or-le-sum_by raws.function_nodes r.functions k d i, nodes_written (slice_index_or r.functions k d).body, h.size)

pub body_small : (r : RawTerm) (gs : List Function) (k : ℕ) (g : Function) → IsRaw r → gs ≡ r.functions → k < length gs → g ≡ slice_index_or gs k g → node_count g.body ≤ 16000
body_small r gs k g h e i q =
    let j : k < length r.functions = subst (λ l. k < length l) e i in
    let p : g ≡ slice_index_or r.functions k g = q ∙ ap (λ l. slice_index_or l k g) e in
    subst (λ x. node_count x.body ≤ 16000) (sym p) (body_bounded r h k g j)
