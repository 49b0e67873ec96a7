-- Programs are found exactly where they are typed.
use Rattle.std.proofs.Common.{◌≡◌, ◌≢◌, ℕ, zero, suc, IsTrue, Option, Some, None, List, [], ◌∷◌, ◌++◌, ◌+◌, ◌<◌, slice_get, get_or, length, take, drop, drop-cons, add-one, Result, Ok, Err, IfErr, refl, ap, sym, ◌∙◌, subst, arith}
use Rattle.std.specs.List.{list_all}
use Rattle.std.proofs.lemmas.List.{take_more}
use Rattle.m5_terms.specs.TypeExpression.{TypeExpression, unit, function, same_type}
use Rattle.m5_terms.specs.declared.types.World.{World}
use Rattle.m5_terms.specs.declared.types.World.TheVariants.{Home, Any}
use Rattle.m5_terms.specs.Expression.{Expression}
use Rattle.m5_typing.specs.declared.functions.Function as programs_function
use Rattle.m5_typing.specs.Context.{Bound, local, Context, nothing, with}
use Rattle.m5_typing.specs.Rules.{IsSmall}
use Rattle.m5_typing.specs.Typing.{Typed}
use Rattle.m5_typing.specs.Program as programs
use Rattle.m5_typing.specs.Program.{ProgramTerm, IsProgram, FunctionTyped, FunctionsTyped, bound_at, setting_of}
use Rattle.m5_raw.specs.InText.{in_text}
use Rattle.m5_raw.specs.RawTerm.{RawTerm, IsRaw}
use Rattle.m5_raw.specs.declared.function.Function.{Function}
use Rattle.m5_elaborate.specs.declared.end.TypeEnd.{TypeEnd}
use Rattle.m5_elaborate.specs.declared.end.TypeEnd.TheVariants.{Memory}
use Rattle.m5_terms.specs.Outcome.{found, fault, and_then}
use Rattle.m5_elaborate.specs.Outcome.{IsFault}
use Rattle.m5_elaborate.specs.Parts.{if_same}
use Rattle.m5_elaborate.specs.Erased.{erased, erased_function, erased_functions, erased_program}
use Rattle.m5_elaborate.specs.Checked.{checked, limited_type, declared_bound, signatures, function_checked, main_checked, rest_elaborated, elaborated}
use Rattle.m5_elaborate.proofs.Same.{left_true, right_true, type_same}
use Rattle.m5_elaborate.proofs.Outcomes.{found_is, both, joined, passed, limits}
use Rattle.m5_elaborate.proofs.Erasing.{program_nodes, bodies_text, main_text}
use Rattle.m5_elaborate.proofs.Sound.{IsFunction, IsFair, Declares, sound}
use Rattle.m5_elaborate.proofs.Complete.{complete, one_type, within_limit}

drop_one : (gs : List Function) (i : ℕ) (d : Function) → i < length gs → drop i gs ≡ get_or gs i d ∷ drop (i + 1) gs
drop_one gs i d h = rw (add-one, drop-cons gs i d)

same_bound : (gs : List Function) (f : ℕ) → programs.declared_bound (slice_get (erased_functions gs) f) ≡ declared_bound (slice_get gs f)
same_bound [] zero = refl
same_bound [] (suc f) = refl
same_bound (g ∷ gs) zero = refl
same_bound (g ∷ gs) (suc f) = same_bound gs f

fair_at : (w : World) (A : TypeExpression) → IsFunction A → IsFair (bound_at w A)
fair_at Any A h = h
fair_at _ A h = (λ e. cc, h)

fair_bound : (o : Option Function) (b : Bound) → declared_bound o ≡ Some b → IsFair b
fair_bound None b e = cc
fair_bound (Some g) b e =
    let q : bound_at g.world (function g.ty g.result) ≡ b = cc in
    subst IsFair q (fair_at g.world (function g.ty g.result) (record { from = g.ty; to = g.result; is = refl }))

declares : (gs : List Function) → Declares (signatures gs) (setting_of (erased_functions gs))
declares gs = record { same = λ f. same_bound gs f; fair = λ f b e. fair_bound (slice_get gs f) b e }

abbrev body_context : Function → Context
body_context g = with g.parameter (Some (local g.world g.ty)) nothing

function_sound : (known : List Function) (g : Function) (T : TypeExpression) → IsTrue (in_text g.body) → function_checked known g ≡ found T
    → FunctionTyped (erased_functions known) (erased_function g)
function_sound known g T t e =
    let body = checked (signatures known) (body_context g) g.world g.body in
    let rest = λ (S : TypeExpression). and_then body (λ B. if_same (same_type B g.result) g.place S) in
    let s = both (limited_type g.place (function g.ty g.result)) rest T e in
    let l = limits g.place (found (function g.ty g.result)) s.value s.first in
    let b = both body (λ B. if_same (same_type B g.result) g.place s.value) T s.second in
    let c = passed (same_type b.value g.result) (found s.value) _ T b.second in
    record {
      small = subst (λ S. IsSmall S) (sym (found_is (function g.ty g.result) s.value l.is)) l.small;
      body = sound (signatures known) (setting_of (erased_functions known)) (declares known) g.body (body_context g) g.world g.result t
          (b.first ∙ ap (λ B. found B) (type_same b.value g.result c.test));
    }

function_complete : (known : List Function) (g : Function) → IsTrue (in_text g.body) → FunctionTyped (erased_functions known) (erased_function g)
    → function_checked known g ≡ found (function g.ty g.result)
function_complete known g t d =
    let T = function g.ty g.result in
    let body = checked (signatures known) (body_context g) g.world g.body in
    let last = λ (S B : TypeExpression). if_same (same_type B g.result) g.place S in
    joined (limited_type g.place T) (λ S. and_then body (last S)) T T (within_limit g.place (found T) T refl d.small)
    (joined body (last T) g.result T
    (complete (signatures known) (setting_of (erased_functions known)) (declares known) g.body (body_context g) g.world g.result t d.body)
    (one_type g.place g.result T))

main_sound : (r : RawTerm) (A : TypeExpression) → IsTrue (in_text r.main) → main_checked r ≡ found A
    → Typed (setting_of (erased_functions r.functions)) nothing Home (erased r.main) unit
main_sound r A t e =
    let main = checked (signatures r.functions) nothing Home r.main in
    let b = both main (λ B. if_same (same_type B unit) r.place B) A e in
    let c = passed (same_type b.value unit) (found b.value) _ A b.second in
    sound (signatures r.functions) (setting_of (erased_functions r.functions)) (declares r.functions) r.main nothing Home unit t
    (b.first ∙ ap (λ B. found B) (type_same b.value unit c.test))

main_complete : (r : RawTerm) → IsTrue (in_text r.main) → Typed (setting_of (erased_functions r.functions)) nothing Home (erased r.main) unit
    → main_checked r ≡ found unit
main_complete r t d =
    joined (checked (signatures r.functions) nothing Home r.main) (λ B. if_same (same_type B unit) r.place B) unit unit
    (complete (signatures r.functions) (setting_of (erased_functions r.functions)) (declares r.functions) r.main nothing Home unit t d)
    (one_type r.place unit unit)

erased_more : (known : List Function) (g : Function) → erased_functions (known ++ g ∷ []) ≡ erased_functions known ++ erased_function g ∷ []
erased_more [] g = refl
erased_more (x ∷ known) g = ap (λ l. erased_function x ∷ l) (erased_more known g)

-- one more function was looked at
pub rest_step : (gs : List Function) (i : ℕ) (g : Function) (r : RawTerm) (T : TypeExpression) → i < length gs → g ≡ get_or gs i g
    → function_checked (take (i + 1) gs) g ≡ found T → rest_elaborated (take i gs) (drop i gs) r ≡ rest_elaborated (take (i + 1) gs) (drop (i + 1) gs) r
rest_step gs i g r T h q e =
    let more : take (i + 1) gs ≡ take i gs ++ g ∷ [] = take_more gs i g h ∙ ap (λ x. take i gs ++ x ∷ []) (sym q) in
    let one : drop i gs ≡ g ∷ drop (i + 1) gs = drop_one gs i g h ∙ ap (λ x. x ∷ drop (i + 1) gs) (sym q) in
    let k : function_checked (take i gs ++ g ∷ []) g ≡ found T = subst (λ l. function_checked l g ≡ found T) more e in
    ap (λ l. rest_elaborated (take i gs) l r) one
    ∙ (ap (λ o. and_then o (λ S. rest_elaborated (take i gs ++ g ∷ []) (drop (i + 1) gs) r)) k
    ∙ ap (λ l. rest_elaborated l (drop (i + 1) gs) r) (sym more))

pub rest_fault : (gs : List Function) (i : ℕ) (g : Function) (r : RawTerm) (t : TypeEnd) → i < length gs → g ≡ get_or gs i g
    → function_checked (take (i + 1) gs) g ≡ fault t → rest_elaborated (take i gs) (drop i gs) r ≡ fault t
rest_fault gs i g r t h q e =
    let more : take (i + 1) gs ≡ take i gs ++ g ∷ [] = take_more gs i g h ∙ ap (λ x. take i gs ++ x ∷ []) (sym q) in
    let one : drop i gs ≡ g ∷ drop (i + 1) gs = drop_one gs i g h ∙ ap (λ x. x ∷ drop (i + 1) gs) (sym q) in
    let k : function_checked (take i gs ++ g ∷ []) g ≡ fault t = subst (λ l. function_checked l g ≡ fault t) more e in
    ap (λ l. rest_elaborated (take i gs) l r) one ∙ ap (λ o. and_then o (λ S. rest_elaborated (take i gs ++ g ∷ []) (drop (i + 1) gs) r)) k

-- the functions that are left, and the main term
record RestTyped (known gs : List Function) (r : RawTerm) : Type 0 where
  functions : FunctionsTyped (erased_functions known) (erased_functions gs)
  main : Typed (setting_of (erased_functions r.functions)) nothing Home (erased r.main) unit

rest_sound : (gs known : List Function) (r : RawTerm) (p : ProgramTerm) → IsTrue (list_all (λ g. in_text g.body) gs) → IsTrue (in_text r.main)
    → rest_elaborated known gs r ≡ found p → RestTyped known gs r
rest_sound [] known r p t m e =
    let s = both (main_checked r) (λ A. found (erased_program r)) p e in
    record { functions = tt; main = main_sound r s.value m s.first }
rest_sound (g ∷ gs) known r p t m e =
    let more = known ++ g ∷ [] in
    let s = both (function_checked more g) (λ T. rest_elaborated more gs r) p e in
    let i = rest_sound gs more r p (right_true (in_text g.body) (list_all (λ g. in_text g.body) gs) t) m s.second in
    record {
      functions = subst (λ l. FunctionTyped l (erased_function g) × FunctionsTyped l (erased_functions gs)) (erased_more known g)
          (function_sound more g s.value (left_true (in_text g.body) (list_all (λ g. in_text g.body) gs) t) s.first, i.functions);
      main = i.main;
    }

rest_complete : (gs known : List Function) (r : RawTerm) → IsTrue (list_all (λ g. in_text g.body) gs) → IsTrue (in_text r.main)
    → RestTyped known gs r → rest_elaborated known gs r ≡ found (erased_program r)
rest_complete [] known r t m d = joined (main_checked r) (λ A. found (erased_program r)) unit (erased_program r) (main_complete r m d.main) refl
rest_complete (g ∷ gs) known r t m d =
    let more = known ++ g ∷ [] in
    let f = subst (λ l. FunctionTyped l (erased_function g) × FunctionsTyped l (erased_functions gs)) (sym (erased_more known g)) d.functions in
    joined (function_checked more g) (λ T. rest_elaborated more gs r) (function g.ty g.result) (erased_program r)
    (function_complete more g (left_true (in_text g.body) (list_all (λ g. in_text g.body) gs) t) f.0)
    (rest_complete gs more r (right_true (in_text g.body) (list_all (λ g. in_text g.body) gs) t) m (record { functions = f.1; main = d.main }))

rest_erased : (gs known : List Function) (r : RawTerm) (p : ProgramTerm) → rest_elaborated known gs r ≡ found p → p ≡ erased_program r
rest_erased [] known r p e =
    let s = both (main_checked r) (λ A. found (erased_program r)) p e in
    sym (found_is (erased_program r) p s.second)
rest_erased (g ∷ gs) known r p e =
    let s = both (function_checked (known ++ g ∷ []) g) (λ T. rest_elaborated (known ++ g ∷ []) gs r) p e in
    rest_erased gs (known ++ g ∷ []) r p s.second

-- a program that is found is typed
pub program_sound : (r : RawTerm) (p : ProgramTerm) → IsRaw r → elaborated r ≡ found p → IsProgram (erased_program r)
program_sound r p h e =
    let d = rest_sound r.functions [] r p h.bodies_in_text h.main_in_text e in
    record {
      functions = d.functions;
      main = d.main;
      size = omega (arith, program_nodes r, h.size);
      bodies_in_text = bodies_text r h;
      main_in_text = main_text r h;
    }

-- and one that is typed is found
pub program_complete : (r : RawTerm) → IsRaw r → IsProgram (erased_program r) → elaborated r ≡ found (erased_program r)
program_complete r h d = rest_complete r.functions [] r h.bodies_in_text h.main_in_text (record { functions = d.functions; main = d.main })

pub program_erased : (r : RawTerm) (p : ProgramTerm) → elaborated r ≡ found p → p ≡ erased_program r
program_erased r p e = rest_erased r.functions [] r p e

pub made_typed : (r : RawTerm) (gs : List programs_function.Function) (m : Expression) (T : TypeExpression) → IsRaw r
    → elaborated r ≡ rest_elaborated r.functions [] r → main_checked r ≡ found T → gs ≡ erased_functions r.functions → m ≡ erased r.main
    → IsProgram (record { functions = gs; main = m })
made_typed r gs m T h e k p q =
    let d = program_sound r (erased_program r) h (e ∙ ap (λ o. and_then o (λ A. found (erased_program r))) k) in
    subst (λ l. IsProgram (record { functions = l; main = m })) (sym p) (subst (λ x. IsProgram (record { functions = erased_functions r.functions; main = x })) (sym q) d)

pub refused_untyped : (r : RawTerm) (e : TypeEnd) → IsRaw r → e ≢ Memory → IsFault (elaborated r) e → IsProgram (erased_program r) → ⊥
refused_untyped r e h n i d = let q = sym (i n) ∙ program_complete r h d in cc

pub untyped_result : (r : RawTerm) (o : Result ProgramTerm TypeEnd) → IsRaw r → IfErr o (IsFault (elaborated r))
    → IfErr o (λ e. e ≢ Memory → IsProgram (erased_program r) → ⊥)
untyped_result r (Ok p) h i = i
untyped_result r (Err e) h i = λ n d. refused_untyped r e h n i d
