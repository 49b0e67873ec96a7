use Rattle.std.proofs.Common.{◌≡◌, ◌<◌, ◌⊎◌, inl, inr, subst, arith}
use Rattle.std.specs.Prelude.{IfOk}
use Rattle.std.proofs.lemmas.Option.{slice_get_within}
use Rattle.m5_terms.specs.TypeExpression as type
use Rattle.m5_terms.specs.TypeExpression.{TypeExpression, type_node_count}
use Rattle.m5_dict.specs.Standing.{Stands, pair, fun, type_target}
use Rattle.m5_cps.specs.TypesByNumber.{type_in}
use Rattle.m5_dict.proofs.Growing.{stay, within, know_on}
use Rattle.m5_dict.proofs.Ending.{called, ok_pair, ok_sum, ok_list, ok_fun}
use Rattle.m5_dict.proofs.number.+type_id.Goals as goal

-- what is behind of two parts is the smaller
behind : (A B T : TypeExpression) → (type.product A B ≡ T) ⊎ ((type.sum A B ≡ T) ⊎ (type.function A B ≡ T)) → type_node_count B < type_node_count T
behind A B T (inl e) = subst (λ S. type_node_count B < type_node_count S) e (omega arith)
behind A B T (inr (inl e)) = subst (λ S. type_node_count B < type_node_count S) e (omega arith)
behind A B T (inr (inr e)) = subst (λ S. type_node_count B < type_node_count S) e (omega arith)

pub type_id-requires-in-Product : goal.type_id-requires-in-Product
type_id-requires-in-Product t c = (let less = behind (type_in c.args.types.now c.in-Product.a) (type_in c.args.types.now c.in-Product.b) (type_in c.args.types.now c.args.number) (inl c.in-Product.ensures.is) in omega (arith, less, c.decreases), know_on _ _ _ _ c.in_ok-first-in-Product.ensures.grows c.requires.known)

pub type_id-requires-in-Sum-2 : goal.type_id-requires-in-Sum-2
type_id-requires-in-Sum-2 t c = (let less = behind (type_in c.args.types.now c.in-Sum.a) (type_in c.args.types.now c.in-Sum.b) (type_in c.args.types.now c.args.number) (inr (inl c.in-Sum.ensures.is)) in omega (arith, less, c.decreases), know_on _ _ _ _ c.in_ok-left-in-Sum.ensures.grows c.requires.known)

pub type_id-requires-in-Function-2 : goal.type_id-requires-in-Function-2
type_id-requires-in-Function-2 t c = (let less = behind (type_in c.args.types.now c.in-Function.a) (type_in c.args.types.now c.in-Function.b) (type_in c.args.types.now c.args.number) (inr (inr c.in-Function.ensures.is)) in omega (arith, less, c.decreases), know_on _ _ _ _ c.in_ok-argument-in-Function.ensures.grows c.requires.known)

pub number-requires-in-Product : goal.number-requires-in-Product
number-requires-in-Product t c = (within _ _ _ (stay _ _ _ _ c.in_ok-second-in-Product.ensures.grows c.in_ok-first-in-Product.ensures.stands), within _ _ _ c.in_ok-second-in-Product.ensures.stands)

pub number-requires-in-Sum : goal.number-requires-in-Sum
number-requires-in-Sum t c = (within _ _ _ (stay _ _ _ _ c.in_ok-right-in-Sum.ensures.grows c.in_ok-left-in-Sum.ensures.stands), within _ _ _ c.in_ok-right-in-Sum.ensures.stands)

pub call_id-requires-clause-argument : goal.call_id-requires-clause-argument
call_id-requires-clause-argument t c = within _ _ _ (stay _ _ _ _ c.in_ok-result-in-Function.ensures.grows c.in_ok-argument-in-Function.ensures.stands)

pub call_id-requires-clause-result : goal.call_id-requires-clause-result
call_id-requires-clause-result t c = within _ _ _ c.in_ok-result-in-Function.ensures.stands

pub number-requires-in-Function : goal.number-requires-in-Function
number-requires-in-Function t c = slice_get_within _ _ _ c.in_ok-pair-in-Function.ensures.is.pair

pub number-requires-in-List : goal.number-requires-in-List
number-requires-in-List t c = within _ _ _ c.in_ok-item-in-List.ensures.stands

pub returns-in_ok-second-in-Product-clause-stands : goal.returns-in_ok-second-in-Product-clause-stands
returns-in_ok-second-in-Product-clause-stands t c =
    subst (λ A. IfOk c.number-in-Product.result (λ id. Stands c.number-in-Product.new.self id (type_target A))) c.in-Product.ensures.is
    (ok_pair (type_target (type_in c.args.types.now c.in-Product.a)) (type_target (type_in c.args.types.now c.in-Product.b)) _ _ _ _ _ c.number-in-Product.result c.in_ok-first-in-Product.ensures.stands c.in_ok-second-in-Product.ensures.grows c.in_ok-second-in-Product.ensures.stands c.number-in-Product.ensures.is c.number-in-Product.ensures.grows)

pub returns-in_ok-right-in-Sum-clause-stands : goal.returns-in_ok-right-in-Sum-clause-stands
returns-in_ok-right-in-Sum-clause-stands t c =
    subst (λ A. IfOk c.number-in-Sum.result (λ id. Stands c.number-in-Sum.new.self id (type_target A))) c.in-Sum.ensures.is
    (ok_sum (type_target (type_in c.args.types.now c.in-Sum.a)) (type_target (type_in c.args.types.now c.in-Sum.b)) _ _ _ _ _ c.number-in-Sum.result c.in_ok-left-in-Sum.ensures.stands c.in_ok-right-in-Sum.ensures.grows c.in_ok-right-in-Sum.ensures.stands c.number-in-Sum.ensures.is c.number-in-Sum.ensures.grows)

pub returns-in_ok-pair-in-Function-clause-stands : goal.returns-in_ok-pair-in-Function-clause-stands
returns-in_ok-pair-in-Function-clause-stands t c =
    subst (λ A. IfOk c.number-in-Function.result (λ id. Stands c.number-in-Function.new.self id (type_target A))) c.in-Function.ensures.is
    (ok_fun (pair (type_target (type_in c.args.types.now c.in-Function.a)) (fun (type_target (type_in c.args.types.now c.in-Function.b)))) _ _ _ c.number-in-Function.result
    (called (type_target (type_in c.args.types.now c.in-Function.a)) (type_target (type_in c.args.types.now c.in-Function.b)) _ _ _ _ _ _ c.in_ok-argument-in-Function.ensures.stands c.in_ok-result-in-Function.ensures.grows c.in_ok-result-in-Function.ensures.stands c.in_ok-pair-in-Function.ensures.is c.in_ok-pair-in-Function.ensures.grows)
    c.number-in-Function.ensures.is c.number-in-Function.ensures.grows)

pub returns-in_ok-item-in-List-clause-stands : goal.returns-in_ok-item-in-List-clause-stands
returns-in_ok-item-in-List-clause-stands t c =
    subst (λ A. IfOk c.number-in-List.result (λ id. Stands c.number-in-List.new.self id (type_target A))) c.in-List.ensures.is
    (ok_list (type_target (type_in c.args.types.now c.in-List.a)) _ _ _ c.number-in-List.result c.in_ok-item-in-List.ensures.stands c.number-in-List.ensures.is c.number-in-List.ensures.grows)
