use Rattle.std.proofs.Common.{map, sym, ◌∙◌, ap}
use Rattle.std.specs.Option.{option_map}
use Rattle.m5_poly.specs.code.Views.{generic_of}
use Rattle.m5_poly.specs.code.Surveying.{survey_of, following}
use Rattle.m5_poly.specs.Survey.{sections_of}
use Rattle.m5_poly.proofs.Surveying.{begun, one_more, refused_there}
use Rattle.m5_poly.proofs.survey.surveyed_text.Goals as goal

pub sections-init : goal.sections-init
sections-init c =
    let at = begun c.args.tokens.now c.split_at.result.0.now c.split_at.result.1.now c.length_of.result (record { sections = map (λ o. option_map (λ t. t.now) o) c.new.result.items; generics = map generic_of c.new-2.result.items })
    (ap (λ os. map (λ o. option_map (λ t. t.now) o) os) c.new.ensures.items) (ap (λ gs. map generic_of gs) c.new-2.ensures.items)
    c.length_of.ensures.length c.split_at.ensures.front c.split_at.ensures.back in
    (c.in_default.ensures.names, at.1, sym (at.0 ∙ c.in_default.ensures.ok (following (sections_of c.split_at.result.1.now))))

pub returns-in-Err-clause-fault : goal.returns-in-Err-clause-fault
returns-in-Err-clause-fault c =
    let at = begun c.args.tokens.now c.split_at.result.0.now c.split_at.result.1.now c.length_of.result (record { sections = map (λ o. option_map (λ t. t.now) o) c.new.result.items; generics = map generic_of c.new-2.result.items })
    (ap (λ os. map (λ o. option_map (λ t. t.now) o) os) c.new.ensures.items) (ap (λ gs. map generic_of gs) c.new-2.ensures.items)
    c.length_of.ensures.length c.split_at.ensures.front c.split_at.ensures.back in
    refused_there (record { sections = map (λ o. option_map (λ t. t.now) o) c.new.result.items; generics = map generic_of c.new-2.result.items })
    c.split_at.result.0.now (following (sections_of c.split_at.result.1.now)) _ _ at.0 c.in-Err.ensures.err

pub sections-preserved : goal.sections-preserved
sections-preserved c =
    let at = one_more (survey_of c.sections.text) c.sections.rest.now c.in-Some.more.now c.split_at-in-Some.result.0.now c.split_at-in-Some.result.1.now c.in-Some.field-0-0.now c.length_of-in-Some.result
    c.in-Some.ensures.cases.0 c.sections.invariant.1 c.length_of-in-Some.ensures.length c.split_at-in-Some.ensures.front c.split_at-in-Some.ensures.back in
    (c.in_default-add.ensures.names, at.1, sym (at.0 ∙ c.in_default-add.ensures.ok (following (sections_of c.split_at-in-Some.result.1.now))) ∙ c.sections.invariant.2)

pub returns-in-Err-add-clause-fault : goal.returns-in-Err-add-clause-fault
returns-in-Err-add-clause-fault c =
    let at = one_more (survey_of c.sections.text) c.sections.rest.now c.in-Some.more.now c.split_at-in-Some.result.0.now c.split_at-in-Some.result.1.now c.in-Some.field-0-0.now c.length_of-in-Some.result
    c.in-Some.ensures.cases.0 c.sections.invariant.1 c.length_of-in-Some.ensures.length c.split_at-in-Some.ensures.front c.split_at-in-Some.ensures.back in
    refused_there (survey_of c.sections.text) c.split_at-in-Some.result.0.now (following (sections_of c.split_at-in-Some.result.1.now)) _ _ (sym c.sections.invariant.2 ∙ at.0) c.in-Err-add.ensures.err
