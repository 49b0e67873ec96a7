use Rattle.std.proofs.Common.{sym, ◌∙◌, ap}
use Rattle.std.specs.Option.{option_map}
use Rattle.m5_poly.specs.Roles.{is_word, is_sign}
use Rattle.m5_poly.specs.Survey.{heading_after}
use Rattle.m5_poly.specs.code.Surveying.{listed_of}
use Rattle.m5_poly.proofs.Surveying.{headed}
use Rattle.m5_poly.proofs.survey.heading_of.Goals as goal

-- the list of variables is that of the section
pub returns-in-Some-2-clause-heading : goal.returns-in-Some-2-clause-heading
returns-in-Some-2-clause-heading c =
    c.heading_after.ensures.heading c.in-Some.first.now.place
    ∙ ap (λ o. heading_after c.in-Some.first.now.place c.args.section.now (option_map listed_of o)) (sym c.in-Some-2.is)
    ∙ ap (λ o. heading_after c.in-Some.first.now.place c.args.section.now o) c.in_ok-list.ensures.listed
    ∙ sym (headed c.args.section.now c.in-Some.after.now c.in-Some-split_first.more.now c.in-Some.first.now c.in-Some-split_first.second.now
    c.in-Some.ensures.cases.0 c.in-Some-split_first.ensures.cases.0
    (ap (is_word 2) (sym c.token-mark.ensures.token) ∙ sym c.is_word.ensures ∙ c.if-not-is_word.false)
    (ap (is_sign 2) (sym c.token-bracket.ensures.token) ∙ sym c.is_sign.ensures ∙ c.if-not-is_sign.false))
