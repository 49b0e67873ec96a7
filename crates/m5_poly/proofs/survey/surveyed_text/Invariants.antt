use Rattle.std.proofs.Common.{◌≡◌, [], length}
use Rattle.m5_poly.specs.Survey.{sections_of, surveyed}
use Rattle.m5_poly.specs.code.Surveying.{survey_of, going_on, following, StartsSection, AreNamed}
use Rattle.m5_poly.proofs.survey.surveyed_text.Given as goal

-- the survey goes on behind the sections so far
abbrev pub invariant-sections : goal.invariant-sections
invariant-sections l = AreNamed l.text × StartsSection l.rest × (going_on (survey_of l.text) (following (sections_of l.rest)) ≡ surveyed [] (sections_of l.tokens))

abbrev pub decreases-sections : goal.decreases-sections
decreases-sections l = length l.rest
