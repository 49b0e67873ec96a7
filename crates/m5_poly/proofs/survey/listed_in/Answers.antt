use Rattle.std.proofs.Common.{◌≡◌, ◌++◌, [], ◌∷◌, false, true, sym, ◌∙◌, ap, arith}
use Rattle.std.specs.List.{list_any}
use Rattle.std.specs.Str.{bytes_eq}
use Rattle.m5_poly.specs.Roles.{is_sign}
use Rattle.m5_poly.proofs.Surveying.{listed_more, listed_again, listed_short, added_new, added_old, added_behind}
use Rattle.m5_poly.proofs.survey.listed_in.Goals as goal

-- one variable more, with a comma behind it
pub variables-preserved : goal.variables-preserved
variables-preserved c =
    let new : list_any (bytes_eq c.bytes.result.now) c.variables.variables ≡ false = added_new _ (sym c.in_ok-added.ensures.new ∙ c.if-not-added.false) in
    let names : c.add.new.self ≡ c.variables.variables ++ c.bytes.result.now ∷ [] = added_behind _ _ _ _ new c.in_ok-added.ensures.names in (
      rw (names, c.bytes.ensures) (
          sym (listed_more c.variables.variables c.args.tokens.now c.variables.at c.index-tokens-at.result c.index-tokens-at-in-variables.result c.in-Name.name
          (omega arith) c.index-tokens-at.is c.index-tokens-at-in-variables.is (sym c.token.ensures.token ∙ c.in-Name.is) (rw (← c.bytes.ensures) new)
          (ap (is_sign 3) (sym c.token-next.ensures.token) ∙ sym c.is_sign.ensures ∙ c.if-is_sign.false)
          (ap (is_sign 4) (sym c.token-next.ensures.token) ∙ sym c.is_sign-in-variables.ensures ∙ c.if-not-is_sign.false)) ∙ c.variables.invariant.0),
      omega arith,
    )

pub returns-then-not-added-clause-listed : goal.returns-then-not-added-clause-listed
returns-then-not-added-clause-listed c =
    let old : list_any (bytes_eq c.bytes.result.now) c.variables.variables ≡ true = added_old _ (sym c.in_ok-added.ensures.new ∙ c.if-not-added.true) in
    sym (listed_again c.variables.variables c.args.tokens.now c.variables.at c.index-tokens-at.result c.in-Name.name
    (omega arith) c.index-tokens-at.is (sym c.token.ensures.token ∙ c.in-Name.is) (rw (← c.bytes.ensures) old)) ∙ c.variables.invariant.0

pub returns-clause-listed : goal.returns-clause-listed
returns-clause-listed c = sym (listed_short c.variables.variables c.args.tokens.now c.variables.at (omega (arith, c.variables-test.false))) ∙ c.variables.invariant.0
