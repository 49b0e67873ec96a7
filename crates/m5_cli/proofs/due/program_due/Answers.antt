use Rattle.std.proofs.Common.{ℕ, List, sym, subst}
use Rattle.m5_front.specs.Reading.{IsAccepted, IsNoRefusal}
use Rattle.m5_cli.proofs.due.program_due.Goals as goal

-- what is refused is not accepted
pub refused-requires-clause-not_accepted : goal.refused-requires-clause-not_accepted
refused-requires-clause-not_accepted c = λ tree raw program h.
    let P : List ℕ → Type 0 = λ text. IsAccepted text tree raw program in
    subst IsNoRefusal c.in-Err-Refused.field-0-is (c.in-Err-Refused.ensures.accepted tree raw program (subst P (sym c.split.ensures.program) h))
