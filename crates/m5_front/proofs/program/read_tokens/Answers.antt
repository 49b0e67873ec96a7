use Rattle.std.proofs.Common.{◌≡◌, sym, subst}
use Rattle.m5_raw.specs.RawTerm.{RawTerm}
use Rattle.m5_terms.specs.Outcome.{found}
use Rattle.m5_elaborate.specs.Checked.{elaborated}
use Rattle.m5_front.proofs.Accepting.{typed_accepts}
use Rattle.m5_front.proofs.program.read_tokens.Goals as goal

pub returns-in-Err-clause-accepted : goal.returns-in-Err-clause-accepted
returns-in-Err-clause-accepted c = λ tree raw program h. c.in-Err.ensures.accepted tree raw h.read

-- the resolved program is the text's one, and its types have no fault
pub returns-in-Err-elaborate-clause-accepted : goal.returns-in-Err-elaborate-clause-accepted
returns-in-Err-elaborate-clause-accepted c = λ tree raw program h.
    let both = c.in-Ok.ensures.accepted tree raw h.read in
    let P : RawTerm → Type 0 = λ r. elaborated r ≡ found program in
    typed_accepts _ program c.in-Err-elaborate.end c.type_end.result (subst P (sym both.1) h.typed) c.in-Err-elaborate.ensures.fault c.type_end.ensures
