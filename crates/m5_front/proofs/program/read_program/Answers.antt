use Rattle.std.proofs.Common.{subst}
use Rattle.m5_lex.specs.Tokens.{Listing}
use Rattle.m5_front.specs.Reading.{AreAccepted, IsAccepted}
use Rattle.m5_front.specs.declared.program.Accepted.{Accepted}
use Rattle.m5_front.proofs.Accepting.{one_listing, text_found, text_refused}
use Rattle.m5_front.proofs.program.read_program.Goals as goal

-- the text's answer is that of its tokens
pub returns-in-Ok-clause-found : goal.returns-in-Ok-clause-found
returns-in-Ok-clause-found c =
    let P : Accepted → Type 0 = λ a. AreAccepted c.in-Ok.tokens a.tree a.raw a.program in
    let Q : Accepted → Type 0 = λ a. IsAccepted c.args.text.now a.tree a.raw a.program in
    text_found P Q c.read_tokens.result (λ a h. record { listing = c.in-Ok.tokens; tokens = c.in-Ok.ensures.tokens; accepted = h }) c.read_tokens.ensures.found

pub returns-in-Ok-clause-refused : goal.returns-in-Ok-clause-refused
returns-in-Ok-clause-refused c = text_refused c.args.text.now c.in-Ok.tokens c.read_tokens.result c.in-Ok.ensures.tokens c.read_tokens.ensures.refused

pub returns-in-Ok-clause-accepted : goal.returns-in-Ok-clause-accepted
returns-in-Ok-clause-accepted c = λ tree raw program h.
    let P : Listing → Type 0 = λ l. AreAccepted l tree raw program in
    c.read_tokens.ensures.accepted tree raw program (subst P (one_listing _ h.listing c.in-Ok.tokens h.tokens c.in-Ok.ensures.tokens) h.accepted)
