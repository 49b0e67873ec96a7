use Rattle.std.proofs.Common.{◌<◌, length, subst, sym}
use Rattle.m5_lex.specs.Tokens.{Listing}
use Rattle.m5_lex.proofs.Taking.{tokens_push}
use Rattle.m5_lex.proofs.tokens.Tokens.push.Goals as goal

pub invariant_of-self-2 : goal.invariant_of-self-2
invariant_of-self-2 c =
    let room : length c.self.inside.held.items < 4294967295 = subst (λ (v : Listing). length v.tokens < 4294967295) (sym c.self.view_is) c.requires.room in
    rw c.in_ok-push.ensures.items (tokens_push _ _ c.self.invariant c.requires.token room)
