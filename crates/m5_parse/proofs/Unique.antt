-- Tokens are read to one end.
use Rattle.std.proofs.Common.{◌≡◌, List, ◌++◌, refl, sym, ◌∙◌, subst}
use Rattle.m5_lex.specs.declared.tokens.Placed.{Placed}
use Rattle.m5_tree.specs.Reading.{State, Reads, done, token, acts, rule}
use Rattle.m5_tree.specs.declared.grammar.Symbol.{Symbol}
use Rattle.m5_parse.specs.Rows.{choose}
use Rattle.m5_parse.proofs.Theory.{Good, by_choice, good_choice, same_choice}
use Rattle.m5_parse.proofs.Law.{at_end, after_token, after_act}

pub one_end : {e e' s : State} {ss : List Symbol} {ts : List Placed} → Reads e ss ts s → Good ss → Reads e' ss ts s → e' ≡ e
one_end (done h) g r' = sym (at_end r') ∙ h
one_end (token c r) g r' = one_end r g (after_token r')
one_end (acts r) g r' = one_end r g (after_act r')
one_end {e' = e'} (rule {n} {ss} {ts} {s} q one r) g r' =
    let same : q ≡ choose n ts = same_choice n ss ts g refl q one r in
    let P : List Symbol → Type 0 = λ x. Reads e' (x ++ ss) ts s in
    let G : List Symbol → Type 0 = λ x. Good (x ++ ss)
    in one_end r (subst G (sym same) (good_choice n ts ss g)) (subst P (sym same) (by_choice ts g refl r'))
