use Rattle.std.proofs.Common.{rules, ◌≡◌, true, [], sym, ◌∙◌, subst}
use Rattle.m5_terms.specs.Expression.{Expression}
use Rattle.m5_first.specs.Says.{no_texts, says_of}
use Rattle.m5_first.specs.Walk.{AppendedSayings}
use Rattle.m5_first.proofs.Claims.{no_items, walked}
use Rattle.m5_first.proofs.walk.run.Goals as goal

-- what was appended is the history of the run
pub returns : goal.returns
returns c =
    let yes : c.in_ok-append_sayings.field-0 ≡ true = search rules in
    let empty : c.is_empty.result ≡ true = search rules in
    let alone : c.args.program.now.functions ≡ [] = no_items c.functions.result.now _ c.functions.ensures.value (sym c.is_empty.ensures ∙ empty) in
    let P : Expression → Type 0 = λ m. AppendedSayings c.make-entries.result c.append_sayings.new.entries (says_of no_texts m) c.in_ok-append_sayings.field-0 in
    walked c.args.program.now c.make-entries.result c.append_sayings.new.entries c.in_ok-append_sayings.field-0 alone c.make-entries.ensures yes
    (subst P c.main.ensures c.in_ok-append_sayings.ensures)
