use Rattle.std.proofs.Common.{◌++◌, ◌∙◌, ◌∷◌, ◌+◌, ◌-◌, ◌%◌, ◌/◌, [], ap, sym, append_assoc, List, ℕ, arith}
use Rattle.m5_message.specs.Spelling.{groups_of}
use Rattle.m5_marshal.proofs.Spells.{groups_more}
use Rattle.m5_marshal.proofs.spell.+put_groups.Goals as goal

pub returns : goal.returns
returns t c =
    let rest = groups_of (c.args.most - 1) (c.args.n / 128) in
    c.in_ok-put_groups.ensures
    ∙ ap (λ (x : List ℕ). x ++ rest) c.in_ok-push-2.ensures.items
    ∙ append_assoc c.args.out.now.items ((c.args.n % 128 + 128) ∷ []) rest
    ∙ ap (λ (x : List ℕ). c.args.out.now.items ++ x) (sym (groups_more c.args.most c.args.n (omega arith) (omega arith)))
