use Rattle.std.proofs.Common.{ap, sym, ◌∙◌, ◌∷◌, ◌++◌, ◌*◌, List, ℕ, replicate, length}
use Rattle.std.proofs.lemmas.List.{length-replicate}
use Rattle.std.specs.Int.{w64, to_be_bytes}
use Rattle.m5_region.specs.declared.value.Value.TheVariants.{Null}
use Rattle.m5_region.proofs.More.{null_kinds, null_words, two_more}
use Rattle.m5_region.proofs.layout.put_nulls.Goals as goal

pub returns-clause-kinds : goal.returns-clause-kinds
returns-clause-kinds c = two_more _ _ _ _ _ _ c.put_unit.ensures.kinds c.put_copies.ensures.items (ap (λ (x : List ℕ). 5 ∷ x) (sym (null_kinds c.args.count)))

pub returns-clause-content : goal.returns-clause-content
returns-clause-content c = two_more _ _ _ _ _ _ c.put_unit.ensures.content c.put_copies-2.ensures.items
    (ap (λ (n : ℕ). to_be_bytes w64 n ++ replicate (8 * c.args.count) 0) (sym (length-replicate c.args.count Null))
    ∙ ap (λ (x : List ℕ). to_be_bytes w64 (length (replicate c.args.count Null)) ++ x) (sym (null_words c.args.count)))
