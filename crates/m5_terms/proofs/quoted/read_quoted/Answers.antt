use Rattle.std.proofs.Common.{◌≡◌, Some, true, get_or, ◌+◌, sym, ◌∙◌, arith}
use Rattle.m5_terms.specs.Quoted.{escape, is_plain}
use Rattle.m5_terms.proofs.Quoting.{quoted_more, quoted_goes, text_push, escape_text, plain_text}
use Rattle.m5_terms.proofs.quoted.read_quoted.Goals as goal

pub loop-at-preserved-then-byte-eq92 : goal.loop-at-preserved-then-byte-eq92
loop-at-preserved-then-byte-eq92 c =
    let means : escape (get_or c.args.rest.now (c.loop-at.at + 1) 0) ≡ Some c.in-Some.meant = cc in
    let next = quoted_more _ _ _ c.in-Some.meant _ _ c.loop-at-test.true c.if-byte-eq92.true means c.in_ok-push-in-Some.ensures.items c.loop-at.invariant.0 in
    (next.0, next.1, text_push _ _ _ c.loop-at.invariant.2 (escape_text (get_or c.args.rest.now (c.loop-at.at + 1) 0) c.in-Some.meant means) c.in_ok-push-in-Some.ensures.items)

pub loop-at-preserved : goal.loop-at-preserved
loop-at-preserved c =
    let plain : is_plain (get_or c.args.rest.now c.loop-at.at 0) ≡ true = cc in
    let next = quoted_goes c.loop-at.value.items c.loop-at.at c.args.rest.now c.loop-at-test.true plain in
    (rw c.in_ok-push.ensures.items (sym next ∙ c.loop-at.invariant.0), omega arith, text_push _ _ _ c.loop-at.invariant.2 (plain_text (get_or c.args.rest.now c.loop-at.at 0) plain) c.in_ok-push.ensures.items)
