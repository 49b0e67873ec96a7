use Rattle.std.proofs.Common.{ap}
use Rattle.m5_terms.specs.Opened.{viewed_unary}
use Rattle.m5_cps_convert.proofs.Headed.{rec_head}
use Rattle.m5_cps_convert.proofs.functions.head_of.Goals as goal

pub returns-in_ok-whole-in-Rec : goal.returns-in_ok-whole-in-Rec
returns-in_ok-whole-in-Rec c =
    rec_head c.args.walk.now _ _ _ c.args.around c.args.filled _ _ _ _ _ _ _ _ _ _ _ _ _ (ap viewed_unary c.in-Rec.is) c.in_ok-argument-in-Rec.ensures c.in_ok-result-in-Rec.ensures
    c.in_ok-whole-in-Rec.ensures c.in_ok-slot.ensures c.in_ok-continuation.ensures c.in_ok-first.ensures c.bound-in-Rec.ensures c.bound-in-Rec-2.ensures
