use Rattle.m5_cps_convert.proofs.Assembled.{function_written}
use Rattle.m5_cps_convert.proofs.to_cps.write_function.Goals as goal

pub returns : goal.returns
returns c =
    function_written c.args.walk.now c.within.new.walk c.args.function.now c.args.whole c.at_start-around.result c.function_parts-parts.result _ c.in_ok-within.field-0 c.count-place.result
    c.at_start-around.ensures c.function_parts-parts.ensures c.bound-known.ensures c.count-place.ensures c.in_ok-within.ensures
