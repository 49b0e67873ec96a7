use Rattle.std.proofs.Common.{◌∙◌, ap, sym, subst}
use Rattle.m5_cps.specs.Program.{IsProgram}
use Rattle.m5_cps.specs.Table.{blocks_of}
use Rattle.m5_cps_convert.proofs.Assembled.{whole_of}
use Rattle.m5_cps_convert.specs.Laws.{GoesOnAs, IsFewFor}
use Rattle.m5_cps_convert.proofs.Fitting.{blocks_fit, blocks_few}
use Rattle.m5_cps_convert.proofs.Matched.{plays_fully}
use Rattle.m5_cps_convert.proofs.to_cps.to_cps.Goals as goal

pub make-requires-2 : goal.make-requires-2
make-requires-2 c =
    let w = whole_of c.args.program.now c.declare.new.types c.new-2.result c.make.result c.in_ok-declared.declared c.write_functions.new.walk c.write_main.new.walk c.in_ok-starts.starts.items
    c.in_ok-main.main c.functions-functions.result.now c.main.result.now _ c.functions-functions.ensures.value c.main.ensures c.make.ensures c.in_ok-declared.ensures c.in_ok-starts.ensures
    c.in_ok-main.ensures in
    record {
      begin = w.begin;
      program = subst IsProgram (sym w.blocks) (blocks_fit c.args.program.now c.functions-functions.ensures.typed);
    }

pub returns : goal.returns
returns c =
    let value = ap blocks_of c.make-2.ensures
    ∙ (whole_of c.args.program.now c.declare.new.types c.new-2.result c.make.result c.in_ok-declared.declared c.write_functions.new.walk c.write_main.new.walk c.in_ok-starts.starts.items
    c.in_ok-main.main c.functions-functions.result.now c.main.result.now _ c.functions-functions.ensures.value c.main.ensures c.make.ensures c.in_ok-declared.ensures c.in_ok-starts.ensures
    c.in_ok-main.ensures).blocks in
    record {
      value = value;
      goes_on = subst (GoesOnAs c.args.program.now) (sym value) (λ u i. plays_fully c.args.program.now u c.functions-functions.ensures.typed i);
      few = subst (IsFewFor c.args.program.now) (sym value) (blocks_few c.args.program.now);
    }
