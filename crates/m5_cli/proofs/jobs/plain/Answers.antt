use Rattle.std.proofs.Common.{Err, ap, refl, rules}
use Rattle.m5_cli.proofs.Finishing.{always, moved, told}
use Rattle.m5_cli.proofs.jobs.plain.Goals as goal

-- want of memory may come at any input
pub returns-in-Err-Memory : goal.returns-in-Err-Memory
returns-in-Err-Memory g c = record {
  output = always _ _ (λ input. c.finish-in-Err-Memory.ensures.leaves c.args.job input refl);
  completes = always _ _ (λ input. c.finish-in-Err-Memory.ensures.complete c.args.job input refl);
  read_fault = search rules;
  nothing = search rules;
  write_fault = search rules;
  no_usage = search rules;
}

-- an input that is too long is refused so
pub returns-in-Err-TooLong : goal.returns-in-Err-TooLong
returns-in-Err-TooLong g c =
    let long = c.in-Err-TooLong.ensures.too_long (ap Err c.in-Err-TooLong.field-0-is) in
    record {
      output = told _ _ _ long (λ input l. c.finish.ensures.leaves c.args.job input (l, refl));
      completes = told _ _ _ long (λ input l. c.finish.ensures.complete c.args.job input (l, refl));
      read_fault = search rules;
      nothing = search rules;
      write_fault = search rules;
      no_usage = search rules;
    }

-- the bytes that were read are those of the source
pub returns-in-Ok : goal.returns-in-Ok
returns-in-Ok g c = record {
  output = moved _ _ _ _ c.as_slice.ensures c.in-Ok.ensures.all c.answer.ensures.leaves;
  completes = moved _ _ _ _ c.as_slice.ensures c.in-Ok.ensures.all c.answer.ensures.complete;
  read_fault = search rules;
  nothing = search rules;
  write_fault = search rules;
  no_usage = search rules;
}
