use Rattle.flat_bench.proofs.passes.show.Goals as goal

pub slice-requires : goal.slice-requires
slice-requires c = c.in-Ok-dictionaries.ensures
