use Rattle.m5_typing.proofs.Bounded.{main-bounded, body-bounded}
use Rattle.m5_typing.proofs.width.width.Goals as goal

pub width_of_functions-requires : goal.width_of_functions-requires
width_of_functions-requires c = rw c.functions.ensures.value (body-bounded _ c.functions.ensures.typed)

pub width_of_term-requires : goal.width_of_term-requires
width_of_term-requires c = rw c.main.ensures (main-bounded _ c.functions.ensures.typed)
