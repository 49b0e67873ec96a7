use Rattle.std.proofs.Common.{ℕ, ◌<◌, ◌+◌, length, slice_get, ap, ◌∙◌, sym, arith}
use Rattle.m5_flat.specs.Table.{Table, HasCode}
use Rattle.m5_flat.proofs.Standing.{step_there, shown}
use Rattle.m5_flat.proofs.table.Table.step.Goals as goal

-- the place is one of a step
there : (T : Table) (at : ℕ) → HasCode T at → at < length T.steps
there T at h = let l : at < 0 + length T.steps = step_there T.types 0 T.steps at h.code h.is in omega (arith, l)

pub at-requires : goal.at-requires
at-requires c = rw (ap (λ (T : Table). T.steps) c.self.view_is) (there c.args.self.now c.args.place c.requires)

pub returns-clause-there : goal.returns-clause-there
returns-clause-there c = there c.args.self.now c.args.place c.requires

pub returns-clause-shows : goal.returns-clause-shows
returns-clause-shows c =
    shown c.args.self.now c.args.place c.at.result.now c.requires (sym (ap (λ (T : Table). slice_get T.steps c.args.place) c.self.view_is) ∙ c.at.ensures)
