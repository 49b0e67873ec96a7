use Rattle.m5_flat.specs.Table.{blocks_of}
use Rattle.m5_slice.proofs.Same.{are_slices, slices_go_on}
use Rattle.m5_slice.proofs.Parted.{slices_are_apart}
use Rattle.m5_slice.proofs.slices.slice.Goals as goal

pub returns-clause-cut : goal.returns-clause-cut
returns-clause-cut c = are_slices (blocks_of c.args.flat.now) _ c.in_ok-slice_of.ensures c.in_ok-slice_of-2.ensures c.in_ok-slice_of-3.ensures

pub returns-clause-goes_on : goal.returns-clause-goes_on
returns-clause-goes_on c = slices_go_on (blocks_of c.args.flat.now) _ (are_slices (blocks_of c.args.flat.now) _ c.in_ok-slice_of.ensures c.in_ok-slice_of-2.ensures c.in_ok-slice_of-3.ensures)

pub returns-clause-apart : goal.returns-clause-apart
returns-clause-apart c = slices_are_apart (blocks_of c.args.flat.now) _ (are_slices (blocks_of c.args.flat.now) _ c.in_ok-slice_of.ensures c.in_ok-slice_of-2.ensures c.in_ok-slice_of-3.ensures)
