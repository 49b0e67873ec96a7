-- The fields so far are of their types.
use Rattle.m5_marshal.specs.code.Opened.{others_of}
use Rattle.m5_marshal.specs.code.Keys.{values_behind}
use Rattle.m5_marshal.proofs.Fitting.{FitSoFar}
use Rattle.m5_marshal.proofs.fits.are_of.Given as goal

abbrev pub invariant-loop-place : goal.invariant-loop-place
invariant-loop-place l = FitSoFar l.dicts l.at.0 (others_of l.others) (values_behind l.region.objects l.at.0 l.first) l.place
