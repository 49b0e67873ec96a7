use Rattle.std.proofs.Common.{◌≡◌, [], length}
use Rattle.std.specs.List.{slice_split}
use Rattle.m5_script.specs.Fields.{is_blank, sites_from}
use Rattle.m5_script.specs.Line.{AreSites}
use Rattle.m5_script.proofs.fields.sites.Given as goal

abbrev pub invariant-loop-sites : goal.invariant-loop-sites
invariant-loop-sites l = record {
  on : sites_from l.sites (slice_split is_blank l.rest) ≡ sites_from [] (slice_split is_blank l.bytes);
  worlds : AreSites l.sites;
}

abbrev pub decreases-loop-sites : goal.decreases-loop-sites
decreases-loop-sites l = length l.rest
