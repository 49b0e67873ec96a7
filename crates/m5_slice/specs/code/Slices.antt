-- The slices by their worlds.
use Rattle.m5_terms.specs.declared.types.World.{World}
use Rattle.m5_terms.specs.declared.types.World.TheVariants.{Home, Server, Panel, Any}
use Rattle.m5_flat.specs.Table.{Table}
use Rattle.m5_slice.specs.declared.slices.Slices.{Slices}

-- the slice of a world; Any has no site, and there the first world's is read
abbrev pub slice_at : Slices → World → Table
slice_at s Home = s.home
slice_at s Server = s.server
slice_at s Panel = s.panel
slice_at s Any = s.home
