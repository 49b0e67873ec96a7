-- What the code's reductions stand for.
use Rattle.m5_terms.specs.declared.types.World.{World}
use Rattle.m5_terms.specs.declared.form.UnaryForm.{UnaryForm}
use Rattle.m5_terms.specs.declared.form.UnaryForm.TheVariants as unary_form
use Rattle.m5_meaning.specs.Reduction as reduction
use Rattle.m5_source_site.specs.declared.reduced.Reduced.{Reduced}
use Rattle.m5_source_site.specs.declared.reduced.Reduced.TheVariants as reduced

abbrev pub reduction_of : Reduced → reduction.Reduced
reduction_of (reduced.Gives v) = reduction.gives v
reduction_of (reduced.MakesText t) = reduction.makes_text t
reduction_of (reduced.GoesOn e) = reduction.goes_on e
reduction_of (reduced.MakesCell v) = reduction.makes_cell v
reduction_of (reduced.Loads n) = reduction.loads n
reduction_of (reduced.Stores n v) = reduction.stores n v
reduction_of (reduced.Leaves w e) = reduction.leaves w e
reduction_of (reduced.Says t) = reduction.says t
reduction_of (reduced.Shows t) = reduction.shows t
reduction_of (reduced.Sets e t) = reduction.sets e t
reduction_of (reduced.Writes k t) = reduction.writes k t
reduction_of (reduced.Gets e) = reduction.gets e
reduction_of (reduced.Reads k) = reduction.reads k
reduction_of (reduced.Handles e h) = reduction.handles e h
reduction_of (reduced.Watches k h) = reduction.watches k h
reduction_of reduced.Wrong = reduction.wrong

-- a hold at a world becomes what is held there, and any other form stays
abbrev pub wrapped_by : World → UnaryForm → UnaryForm
wrapped_by w unary_form.Hold = unary_form.Held w
wrapped_by w f = f
