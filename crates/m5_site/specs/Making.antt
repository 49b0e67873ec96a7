-- What is added to a site: objects and threads, of which the first that does not fit stops it.
use Rattle.std.specs.Prelude.{List, [], ◌∷◌, ◌++◌, length, Option, Some, None, nat_lt, if◌then◌else◌}
use Rattle.m5_region.specs.declared.limits.TheConstants.{MOST_ITEMS}
use Rattle.m5_region.specs.declared.value.Ref.{Ref}
use Rattle.m5_region.specs.declared.value.Value.{Value}
use Rattle.m5_region.specs.declared.queue.Ready.{Ready}
use Rattle.m5_region.specs.Region.{Contents, Object}
use Rattle.m5_machine.specs.declared.made.Made.{Made}
use Rattle.m5_machine.specs.declared.made.Made.TheVariants as made
use Rattle.m5_machine.specs.Table.{with_object}
use Rattle.m5_terms.specs.declared.ask.Cause.{Cause}
use Rattle.m5_terms.specs.declared.ask.Cause.TheVariants.{Region, Table}
use Rattle.m5_site.specs.declared.state.State.{State}

abbrev pub to_stop : Cause → State → State
to_stop c x = record x { due = Some c }

abbrev pub with_region : Contents → State → State
with_region r x = record x { bench = record x.bench { region = r } }

abbrev pub with_threads : List Ready → State → State
with_threads ts x = record x { bench = record x.bench { threads = ts } }

-- what goes on with the new object, if it fits; a region that is full stops the site
abbrev pub if_made : Made → State → (Value → State → State) → State
if_made (made.Gives v) x go = go v x
if_made made.NoRegion x go = to_stop Region x
if_made made.NoTable x go = to_stop Region x
if_made made.NoCase x go = to_stop Region x

abbrev pub with_new : Object → (Ref → Value) → State → (Value → State → State) → State
with_new o v x go =
    if_made (with_object x.bench.region o v).0 (with_region (with_object x.bench.region o v).1 x) go

-- a thread before the others, where there are fewer than 4,096
abbrev pub enters : Value → Value → State → State
enters code argument x =
    if nat_lt (length x.bench.threads) MOST_ITEMS
    then with_threads (record { code = code; argument = argument } ∷ x.bench.threads) x
    else to_stop Table x

-- a thread after the others
abbrev pub begins : Value → Value → State → State
begins code argument x =
    if nat_lt (length x.bench.threads) MOST_ITEMS
    then with_threads (x.bench.threads ++ record { code = code; argument = argument } ∷ []) x
    else to_stop Table x

-- goes on where nothing failed to fit
abbrev pub unless_due : Option Cause → State → (State → State) → State
unless_due None x go = go x
unless_due (Some c) x go = x
