-- The sites of an object as a kind of sites, whose items are bytes, and the runs of an object.
use Rattle.std.specs.Prelude.{ℕ, List, nat_eq}
use Rattle.std.specs.List.{starts_with}
use Rattle.m5_terms.specs.Seal.{seal_bytes}
use Rattle.m5_network.specs.Kinds.{Kind, Place, NetOf, RunOf}
use Rattle.m5_network.specs.Entries.{Deed}
use Rattle.m5_network.specs.Opening.{opening_of}
use Rattle.m5_script.specs.Scenario.{Scenario}
use Rattle.m5_site.specs.declared.state.State.{State}
use Rattle.m5_site.specs.declared.state.Limits.{Limits}
use Rattle.m5_site.specs.Object.{Bundle}
use Rattle.m5_site.specs.Answers.{halted}
use Rattle.m5_site.specs.Site.{opening, site_next}
use Rattle.m5_site.specs.Stops.{IsDue}

abbrev pub object_kind : Bundle → Limits → Kind
object_kind O n = record {
  Item = List ℕ;
  State = State;
  opens = λ s w. opening O n w;
  next = site_next O;
  licensed = IsDue O;
  is_stopped = λ x. x.stopped;
  halted = halted;
  raw = λ bytes. bytes;
  has_seal = λ s bytes. starts_with nat_eq bytes (seal_bytes s);
}

abbrev pub limits_of : Scenario → Limits
limits_of S = record { steps = S.steps; region = S.region }

-- a run of the object by a list of places, over a board whose items are bytes
abbrev pub ObjectRun : (O : Bundle) → (S : Scenario) → List Place → List (Deed (List ℕ)) → NetOf (object_kind O (limits_of S)) → Type 0
ObjectRun O S ps ds N =
    RunOf (object_kind O (limits_of S)) S.sessions (opening_of (object_kind O (limits_of S)) S) ps ds N
