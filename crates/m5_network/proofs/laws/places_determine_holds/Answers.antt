use Rattle.m5_network.proofs.Runs.{determine}
use Rattle.m5_network.proofs.laws.places_determine_holds.Goals as goal

pub returns : goal.returns
returns g c = determine g.S.HasKind.kind
