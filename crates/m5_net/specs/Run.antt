-- The history of an object's run in the plain order, to its end.
use Rattle.std.specs.Prelude.{◌≡◌, ◌⊎◌, ℕ, false, List, map, All}
use Rattle.m5_terms.specs.declared.ask.Entry.{Entry}
use Rattle.m5_terms.specs.declared.ask.End.TheVariants as end
use Rattle.m5_terms.specs.declared.ask.History.{History}
use Rattle.m5_script.specs.Scenario.{Scenario}
use Rattle.m5_script.specs.declared.items.SiteName.{SiteName}
use Rattle.m5_network.specs.Claim.{IsHistoryOf, IsAtItsWorld, primitive_of}
use Rattle.m5_network.specs.Entries.{Deed}
use Rattle.m5_network.specs.Opening.{opening_of}
use Rattle.m5_network.specs.Plain.{TurnOf, PlainOrder}
use Rattle.m5_site.specs.Kind.{object_kind, limits_of}
use Rattle.m5_site.specs.Object.{Bundle}
use Rattle.m5_net.specs.Turning.{Net, IsStuck}
use Rattle.m5_net.specs.Running.{shows}
use Rattle.m5_net.specs.UpTo.{OrderUpTo}

-- the plain order to its end, whose history is that of a run which is finished
pub record IsFinishedRun (O : Bundle) (S : Scenario) (H : History) : Type 0 where
  pub deeds : List (Deed (List ℕ))
  pub last : Net O (limits_of S)
  pub plain : PlainOrder (TurnOf (object_kind O (limits_of S))) S (opening_of (object_kind O (limits_of S)) S) deeds last
  pub shown : H.entries ≡ map shows deeds
  pub claim : IsHistoryOf (object_kind O (limits_of S)) S H

-- the plain order up to a turn of the site that the end names, at which the block of the label does what has no meaning
pub record IsWrongRun (O : Bundle) (S : Scenario) (H : History) : Type 0 where
  pub site : SiteName
  pub label : ℕ
  pub ended : H.end ≡ end.Wrong site.session site.world label
  pub deeds : List (Deed (List ℕ))
  pub at : Net O (limits_of S)
  pub way : OrderUpTo (TurnOf (object_kind O (limits_of S))) S (opening_of (object_kind O (limits_of S)) S) site deeds at
  pub runs : (at.site site.session site.world).stopped ≡ false
  pub stuck : IsStuck O site.session site.world (at.site site.session site.world) label
  pub shown : H.entries ≡ map shows deeds
  pub worlds : All (λ (e : Entry). IsAtItsWorld (primitive_of e.act) e.world) H.entries

abbrev pub IsNetRun : Bundle → Scenario → History → Type 0
IsNetRun O S H = IsFinishedRun O S H ⊎ IsWrongRun O S H
