use Rattle.std.proofs.Common.{◌∙◌, map, subst, ap}
use Rattle.std.specs.List.{AllZip}
use Rattle.m5_terms.specs.TypeExpression.{TypeExpression}
use Rattle.std.specs.Prelude.{List}
use Rattle.m5_flat.specs.declared.label.Kind.{Kind}
use Rattle.m5_cps.specs.Entries.{world_of, entry_mode}
use Rattle.m5_cps.specs.Steps.{entry_of}
use Rattle.m5_flat.specs.Steps.{kind_of}
use Rattle.m5_dict.specs.Standing.{Stands, slot_target, entry_target}
use Rattle.m5_dict.proofs.Growing.{still, stay, within, grows_on, know_on}
use Rattle.m5_dict.proofs.Ending.{map_twice}
use Rattle.m5_dict.proofs.dictionaries.entrance.Goals as goal

pub number-requires : goal.number-requires
number-requires c = within _ _ _ c.in_ok-argument.ensures.stands

pub environment_ids-requires : goal.environment_ids-requires
environment_ids-requires c = record { known = know_on _ _ _ _ (grows_on _ _ _ c.in_ok-argument.ensures.grows c.in_ok-number.ensures.grows) (rw c.types-2.ensures c.requires.known) }

pub returns-clause-is : goal.returns-clause-is
returns-clause-is c = rw c.of.ensures (record {
  world = c.standing.ensures ∙ ap (λ (ts : List TypeExpression). world_of (entry_mode (entry_of ts c.args.label.now.entry))) c.types-3.ensures;
  argument = subst (λ (ts : List TypeExpression). Stands c.environment_ids.new.targets c.in_ok-argument.argument (entry_target (entry_of ts c.args.label.now.entry))) c.types.ensures
      (stay _ _ _ _ (grows_on _ _ _ c.in_ok-number.ensures.grows c.in_ok-environment.ensures.grows) c.in_ok-argument.ensures.stands);
  closure = (c.in_ok-number.field-0, still _ _ _ _ c.in_ok-environment.ensures.grows c.in_ok-number.ensures.is);
  environment =
      subst (λ (ks : List Kind). AllZip (Stands c.environment_ids.new.targets) c.in_ok-environment.environment.items (map slot_target (map (kind_of c.args.table.now.types) ks))) c.as_slice.ensures
      (subst (λ (ts : List TypeExpression). AllZip (Stands c.environment_ids.new.targets) c.in_ok-environment.environment.items (map slot_target (map (kind_of ts) c.as_slice.result.now))) c.types-2.ensures
      (subst (AllZip (Stands c.environment_ids.new.targets) c.in_ok-environment.environment.items) (map_twice slot_target (kind_of c.types-2.result.now) c.as_slice.result.now) c.in_ok-environment.ensures.stand));
})
