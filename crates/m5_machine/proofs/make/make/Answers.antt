use Rattle.m5_machine.proofs.Sound.{after_object, after_added, after_cell, after_store, after_thread, load_fits}
use Rattle.std.proofs.Common.{subst, sym, ap, ◌∙◌}
use Rattle.m5_machine.specs.Table.{GivesFit, value_or_none}
use Rattle.m5_region.specs.declared.value.Value.TheVariants.{Text}
use Rattle.m5_region.specs.Region.{TextOf}
use Rattle.m5_machine.proofs.make.make.Goals as goal

pub returns-in-Text-clause-running : goal.returns-in-Text-clause-running
returns-in-Text-clause-running c = after_object _ _ (TextOf c.bytes.result.now) Text _ _ c.new_text.ensures.made c.requires

pub returns-in-Array-clause-running : goal.returns-in-Array-clause-running
returns-in-Array-clause-running c = after_added _ _ _ _ _ _ c.new_array.ensures.made c.requires

pub returns-in-Cat-clause-running : goal.returns-in-Cat-clause-running
returns-in-Cat-clause-running c = after_added _ _ _ _ _ _ c.join.ensures.made c.requires

pub returns-in-Str-clause-running : goal.returns-in-Str-clause-running
returns-in-Str-clause-running c = after_added _ _ _ _ _ _ c.print.ensures.made c.requires

pub returns-in-Cell-clause-running : goal.returns-in-Cell-clause-running
returns-in-Cell-clause-running c = after_cell _ _ _ _ _ c.new_cell.ensures c.requires

pub returns-in-Load-clause-value : goal.returns-in-Load-clause-value
returns-in-Load-clause-value c = subst (GivesFit c.args.bench.now.region.objects) (sym (c.given-in-Load.ensures ∙ ap value_or_none c.load.ensures)) (load_fits _ _ c.args.bench.now.slots c.in-Load.slot c.requires.sound.cells)

pub returns-in-Store-clause-running : goal.returns-in-Store-clause-running
returns-in-Store-clause-running c = after_store _ _ _ _ _ _ c.set_cell.ensures c.requires

pub returns-in-Spawn-clause-running : goal.returns-in-Spawn-clause-running
returns-in-Spawn-clause-running c = after_thread _ _ _ _ _ c.new_thread.ensures c.requires
