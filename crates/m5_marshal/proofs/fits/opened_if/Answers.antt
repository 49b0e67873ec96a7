use Rattle.std.proofs.Common.{Some, sym, ap, ◌∙◌}
use Rattle.m5_marshal.specs.code.Keys.{reached}
use Rattle.m5_marshal.proofs.Fitting.{first_field, sum_array, list_array, fun_array}
use Rattle.m5_marshal.proofs.fits.opened_if.Goals as goal

pub field-requires : goal.field-requires
field-requires c =
    first_field c.args.region.now.objects c.args.key.at (sum_array c.args.dicts.now c.args.region.now.objects (reached c.args.key) c.in-Some-Sum.left c.in-Some-Sum.right (sym c.in-Some-Sum.ensures ∙ ap Some c.in-Some-Sum.field-0-is) c.requires) c.refers_to_older.ensures

pub field-requires-in-Some-List : goal.field-requires-in-Some-List
field-requires-in-Some-List c =
    first_field c.args.region.now.objects c.args.key.at (list_array c.args.dicts.now c.args.region.now.objects (reached c.args.key) c.in-Some-List.item (sym c.in-Some-List.ensures ∙ ap Some c.in-Some-List.field-0-is) c.requires) c.refers_to_older.ensures

pub field-requires-in-Some-Fun : goal.field-requires-in-Some-Fun
field-requires-in-Some-Fun c =
    first_field c.args.region.now.objects c.args.key.at (fun_array c.args.dicts.now c.args.region.now.objects (reached c.args.key) c.in-Some-Fun.argument (sym c.in-Some-Fun.ensures ∙ ap Some c.in-Some-Fun.field-0-is) c.requires) c.refers_to_older.ensures
