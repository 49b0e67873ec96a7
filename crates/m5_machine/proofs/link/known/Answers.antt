use Rattle.std.proofs.Common.{◌≡◌, ◌-◌, ◌<◌, length, arith}
use Rattle.m5_machine.proofs.Shapes.{at_index, shape_small, index_there}
use Rattle.m5_machine.proofs.link.known.Goals as goal

pub returns-clause-shape : goal.returns-clause-shape
returns-clause-shape c =
    let m = length c.args.steps.now - 1 - c.args.at in
    let there : m < length c.args.shapes.now = omega arith in
    let back : length c.args.steps.now - 1 - m ≡ c.args.at = omega arith in
    at_index _ _ m _ _ c.requires.shapes (index_there c.args.shapes.now m (record { after = 0; fills = 0; depth = 0 }) there) back

pub returns-clause-fills : goal.returns-clause-fills
returns-clause-fills c =
    let m = length c.args.steps.now - 1 - c.args.at in
    let there : m < length c.args.shapes.now = omega arith in
    let back : length c.args.steps.now - 1 - m ≡ c.args.at = omega arith in
    (shape_small _ _ _ (at_index _ _ m _ _ c.requires.shapes (index_there c.args.shapes.now m (record { after = 0; fills = 0; depth = 0 }) there) back)).0

pub returns-clause-depth : goal.returns-clause-depth
returns-clause-depth c =
    let m = length c.args.steps.now - 1 - c.args.at in
    let there : m < length c.args.shapes.now = omega arith in
    let back : length c.args.steps.now - 1 - m ≡ c.args.at = omega arith in
    (shape_small _ _ _ (at_index _ _ m _ _ c.requires.shapes (index_there c.args.shapes.now m (record { after = 0; fills = 0; depth = 0 }) there) back)).1
