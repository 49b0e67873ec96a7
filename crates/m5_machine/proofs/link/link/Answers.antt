use Rattle.std.proofs.Common.{Vec, Global, ◌≡◌, ◌∙◌, sym, ap, subst, arith, length, map, List, Option, IfSome}
use Rattle.std.specs.List.{list_all}
use Rattle.std.proofs.lemmas.List.{length-map}
use Rattle.m5_machine.specs.declared.link.Shape.{Shape}
use Rattle.m5_machine.specs.Linked.{erased}
use Rattle.m5_machine.specs.code.Shapes.{HasShapes, start_fits}
use Rattle.m5_machine.proofs.Linking.{linked, no_link}
use Rattle.m5_machine.proofs.link.link.Goals as goal

pub returns-then-not-starts_fit-clause-none : goal.returns-then-not-starts_fit-clause-none
returns-then-not-starts_fit-clause-none c =
    let m = subst (λ (o : Option (Vec Shape Global)). IfSome o (λ shapes. (length shapes.items ≡ length c.deref.result.now) × HasShapes c.deref.result.now shapes.items)) c.in-Some.is c.in_ok-shapes.ensures.some in
    let known = simp c.deref.ensures.value at m in
    no_link _ _ c.in-Some.shapes.items known.1 known.0 (ap (λ (xs : List Shape). list_all (start_fits xs) c.args.starts.items) (sym c.deref-2.ensures.value) ∙ ap (list_all (start_fits c.deref-2.result.now)) (sym c.deref-3.ensures.value) ∙ sym c.if-not-starts_fit.ensures)

pub of-requires : goal.of-requires
of-requires c =
    let m = subst (λ (o : Option (Vec Shape Global)). IfSome o (λ shapes. (length shapes.items ≡ length c.deref.result.now) × HasShapes c.deref.result.now shapes.items)) c.in-Some.is c.in_ok-shapes.ensures.some in
    let known = simp c.deref.ensures.value at m in
    let same_steps : map erased c.set_places.new.steps.items ≡ map erased c.args.steps.items = c.set_places.ensures.same in
    linked c.args.starts.items c.args.steps.items c.set_places.new.steps.items c.in-Some.shapes.items (record {
      shapes_are = known.1;
      count = known.0;
      small = omega arith;
      fit = ap (λ (xs : List Shape). list_all (start_fits xs) c.args.starts.items) (sym c.deref-2.ensures.value) ∙ ap (list_all (start_fits c.deref-2.result.now)) (sym c.deref-3.ensures.value) ∙ sym c.if-not-starts_fit.ensures;
      same = same_steps;
      long = omega (arith, length-map c.set_places.new.steps.items erased, length-map c.args.steps.items erased, ap length same_steps);
      places = c.set_places.ensures.places;
    })
