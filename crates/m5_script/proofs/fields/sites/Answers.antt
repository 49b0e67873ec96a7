use Rattle.std.proofs.Common.{◌≡◌, true, false, eqb, length, sym, ◌∙◌}
use Rattle.std.proofs.lemmas.Bool.{eqb-true, eqb-false}
use Rattle.m5_script.proofs.Scanning.{order_ends, order_goes}
use Rattle.m5_script.proofs.fields.sites.Goals as goal

pub returns-then-is_empty-clause-ok : goal.returns-then-is_empty-clause-ok
returns-then-is_empty-clause-ok c =
    let none : eqb (length c.split_at.result.1.now) 0 ≡ true = cc in
    sym c.loop-sites.invariant.on
    ∙ order_ends _ c.add_site.new.sites c.loop-sites.rest.now _ _ c.solids.result c.solids.ensures.count c.split_at.ensures.front c.split_at.ensures.back (eqb-true _ 0 none) c.in_ok-add_site.ensures.ok

pub loop-sites-preserved : goal.loop-sites-preserved
loop-sites-preserved c =
    let some : eqb (length c.split_at.result.1.now) 0 ≡ false = cc in
    record {
      on =
          sym (order_goes _ c.add_site.new.sites c.loop-sites.rest.now _ _ _ c.solids.result c.solids.ensures.count c.split_at.ensures.front c.split_at.ensures.back (eqb-false _ 0 some) c.split_at-in-loop-sites.ensures.back c.in_ok-add_site.ensures.ok)
          ∙ c.loop-sites.invariant.on;
      worlds = c.in_ok-add_site.ensures.worlds;
    }
