use Rattle.m5_cps_convert.proofs.Declared.{leta_begins, lets_begins}
use Rattle.m5_cps_convert.proofs.lets.begin_let.Goals as goal

pub returns-in_ok-next_number-in-Leta : goal.returns-in_ok-next_number-in-Leta
returns-in_ok-next_number-in-Leta c =
    leta_begins c.args.walk.now _ c.args.around c.args.form c.args.first _ _ _ _ _ c.in-Leta.is c.in_ok-push-in-Leta.ensures.ok c.content_of-content.ensures
    c.in_ok-next_number-in-Leta.ensures c.bound-in-Leta.ensures c.bind_one-in-Leta.ensures

pub returns-in_ok-next_number-in-Lets : goal.returns-in_ok-next_number-in-Lets
returns-in_ok-next_number-in-Lets c =
    lets_begins c.args.walk.now _ c.args.around c.args.form c.args.first _ _ _ _ _ c.in-Lets.is c.in_ok-push-in-Lets.ensures.ok c.content_of-content-in-Lets.ensures
    c.in_ok-next_number-in-Lets.ensures c.bound-in-Lets.ensures c.bind_one-in-Lets.ensures
