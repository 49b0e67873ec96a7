use Rattle.std.proofs.Common.{◌≡◌, List, sym, ap, ◌∙◌, subst}
use Rattle.std.specs.Prelude.{All}
use Rattle.m5_keys.specs.declared.watch.Watcher.{Watcher}
use Rattle.m5_keys.specs.Keys.{watchers_of}
use Rattle.m5_board.specs.Boards.{IsSession, desk_at}
use Rattle.m5_board.specs.Answers.{told}
use Rattle.m5_board.proofs.Answering.{by-write}
use Rattle.m5_board.proofs.Telling.{told-is, all-there}
use Rattle.m5_board.proofs.board.Board.write.Goals as goal

pub write_told-requires : goal.write_told-requires
write_told-requires g c =
    let e : c.as_slice.result.now ≡ watchers_of c.self.inside.keys.watches c.bytes.result.now = c.as_slice.ensures ∙ c.in_ok-watchers.ensures in
    subst (λ (ws : List Watcher). All (λ (w : Watcher). IsSession w.session c.self.inside.desks.items) ws) (sym e) (all-there _ _ _ c.self.invariant)

pub returns-clause-answered : goal.returns-clause-answered
returns-clause-answered g c = λ w.
    let e : c.as_slice.result.now ≡ watchers_of c.self.inside.keys.watches c.args.key = c.as_slice.ensures ∙ (c.in_ok-watchers.ensures ∙ ap (watchers_of c.self.inside.keys.watches) c.bytes.ensures) in
    by-write (g.I.Item.has_seal c.args.session) _ _ c.write_told.new.keys c.args.key c.args.text c.write_told.new.desks.items _ c.done.result c.args.session w c.self.view_is c.in_ok-write_told.ensures.keys
    (c.in_ok-write_told.ensures.desks ∙ (ap (λ (ws : List Watcher). told c.args.key c.args.text ws (desk_at c.self.inside.desks.items)) e ∙ told-is c.args.key c.args.text c.self.inside.keys.watches (desk_at c.self.inside.desks.items)))
    c.done.ensures c.in_ok-act.ensures
