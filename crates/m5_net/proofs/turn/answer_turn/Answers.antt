use Rattle.std.proofs.Common.{◌≡◌, false, true, sym, ◌∙◌}
use Rattle.m5_board.specs.Boards.{board_of}
use Rattle.m5_net.proofs.Replies.{reply_kind, act_as}
use Rattle.m5_net.proofs.turn.answer_turn.Goals as goal

pub answered-requires-clause-kind : goal.answered-requires-clause-kind
answered-requires-clause-kind c =
    reply_kind c.args.object.now (board_of c.args.shared.now.board) c.args.site.session _ c.args.site.world _ c.args.site.state c.args.site.wait _ c.in_ok-reply.reply c.session.ensures c.world.ensures c.requires.ask c.requires.going c.in_ok-reply.ensures.act.reply

pub returns-clause-turned : goal.returns-clause-turned
returns-clause-turned c = (
  c.in_ok-reply.reply,
  λ e. let wrong : false ≡ true = sym c.if-is_nothing.false ∙ c.is_nothing.ensures.1 e in cc,
  record {
    act = act_as c.args.site.session _ c.args.site.world _ _ _ c.args.shared.now c.act.new.self c.in_ok-reply.reply c.session.ensures c.world.ensures c.requires.ask c.in_ok-reply.ensures.act;
    resumed = c.answered.ensures.is;
    of = c.answered.ensures.of;
    computing = c.answered.ensures.computing;
    session = c.answered.ensures.session;
    world = c.answered.ensures.world;
  },
)
