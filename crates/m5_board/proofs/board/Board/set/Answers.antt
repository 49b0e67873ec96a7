use Rattle.std.proofs.Common.{refl}
use Rattle.m5_terms.specs.declared.ask.AskOf.TheVariants as ask
use Rattle.m5_terms.specs.declared.ask.AnswerOf.TheVariants as answer
use Rattle.m5_network.specs.Board.{Desk, set_at}
use Rattle.m5_board.proofs.Answering.{by-desk}
use Rattle.m5_board.proofs.board.Board.set.Goals as goal

pub returns-clause-answered : goal.returns-clause-answered
returns-clause-answered g c = λ w. by-desk (g.I.Item.has_seal c.args.session) _ _ _ c.args.session (λ (d : Desk _). record d { texts = set_at d.texts c.args.element c.args.text }) (ask.Set c.args.element c.args.text) answer.Done _ c.done.result c.self.view_is c.done.ensures c.in_ok-act.ensures refl refl c.in_ok-set_text.ensures.ok
