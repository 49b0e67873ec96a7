use Rattle.std.proofs.Common.{[], ◌∷◌, ◌++◌, refl}
use Rattle.m5_terms.specs.declared.ask.AskOf.TheVariants as ask
use Rattle.m5_terms.specs.declared.ask.AnswerOf.TheVariants as answer
use Rattle.m5_network.specs.Board.{Desk, link, with_link}
use Rattle.m5_board.proofs.Answering.{by-desk}
use Rattle.m5_board.proofs.board.Board.send.Goals as goal

pub returns-clause-answered : goal.returns-clause-answered
returns-clause-answered g c = by-desk (g.I.Item.has_seal c.args.session) _ _ _ c.args.session (λ (d : Desk _). with_link c.args.from c.args.to (link d c.args.from c.args.to ++ c.args.item ∷ []) d) (ask.Send c.args.to c.args.item) answer.Done _ c.done-2.result c.self.view_is c.done-2.ensures refl refl refl c.in_ok-send.ensures.ok
