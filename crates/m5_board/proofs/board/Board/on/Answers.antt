use Rattle.std.proofs.Common.{[], ◌∷◌, ◌++◌, refl, ap}
use Rattle.m5_terms.specs.declared.ask.Act.TheVariants as act
use Rattle.m5_terms.specs.declared.ask.AskOf.TheVariants as ask
use Rattle.m5_terms.specs.declared.ask.AnswerOf.TheVariants as answer
use Rattle.m5_network.specs.Board.{Desk}
use Rattle.m5_board.proofs.Answering.{by-desk}
use Rattle.m5_board.proofs.board.Board.on.Goals as goal

pub returns-clause-answered : goal.returns-clause-answered
returns-clause-answered g c = λ w. by-desk (g.I.Item.has_seal c.args.session) _ _ _ c.args.session (λ (d : Desk _). record d { handlers = d.handlers ++ record { element = c.args.element; number = c.args.number } ∷ [] }) (ask.On c.args.element c.args.number) answer.Done _ c.done.result c.self.view_is c.done.ensures (ap act.On c.in_ok-copy.ensures) refl refl c.in_ok-on.ensures.ok
