-- What the blocks of the greeting ask.
use Rattle.std.specs.Prelude.{◌≡◌, ℕ, List, [], ◌∷◌, codes}
use Rattle.m5_terms.specs.declared.ask.AskOf.TheVariants as query
use Rattle.m5_terms.specs.declared.ask.AnswerOf.{AnswerOf}
use Rattle.m5_terms.specs.declared.ask.AnswerOf.TheVariants as answer
use Rattle.m5_terms.specs.declared.types.World.TheVariants.{Home, Server}
use Rattle.m5_cps.specs.Values.{thread}
use Rattle.m5_cps.specs.Captured.{Thread, Item, Site}
use Rattle.m5_cps_runs.specs.Examples.{greeting}
use Rattle.m5_cps_runs.specs.Asking.{gets, opening, Reaches}

-- where the read gets this answer, home says this text; what each site sends arrives at the other, and both have no thread at the end
pub record GreetingAsks (found : AnswerOf Item) (text : List ℕ) : Type 0 where
  pub away : Thread
  pub back : Thread
  pub home_end : Site
  pub home :
      Reaches greeting Home (opening greeting Home)
      (gets (query.Send Server (thread away)) answer.Done ∷ gets query.Take (answer.Message Server (thread back)) ∷ gets (query.Say text) answer.Done ∷ [])
      home_end
  pub home_rests : home_end.threads ≡ []
  pub server_end : Site
  pub server :
      Reaches greeting Server (opening greeting Server)
      (gets query.Take (answer.Message Home (thread away)) ∷ gets (query.Read (codes "greeting")) found ∷ gets (query.Send Home (thread back)) answer.Done ∷ [])
      server_end
  pub server_rests : server_end.threads ≡ []

-- a key that is not there, and one with any text
abbrev pub GreetingAsksInOrder : Type 0
GreetingAsksInOrder = GreetingAsks answer.Missing (codes "nothing yet") × ((t : List ℕ) → GreetingAsks (answer.Found t) t)
