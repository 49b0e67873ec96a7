-- Deeds, and the entry of a history that shows each.
use Rattle.std.specs.Prelude.{ℕ, Bool, List, [], if◌then◌else◌}
use Rattle.m5_terms.specs.declared.ask.AskOf.{AskOf}
use Rattle.m5_terms.specs.declared.ask.AskOf.TheVariants as ask
use Rattle.m5_terms.specs.declared.ask.AnswerOf.{AnswerOf}
use Rattle.m5_terms.specs.declared.ask.AnswerOf.TheVariants as answer
use Rattle.m5_terms.specs.declared.types.World.{World}
use Rattle.m5_terms.specs.declared.ask.Act.{Act}
use Rattle.m5_terms.specs.declared.ask.Act.TheVariants as act
use Rattle.m5_terms.specs.declared.ask.Entry.{Entry}

-- what a site asked, and the answer that it got
pub record Deed (Item : Type 0) : Type 0 where
  pub session : ℕ
  pub world : World
  pub query : AskOf Item
  pub reply : AnswerOf Item

abbrev pub text_found : {Item : Type 0} → AnswerOf Item → List ℕ
text_found (answer.Found t) = t
text_found _ = []

abbrev pub read_shown : {Item : Type 0} → List ℕ → AnswerOf Item → Act
read_shown k (answer.Found t) = act.ReadSome k t
read_shown k _ = act.ReadNone k

-- a message without the seal is refused
abbrev pub take_shown : {Item : Type 0} → (Item → Bool) → AnswerOf Item → Act
take_shown has_seal (answer.Message v i) = if has_seal i then act.Take v else act.Refuse
take_shown has_seal (answer.Fired k n t) = act.Fire k
take_shown has_seal (answer.Event e ns t) = act.Event e t
take_shown has_seal _ = act.Refuse

-- a send and a take show the other end alone
abbrev pub shown : {Item : Type 0} → (Item → Bool) → AskOf Item → AnswerOf Item → Act
shown has_seal (ask.Say t) r = act.Say t
shown has_seal (ask.Set e t) r = act.Set e t
shown has_seal (ask.GetText e) r = act.GetText e (text_found r)
shown has_seal (ask.On e n) r = act.On e
shown has_seal (ask.Read k) r = read_shown k r
shown has_seal (ask.Write k t) r = act.Write k t
shown has_seal (ask.Watch k n) r = act.Watch k
shown has_seal (ask.Show t) r = act.Show t
shown has_seal (ask.Send v i) r = act.Send v
shown has_seal ask.Take r = take_shown has_seal r
shown has_seal (ask.Stop c) r = act.Stop c

abbrev pub entry_of : {Item : Type 0} → (Item → Bool) → Deed Item → Entry
entry_of has_seal d = record { session = d.session; world = d.world; act = shown has_seal d.query d.reply }
