-- The board answers each ask of a site by what is an answer to it.
use Rattle.std.proofs.Common.{◌≡◌, ℕ, ◌==◌, ◌-◌, List, [], ◌∷◌, length, refl, sym, ap, subst, ◌∙◌, Option, Some, None, Bool, true, false, cond, IsSome}
use Rattle.std.proofs.lemmas.Bool.{eqb-true}
use Rattle.m5_region.specs.declared.value.Value.{Value}
use Rattle.m5_region.specs.Region.{Object}
use Rattle.m5_terms.specs.Worlds.{site_worlds}
use Rattle.m5_terms.specs.declared.types.World.{World}
use Rattle.m5_terms.specs.declared.types.World.TheVariants.{Home, Server, Panel, Any}
use Rattle.m5_terms.specs.declared.ask.AskOf.TheVariants as ask
use Rattle.m5_terms.specs.declared.ask.AnswerOf.TheVariants as answer
use Rattle.m5_network.specs.Board.{Board, Desk, Event, Trigger, Answered, answer_of, link, take_at, take_from, take_other, take_event, take_trigger, text_at, text_or_empty, text_or_missing}
use Rattle.m5_shared.specs.Shared.{SharedBoard, IsAct}
use Rattle.m5_site.specs.declared.state.State.{State}
use Rattle.m5_site.specs.declared.state.Wait.{Wait}
use Rattle.m5_site.specs.declared.state.Wait.TheVariants as waits
use Rattle.m5_site.specs.Object.{Bundle}
use Rattle.m5_site.specs.Answers.{Reply, answered, after_call, after_take}
use Rattle.m5_site.specs.Site.{Query, called, query, bytes_of, first_text, second_text}
use Rattle.m5_net.specs.Turning.{IsGoing}

module _ (b : Board (List ℕ)) (s : ℕ) (w : World) where
  -- calls

  abbrev Fits : State → Value → ℕ → Query → Type 0
  Fits x next p q = IsSome (after_call x p next (answer_of b s w q).reply)

  found : (x : State) (next : Value) (m : Option (List ℕ)) → IsSome (after_call x 2 next (text_or_empty m))
  found x next None = refl
  found x next (Some t) = refl

  read : (x : State) (next : Value) (m : Option (List ℕ)) → IsSome (after_call x 4 next (text_or_missing m))
  read x next None = refl
  read x next (Some t) = refl

  chosen : (x : State) (next : Value) (k : ℕ) (c : Bool) (p q : Query) → (c ≡ true → Fits x next k p) → (c ≡ false → Fits x next k q) → Fits x next k (cond c p q)
  chosen x next k true p q f g = f refl
  chosen x next k false p q f g = g refl

  at_code : (x : State) (next : Value) (p n : ℕ) (q : Query) → (p == n) ≡ true → Fits x next n q → Fits x next p q
  at_code x next p n q e h = subst (λ (k : ℕ). Fits x next k q) (sym (eqb-true p n e)) h

  called_fits : (os : List Object) (h p : ℕ) (v next : Value) (x : State) → Fits x next p (called os h p v)
  called_fits os h p v next x =
      chosen x next p (p == 0) _ _ (λ e. at_code x next p 0 (ask.Say (bytes_of os v)) e refl) (λ e0.
      chosen x next p (p == 1) _ _ (λ e. at_code x next p 1 (ask.Set (first_text os v) (second_text os v)) e refl) (λ e1.
      chosen x next p (p == 2) _ _ (λ e. at_code x next p 2 (ask.GetText (bytes_of os v)) e (found x next (text_at (b.desks s).texts (bytes_of os v)))) (λ e2.
      chosen x next p (p == 3) _ _ (λ e. at_code x next p 3 (ask.On (first_text os v) (h - 1)) e refl) (λ e3.
      chosen x next p (p == 4) _ _ (λ e. at_code x next p 4 (ask.Read (bytes_of os v)) e (read x next (text_at b.pairs (bytes_of os v)))) (λ e4.
      chosen x next p (p == 5) _ _ (λ e. at_code x next p 5 (ask.Write (first_text os v) (second_text os v)) e refl) (λ e5.
      chosen x next p (p == 6) _ _ (λ e. at_code x next p 6 (ask.Watch (first_text os v) (h - 1)) e refl) (λ e6. other e2 e4)))))))
    where
      other : (p == 2) ≡ false → (p == 4) ≡ false → IsSome (after_call x p next answer.Done)
      other e f = rw (e, f) refl

  -- looks

  abbrev Taken : Bundle → State → Reply → Type 0
  Taken O x r = IsSome (after_take O s w x r)

  event_fits : (O : Bundle) (x : State) (d : Desk (List ℕ)) (es : List Event) → Taken O x (take_event b s d es).reply
  event_fits O x d [] = refl
  event_fits O x d (e ∷ es) = refl

  trigger_fits : (O : Bundle) (x : State) (d : Desk (List ℕ)) (ts : List Trigger) → Taken O x (take_trigger b s d ts).reply
  trigger_fits O x d [] = refl
  trigger_fits O x d (t ∷ ts) = refl

  other_fits : (O : Bundle) (x : State) (v : World) → Taken O x (take_other b s v).reply
  other_fits O x Home = event_fits O x (b.desks s) (b.desks s).events
  other_fits O x Server = trigger_fits O x (b.desks s) (b.desks s).triggers
  other_fits O x Panel = refl
  other_fits O x Any = refl

  link_fits : (O : Bundle) (x : State) (v : World) (is : List (List ℕ)) (rest : Answered (List ℕ)) → Taken O x rest.reply → Taken O x (take_from b s w v is rest).reply
  link_fits O x v [] rest h = h
  link_fits O x v (i ∷ is) rest h = refl

  take_fits : (O : Bundle) (x : State) (vs : List World) → Taken O x (take_at b s w vs).reply
  take_fits O x [] = other_fits O x w
  take_fits O x (v ∷ vs) = link_fits O x v (link (b.desks s) v w) (take_at b s w vs) (take_fits O x vs)

  pub reply_fits : (O : Bundle) (x : State) (wait : Wait) → IsGoing wait → IsSome (answered O s w x wait (answer_of b s w (query O s x wait)).reply)
  reply_fits O x waits.Nothing g = absurd g
  reply_fits O x (waits.Call p argument next) g = called_fits x.bench.region.objects (length x.handlers) p argument next x
  reply_fits O x (waits.Send v thread) g = refl
  reply_fits O x waits.Take g = take_fits O x site_worlds
  reply_fits O x (waits.Stop c) g = absurd g
  reply_fits O x (waits.Wrong label) g = absurd g

-- in the names that the code has for them
pub reply_kind : (O : Bundle) (b : Board (List ℕ)) (s t : ℕ) (w v : World) (x : State) (wait : Wait) (q : Query) (r : Reply) → t ≡ s → v ≡ w → q ≡ query O s x wait → IsGoing wait → r ≡ (answer_of b t v q).reply → IsSome (answered O s w x wait r)
reply_kind O b s t w v x wait q r es ew eq g e =
    let is : r ≡ (answer_of b s w (query O s x wait)).reply =
    e ∙ (ap (λ (n : ℕ). (answer_of b n v q).reply) es ∙ (ap (λ (u : World). (answer_of b s u q).reply) ew ∙ ap (λ (p : Query). (answer_of b s w p).reply) eq)) in
    subst (λ (a : Reply). IsSome (answered O s w x wait a)) (sym is) (reply_fits b s w O x wait g)

pub act_as : (s t : ℕ) (w v : World) (q p : Query) (old new : SharedBoard) (r : Reply) → t ≡ s → v ≡ w → p ≡ q → IsAct t v p old new r → IsAct s w q old new r
act_as s t w v q p old new r es ew eq h =
    subst (λ (a : Query). IsAct s w a old new r) eq (subst (λ (u : World). IsAct s u p old new r) ew (subst (λ (n : ℕ). IsAct n v p old new r) es h))
