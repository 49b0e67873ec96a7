-- When a look finds nothing, and what an act makes of what is shared.
use Rattle.std.proofs.Common.{◌≡◌, ◌↔◌, ℕ, List, [], ◌∷◌, ◌++◌, refl, sym, ap, subst, ◌∙◌, Option, Some, None}
use Rattle.std.specs.List.{AllByRecursion as Each}
use Rattle.m5_terms.specs.Worlds.{site_worlds}
use Rattle.m5_terms.specs.declared.types.World.{World}
use Rattle.m5_terms.specs.declared.types.World.TheVariants.{Home, Server, Panel, Any}
use Rattle.m5_terms.specs.declared.ask.Act.{Act}
use Rattle.m5_terms.specs.declared.ask.AskOf.{AskOf}
use Rattle.m5_terms.specs.declared.ask.AskOf.TheVariants as ask
use Rattle.m5_terms.specs.declared.ask.AnswerOf.{AnswerOf}
use Rattle.m5_terms.specs.declared.ask.AnswerOf.TheVariants as answer
use Rattle.m5_network.specs.Board.{Board, Desk, Event, Trigger, Answered, answer_of, link, take_at, take_from, take_other, take_event, take_trigger, text_at, text_or_empty, text_or_missing}
use Rattle.m5_network.specs.Entries.{shown}
use Rattle.m5_board.specs.Boards.{board_of}
use Rattle.m5_board.specs.Answers.{IsAnswered}
use Rattle.m5_board.specs.declared.board.Answered.{Answered as BoardAnswered}
use Rattle.m5_shared.specs.Shared.{SharedBoard, is_sealed, FindsNothing, IsAct}

module _ (b : Board (List ℕ)) (s : ℕ) where
  abbrev Told : Answered (List ℕ) → Type 0
  Told x = x.reply ≡ answer.Nothing

  -- nothing is found for a look exactly where the site's links, and what else it takes, are empty

  from_nothing : (w v : World) (is : List (List ℕ)) (x : Answered (List ℕ)) → Told (take_from b s w v is x) → (is ≡ []) × Told x
  from_nothing w v [] x h = (refl, h)
  from_nothing w v (i ∷ is) x h = absurd (let wrong : answer.Message v i ≡ answer.Nothing = h in cc)

  links_empty : (w : World) (vs : List World) → Told (take_at b s w vs) → Each (λ (v : World). link (b.desks s) v w ≡ []) vs
  links_empty w [] h = tt
  links_empty w (v ∷ vs) h =
      let both = from_nothing w v (link (b.desks s) v w) (take_at b s w vs) h in (both.0, links_empty w vs both.1)

  goes_past : (w v : World) (is : List (List ℕ)) (x : Answered (List ℕ)) → is ≡ [] → take_from b s w v is x ≡ x
  goes_past w v is x e = ap (λ (js : List (List ℕ)). take_from b s w v js x) e

  others_first : (w : World) (vs : List World) → Each (λ (v : World). link (b.desks s) v w ≡ []) vs → take_at b s w vs ≡ take_other b s w
  others_first w [] h = refl
  others_first w (v ∷ vs) h = goes_past w v (link (b.desks s) v w) (take_at b s w vs) h.0 ∙ others_first w vs h.1

  no_event : (d : Desk (List ℕ)) (es : List Event) → Told (take_event b s d es) → (es ≡ []) × ((take_event b s d es).board ≡ b)
  no_event d [] h = (refl, refl)
  no_event d (e ∷ es) h = absurd (told_something h)
    where
      told_something : Told (take_event b s d (e ∷ es)) → ⊥
      told_something k = cc

  no_trigger : (d : Desk (List ℕ)) (ts : List Trigger) → Told (take_trigger b s d ts) → (ts ≡ []) × ((take_trigger b s d ts).board ≡ b)
  no_trigger d [] h = (refl, refl)
  no_trigger d (t ∷ ts) h = absurd (told_something h)
    where
      told_something : Told (take_trigger b s d (t ∷ ts)) → ⊥
      told_something k = cc

  nothing_else : (w : World) → Told (take_other b s w) → (w ≡ Home → (b.desks s).events ≡ []) × (w ≡ Server → (b.desks s).triggers ≡ []) × ((take_other b s w).board ≡ b)
  nothing_else Home h =
      let no = no_event (b.desks s) (b.desks s).events h in (λ e. no.0, λ e. absurd (let wrong : Home ≡ Server = e in cc), no.1)
  nothing_else Server h =
      let no = no_trigger (b.desks s) (b.desks s).triggers h in (λ e. absurd (let wrong : Server ≡ Home = e in cc), λ e. no.0, no.1)
  nothing_else Panel h = (λ e. absurd (let wrong : Panel ≡ Home = e in cc), λ e. absurd (let wrong : Panel ≡ Server = e in cc), refl)
  nothing_else Any h = (λ e. absurd (let wrong : Any ≡ Home = e in cc), λ e. absurd (let wrong : Any ≡ Server = e in cc), refl)

  told_nothing : (w : World) → (w ≡ Home → (b.desks s).events ≡ []) → (w ≡ Server → (b.desks s).triggers ≡ []) → Told (take_other b s w)
  told_nothing Home f g = ap (λ (es : List Event). (take_event b s (b.desks s) es).reply) (f refl)
  told_nothing Server f g = ap (λ (ts : List Trigger). (take_trigger b s (b.desks s) ts).reply) (g refl)
  told_nothing Panel f g = refl
  told_nothing Any f g = refl

  found : (m : Option (List ℕ)) → text_or_empty {Item = List ℕ} m ≡ answer.Nothing → ⊥
  found None h = cc
  found (Some t) h = cc

  found_or_missing : (m : Option (List ℕ)) → text_or_missing {Item = List ℕ} m ≡ answer.Nothing → ⊥
  found_or_missing None h = cc
  found_or_missing (Some t) h = cc

  abbrev Done : Type 0
  Done = ◌≡◌ {A = AnswerOf (List ℕ)} answer.Done answer.Nothing

  look_found : (w : World) → Told (answer_of b s w ask.Take) → FindsNothing b s w ask.Take × ((answer_of b s w ask.Take).board ≡ b)
  look_found w h =
      let links = links_empty w site_worlds h in
      let same = others_first w site_worlds links in
      let rest = nothing_else w (sym (ap (λ (x : Answered (List ℕ)). x.reply) same) ∙ h) in
      ((refl, record { links = links; events = rest.0; triggers = rest.1 }), ap (λ (x : Answered (List ℕ)). x.board) same ∙ rest.2)

  nothing_found : (w : World) (q : AskOf (List ℕ)) → Told (answer_of b s w q) → FindsNothing b s w q × ((answer_of b s w q).board ≡ b)
  nothing_found w (ask.Say t) h = absurd (let wrong : Done = h in cc)
  nothing_found w (ask.Set e t) h = absurd (let wrong : Done = h in cc)
  nothing_found w (ask.GetText e) h = absurd (found (text_at (b.desks s).texts e) h)
  nothing_found w (ask.On e n) h = absurd (let wrong : Done = h in cc)
  nothing_found w (ask.Read k) h = absurd (found_or_missing (text_at b.pairs k) h)
  nothing_found w (ask.Write k t) h = absurd (let wrong : Done = h in cc)
  nothing_found w (ask.Watch k n) h = absurd (let wrong : Done = h in cc)
  nothing_found w (ask.Show t) h = absurd (let wrong : Done = h in cc)
  nothing_found w (ask.Send v i) h = absurd (let wrong : Done = h in cc)
  nothing_found w ask.Take h = look_found w h
  nothing_found w (ask.Stop c) h = absurd (let wrong : Done = h in cc)

  look_answered : (w : World) (q : AskOf (List ℕ)) → FindsNothing b s w q → Told (answer_of b s w q)
  look_answered w q h =
      subst (λ (p : AskOf (List ℕ)). Told (answer_of b s w p)) (sym h.0)
      (ap (λ (x : Answered (List ℕ)). x.reply) (others_first w site_worlds h.1.links) ∙ told_nothing w h.1.events h.1.triggers)

  when_nothing : (w : World) (q : AskOf (List ℕ)) (r : AnswerOf (List ℕ)) → r ≡ (answer_of b s w q).reply → (r ≡ answer.Nothing) ↔ FindsNothing b s w q
  when_nothing w q r e = (λ h. (nothing_found w q (sym e ∙ h)).0, λ h. e ∙ look_answered w q h)

-- what an act makes of what is shared

pub act_nothing : (s : ℕ) (w : World) (p q : AskOf (List ℕ)) (old new : SharedBoard) (a : BoardAnswered (List ℕ)) (r : AnswerOf (List ℕ)) → p ≡ q → IsAnswered (is_sealed s) s w p old.board new.board a → r ≡ a.reply → r ≡ answer.Nothing → new.entries ≡ old.entries → IsAct s w q old new r
act_nothing s w p q old new a r i h e n same =
    subst (λ (z : AskOf (List ℕ)). IsAct s w z old new r) i
    (record {
      reply = e ∙ h.reply;
      board = h.board;
      entry = λ k. absurd (k n);
      nothing = λ k. (same, h.board ∙ (nothing_found (board_of old.board) s w p (sym (e ∙ h.reply) ∙ n)).1);
      when = when_nothing (board_of old.board) s w p r (e ∙ h.reply);
    })

pub act_entry : (s : ℕ) (w : World) (p q : AskOf (List ℕ)) (old new : SharedBoard) (a : BoardAnswered (List ℕ)) (r : AnswerOf (List ℕ)) → p ≡ q → IsAnswered (is_sealed s) s w p old.board new.board a → r ≡ a.reply → (r ≡ answer.Nothing → ⊥) → new.entries ≡ old.entries ++ record { session = s; world = w; act = a.act } ∷ [] → IsAct s w q old new r
act_entry s w p q old new a r i h e n more =
    subst (λ (z : AskOf (List ℕ)). IsAct s w z old new r) i
    (record {
      reply = e ∙ h.reply;
      board = h.board;
      entry = λ k. more ∙ ap (λ (x : Act). old.entries ++ record { session = s; world = w; act = x } ∷ []) (h.act ∙ ap (shown (is_sealed s) p) (sym e));
      nothing = λ k. absurd (n k);
      when = when_nothing (board_of old.board) s w p r (e ∙ h.reply);
    })
