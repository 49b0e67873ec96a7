-- The board's answers to typed asks are typed, and so is the board after them.
use Rattle.std.proofs.Common.{◌≡◌, ◌≢◌, ◌==◌, ℕ, Bool, true, false, if◌then◌else◌, Option, Some, None, List, [], ◌∷◌, ◌++◌, refl, sym, subst}
use Rattle.std.specs.List.{AllByRecursion as Each}
use Rattle.std.specs.Str.{bytes_eq}
use Rattle.std.proofs.lemmas.Bool.{eqb-true}
use Rattle.m5_terms.specs.TypeExpression.{same_world}
use Rattle.m5_terms.specs.Text.{IsText}
use Rattle.m5_terms.specs.Worlds.{site_worlds}
use Rattle.m5_terms.specs.declared.types.World.{World}
use Rattle.m5_terms.specs.declared.types.World.TheVariants.{Home, Server, Any}
use Rattle.m5_typing.specs.Context.{CellTypes, Setting}
use Rattle.m5_typing.specs.Laws.{Extends}
use Rattle.m5_terms.specs.declared.ask.AskOf.{AskOf}
use Rattle.m5_terms.specs.declared.ask.AskOf.TheVariants as ask
use Rattle.m5_terms.specs.declared.ask.AnswerOf.TheVariants as answer
use Rattle.m5_meaning.specs.Site.{Program, Item}
use Rattle.m5_script.specs.declared.items.TextPair.{TextPair}
use Rattle.m5_script.specs.Scenario.{IsPair}
use Rattle.m5_network.specs.Board.{Watch, Trigger, Event, Handler, Desk, Board, text_at, set_at, at_session, link, with_link, posted, Answered, text_or_missing, text_or_empty, take_event, take_trigger, take_other, take_from, take_at, answer_of}
use Rattle.m5_site_sound.specs.Settings.{setting, Grows}
use Rattle.m5_site_sound.specs.Sites.{ItemTyped, QueryTyped, ReplyTyped}
use Rattle.m5_terms.specs.Answers.{IsAnswer}
use Rattle.m5_sound.specs.Texts.{DeskHasTexts}
use Rattle.m5_terms.specs.declared.per_world.PerWorld.{PerWorld}
use Rattle.m5_terms.specs.PerWorld.{at, with_at}
use Rattle.m5_terms.proofs.PerWorlds.{either-at, own-at}
use Rattle.m5_terms.proofs.Lists.{each-append}
use Rattle.m5_site_sound.proofs.Growth.{more, items-grown}

-- what a session has on the board is typed
pub record DeskTyped (E : Setting) (d : Desk Item) : Type 0 where
  pub links : (v w : World) → w ≢ Any → Each (ItemTyped E w) (link d v w)
  pub texts : DeskHasTexts d

pub record BoardTyped (P : Program) (T : ℕ → CellTypes) (b : Board Item) : Type 0 where
  pub pairs : Each IsPair b.pairs
  pub watches : Each (λ (w : Watch). IsText w.key) b.watches
  pub desks : (s : ℕ) → DeskTyped (setting P (T s)) (b.desks s)

pub record AnswerTyped (P : Program) (T : ℕ → CellTypes) (s : ℕ) (w : World) (a : Answered Item) : Type 0 where
  pub reply_ : ReplyTyped (setting P (T s)) w a.reply
  pub board_ : BoardTyped P T a.board

-- what holds of each session but for a change at one
pub at-each : {A : Type 0} → (P : ℕ → A → Type 0) (s : ℕ) (x : A) (f : ℕ → A) → P s x → ((z : ℕ) → P z (f z)) → (z : ℕ) → P z (at_session s x f z)
at-each P s x f p q z = by (z == s) (eqb-true z s)
  where
    by : (b : Bool) → (b ≡ true → z ≡ s) → P z (if b then x else f z)
    by true e = subst (λ y. P y x) (sym (e refl)) p
    by false e = q z

-- pairs

choice : (Q : List TextPair → Type 0) (t : Bool) (xs ys : List TextPair) → Q xs → Q ys → Q (if t then xs else ys)
choice Q true xs ys p q = p
choice Q false xs ys p q = q

set-texts : (ps : List TextPair) (k t : List ℕ) → IsText k → IsText t → Each IsPair ps → Each IsPair (set_at ps k t)
set-texts [] k t i j h = ((i, j), tt)
set-texts (p ∷ ps) k t i j h = choice (Each IsPair) (bytes_eq p.key k) _ _ ((i, j), h.1) (h.0, set-texts ps k t i j h.1)

abbrev IsTextIfThere : Option (List ℕ) → Type 0
IsTextIfThere None = Unit {0}
IsTextIfThere (Some t) = IsText t

found-text : (ps : List TextPair) (k : List ℕ) → Each IsPair ps → IsTextIfThere (text_at ps k)
found-text [] k h = tt
found-text (p ∷ ps) k h = by (bytes_eq p.key k) (found-text ps k h.1)
  where
    by : (t : Bool) → IsTextIfThere (text_at ps k) → IsTextIfThere (if t then Some p.text else text_at ps k)
    by true i = h.0.1
    by false i = i

or-missing : (E : Setting) (w : World) (o : Option (List ℕ)) → IsTextIfThere o → ReplyTyped E w (text_or_missing o)
or-missing E w None i = tt
or-missing E w (Some t) i = i

or-empty : (E : Setting) (w : World) (o : Option (List ℕ)) → IsTextIfThere o → ReplyTyped E w (text_or_empty o)
or-empty E w None i = refl
or-empty E w (Some t) i = i

-- desks

desk-set : (P : Program) (T : ℕ → CellTypes) (b : Board Item) (s : ℕ) (d : Desk Item) → BoardTyped P T b → DeskTyped (setting P (T s)) d → BoardTyped P T (record b { desks = at_session s d b.desks })
desk-set P T b s d t k = record { pairs = t.pairs; watches = t.watches; desks = at-each (λ z d. DeskTyped (setting P (T z)) d) s d b.desks k t.desks }

link-set : (E : Setting) (d : Desk Item) (v w : World) (items : List Item) → DeskTyped E d → Each (ItemTyped E w) items → DeskTyped E (with_link v w items d)
link-set E d v w items t i = record {
  links = λ x y n.
      either-at (λ (r : PerWorld (List Item)). Each (ItemTyped E y) (at r y)) d.links v (with_at w items (at d.links v)) x
      (own-at (λ (is : List Item). Each (ItemTyped E y) is) (at d.links v) w items y n (λ f. subst (λ z. Each (ItemTyped E z) items) (sym f) i) (t.links v y n))
      (t.links x y n);
  texts = record { page = t.texts.page; handlers = t.texts.handlers; triggers = t.texts.triggers; events = t.texts.events };
}

posted-typed : (P : Program) (T : ℕ → CellTypes) (k x : List ℕ) (ws : List Watch) (desks : ℕ → Desk Item) → IsText k → IsText x → ((z : ℕ) → DeskTyped (setting P (T z)) (desks z)) → (z : ℕ) → DeskTyped (setting P (T z)) (posted k x ws desks z)
posted-typed P T k x [] desks i j t = t
posted-typed P T k x (w ∷ ws) desks i j t = λ z. by (bytes_eq w.key k) z _ _
    (posted-typed P T k x ws (at_session w.session told desks) i j (at-each (λ z d. DeskTyped (setting P (T z)) d) w.session told desks told-typed t) z) (posted-typed P T k x ws desks i j t z)
  where
    told : Desk Item
    told = record (desks w.session) { triggers = (desks w.session).triggers ++ record { key = k; number = w.number; text = x } ∷ [] }

    told-typed : DeskTyped (setting P (T w.session)) told
    told-typed =
        let d = t w.session in
        record {
          links = d.links;
          texts = record {
            page = d.texts.page;
            handlers = d.texts.handlers;
            triggers = each-append (λ (r : Trigger). IsText r.key × IsText r.text) (desks w.session).triggers _ d.texts.triggers ((i, j), tt);
            events = d.texts.events;
          };
        }

    by : (b : Bool) (z : ℕ) (f g : ℕ → Desk Item) → DeskTyped (setting P (T z)) (f z) → DeskTyped (setting P (T z)) (g z) → DeskTyped (setting P (T z)) ((if b then f else g) z)
    by true z f g p q = p
    by false z f g p q = q

-- a look

event-typed : (P : Program) (T : ℕ → CellTypes) (b : Board Item) (s : ℕ) (w : World) (es : List Event) → BoardTyped P T b → Each (λ (e : Event). IsText e.element × IsText e.text) es → AnswerTyped P T s w (take_event b s (b.desks s) es)
event-typed P T b s w [] t h = record { reply_ = tt; board_ = t }
event-typed P T b s w (e ∷ es) t h =
    let d = t.desks s in
    record {
      reply_ = h.0;
      board_ = desk-set P T b s _ t (record { links = d.links; texts = record { page = d.texts.page; handlers = d.texts.handlers; triggers = d.texts.triggers; events = h.1 } });
    }

trigger-typed : (P : Program) (T : ℕ → CellTypes) (b : Board Item) (s : ℕ) (w : World) (rs : List Trigger) → BoardTyped P T b → Each (λ (r : Trigger). IsText r.key × IsText r.text) rs → AnswerTyped P T s w (take_trigger b s (b.desks s) rs)
trigger-typed P T b s w [] t h = record { reply_ = tt; board_ = t }
trigger-typed P T b s w (r ∷ rs) t h =
    let d = t.desks s in
    record {
      reply_ = h.0;
      board_ = desk-set P T b s _ t (record { links = d.links; texts = record { page = d.texts.page; handlers = d.texts.handlers; triggers = h.1; events = d.texts.events } });
    }

other-typed : (P : Program) (T : ℕ → CellTypes) (b : Board Item) (s : ℕ) (w : World) → BoardTyped P T b → AnswerTyped P T s w (take_other b s w)
other-typed P T b s Home t = event-typed P T b s Home (b.desks s).events t (t.desks s).texts.events
other-typed P T b s Server t = trigger-typed P T b s Server (b.desks s).triggers t (t.desks s).texts.triggers
other-typed P T b s _ t = record { reply_ = tt; board_ = t }

from-typed : (P : Program) (T : ℕ → CellTypes) (b : Board Item) (s : ℕ) (w v : World) (is : List Item) (o : Answered Item) → BoardTyped P T b → Each (ItemTyped (setting P (T s)) w) is → AnswerTyped P T s w o → AnswerTyped P T s w (take_from b s w v is o)
from-typed P T b s w v [] o t h k = k
from-typed P T b s w v (i ∷ is) o t h k = record { reply_ = h.0; board_ = desk-set P T b s _ t (link-set (setting P (T s)) (b.desks s) v w is (t.desks s) h.1) }

look-typed : (P : Program) (T : ℕ → CellTypes) (b : Board Item) (s : ℕ) (w : World) (ws : List World) → w ≢ Any → BoardTyped P T b → AnswerTyped P T s w (take_at b s w ws)
look-typed P T b s w [] n t = other-typed P T b s w t
look-typed P T b s w (v ∷ vs) n t = from-typed P T b s w v (link (b.desks s) v w) (take_at b s w vs) t ((t.desks s).links v w n) (look-typed P T b s w vs n t)

-- each ask

pub answer-typed : (P : Program) (T : ℕ → CellTypes) (b : Board Item) (s : ℕ) (w : World) (q : AskOf Item) → w ≢ Any → QueryTyped (setting P (T s)) w q → BoardTyped P T b → AnswerTyped P T s w (answer_of b s w q)
answer-typed P T b s w (ask.Say x) n a t = record { reply_ = tt; board_ = t }
answer-typed P T b s w (ask.Set e x) n a t =
    let d = t.desks s in
    record {
      reply_ = tt;
      board_ = desk-set P T b s _ t (record { links = d.links; texts = record { page = set-texts (b.desks s).texts e x a.1 a.2 d.texts.page; handlers = d.texts.handlers; triggers = d.texts.triggers; events = d.texts.events } });
    }
answer-typed P T b s w (ask.GetText e) n a t = record { reply_ = or-empty (setting P (T s)) w _ (found-text (b.desks s).texts e (t.desks s).texts.page); board_ = t }
answer-typed P T b s w (ask.On e k) n a t =
    let d = t.desks s in
    record {
      reply_ = tt;
      board_ = desk-set P T b s _ t (record {
        links = d.links;
        texts = record {
          page = d.texts.page;
          handlers = each-append (λ (h : Handler). IsText h.element) (b.desks s).handlers _ d.texts.handlers (a.1, tt);
          triggers = d.texts.triggers;
          events = d.texts.events;
        };
      });
    }
answer-typed P T b s w (ask.Read k) n a t = record { reply_ = or-missing (setting P (T s)) w _ (found-text b.pairs k t.pairs); board_ = t }
answer-typed P T b s w (ask.Write k x) n a t = record {
  reply_ = tt;
  board_ = record { pairs = set-texts b.pairs k x a.1 a.2 t.pairs; watches = t.watches; desks = posted-typed P T k x b.watches b.desks a.1 a.2 t.desks };
}
answer-typed P T b s w (ask.Watch k m) n a t = record {
  reply_ = tt;
  board_ = record { pairs = t.pairs; watches = each-append (λ (w : Watch). IsText w.key) b.watches _ t.watches (a.1, tt); desks = t.desks };
}
answer-typed P T b s w (ask.Show x) n a t = record { reply_ = tt; board_ = t }
answer-typed P T b s w (ask.Send v i) n a t = record {
  reply_ = tt;
  board_ = desk-set P T b s _ t (link-set (setting P (T s)) (b.desks s) w v _ (t.desks s) (each-append (ItemTyped (setting P (T s)) v) (link (b.desks s) w v) (i ∷ []) ((t.desks s).links w v a.1) (a.2, tt)));
}
answer-typed P T b s w ask.Take n a t = look-typed P T b s w site_worlds n t
answer-typed P T b s w (ask.Stop c) n a t = record { reply_ = tt; board_ = t }

-- an answer that says something is of a kind that comes for the ask

missing-kind : (k : List ℕ) (o : Option (List ℕ)) → IsAnswer {I = Item} (ask.Read k) (text_or_missing o)
missing-kind k None = tt
missing-kind k (Some t) = tt

empty-kind : (k : List ℕ) (o : Option (List ℕ)) → IsAnswer {I = Item} (ask.GetText k) (text_or_empty o)
empty-kind k None = tt
empty-kind k (Some t) = tt

abbrev SaysWhatComes : Answered Item → Type 0
SaysWhatComes a = a.reply ≢ answer.Nothing → IsAnswer ask.Take a.reply

event-kind : (b : Board Item) (s : ℕ) (d : Desk Item) (es : List Event) → SaysWhatComes (take_event b s d es)
event-kind b s d [] n = absurd (n refl)
event-kind b s d (e ∷ es) n = tt

trigger-kind : (b : Board Item) (s : ℕ) (d : Desk Item) (rs : List Trigger) → SaysWhatComes (take_trigger b s d rs)
trigger-kind b s d [] n = absurd (n refl)
trigger-kind b s d (r ∷ rs) n = tt

other-kind : (b : Board Item) (s : ℕ) (w : World) → SaysWhatComes (take_other b s w)
other-kind b s Home = event-kind b s (b.desks s) (b.desks s).events
other-kind b s Server = trigger-kind b s (b.desks s) (b.desks s).triggers
other-kind b s _ = λ n. absurd (n refl)

from-kind : (b : Board Item) (s : ℕ) (w v : World) (is : List Item) (o : Answered Item) → SaysWhatComes o → SaysWhatComes (take_from b s w v is o)
from-kind b s w v [] o k = k
from-kind b s w v (i ∷ is) o k = λ n. tt

look-kind : (b : Board Item) (s : ℕ) (w : World) (ws : List World) → SaysWhatComes (take_at b s w ws)
look-kind b s w [] = other-kind b s w
look-kind b s w (v ∷ vs) = from-kind b s w v (link (b.desks s) v w) (take_at b s w vs) (look-kind b s w vs)

pub answer-kind : (b : Board Item) (s : ℕ) (w : World) (q : AskOf Item) → (answer_of b s w q).reply ≢ answer.Nothing → IsAnswer q (answer_of b s w q).reply
answer-kind b s w ask.Take n = look-kind b s w site_worlds n
answer-kind b s w (ask.Read k) n = missing-kind k (text_at b.pairs k)
answer-kind b s w (ask.GetText e) n = empty-kind e (text_at (b.desks s).texts e)
answer-kind b s w _ n = tt

-- more cells of one session

desk-grown : (E F : Setting) → Extends E F → (d : Desk Item) → DeskTyped E d → DeskTyped F d
desk-grown E F m d t = record { links = λ v w n. items-grown E F m w (link d v w) (t.links v w n); texts = t.texts }

pub board-grown : (P : Program) (T : ℕ → CellTypes) (s : ℕ) (L : CellTypes) (b : Board Item) → Grows (T s) L → BoardTyped P T b → BoardTyped P (at_session s L T) b
board-grown P T s L b g t = record {
  pairs = t.pairs;
  watches = t.watches;
  desks = λ z. at-each (λ z K. DeskTyped (setting P K) (b.desks z)) s L T (desk-grown (setting P (T s)) (setting P L) (more (setting P (T s)) L g) (b.desks s) (t.desks s)) t.desks z;
}
