-- Answers of the board, from what happens to its parts.
use Rattle.std.proofs.Common.{◌≡◌, ℕ, zero, suc, ◌+◌, ◌<◌, Bool, List, [], ◌∷◌, length, get_or, drop, Option, Some, None, refl, sym, ap, ◌∙◌, subst, arith}
use Rattle.std.specs.Prelude.{Result, IfOk, MatchOption, slice_get}
use Rattle.std.specs.declared.alloc.AllocError.{AllocError}
use Rattle.std.specs.Option.{unwrap_or}
use Rattle.std.proofs.lemmas.Option.{none-some}
use Rattle.m5_terms.specs.Worlds.{site_worlds}
use Rattle.m5_terms.specs.declared.types.World.TheVariants.{Home, Server}
use Rattle.m5_terms.specs.declared.ask.Act.TheVariants as act
use Rattle.m5_terms.specs.declared.ask.AskOf.TheVariants as ask
use Rattle.m5_terms.specs.declared.ask.AnswerOf.TheVariants as answer
use Rattle.m5_keys.specs.Keys.{KeyStore}
use Rattle.m5_terms.specs.declared.types.World.{World}
use Rattle.m5_terms.specs.declared.ask.Act.{Act}
use Rattle.m5_terms.specs.declared.ask.AskOf.{AskOf}
use Rattle.m5_terms.specs.declared.ask.AnswerOf.{AnswerOf}
use Rattle.m5_network.specs.Board.{Desk, Board, Event, Trigger, answered, answered_at, link, with_link, take_from, take_at, take_other, handlers_of}
use Rattle.m5_network.specs.Board as network
use Rattle.m5_network.specs.Entries.{shown}
use Rattle.m5_board.specs.Boards.{BoardLists, board_of, desk_at, ChangesDesk, Receives, TakesEvent, TakesTrigger}
use Rattle.m5_board.specs.Answers.{IsAnsweredBy}
use Rattle.m5_board.specs.declared.board.Answered.{Answered}

-- an answer that changes one desk, of a board that is what its fields stand for
pub by-desk : {I : Type 0} (seal : I → Bool) (i b c : BoardLists I) (s : ℕ) (f : Desk I → Desk I) (q : AskOf I) (r : AnswerOf I) (x : Act) (a : Answered I) →
    i ≡ b → a ≡ record { reply = r; act = x } → x ≡ shown seal q r → c.pairs ≡ i.pairs → c.watches ≡ i.watches → ChangesDesk s f i.desks c.desks →
    IsAnsweredBy seal (answered_at r s (f (desk_at b.desks s)) (board_of b)) q c a
by-desk {I} seal i b c s f q r x a e g h p w d =
    let reply : a.reply ≡ r = ap (λ (z : Answered I). z.reply) g in
    let from : IsAnsweredBy seal (answered_at r s (f (desk_at i.desks s)) (board_of i)) q c a = record {
      reply = reply;
      board = λ k. record { pairs = p k; watches = w k; desks = d.desk k };
      act = ap (λ (z : Answered I). z.act) g ∙ (h ∙ ap (shown seal q) (sym reply));
    } in
    subst (λ (z : BoardLists I). IsAnsweredBy seal (answered_at r s (f (desk_at z.desks s)) (board_of z)) q c a) e from

pub received : {I : Type 0} (r : Option I) (i b : BoardLists I) (s : ℕ) (v w : World) (es : List (Desk I)) → i ≡ b →
    MatchOption r ((link (desk_at i.desks s) v w ≡ []) × (es ≡ i.desks)) (λ x. Receives s v w x i.desks es) →
    MatchOption r ((link (desk_at b.desks s) v w ≡ []) × (record i { desks = es } ≡ b))
    (λ x. (rest : network.Answered I) → take_from (board_of b) s w v (link (desk_at b.desks s) v w) rest ≡ answered (answer.Message v x) (board_of (record i { desks = es })))
received {I} None i b s v w es e h =
    (ap (λ (z : BoardLists I). link (desk_at z.desks s) v w) (sym e) ∙ h.0, ap (λ (d : List (Desk I)). record i { desks = d }) h.1 ∙ e)
received {I} (Some x) i b s v w es e h = λ rest.
    let from : take_from (board_of i) s w v (link (desk_at i.desks s) v w) rest ≡ answered (answer.Message v x) (board_of (record i { desks = es })) =
    rw h.first (ap (λ (D : ℕ → Desk I). answered (answer.Message v x) (record (board_of i) { desks = D })) (sym h.changes.desk)) in
    ap (λ (z : BoardLists I). take_from (board_of z) s w v (link (desk_at z.desks s) v w) rest) (sym e) ∙ from

pub took : {I : Type 0} (B : Board I) (s : ℕ) (w : World) (vs : List World) (k : ℕ) (d : World) (X t : network.Answered I) → k < length vs → take_at B s w (drop k vs) ≡ X →
    ((rest : network.Answered I) → take_from B s w (get_or vs k d) (link (B.desks s) (get_or vs k d) w) rest ≡ t) → X ≡ t
took B s w [] k d X t l f h = absurd (omega (arith, l))
took B s w (v ∷ vs) zero d X t l f h = sym f ∙ h (take_at B s w vs)
took B s w (v ∷ vs) (suc k) d X t l f h = took B s w vs k d X t (omega (arith, l)) f h

passed-one : {I : Type 0} (B : Board I) (s : ℕ) (w : World) (vs : List World) (k : ℕ) (d : World) (X : network.Answered I) → k < length vs → take_at B s w (drop k vs) ≡ X →
    link (B.desks s) (get_or vs k d) w ≡ [] → take_at B s w (drop (suc k) vs) ≡ X
passed-one B s w [] k d X l f h = absurd (omega (arith, l))
passed-one {I} B s w (v ∷ vs) zero d X l f h = sym (ap (λ (is : List I). take_from B s w v is (take_at B s w vs)) h) ∙ f
passed-one B s w (v ∷ vs) (suc k) d X l f h = passed-one B s w vs k d X (omega (arith, l)) f h

pub passed : {I : Type 0} (b m n : BoardLists I) (s : ℕ) (w : World) (vs : List World) (k : ℕ) (d : World) (X : network.Answered I) → k < length vs → m ≡ b → n ≡ m → take_at (board_of m) s w (drop k vs) ≡ X →
    link (desk_at m.desks s) (get_or vs k d) w ≡ [] → (take_at (board_of n) s w (drop (k + 1) vs) ≡ X) × (n ≡ b)
passed {I} b m n s w vs k d X l e q f h =
    let j : k + 1 ≡ suc k = omega arith in
    (ap (λ (z : BoardLists I). take_at (board_of z) s w (drop (k + 1) vs)) q ∙ rw j (passed-one (board_of m) s w vs k d X l f h), q ∙ e)

-- what is taken is what stood first
taken : {X : Type 0} (S : Type 0) (r : Option X) (xs : List X) (x : X) (P : X → Type 0) → ((y : X) → P y → (rest : List X) × (xs ≡ y ∷ rest)) → Some x ≡ slice_get xs 0 → MatchOption r ((xs ≡ []) × S) P → P x
taken {X} S None xs x P first f h = absurd (none-some x (sym (f ∙ ap (λ (zs : List X). slice_get zs 0) h.0)))
taken {X} S (Some y) xs x P first f h =
    let e : Some x ≡ Some y = f ∙ ap (λ (zs : List X). slice_get zs 0) (first y h).1 in
    subst P (sym (ap (λ (o : Option X). unwrap_or o x) e)) h

pub an-event : {I : Type 0} (seal : I → Bool) (r : Option Event) (i b c : BoardLists I) (s : ℕ) (x : Event) (a : Answered I) → i ≡ b → Some x ≡ slice_get (desk_at i.desks s).events 0
    → MatchOption r (((desk_at i.desks s).events ≡ []) × (c.desks ≡ i.desks)) (λ e. TakesEvent s e i.desks c.desks) → c.pairs ≡ i.pairs → c.watches ≡ i.watches
    → a.reply ≡ answer.Event x.element (handlers_of (desk_at i.desks s).handlers x.element) x.text → a.act ≡ act.Event x.element x.text → IsAnsweredBy seal (take_other (board_of b) s Home) ask.Take c a
an-event {I} seal r i b c s x a z o m p q e f =
    let h : TakesEvent s x i.desks c.desks = taken _ r (desk_at i.desks s).events x (λ (y : Event). TakesEvent s y i.desks c.desks) (λ y t. (t.rest, t.first)) o m in
    let from : IsAnsweredBy seal (take_other (board_of i) s Home) ask.Take c a =
    rw h.first (by-desk seal i i c s (λ (d : Desk I). record d { events = h.rest }) ask.Take (answer.Event x.element (handlers_of (desk_at i.desks s).handlers x.element) x.text) a.act a refl (λ k. record { reply = e k; act = a.act }) f p q h.changes) in
    subst (λ (u : BoardLists I). IsAnsweredBy seal (take_other (board_of u) s Home) ask.Take c a) z from

pub a-trigger : {I : Type 0} (seal : I → Bool) (r : Option Trigger) (i b c : BoardLists I) (s : ℕ) (x : Trigger) (a : Answered I) → i ≡ b → Some x ≡ slice_get (desk_at i.desks s).triggers 0
    → MatchOption r (((desk_at i.desks s).triggers ≡ []) × (c.desks ≡ i.desks)) (λ t. TakesTrigger s t i.desks c.desks) → c.pairs ≡ i.pairs → c.watches ≡ i.watches
    → a.reply ≡ answer.Fired x.key x.number x.text → a.act ≡ act.Fire x.key → IsAnsweredBy seal (take_other (board_of b) s Server) ask.Take c a
a-trigger {I} seal r i b c s x a z o m p q e f =
    let h : TakesTrigger s x i.desks c.desks = taken _ r (desk_at i.desks s).triggers x (λ (y : Trigger). TakesTrigger s y i.desks c.desks) (λ y t. (t.rest, t.first)) o m in
    let from : IsAnsweredBy seal (take_other (board_of i) s Server) ask.Take c a =
    rw h.first (by-desk seal i i c s (λ (d : Desk I). record d { triggers = h.rest }) ask.Take (answer.Fired x.key x.number x.text) a.act a refl (λ k. record { reply = e k; act = a.act }) f p q h.changes) in
    subst (λ (u : BoardLists I). IsAnsweredBy seal (take_other (board_of u) s Server) ask.Take c a) z from

-- the pairs and the desks are written
pub by-write : {I : Type 0} (seal : I → Bool) (i b : BoardLists I) (k : KeyStore) (key text : List ℕ) (es : List (Desk I)) (x : Act) (a : Answered I) (s : ℕ) (w : World) →
    i ≡ b → k ≡ record { pairs = network.set_at i.pairs key text; watches = i.watches } → desk_at es ≡ network.posted key text i.watches (desk_at i.desks) → a ≡ record { reply = answer.Done; act = x } → x ≡ act.Write key text →
    IsAnsweredBy seal (network.answer_of (board_of b) s w (ask.Write key text)) (ask.Write key text) (record { pairs = k.pairs; watches = k.watches; desks = es }) a
by-write {I} seal i b k key text es x a s w e q d g h =
    let from : IsAnsweredBy seal (network.answer_of (board_of i) s w (ask.Write key text)) (ask.Write key text) (record { pairs = k.pairs; watches = k.watches; desks = es }) a = record {
      reply = ap (λ (z : Answered I). z.reply) g;
      board = λ j. record { pairs = (q j).pairs; watches = (q j).watches; desks = d j };
      act = ap (λ (z : Answered I). z.act) g ∙ h;
    } in
    subst (λ (u : BoardLists I). IsAnsweredBy seal (network.answer_of (board_of u) s w (ask.Write key text)) (ask.Write key text) (record { pairs = k.pairs; watches = k.watches; desks = es }) a) e from

pub by-item : {I : Type 0} (seal : I → Bool) (x : network.Answered I) (c : BoardLists I) (q : AskOf I) (r : AnswerOf I) (a : Answered I) → x ≡ answered r (board_of c) → a.reply ≡ r → a.act ≡ shown seal q r → IsAnsweredBy seal x q c a
by-item seal x c q r a e f g = rw e (record { reply = f; board = refl; act = g ∙ ap (shown seal q) (sym f) })

-- without a message, what a world takes else
pub other-at : {I : Type 0} (seal : I → Bool) (r : Result (Answered I) AllocError) (b m c : BoardLists I) (s : ℕ) (at w : World) → at ≡ w → take_at (board_of b) s at site_worlds ≡ take_other (board_of b) s at → m ≡ b →
    IfOk r (λ a. IsAnsweredBy seal (take_other (board_of m) s w) ask.Take c a) → IfOk r (λ a. IsAnsweredBy seal (take_at (board_of b) s at site_worlds) ask.Take c a)
other-at {I} seal r b m c s at w h t k g =
    let e : take_other (board_of m) s w ≡ take_at (board_of b) s at site_worlds = ap (λ (z : BoardLists I). take_other (board_of z) s w) k ∙ (ap (take_other (board_of b) s) (sym h) ∙ sym t) in
    subst (λ (x : network.Answered I). IfOk r (λ a. IsAnsweredBy seal x ask.Take c a)) e g
