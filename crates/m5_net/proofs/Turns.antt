-- A turn of the code's site is one of the network's.
use Rattle.std.proofs.Common.{◌≡◌, ◌≢◌, ℕ, zero, suc, List, [], ◌∷◌, ◌++◌, length, refl, sym, ap, subst, ◌∙◌, inl, inr, Option, Some, None, Bool, true, false, cond, nat_lt}
use Rattle.m5_region.specs.declared.limits.TheConstants.{MOST_ITEMS}
use Rattle.m5_region.specs.declared.value.Value.{Value}
use Rattle.m5_region.specs.declared.queue.Ready.{Ready}
use Rattle.m5_region.specs.declared.out.Out.{Out}
use Rattle.m5_region.specs.declared.out.Out.TheVariants as out
use Rattle.m5_machine.specs.Primitive.{two_parts}
use Rattle.m5_machine.specs.Run.{run}
use Rattle.m5_terms.specs.Machine.{Next, asks, Comes}
use Rattle.m5_terms.specs.declared.types.World.{World}
use Rattle.m5_terms.specs.declared.types.Primitive.{Primitive}
use Rattle.m5_terms.specs.declared.ask.Act.TheVariants as act_form
use Rattle.m5_terms.specs.declared.ask.Cause.{Cause}
use Rattle.m5_terms.specs.declared.ask.Cause.TheVariants.{Spent, Region, Table}
use Rattle.m5_terms.specs.declared.ask.AskOf.TheVariants as ask
use Rattle.m5_terms.specs.declared.ask.AnswerOf.TheVariants as answer
use Rattle.m5_network.specs.Board.{Board, Answered, answer_of}
use Rattle.m5_network.specs.Claim.{IsAtItsWorld, primitive_of}
use Rattle.m5_network.specs.Entries.{shown, take_shown}
use Rattle.m5_network.specs.Kinds.{ComesToAsk, with_site}
use Rattle.m5_board.specs.Boards.{board_of}
use Rattle.m5_shared.specs.Shared.{SharedBoard, IsAct, is_sealed}
use Rattle.m5_site.specs.declared.state.State.{State}
use Rattle.m5_site.specs.declared.state.Limits.{Limits}
use Rattle.m5_site.specs.declared.state.Need.TheVariants as needs
use Rattle.m5_site.specs.declared.state.Wait.{Wait}
use Rattle.m5_site.specs.declared.state.Wait.TheVariants as waits
use Rattle.m5_site.specs.Answers.{Reply, answered, after_call, halted}
use Rattle.m5_site.specs.Held.{Held, IsSiteOf}
use Rattle.m5_site.specs.Object.{Bundle, code_of}
use Rattle.m5_site.specs.Own.{IsOwnAsk, primitive_called}
use Rattle.m5_site.specs.Sending.{has_bytes}
use Rattle.m5_site.specs.Site.{Query, query, moved, moved_by, led, came, with_handler, with_bench, adds_handler, second_of, world_of, site_next, next_of, need_of}
use Rattle.m5_site.specs.Stops.{ComesTo}
use Rattle.m5_site.proofs.OwnAsks.{query_own}
use Rattle.m5_net.specs.Turning.{Net, IsGoing, IsAskTurned, IsAhead, MakesDeed, FindsNothing, IsTurned, IsReadyTurned}
use Rattle.m5_net.proofs.Replies.{act_as}
use Rattle.m5_net.proofs.Standing.{goes_on_alike}
use Rattle.m5_net.specs.declared.turn.Turned.{Turned}
use Rattle.m5_net.specs.declared.turn.Turned.TheVariants as turned

-- ---- local steps

abbrev Acts : Type 0
Acts = State → Next State Query Reply

further : (f : Acts) (n m : ℕ) (a b c : State) → Comes f n a b → Comes f m b c → (k : ℕ) × Comes f k a c
further f zero m a b c h k = (m, subst (λ (x : State). Comes f m x c) (sym h) k)
further f (suc n) m a b c h k =
    let rest = further f n m h.0 b c h.2 k in (suc rest.0, (h.0, h.1, rest.1))

pub comes_to : (O : Bundle) (s : ℕ) (w : World) (n : ℕ) (a b c : State) (wait : Wait) → Comes (site_next O s w) n a b → ComesTo O s w b wait c → ComesTo O s w a wait c
comes_to O s w n a b c wait h k =
    let f = further (site_next O s w) n k.steps a b k.at h k.comes in
    record { steps = f.0; at = k.at; comes = f.1; waiting = k.waiting; something = k.something }

asks_then : (O : Bundle) (s : ℕ) (w : World) (wait : Wait) (x : State) → IsGoing wait → next_of O s w wait x ≡ asks (query O s x wait) (answered O s w x wait)
asks_then O s w waits.Nothing x g = absurd g
asks_then O s w (waits.Call p argument next) x g = refl
asks_then O s w (waits.Send v thread) x g = refl
asks_then O s w waits.Take x g = refl
asks_then O s w (waits.Stop c) x g = absurd g
asks_then O s w (waits.Wrong label) x g = absurd g

to_ask : (O : Bundle) (s : ℕ) (w : World) (from to : State) (wait : Wait) → IsGoing wait → ComesTo O s w from wait to → ComesToAsk (site_next O s w) from (query O s to wait) (answered O s w to wait)
to_ask O s w from to wait g h = record {
  steps = h.steps;
  waiting = h.at;
  comes = h.comes;
  asking = ap (λ (p : Wait × State). next_of O s w p.0 p.1) h.waiting ∙ asks_then O s w wait to g;
}

to_full : (O : Bundle) (s : ℕ) (w : World) (from to : State) → ComesTo O s w from (waits.Stop Table) to → ComesToAsk (site_next O s w) from (ask.Stop Table) (answered O s w to (waits.Stop Table))
to_full O s w from to h = record {
  steps = h.steps;
  waiting = h.at;
  comes = h.comes;
  asking = ap (λ (p : Wait × State). next_of O s w p.0 p.1) h.waiting;
}

-- ---- a site that looks has not run

handler_waits : (p : ℕ) (a n v : Value) (x : State) (b : Bool) → (cond {A = Wait × State} b (waits.Call p a n, record x { handlers = x.handlers ++ v ∷ [] }) (waits.Stop Table, x)).0 ≡ waits.Take → ⊥
handler_waits p a n v x true h = cc
handler_waits p a n v x false h = cc

call_waits : (p : ℕ) (a n : Value) (x : State) (b : Bool) → (cond {A = Wait × State} b (with_handler (second_of (two_parts x.bench.region.objects a)) (waits.Call p a n) x) (waits.Call p a n, x)).0 ≡ waits.Take → ⊥
call_waits p a n x true h = handler_waits p a n (second_of (two_parts x.bench.region.objects a)) x (nat_lt (length x.handlers) MOST_ITEMS) h
call_waits p a n x false h = cc

send_waits : (label to : ℕ) (t : Ready) (x : State) (b : Bool) → (cond {A = Wait × State} b (waits.Send (world_of to) t, x) (waits.Wrong label, x)).0 ≡ waits.Take → ⊥
send_waits label to t x true h = cc
send_waits label to t x false h = cc

came_waits : (O : Bundle) (o : Out) (x : State) → (came O o x).0 ≡ waits.Take → ⊥
came_waits O (out.Asks p a n) x h = call_waits p a n x (adds_handler p) h
came_waits O (out.Sends to c a label) x h = send_waits label to (record { code = c; argument = a }) x (has_bytes O.dicts x.bench.region.objects (record { code = c; argument = a })) h
came_waits O out.Ended x h = cc
came_waits O out.Spent x h = cc
came_waits O out.FullRegion x h = cc
came_waits O out.FullTable x h = cc
came_waits O (out.Wrong label) x h = cc

led_looks : (O : Bundle) (w : World) (ts : List Ready) (x : State) → (led O w ts x).0 ≡ waits.Take → (led O w ts x).1 ≡ x
led_looks O w [] x h = refl
led_looks O w (t ∷ ts) x h =
    let r = run (code_of O w) x.bench in absurd (came_waits O r.0 (with_bench r.1 x) h)

by_looks : (O : Bundle) (w : World) (due : Option Cause) (x : State) → (moved_by O w due x).0 ≡ waits.Take → (moved_by O w due x).1 ≡ x
by_looks O w (Some c) x h = refl
by_looks O w None x h = led_looks O w x.bench.threads x h

looks : (O : Bundle) (w : World) (x y : State) → moved O w x ≡ (waits.Take, y) → y ≡ x
unfolding moved
looks O w x y e = sym (ap (λ (p : Wait × State). p.1) e) ∙ by_looks O w x.due x (ap (λ (p : Wait × State). p.0) e)

-- ---- what a history shows of a site's ask

read_called : (f : List ℕ → Bool) (k : List ℕ) (r : Reply) → primitive_of (shown f (ask.Read k) r) ≡ primitive_called (ask.Read k)
read_called f k answer.Done = refl
read_called f k (answer.Found t) = refl
read_called f k answer.Missing = refl
read_called f k (answer.Message v i) = refl
read_called f k (answer.Fired e n t) = refl
read_called f k (answer.Event e ns t) = refl
read_called f k answer.Nothing = refl

sealed_or_not : (c : Bool) (v : World) → primitive_of (cond c (act_form.Take v) act_form.Refuse) ≡ None
sealed_or_not true v = refl
sealed_or_not false v = refl

take_called : (f : List ℕ → Bool) (r : Reply) → primitive_of (take_shown f r) ≡ None
take_called f answer.Done = refl
take_called f (answer.Found t) = refl
take_called f answer.Missing = refl
take_called f (answer.Message v i) = sealed_or_not (f i) v
take_called f (answer.Fired e n t) = refl
take_called f (answer.Event e ns t) = refl
take_called f answer.Nothing = refl

shown_called : (f : List ℕ → Bool) (q : Query) (r : Reply) → primitive_of (shown f q r) ≡ primitive_called q
shown_called f (ask.Say t) r = refl
shown_called f (ask.Set e t) r = refl
shown_called f (ask.GetText e) r = refl
shown_called f (ask.On e n) r = refl
shown_called f (ask.Read k) r = read_called f k r
shown_called f (ask.Write k t) r = refl
shown_called f (ask.Watch k n) r = refl
shown_called f (ask.Show t) r = refl
shown_called f (ask.Send v i) r = refl
shown_called f ask.Take r = take_called f r
shown_called f (ask.Stop c) r = refl

own_shown : (f : List ℕ → Bool) (s : ℕ) (w : World) (q : Query) (r : Reply) → IsOwnAsk s w q → IsAtItsWorld (primitive_of (shown f q r)) w
own_shown f s w q r h = subst (λ (p : Option Primitive). IsAtItsWorld p w) (sym (shown_called f q r)) h.primitive

-- ---- a turn

-- the board has nothing for a look alone, and the site goes on as it was
call_nothing : (x y : State) (p : ℕ) (next : Value) → after_call x p next answer.Nothing ≡ Some y → ⊥
call_nothing x y p next h = cc

looked : (O : Bundle) (s : ℕ) (w : World) (from x y : State) (wait : Wait) → IsGoing wait → ComesTo O s w from wait x → answered O s w x wait answer.Nothing ≡ Some y → (k : ℕ) × Comes (site_next O s w) k from y
looked O s w from x y waits.Nothing g h e = absurd g
looked O s w from x y (waits.Call p argument next) g h e = absurd (call_nothing x y p next e)
looked O s w from x y (waits.Send v thread) g h e = absurd (let none : None ≡ Some y = e in cc)
looked O s w from x y waits.Take g h e =
    let same : h.at ≡ y = sym (looks O w h.at x h.waiting) ∙ (let some : Some x ≡ Some y = e in cc) in
    (h.steps, subst (λ (z : State). Comes (site_next O s w) h.steps from z) same h.comes)
looked O s w from x y (waits.Stop c) g h e = absurd g
looked O s w from x y (waits.Wrong label) g h e = absurd g

-- at what the site asks for, where it has come to that from the network's
module _ (O : Bundle) (n : Limits) (s : ℕ) (w : World) (N : Net O n) (old new : SharedBoard) (i : (N.site s w).stopped ≡ false) (b : board_of old.board ≡ N.board) where
  abbrev Same : Query → Type 0
  Same q = (answer_of (board_of old.board) s w q) ≡ (answer_of N.board s w q)

  same : (q : Query) → Same q
  same q = ap (λ (x : Board (List ℕ)). answer_of x s w q) b

  made : (wait : Wait) (to : State) (y : Held) (r : Reply) → IsGoing wait → ComesTo O s w (N.site s w) wait to → IsOwnAsk s w (query O s to wait) → r ≢ answer.Nothing → IsAct s w (query O s to wait) old new r → answered O s w to wait r ≡ Some y.state → IsAhead O s w y.state y → MakesDeed O n N s w old new (Some y)
  made wait to y r g c own t act res ahead =
      let q = query O s to wait in
      record {
        deed = record { session = s; world = w; query = q; reply = r };
        site = y.state;
        turn = (
          i,
          inl (record {
            resume = answered O s w to wait;
            next = to_ask O s w (N.site s w) to wait g c;
            session = refl;
            world = refl;
            reply = act.reply ∙ ap (λ (x : Answered (List ℕ)). x.reply) (same q);
            told = t;
            site = y.state;
            resumed = res;
            after = ap (λ (x : Board (List ℕ)). with_site s w y.state x N) (act.board ∙ ap (λ (x : Answered (List ℕ)). x.board) (same q));
          }),
        );
        left = (goes_on_alike O s w (N.site s w) to y.state wait r g c res ∙ i, ahead);
        entry = act.entry t;
        own = own_shown (is_sealed s) s w q r own;
      }

  rested : (wait : Wait) (to : State) (y : Held) → IsGoing wait → ComesTo O s w (N.site s w) wait to → IsAct s w (query O s to wait) old new answer.Nothing → answered O s w to wait answer.Nothing ≡ Some y.state → IsAhead O s w y.state y → FindsNothing O n N s w old new y
  rested wait to y g c act res ahead =
      let q = query O s to wait in
      let found = act.when.0 refl in
      let look = looked O s w (N.site s w) to y.state wait g c res in
      record {
        turn = (
          refl,
          inl (record {
            resume = answered O s w to wait;
            next = subst (λ (p : Query). ComesToAsk (site_next O s w) (N.site s w) p (answered O s w to wait)) found.0 (to_ask O s w (N.site s w) to wait g c);
            nothing_there = sym (act.reply ∙ (ap (λ (x : Answered (List ℕ)). x.reply) (same q) ∙ ap (λ (p : Query). (answer_of N.board s w p).reply) found.0));
          }),
        );
        board = (act.nothing refl).1 ∙ b;
        entries = (act.nothing refl).0;
        ahead = record { session = ahead.session; world = ahead.world; of = ahead.of; computing = ahead.computing; steps = look.0; comes = look.1 };
      }

  told : (c : Cause) (r : Reply) → IsAct s w (ask.Stop c) old new r → r ≢ answer.Nothing
  told c r act e = let wrong : ◌≡◌ {A = Reply} answer.Done answer.Nothing = sym act.reply ∙ e in cc

  chosen : (c : Cause) (to : State) (r : Reply) → c ≢ Table → ComesTo O s w (N.site s w) (waits.Stop c) to → IsAct s w (ask.Stop c) old new r → MakesDeed O n N s w old new None
  chosen c to r t h act = record {
    deed = record { session = s; world = w; query = ask.Stop c; reply = answer.Done };
    site = halted (N.site s w);
    turn = (
      i,
      inr (
        c,
        record {
          licence = record { to = to; comes = h; chosen = t };
          deed = refl;
          after = ap (λ (x : Board (List ℕ)). with_site s w (halted (N.site s w)) x N) (act.board ∙ b);
        },
      ),
    );
    left = refl;
    entry = act.entry (told c r act);
    own = tt;
  }

  full : (to : State) (r : Reply) → ComesTo O s w (N.site s w) (waits.Stop Table) to → IsAct s w (ask.Stop Table) old new r → MakesDeed O n N s w old new None
  full to r h act = record {
    deed = record { session = s; world = w; query = ask.Stop Table; reply = r };
    site = halted to;
    turn = (
      i,
      inl (record {
        resume = answered O s w to (waits.Stop Table);
        next = to_full O s w (N.site s w) to h;
        session = refl;
        world = refl;
        reply = act.reply;
        told = told Table r act;
        site = halted to;
        resumed = ap (answered O s w to (waits.Stop Table)) act.reply;
        after = ap (λ (x : Board (List ℕ)). with_site s w (halted to) x N) (act.board ∙ b);
      }),
    );
    left = refl;
    entry = act.entry (told Table r act);
    own = tt;
  }

  pub stops : (c : Cause) (to : State) (r : Reply) → ComesTo O s w (N.site s w) (waits.Stop c) to → IsAct s w (ask.Stop c) old new r → MakesDeed O n N s w old new None
  stops Spent to r h act = chosen Spent to r (λ e. let wrong : Spent ≡ Table = e in cc) h act
  stops Region to r h act = chosen Region to r (λ e. let wrong : Region ≡ Table = e in cc) h act
  stops Table to r h act = full to r h act

-- ---- in the code's names

-- what a turn makes of each network that the site is ahead of
abbrev Whole : Bundle → Held → Held → SharedBoard → SharedBoard → Turned → ℕ → World → Type 0
Whole O x z old new t s w =
    ComesTo O s w x.state z.wait z.state → (n : Limits) (N : Net O n) → (N.site s w).stopped ≡ false → board_of old.board ≡ N.board → IsAhead O s w (N.site s w) x → IsTurned O n N s w old new t

at_own : (O : Bundle) (x z : Held) (old new : SharedBoard) (t : Turned) → IsSiteOf O z → IsGoing z.wait → IsAskTurned O z old new t → Whole O x z old new t z.session z.world
at_own O x z old new (turned.Acts None) f g k = absurd k
at_own O x z old new (turned.Acts (Some y)) f g k = λ c n N i b a.
    let on = k.2 in
    made O n z.session z.world N old new i b z.wait z.state y k.0 g (comes_to O z.session z.world a.steps (N.site z.session z.world) x.state z.state z.wait a.comes c)
    (query_own O (code_of O z.world) z.session z.world z.state z.wait f.own f.fits) k.1 on.act on.resumed
    (record { session = on.session; world = on.world; of = on.of; computing = on.computing; steps = 0; comes = refl })
at_own O x z old new (turned.Rests y) f g k = λ c n N i b a.
    rested O n z.session z.world N old new i b z.wait z.state y g (comes_to O z.session z.world a.steps (N.site z.session z.world) x.state z.state z.wait a.comes c) k.act k.resumed
    (record { session = k.session; world = k.world; of = k.of; computing = k.computing; steps = 0; comes = refl })
at_own O x z old new (turned.Wrong label) f g k = absurd k

pub answer_turned : (O : Bundle) (x z : Held) (old new : SharedBoard) (t : Turned) → z.session ≡ x.session → z.world ≡ x.world → IsSiteOf O z → IsGoing z.wait → IsAskTurned O z old new t → Whole O x z old new t x.session x.world
answer_turned O x z old new t es ew f g k =
    subst (λ (v : World). Whole O x z old new t x.session v) ew (subst (λ (m : ℕ). Whole O x z old new t m z.world) es (at_own O x z old new t f g k))

pub stop_turned : (O : Bundle) (x z : Held) (old new : SharedBoard) (c : Cause) (r : Reply) (s : ℕ) (w : World) → s ≡ x.session → w ≡ x.world → z.wait ≡ waits.Stop c → IsAct s w (ask.Stop c) old new r → Whole O x z old new (turned.Acts None) x.session x.world
stop_turned O x z old new c r s w es ew e act = λ h n N i b a.
    stops O n x.session x.world N old new i b c z.state r
    (subst (λ (v : Wait). ComesTo O x.session x.world (N.site x.session x.world) v z.state) e (comes_to O x.session x.world a.steps (N.site x.session x.world) x.state z.state z.wait a.comes h))
    (act_as x.session s x.world w (ask.Stop c) (ask.Stop c) old new r es ew refl act)

pub wrong_turned : (O : Bundle) (x z : Held) (old new : SharedBoard) (label : ℕ) → new.entries ≡ old.entries → z.wait ≡ waits.Wrong label → Whole O x z old new (turned.Wrong label) x.session x.world
wrong_turned O x z old new label kept e = λ h n N i b a.
    (kept, (z.state, subst (λ (v : Wait). ComesTo O x.session x.world (N.site x.session x.world) v z.state) e (comes_to O x.session x.world a.steps (N.site x.session x.world) x.state z.state z.wait a.comes h)))

-- what a need says of what is waited for

pub asks_waits : (wait : Wait) → needs.Ask ≡ need_of wait → IsGoing wait
asks_waits waits.Nothing e = absurd (let wrong : needs.Ask ≡ needs.Take = e in cc)
asks_waits (waits.Call p argument next) e = tt
asks_waits (waits.Send v thread) e = tt
asks_waits waits.Take e = tt
asks_waits (waits.Stop c) e = absurd (let wrong : needs.Ask ≡ needs.Stop c = e in cc)
asks_waits (waits.Wrong label) e = absurd (let wrong : needs.Ask ≡ needs.Wrong label = e in cc)

pub look_waits : (wait : Wait) → wait ≢ waits.Nothing → needs.Take ≡ need_of wait → wait ≡ waits.Take
look_waits waits.Nothing n e = absurd (n refl)
look_waits (waits.Call p argument next) n e = absurd (let wrong : needs.Take ≡ needs.Ask = e in cc)
look_waits (waits.Send v thread) n e = absurd (let wrong : needs.Take ≡ needs.Ask = e in cc)
look_waits waits.Take n e = refl
look_waits (waits.Stop c) n e = absurd (let wrong : needs.Take ≡ needs.Stop c = e in cc)
look_waits (waits.Wrong label) n e = absurd (let wrong : needs.Take ≡ needs.Wrong label = e in cc)

pub stop_waits : (wait : Wait) (c : Cause) → needs.Stop c ≡ need_of wait → wait ≡ waits.Stop c
stop_waits waits.Nothing c e = absurd (let wrong : needs.Stop c ≡ needs.Take = e in cc)
stop_waits (waits.Call p argument next) c e = absurd (let wrong : needs.Stop c ≡ needs.Ask = e in cc)
stop_waits (waits.Send v thread) c e = absurd (let wrong : needs.Stop c ≡ needs.Ask = e in cc)
stop_waits waits.Take c e = absurd (let wrong : needs.Stop c ≡ needs.Take = e in cc)
stop_waits (waits.Stop d) c e = let stop : needs.Stop c ≡ needs.Stop d = e in cc
stop_waits (waits.Wrong label) c e = absurd (let wrong : needs.Stop c ≡ needs.Wrong label = e in cc)

pub wrong_waits : (wait : Wait) (l : ℕ) → needs.Wrong l ≡ need_of wait → wait ≡ waits.Wrong l
wrong_waits waits.Nothing l e = absurd (let wrong : needs.Wrong l ≡ needs.Take = e in cc)
wrong_waits (waits.Call p argument next) l e = absurd (let wrong : needs.Wrong l ≡ needs.Ask = e in cc)
wrong_waits (waits.Send v thread) l e = absurd (let wrong : needs.Wrong l ≡ needs.Ask = e in cc)
wrong_waits waits.Take l e = absurd (let wrong : needs.Wrong l ≡ needs.Take = e in cc)
wrong_waits (waits.Stop c) l e = absurd (let wrong : needs.Wrong l ≡ needs.Stop c = e in cc)
wrong_waits (waits.Wrong label) l e = let same : needs.Wrong l ≡ needs.Wrong label = e in cc

pub looks_going : (wait : Wait) → wait ≡ waits.Take → IsGoing wait
looks_going wait e = subst IsGoing (sym e) tt

-- what an answer leaves is the same session's site at the same world
pub ready_turned : (O : Bundle) (z : Held) (s : ℕ) (w : World) (old new : SharedBoard) (t : Turned) → z.session ≡ s → z.world ≡ w → IsAskTurned O z old new t → IsReadyTurned O s w t
ready_turned O z s w old new (turned.Acts None) es ew k = absurd k
ready_turned O z s w old new (turned.Acts (Some y)) es ew k =
    let on = k.2 in
    record { session = on.session ∙ es; world = on.world ∙ ew; of = on.of; computing = on.computing }
ready_turned O z s w old new (turned.Rests y) es ew k = record { session = k.session ∙ es; world = k.world ∙ ew; of = k.of; computing = k.computing }
ready_turned O z s w old new (turned.Wrong label) es ew k = absurd k
