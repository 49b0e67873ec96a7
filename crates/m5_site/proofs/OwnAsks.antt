-- A site asks for its own world alone.
use Rattle.std.proofs.Common.{◌≡◌, ◌≢◌, ℕ, zero, suc, ◌==◌, ◌<◌, ◌≤◌, arith, nat_le, nat_lt, List, [], ◌∷◌, ◌++◌, length, refl, sym, subst, Option, Some, None, Bool, true, false, not, cond, is_some, IsTrue, nat_eq}
use Rattle.std.specs.List.{AllByRecursion as Each, list_all, starts_with}
use Rattle.std.proofs.lemmas.Bool.{eqb-true, eqb-false, leb-true, eq-eqb, not-true, both_ways, and_parts}
use Rattle.m5_region.specs.declared.value.Value.{Value}
use Rattle.m5_region.specs.declared.limits.TheConstants.{MOST_ITEMS}
use Rattle.m5_region.specs.declared.queue.Ready.{Ready}
use Rattle.m5_region.specs.declared.out.Out.{Out}
use Rattle.m5_region.specs.declared.out.Out.TheVariants as out
use Rattle.m5_region.specs.Region.{Object}
use Rattle.m5_machine.specs.declared.step.Step.{Step}
use Rattle.m5_machine.specs.declared.step.Step.TheVariants as steps
use Rattle.m5_machine.specs.Blocks.{Flat}
use Rattle.m5_machine.specs.Primitive.{two_parts}
use Rattle.m5_machine.specs.Run.{run}
use Rattle.m5_terms.specs.Worlds.{IsSiteWorld}
use Rattle.m5_terms.specs.Seal.{seal_bytes}
use Rattle.m5_terms.specs.declared.types.World.{World}
use Rattle.m5_terms.specs.declared.types.World.TheVariants.{Home, Server, Panel, Any}
use Rattle.m5_terms.specs.declared.ask.Cause.{Cause}
use Rattle.m5_terms.specs.declared.ask.Cause.TheVariants.{Table}
use Rattle.m5_bytecode.specs.Server.{server_step}
use Rattle.m5_js.specs.Page.{page_step}
use Rattle.m5_message.specs.Packing.{Sending, message_of, sent_from}
use Rattle.m5_message.specs.Spelling.{body_bytes}
use Rattle.m5_site.specs.declared.state.State.{State}
use Rattle.m5_site.specs.declared.state.Wait.{Wait}
use Rattle.m5_site.specs.declared.state.Wait.TheVariants as waits
use Rattle.m5_site.specs.Object.{Bundle, IsObject, code_of, is_asked_at, is_step_at}
use Rattle.m5_site.specs.Sending.{sendable_of, has_bytes, stands_where}
use Rattle.m5_site.specs.Site.{Query, called, query, sent_bytes, moved, moved_by, led, came, with_handler, with_bench, adds_handler, second_of, world_of}
use Rattle.m5_site.specs.Own.{IsOther, IsOwnAsk, IsOwnWait}
use Rattle.m5_site.specs.code.Sound.{WaitFits}
use Rattle.m5_site.proofs.OwnRuns.{StepAsks, OutAsks, run_asks}

abbrev Asked : World → ℕ → Type 0
Asked w p = IsTrue (is_asked_at w p)

abbrev Left : World → ℕ → Type 0
Left w to = IsOther w (world_of to)

-- ---- the steps of a world's code

home_site : IsSiteWorld Home
home_site = (0, omega arith, refl)

server_site : IsSiteWorld Server
server_site = (1, omega arith, refl)

panel_site : IsSiteWorld Panel
panel_site = (2, omega arith, refl)

other_by : (w : World) (a b : Bool) → (a ≡ true → Home ≢ w) → (b ≡ true → Server ≢ w) → (a ≡ false → b ≡ false → Panel ≢ w) → IsOther w (cond a Home (cond b Server Panel))
other_by w true b f g h = record { site = home_site; other = f refl }
other_by w false true f g h = record { site = server_site; other = g refl }
other_by w false false f g h = record { site = panel_site; other = h refl refl }

home_left : (to : ℕ) → not (to == 0) ≡ true → Left Home to
home_left to h =
    other_by Home (to == 0) (to == 1) (λ e. absurd (both_ways (to == 0) (not-true (to == 0) h) e)) (λ e x. let wrong : Server ≡ Home = x in cc) (λ e f x. let wrong : Panel ≡ Home = x in cc)

server_left : (to : ℕ) → not (to == 1) ≡ true → Left Server to
server_left to h =
    other_by Server (to == 0) (to == 1) (λ e x. let wrong : Home ≡ Server = x in cc) (λ e. absurd (both_ways (to == 1) (not-true (to == 1) h) e)) (λ e f x. let wrong : Panel ≡ Server = x in cc)

-- a page's code sends to worlds up to 2
panel_left : (to : ℕ) → not (to == 2) ≡ true → nat_le to 2 ≡ true → Left Panel to
panel_left to h k =
    other_by Panel (to == 0) (to == 1) (λ e x. let wrong : Home ≡ Panel = x in cc) (λ e x. let wrong : Server ≡ Panel = x in cc)
    (λ e f. absurd (omega (arith, leb-true to 2 k, eqb-false to 0 e, eqb-false to 1 f, eqb-false to 2 (not-true (to == 2) h))))

home_step : (s : Step) → is_step_at Home s ≡ true → page_step s ≡ true → StepAsks (Asked Home) (Left Home) s
home_step (steps.Fill i) h k = tt
home_step (steps.If slot place) h k = tt
home_step (steps.Go closure value) h k = tt
home_step (steps.Ask p argument next) h k = h
home_step (steps.Send to closure value) h k = home_left to h
home_step steps.Done h k = tt

server_step_asks : (s : Step) → is_step_at Server s ≡ true → server_step s ≡ true → StepAsks (Asked Server) (Left Server) s
server_step_asks (steps.Fill i) h k = tt
server_step_asks (steps.If slot place) h k = tt
server_step_asks (steps.Go closure value) h k = tt
server_step_asks (steps.Ask p argument next) h k = h
server_step_asks (steps.Send to closure value) h k = server_left to h
server_step_asks steps.Done h k = tt

panel_step : (s : Step) → is_step_at Panel s ≡ true → page_step s ≡ true → StepAsks (Asked Panel) (Left Panel) s
panel_step (steps.Fill i) h k = tt
panel_step (steps.If slot place) h k = tt
panel_step (steps.Go closure value) h k = tt
panel_step (steps.Ask p argument next) h k = h
panel_step (steps.Send to closure value) h k = panel_left to h k
panel_step steps.Done h k = tt

two_steps : (w : World) (own kind : Step → Bool) → ((s : Step) → own s ≡ true → kind s ≡ true → StepAsks (Asked w) (Left w) s) → (ss : List Step) → list_all own ss ≡ true → list_all kind ss ≡ true → Each (StepAsks (Asked w) (Left w)) ss
two_steps w own kind f [] h k = tt
two_steps w own kind f (s ∷ ss) h k =
    let a = and_parts _ _ h in
    let b = and_parts _ _ k in
    (f s a.0 b.0, two_steps w own kind f ss a.1 b.1)

no_any : IsSiteWorld Any → ⊥
no_any (zero, l, e) = absurd (let wrong : Home ≡ Any = e in cc)
no_any (suc zero, l, e) = absurd (let wrong : Server ≡ Any = e in cc)
no_any (suc (suc zero), l, e) = absurd (let wrong : Panel ≡ Any = e in cc)
no_any (suc (suc (suc k)), l, e) = absurd (omega (arith, l))

code_asks : (O : Bundle) (w : World) → IsSiteWorld w → IsObject O → Each (StepAsks (Asked w) (Left w)) (code_of O w).steps
code_asks O Home i h = two_steps Home _ _ home_step O.home.steps h.home.own h.home_code.steps
code_asks O Server i h = two_steps Server _ _ server_step_asks O.server.steps h.server.own h.server_code.steps
code_asks O Panel i h = two_steps Panel _ _ panel_step O.panel.steps h.panel.own h.panel_code.steps
code_asks O Any i h = absurd (no_any i)

-- ---- what a site waits for

handler_own : (w : World) (p : ℕ) (a n v : Value) (x : State) (b : Bool) → Asked w p → IsOwnWait w (cond {A = Wait × State} b (waits.Call p a n, record x { handlers = x.handlers ++ v ∷ [] }) (waits.Stop Table, x)).0
handler_own w p a n v x true h = h
handler_own w p a n v x false h = tt

calls_own : (w : World) (p : ℕ) (a n : Value) (x : State) (b : Bool) → Asked w p → IsOwnWait w (cond {A = Wait × State} b (with_handler (second_of (two_parts x.bench.region.objects a)) (waits.Call p a n) x) (waits.Call p a n, x)).0
calls_own w p a n x true h = handler_own w p a n (second_of (two_parts x.bench.region.objects a)) x (nat_lt (length x.handlers) MOST_ITEMS) h
calls_own w p a n x false h = h

sends_own : (w : World) (label to : ℕ) (t : Ready) (x : State) (b : Bool) → Left w to → IsOwnWait w (cond {A = Wait × State} b (waits.Send (world_of to) t, x) (waits.Wrong label, x)).0
sends_own w label to t x true h = h
sends_own w label to t x false h = tt

came_own : (O : Bundle) (w : World) (o : Out) (x : State) → OutAsks (Asked w) (Left w) o → IsOwnWait w (came O o x).0
came_own O w (out.Asks p a n) x h = calls_own w p a n x (adds_handler p) h
came_own O w (out.Sends to c a label) x h = sends_own w label to (record { code = c; argument = a }) x (has_bytes O.dicts x.bench.region.objects (record { code = c; argument = a })) h
came_own O w out.Ended x h = tt
came_own O w out.Spent x h = tt
came_own O w out.FullRegion x h = tt
came_own O w out.FullTable x h = tt
came_own O w (out.Wrong label) x h = tt

led_own : (O : Bundle) (w : World) (ts : List Ready) (x : State) → IsSiteWorld w → IsObject O → IsOwnWait w (led O w ts x).0
led_own O w [] x i h = tt
led_own O w (t ∷ ts) x i h =
    let r = run (code_of O w) x.bench in came_own O w r.0 (with_bench r.1 x) (run_asks (Asked w) (Left w) (code_of O w) x.bench (code_asks O w i h))

by_own : (O : Bundle) (w : World) (due : Option Cause) (x : State) → IsSiteWorld w → IsObject O → IsOwnWait w (moved_by O w due x).0
by_own O w (Some c) x i h = tt
by_own O w None x i h = led_own O w x.bench.threads x i h

-- what a site of the object waits for is its world's own
pub moved_own : (O : Bundle) (w : World) (x y : State) (wait : Wait) → IsSiteWorld w → IsObject O → moved O w x ≡ (wait, y) → IsOwnWait w wait
unfolding moved
moved_own O w x y wait i h e = subst (λ (p : Wait × State). IsOwnWait w p.0) e (by_own O w x.due x i h)

-- ---- what it asks then

chosen : (s : ℕ) (w : World) (b : Bool) (p q : Query) → (b ≡ true → IsOwnAsk s w p) → (b ≡ false → IsOwnAsk s w q) → IsOwnAsk s w (cond b p q)
chosen s w true p q f g = f refl
chosen s w false p q f g = g refl

home_asks : (n : ℕ) → n ≤ 3 → (w : World) → Asked w n → w ≡ Home
home_asks n k Home h = refl
home_asks n k Server h = absurd (omega (arith, leb-true 4 n (and_parts (nat_le 4 n) (nat_le n 6) h).0))
home_asks n k Panel h = absurd (omega (arith, eqb-true n 7 h))
home_asks n k Any h = absurd (let wrong : false ≡ true = h in cc)

server_asks : (n : ℕ) → 4 ≤ n → n ≤ 6 → (w : World) → Asked w n → w ≡ Server
server_asks n k l Home h = absurd (omega (arith, leb-true n 3 h))
server_asks n k l Server h = refl
server_asks n k l Panel h = absurd (omega (arith, eqb-true n 7 h))
server_asks n k l Any h = absurd (let wrong : false ≡ true = h in cc)

others_ask : (n : ℕ) → 6 < n → (w : World) → Asked w n → w ≡ Panel
others_ask n k Home h = absurd (omega (arith, leb-true n 3 h))
others_ask n k Server h = absurd (omega (arith, leb-true n 6 (and_parts (nat_le 4 n) (nat_le n 6) h).1))
others_ask n k Panel h = refl
others_ask n k Any h = absurd (let wrong : false ≡ true = h in cc)

at_home : (p n : ℕ) (w : World) → n ≤ 3 → (p == n) ≡ true → Asked w p → w ≡ Home
at_home p n w k e h = home_asks p (omega (arith, eqb-true p n e)) w h

at_server : (p n : ℕ) (w : World) → 4 ≤ n → n ≤ 6 → (p == n) ≡ true → Asked w p → w ≡ Server
at_server p n w k l e h = server_asks p (omega (arith, eqb-true p n e)) (omega (arith, eqb-true p n e)) w h

called_own : (s : ℕ) (w : World) (os : List Object) (n p : ℕ) (v : Value) → Asked w p → IsOwnAsk s w (called os n p v)
called_own s w os n p v h =
    chosen s w (p == 0) _ _ (λ e. record { primitive = at_home p 0 w (omega arith) e h; sent = tt }) (λ e0.
    chosen s w (p == 1) _ _ (λ e. record { primitive = at_home p 1 w (omega arith) e h; sent = tt }) (λ e1.
    chosen s w (p == 2) _ _ (λ e. record { primitive = at_home p 2 w (omega arith) e h; sent = tt }) (λ e2.
    chosen s w (p == 3) _ _ (λ e. record { primitive = at_home p 3 w (omega arith) e h; sent = tt }) (λ e3.
    chosen s w (p == 4) _ _ (λ e. record { primitive = at_server p 4 w (omega arith) (omega arith) e h; sent = tt }) (λ e4.
    chosen s w (p == 5) _ _ (λ e. record { primitive = at_server p 5 w (omega arith) (omega arith) e h; sent = tt }) (λ e5.
    chosen s w (p == 6) _ _ (λ e. record { primitive = at_server p 6 w (omega arith) (omega arith) e h; sent = tt }) (λ e6.
    record { primitive = others_ask p (omega (arith, eqb-false p 0 e0, eqb-false p 1 e1, eqb-false p 2 e2, eqb-false p 3 e3, eqb-false p 4 e4, eqb-false p 5 e5, eqb-false p 6 e6)) w h; sent = tt })))))))

sealed_front : (seal rest : List ℕ) → starts_with nat_eq (seal ++ rest) seal ≡ true
sealed_front [] rest = refl
sealed_front (b ∷ seal) rest = rw (eq-eqb b b refl) (sealed_front seal rest)

sent_sealed : (O : Bundle) (s : ℕ) (os : List Object) (t : Option Sending) → is_some t ≡ true → starts_with nat_eq (sent_bytes O s os t) (seal_bytes s) ≡ true
sent_sealed O s os None h = absurd (let wrong : false ≡ true = h in cc)
sent_sealed O s os (Some t) h = sealed_front (seal_bytes s) (2 ∷ body_bytes O.dicts (stands_where O.dicts os t) (message_of O.dicts os (sent_from O.dicts os t) t))

-- what a site asks that waits for an answer to its own
pub query_own : (O : Bundle) (code : Flat) (s : ℕ) (w : World) (x : State) (wait : Wait) → IsOwnWait w wait → WaitFits O code x wait → IsOwnAsk s w (query O s x wait)
query_own O code s w x waits.Nothing h f = record { primitive = tt; sent = tt }
query_own O code s w x (waits.Call p a n) h f = called_own s w x.bench.region.objects (length x.handlers) p a h
query_own O code s w x (waits.Send v t) h f = record { primitive = tt; sent = (h, sent_sealed O s x.bench.region.objects (sendable_of O.dicts x.bench.region.objects t) f) }
query_own O code s w x waits.Take h f = record { primitive = tt; sent = tt }
query_own O code s w x (waits.Stop c) h f = record { primitive = tt; sent = tt }
query_own O code s w x (waits.Wrong label) h f = record { primitive = tt; sent = tt }

pub query_owns : (O : Bundle) (code : Flat) (s : ℕ) (w : World) (x : State) (wait : Wait) (q : Query) → q ≡ query O s x wait → IsOwnWait w wait → WaitFits O code x wait → IsOwnAsk s w q
query_owns O code s w x wait q e h f = subst (IsOwnAsk s w) (sym e) (query_own O code s w x wait h f)
