-- The site of closed blocks matches that of the blocks that they are made of, its moments are met, and both begin alike.
use Rattle.std.proofs.Common.{◌≡◌, ℕ, ◌+◌, inl, inr, List, [], ◌∷◌, length, Option, Some, None, Bool, true, false, if◌then◌else◌, refl, sym, ap, ◌∙◌, subst, arith, slice_get, true≢false}
use Rattle.std.specs.List.{AllZip}
use Rattle.m5_terms.specs.Machine.{goes, asks, wrong, GoesWrong}
use Rattle.m5_terms.specs.Matching.{Reaches, AsksAlike, Matches, AreMet}
use Rattle.m5_terms.specs.Related.{AnswerReads}
use Rattle.m5_terms.specs.declared.ask.AskOf.{AskOf}
use Rattle.m5_terms.specs.declared.ask.AnswerOf.{AnswerOf}
use Rattle.m5_terms.specs.declared.ask.AnswerOf.TheVariants as answer
use Rattle.m5_terms.specs.declared.types.World.{World}
use Rattle.m5_terms.specs.declared.types.World.TheVariants.{Home}
use Rattle.m5_typing.specs.Context.{Setting}
use Rattle.m5_cps.specs.Entries.{main_entry}
use Rattle.m5_cps.specs.Blocks as source
use Rattle.m5_cps.specs.Values.{closed, enter, call, thread, raw, SiteNext}
use Rattle.m5_cps.specs.Units.{text_units, array_units, closure_units, thread_units, begun_units}
use Rattle.m5_cps.specs.Deeds.{Ran, makes, ends, stops_full}
use Rattle.m5_cps.specs.Asks.{after_take, begun, begun_by, handler_thread, handler_threads}
use Rattle.m5_cps.specs.Captured.{over}
use Rattle.m5_cps.specs.Captured as cps
use Rattle.m5_cps.specs.Running as cps_running
use Rattle.m5_cps.specs.Running.{last, finish}
use Rattle.m5_cps.specs.Machine.{blocks_machine, blocks_moments, Making, point_of, is_entering}
use Rattle.m5_cps.specs.Machine as cps_machine
use Rattle.m5_cps.specs.Program.{setting_of, IsProgram}
use Rattle.m5_flat.specs.Blocks.{Blocks}
use Rattle.m5_flat.specs.Values.{under, no_values}
use Rattle.m5_flat.specs.Values as flat
use Rattle.m5_flat.specs.Running.{finish_value, ran, site_next, front, resolved}
use Rattle.m5_flat.specs.Machine.{flat_machine, flat_moments, opening_site, opening_threads}
use Rattle.m5_close.specs.Close.{no_kinds, IsClosed}
use Rattle.m5_close.specs.Reading.{Reads, ReadsThread, ReadsItem, ReadsSite}
use Rattle.m5_close.specs.Closing.{closing, met, ClosedGoOn}
use Rattle.m5_close.proofs.Slots.{same_units}
use Rattle.m5_close.proofs.Heads.{NextReads, RanReads, OptionReads, by_answers, point_same, stops_reads, same_length, append_reads, get_reads}
use Rattle.m5_close.proofs.Entering.{resolves, starts}

module _ (C0 : source.Blocks) (B : Blocks) (d : IsProgram C0) (made : IsClosed C0 B) where
  abbrev E : Setting
  E = setting_of C0

  abbrev L : List ℕ
  L = made.labels

  same_thread : (th : flat.Thread) (ti : cps.Thread) → ReadsThread E B L th ti → thread_units flat.value_units th ≡ thread_units cps.value_units ti
  same_thread (enter k x) (enter l y) r = omega (arith, same_units E B L k l r.0, same_units E B L x y r.1)
  same_thread (call f x k) (call g y l) r = omega (arith, same_units E B L f g r.0, same_units E B L x y r.1, same_units E B L k l r.2)
  same_thread (enter k x) (call g y l) r = absurd r
  same_thread (call f x k) (enter l y) r = absurd r

  finishes : Reads E B L (finish_value B) finish
  finishes = ((no_kinds, made.finish), refl, (λ j h. refl), (λ l h. refl), (λ j l e. absurd (cc (e))))

  begins : (t : flat.Site) (s : cps.Site) (c e : ℕ) (xs : List flat.Thread) (ys : List cps.Thread) → ReadsSite E B L t s → c ≡ e → AllZip (ReadsThread E B L) xs ys → ReadsSite E B L (begun t c xs) (begun s e ys)
  begins t s c e xs ys h q r = record { threads = append_reads (ReadsThread E B L) t.threads s.threads xs ys h.threads r; cells = h.cells; handlers = h.handlers; entered = h.entered; units = ap (λ z. z + c) h.units ∙ ap (λ z. s.units + z) q; stopped = h.stopped }

  handler_one : (y : List ℕ) (a : Option flat.Value) (c : Option cps.Value) → OptionReads (Reads E B L) a c → AllZip (ReadsThread E B L) (handler_thread (finish_value B) y a) (handler_thread finish y c)
  handler_one y None None r = tt
  handler_one y None (Some c) r = absurd r
  handler_one y (Some a) None r = absurd r
  handler_one y (Some a) (Some c) r = ((r, (refl, tt), finishes), tt)

  handler_all : (t : flat.Site) (s : cps.Site) (is : List ℕ) (y : List ℕ) → ReadsSite E B L t s → AllZip (ReadsThread E B L) (handler_threads (finish_value B) t is y) (handler_threads finish s is y)
  handler_all t s [] y h = tt
  handler_all t s (i ∷ is) y h = append_reads (ReadsThread E B L) (handler_thread (finish_value B) y (slice_get t.handlers i)) (handler_thread finish y (slice_get s.handlers i)) _ _ (handler_one y (slice_get t.handlers i) (slice_get s.handlers i) (get_reads (Reads E B L) t.handlers s.handlers i h.handlers)) (handler_all t s is y h)

  same_begun : (b : ℕ) (xs : List flat.Thread) (ys : List cps.Thread) → AllZip (ReadsThread E B L) xs ys → begun_units b xs ≡ begun_units b ys
  same_begun b [] [] r = refl
  same_begun b [] (y ∷ ys) r = absurd r
  same_begun b (x ∷ xs) [] r = absurd r
  same_begun b (x ∷ xs) (y ∷ ys) r = ap (λ n. (text_units b + (closure_units 0 + array_units)) + n) (same_begun b xs ys r.1)

  messages : (t : flat.Site) (s : cps.Site) → ReadsSite E B L t s → (v : World) (i : flat.Item) (j : cps.Item) → ReadsItem E B L i j → OptionReads (ReadsSite E B L) (after_take flat.value_units (finish_value B) t (answer.Message v i)) (after_take cps.value_units finish s (answer.Message v j))
  messages t s h v (thread a) (thread b) r = begins t s (thread_units flat.value_units a) (thread_units cps.value_units b) (a ∷ []) (b ∷ []) h (same_thread a b r) (r, tt)
  messages t s h v (raw a) (raw b) r = h
  messages t s h v (thread a) (raw b) r = absurd r
  messages t s h v (raw a) (thread b) r = absurd r

  events : (t : flat.Site) (s : cps.Site) (is y : List ℕ) → ReadsSite E B L t s → OptionReads (ReadsSite E B L) (begun_by (finish_value B) t is y) (begun_by finish s is y)
  events t s is y h = let r = handler_all t s is y h in begins t s _ _ (handler_threads (finish_value B) t is y) (handler_threads finish s is y) h (same_begun (length y) (handler_threads (finish_value B) t is y) (handler_threads finish s is y) r) r

  takes : (t : flat.Site) (s : cps.Site) → ReadsSite E B L t s → (b : AnswerOf flat.Item) (c : AnswerOf cps.Item) → AnswerReads (ReadsItem E B L) b c → OptionReads (ReadsSite E B L) (after_take flat.value_units (finish_value B) t b) (after_take cps.value_units finish s c)
  takes t s h = by_answers E B L (λ b c. OptionReads (ReadsSite E B L) (after_take flat.value_units (finish_value B) t b) (after_take cps.value_units finish s c)) tt (λ y. tt) tt (messages t s h) (λ k n y. events t s (n ∷ []) y h) (λ e ns y. events t s ns y h) tt

  module _ (u : World) where
    fronts : (t : flat.Site) (s : cps.Site) (xs : List flat.Thread) (ys : List cps.Thread) → ReadsSite E B L t s → AllZip (ReadsThread E B L) xs ys → RanReads E B L (front B u t xs) (cps_running.front C0 u s ys)
    fronts t s [] [] h r = (refl, takes t s h)
    fronts t s [] (y ∷ ys) h r = absurd r
    fronts t s (x ∷ xs) [] h r = absurd r
    fronts t s (x ∷ xs) (y ∷ ys) h r = starts C0 B d made u (record t { threads = xs }) (record s { threads = ys }) (resolved B x) (cps_running.resolved C0 y) (record { threads = r.1; cells = h.cells; handlers = h.handlers; entered = h.entered; units = h.units; stopped = h.stopped }) (resolves C0 B d made x y r.0)

    -- both sites run alike
    rans : (t : flat.Site) (s : cps.Site) → ReadsSite E B L t s → RanReads E B L (ran B u t) (cps_running.ran C0 u s)
    rans t s h = subst (λ b. RanReads E B L (ran B u t) (if b then stops_full s else cps_running.front C0 u s s.threads)) h.stopped (by_flag t.stopped)
      where
        by_flag : (b : Bool) → RanReads E B L (if b then stops_full t else front B u t t.threads) (if b then stops_full s else cps_running.front C0 u s s.threads)
        by_flag true = stops_reads E B L t s h
        by_flag false = fronts t s t.threads s.threads h h.threads

    ends_alike : (x : Ran flat.Closure) (y : Ran cps.Closure) → RanReads E B L x y → NextReads E B L (last x) (last y)
    ends_alike (makes p x) (makes q y) r = ends_alike x y r.1
    ends_alike (ends a) (ends b) r = r
    ends_alike (makes p x) (ends b) r = absurd r
    ends_alike (ends a) (makes q y) r = absurd r

    nexts : (t : flat.Site) (s : cps.Site) → ReadsSite E B L t s → NextReads E B L (site_next B u t) (cps_running.site_next C0 u s)
    nexts t s h = ends_alike (ran B u t) (cps_running.ran C0 u s) (rans t s h)

    steps : (to : flat.Site) (s : cps.Site) (n : SiteNext cps.Closure) → cps_running.site_next C0 u s ≡ n → NextReads E B L (goes to) n → Reaches (blocks_machine C0 u) (flat_machine B u) (closing C0 B L u) to s
    steps to s (goes at) e r = record { steps = 1; at = at; comes = (at, e, refl); reads = r }
    steps to s (asks q f) e r = absurd r
    steps to s wrong e r = absurd r

    resumes : (x : Option flat.Site) (y : Option cps.Site) (to : flat.Site) → OptionReads (ReadsSite E B L) x y → x ≡ Some to → (at : cps.Site) × (y ≡ Some at) × ReadsSite E B L to at
    resumes None None to r e = absurd (cc (e))
    resumes None (Some at) to r e = absurd r
    resumes (Some z) None to r e = absurd r
    resumes (Some z) (Some at) to r e = let q : z ≡ to = cc (e) in (at, refl, subst (λ w. ReadsSite E B L w at) q r)

    asking : (t : flat.Site) (a : AskOf flat.Item) (resume : AnswerOf flat.Item → Option flat.Site) (s : cps.Site) (n : SiteNext cps.Closure) → cps_running.site_next C0 u s ≡ n → NextReads E B L (asks a resume) n → AsksAlike (blocks_machine C0 u) (flat_machine B u) (closing C0 B L u) t a resume s
    asking t a resume s (asks q f) e r = record { steps = 0; waiting = s; comes = refl; ask = q; resume = f; asking = e; reads = r.0; lawful = λ b c x y. tt; after = λ b to c x y z. resumes (resume b) (f c) to (r.1 b c x) z }
    asking t a resume s (goes at) e r = absurd r
    asking t a resume s wrong e r = absurd r

    stuck : (s : cps.Site) (n : SiteNext cps.Closure) → cps_running.site_next C0 u s ≡ n → NextReads E B L wrong n → GoesWrong (blocks_machine C0 u) s
    stuck s wrong e r = record { steps = 0; at = s; comes = refl; stuck = e }
    stuck s (goes at) e r = absurd r
    stuck s (asks q f) e r = absurd r

    pub closed_matches : Matches (blocks_machine C0 u) (flat_machine B u) (closing C0 B L u)
    closed_matches = record {
      on_step = λ t to s h e. inr (steps to s (cps_running.site_next C0 u s) refl (subst (λ x. NextReads E B L x (cps_running.site_next C0 u s)) e (nexts t s h)));
      on_ask = λ t a resume s h e. inr (asking t a resume s (cps_running.site_next C0 u s) refl (subst (λ x. NextReads E B L x (cps_running.site_next C0 u s)) e (nexts t s h)));
      on_wrong = λ t s h e. stuck s (cps_running.site_next C0 u s) refl (subst (λ x. NextReads E B L x (cps_running.site_next C0 u s)) e (nexts t s h));
    }

    -- the same objects are made
    points : (x : Ran flat.Closure) (y : Ran cps.Closure) → RanReads E B L x y → (m : Making x) → (n : Making y) × (point_of x m ≡ point_of y n)
    points (makes p x) (makes q y) r (inl i) = (inl tt, r.0)
    points (makes p x) (makes q y) r (inr i) = let z = points x y r.1 i in (inr z.0, z.1)
    points (makes p x) (ends b) r m = absurd r
    points (ends a) (makes q y) r m = absurd r
    points (ends a) (ends b) r m = absurd m

    enters_too : (b : Bool) (xs : List flat.Thread) (ys : List cps.Thread) → AllZip (ReadsThread E B L) xs ys → is_entering b xs ≡ true → is_entering b ys ≡ true
    enters_too true xs ys r e = absurd (true≢false (sym e))
    enters_too false [] [] r e = absurd (true≢false (sym e))
    enters_too false [] (y ∷ ys) r e = absurd r
    enters_too false (x ∷ xs) [] r e = absurd r
    enters_too false (x ∷ xs) (y ∷ ys) r e = refl

    pub closed_meets : AreMet (blocks_machine C0 u) (flat_machine B u) (closing C0 B L u) (blocks_moments C0 u) (flat_moments B u) (met C0 B u)
    closed_meets t s h (inl e) = inr (record {
      steps = 0;
      at = s;
      comes = refl;
      moment = inl (subst (λ b. is_entering b s.threads ≡ true) h.stopped (enters_too t.stopped t.threads s.threads h.threads e));
      met = (h.entered, point_same _ _ _ _ _ _ _ _ h.units (same_length _ _ _ h.threads) (same_length _ _ _ h.cells) (same_length _ _ _ h.handlers));
    })
    closed_meets t s h (inr m) = let z = points (ran B u t) (cps_running.ran C0 u s) (rans t s h) m in inr (record { steps = 0; at = s; comes = refl; moment = inr z.0; met = (h.entered, z.1) })

  begins_as : (u : World) → AllZip (ReadsThread E B L) (opening_threads B u) (cps_machine.opening_threads C0 u) → ReadsSite E B L (opening_site (opening_threads B u)) (cps_machine.opening_site (cps_machine.opening_threads C0 u))
  begins_as u h = record { threads = h; cells = tt; handlers = tt; entered = refl; units = refl; stopped = refl }

  main_reads : Reads E B L (closed (under B.main 0) no_values) (closed (over main_entry 0 C0.main) cps_running.no_values)
  main_reads = ((no_kinds, made.main), refl, (λ j h. refl), (λ l h. refl), (λ j l e. absurd (cc (e))))

  pub closed_opens : (u : World) → ReadsSite E B L (opening_site (opening_threads B u)) (cps_machine.opening_site (cps_machine.opening_threads C0 u))
  closed_opens Home = begins_as Home ((main_reads, (refl, tt)), tt)
  closed_opens u = begins_as u tt

pub closed_go_on : ClosedGoOn
closed_go_on C0 B d made = record { functions = made.labels; opens = closed_opens C0 B d made; matches = closed_matches C0 B d made; meets = closed_meets C0 B d made }
