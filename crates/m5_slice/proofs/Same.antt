-- At a typed state a slice's site does what the program's site does, and stays typed.
use Rattle.std.proofs.Common.{◌≡◌, ◌≢◌, inl, inr, ℕ, zero, suc, true, if◌then◌else◌, List, [], ◌∷◌, slice_get, Option, Some, refl, sym, ap, ◌∙◌, subst}
use Rattle.std.specs.List.{AllByRecursion as Each}
use Rattle.m5_terms.specs.Playing.{PlaysAlwaysFully}
use Rattle.m5_terms.proofs.Played.{plays-always, plays-fully}
use Rattle.m5_terms.specs.Machine.{Comes, Exchange, Behaves, GoesWrong, IsSound, goes, asks, wrong}
use Rattle.m5_terms.specs.Matching.{Matches, AreMet, MeetsAt}
use Rattle.m5_terms.specs.declared.ask.AskOf.{AskOf}
use Rattle.m5_terms.specs.declared.ask.AnswerOf.{AnswerOf}
use Rattle.m5_terms.specs.declared.ask.AnswerOf.TheVariants as answer
use Rattle.m5_terms.specs.declared.types.World.{World}
use Rattle.m5_terms.specs.declared.types.World.TheVariants.{Home, Server, Panel, Any}
use Rattle.m5_terms.specs.declared.form.LeafForm.TheVariants as leaf_form
use Rattle.m5_terms.specs.Worlds.{IsSiteWorld}
use Rattle.m5_terms.proofs.SiteWorlds.{is-real}
use Rattle.m5_typing.specs.Context.{CellTypes}
use Rattle.m5_site_sound.specs.Settings.{Grows}
use Rattle.m5_site_sound.proofs.Growth.{grows-self}
use Rattle.m5_cps.specs.Entries.{world_of, entry_mode}
use Rattle.m5_cps.specs.Values.{atom, wrap, join, closed, enter, call, Item, thread, raw, SiteNext}
use Rattle.m5_cps.specs.Deeds.{Ran, stops_full}
use Rattle.m5_cps.specs.Running.{last}
use Rattle.m5_cps_typing.specs.States.{Stands, ThreadFits, SiteFits, ReplyFits, NextFits}
use Rattle.m5_cps_typing.proofs.Deeds.{threads_grown}
use Rattle.m5_flat.specs.Blocks.{Block, Blocks}
use Rattle.m5_flat.specs.Blocks as blocks
use Rattle.m5_cps.specs.Blocks.{done}
use Rattle.m5_flat.specs.Values.{Closure, under, Thread, Site}
use Rattle.m5_flat.specs.Running.{Entered, with_block, enter_block, call_block, resolved, started, front, ran, site_next}
use Rattle.m5_flat.specs.Machine.{flat_machine, flat_moments, opening_site, opening_threads}
use Rattle.m5_flat.specs.Moments.{Moment, IsMet}
use Rattle.m5_flat.specs.Fits.{no_setting}
use Rattle.m5_flat.specs.Program.{IsProgram}
use Rattle.m5_flat_typing.specs.Closures.{ClosureFits}
use Rattle.m5_flat_typing.proofs.Environments.{closure_laws}
use Rattle.m5_flat_typing.proofs.Entered.{thread_runs}
use Rattle.m5_flat_typing.proofs.Sites.{next_fits, opening_fits}
use Rattle.m5_hoist.proofs.Same.{asks_itself, answered_itself}
use Rattle.m5_dictionary.specs.Dictionaries.{stands_at}
use Rattle.m5_flat.specs.Table.{blocks_of}
use Rattle.m5_slice.specs.declared.slices.Slices.{Slices}
use Rattle.m5_slice.specs.Slicing.{cut_code, cut}
use Rattle.m5_slice.specs.code.Slices.{slice_at}
use Rattle.m5_slice.specs.Machine.{IsAnswerTo, IsTyped, IsLawful, typed_machine}
use Rattle.m5_slice.specs.Going.{ReadsTyped, itself, met, GoesOnAs, SlicedGoOn}
use Rattle.m5_slice.proofs.Cutting.{stands_itself, cut_there}
use Rattle.m5_slice.proofs.Alike.{bare, Alike, entered_alike, called_alike}

-- a block that may run at a world stands there
pub stands_there : (u v : World) → Stands u v → stands_at v u ≡ true
stands_there u v (inl e) = subst (λ w. stands_at v w ≡ true) e (stands_itself v)
stands_there u v (inr e) = subst (λ w. stands_at w u ≡ true) (sym e) refl

module _ (B : Blocks) (d : IsProgram B) (u : World) (site : u ≢ Any) where
  abbrev C : Blocks
  C = cut u B

  abbrev Fits : CellTypes → Site → Type 0
  Fits L s = SiteFits (ClosureFits B d.environments) no_setting L u s

  abbrev Begins : Site → Option Entered → Option Entered → Type 0
  Begins s o q = Alike B d u (started C u s o) (started B u s q) (started B u (bare B d u s) q)

  abbrev uncut_block : Block → Block
  uncut_block b = record b { code = cut_code u b.code }

  -- a block that may run here is in the slice
  there : (i : ℕ) (b : Block) → slice_get B.table i ≡ Some b → Stands u (world_of (entry_mode b.entry)) → slice_get C.table i ≡ Some (uncut_block b)
  there i b g st = cut_there u B.table i b g ∙ ap (λ q. Some (record b { code = if q then cut_code u b.code else blocks.ends done })) (stands_there u (world_of (entry_mode b.entry)) st)

  begins : (L : CellTypes) (s : Site) (th : Thread) → ThreadFits (ClosureFits B d.environments) no_setting L u th → Begins s (resolved C th) (resolved B th)
  begins L s (enter (closed (under i k) ρ) x) h =
      let c = h.1 in
      subst (λ o. Begins s (with_block o (enter_block i k ρ x)) (with_block (slice_get B.table i) (enter_block i k ρ x))) (sym (there i c.block c.at c.stands))
      (subst (λ q. Begins s (with_block (Some (uncut_block c.block)) (enter_block i k ρ x)) (with_block q (enter_block i k ρ x))) (sym c.at) (entered_alike B d u s i k ρ x c.block.entry c.block.code))
  begins L s (enter (atom f) x) h = inl refl
  begins L s (enter (wrap f a) x) h = inl refl
  begins L s (enter (join f a b) x) h = inl refl
  begins L s (call (closed (under i k) ρ) x j) h =
      let c = h.2 in
      subst (λ o. Begins s (with_block o (call_block i k ρ x j)) (with_block (slice_get B.table i) (call_block i k ρ x j))) (sym (there i c.block c.at c.stands))
      (subst (λ q. Begins s (with_block (Some (uncut_block c.block)) (call_block i k ρ x j)) (with_block q (call_block i k ρ x j))) (sym c.at) (called_alike B d u s i k ρ x j c.block.entry c.block.code))
  begins L s (call (atom (leaf_form.Extern p)) x j) h = inl refl
  begins L s (call (atom _) x j) h = inl refl
  begins L s (call (wrap f a) x j) h = inl refl
  begins L s (call (join f a b) x j) h = inl refl

  thread_same : (L : CellTypes) (s : Site) (th : Thread) → ThreadFits (ClosureFits B d.environments) no_setting L u th → Fits L s → started C u s (resolved C th) ≡ started B u s (resolved B th)
  thread_same L s th h t = elim (begins L s th h) [
    | inl e ↦ e
    | inr r ↦ absurd (r L (thread_runs B d.environments d.blocks d.primitives u site L (bare B d u s) th h (t.0, t.1, tt)))
  ]

  front_same : (L : CellTypes) (s : Site) (ths : List Thread) → Each (ThreadFits (ClosureFits B d.environments) no_setting L u) ths → Fits L s → front C u s ths ≡ front B u s ths
  front_same L s [] h t = refl
  front_same L s (th ∷ ths) h t = thread_same L (record s { threads = ths }) th h.0 (h.1, t.1, t.2)

  -- both make the same objects and do the same next
  pub ran_same : (L : CellTypes) (s : Site) → Fits L s → ran C u s ≡ ran B u s
  ran_same L s t = ap (λ r. if s.stopped then stops_full s else r) (front_same L s s.threads t.0 t)

  pub next_same : (L : CellTypes) (s : Site) → Fits L s → site_next C u s ≡ site_next B u s
  next_same L s t = ap last (ran_same L s t)

  -- what the program's site does, where the slice's does it
  does : (t s : Site) (x : SiteNext Closure) → ReadsTyped B d u t s → site_next C u t ≡ x → site_next B u s ≡ x
  does t s x r e = sym (next_same r.typed.cells s r.typed.site) ∙ ap (site_next C u) (sym r.same) ∙ e

  next_typed : (L : CellTypes) (s : Site) (x : SiteNext Closure) → Fits L s → site_next B u s ≡ x → NextFits (ClosureFits B d.environments) no_setting L u x
  next_typed L s x t e = subst (NextFits (ClosureFits B d.environments) no_setting L u) e (next_fits B d u site L s t)

  reply_grown : (L N : CellTypes) → Grows L N → (r : AnswerOf (Item Closure)) → ReplyFits (ClosureFits B d.environments) no_setting L u r → ReplyFits (ClosureFits B d.environments) no_setting N u r
  reply_grown L N g (answer.Message v (thread th)) h = threads_grown (ClosureFits B d.environments) (closure_laws B d.environments) no_setting u L N g th h
  reply_grown L N g (answer.Message v (raw bytes)) h = tt
  reply_grown L N g (answer.Found t) h = h
  reply_grown L N g (answer.Fired k n t) h = h
  reply_grown L N g (answer.Event e ns t) h = h
  reply_grown L N g answer.Done h = tt
  reply_grown L N g answer.Missing h = tt
  reply_grown L N g answer.Nothing h = tt

  -- what a lawful answer makes of a typed state is typed
  answered_typed : (s : Site) (q : AskOf (Item Closure)) (resume : AnswerOf (Item Closure) → Option Site) (c : AnswerOf (Item Closure)) (to : Site) → site_next B u s ≡ asks q resume → IsLawful B d u s c → resume c ≡ Some to → IsTyped B d u to
  answered_typed s q resume c to e l f =
      let n = next_typed l.cells s (asks q resume) l.site e in
      let a = n.typed.1 n.cells c (grows-self n.cells) refl (subst (λ x. IsAnswerTo x c) e l.fits) (reply_grown l.cells n.cells n.grows.0 c l.typed) in
      let z : a.0 ≡ to = (let y : Some a.0 ≡ Some to = sym a.1 ∙ f in cc) in
      record { cells = n.cells; site = subst (Fits n.cells) z a.2 }

  slice_matches : Matches (typed_machine B d u) (flat_machine C u) (itself B d C u)
  slice_matches = record {
    on_step = λ t to s r e.
        let b = does t s (goes to) r e in
        let n = next_typed r.typed.cells s (goes to) r.typed.site b in
        inr (record { steps = 1; at = to; comes = (to, b, refl); reads = record { same = refl; typed = record { cells = n.cells; site = n.typed } } });
    on_ask = λ t a resume s r e.
        let b = does t s (asks a resume) r e in
        inr (record {
          steps = 0;
          waiting = s;
          comes = refl;
          ask = a;
          resume = resume;
          asking = b;
          reads = asks_itself a;
          lawful = λ x c h l. tt;
          after = λ x to c h l f.
              let g : resume c ≡ Some to = ap resume (answered_itself x c h) ∙ f in
              (to, g, record { same = refl; typed = answered_typed s a resume c to b l g });
        });
    on_wrong = λ t s r e. absurd ((next_typed r.typed.cells s wrong r.typed.site (does t s wrong r e)).typed);
  }

  met_self : (s : Site) (r : Ran Closure) (m : Moment s r) → IsMet s r s r m m
  met_self s r (inl e) = (refl, refl)
  met_self s r (inr i) = (refl, refl)

  moment_same : (s : Site) (r q : Ran Closure) → r ≡ q → (m : Moment s r) → (x : Moment s q) × IsMet s r s q m x
  moment_same s r q e = subst (λ p. (m : Moment s r) → (x : Moment s p) × IsMet s r s p m x) e (λ m. (m, met_self s r m))

  slice_meets : AreMet (typed_machine B d u) (flat_machine C u) (itself B d C u) (flat_moments B u) (flat_moments C u) (met B d C u)
  slice_meets t s r m = inr (subst (λ y. (n : flat_moments C u y) → MeetsAt (typed_machine B d u) (flat_machine C u) (flat_moments B u) (flat_moments C u) (met B d C u) y n s) (sym r.same) at m)
    where
      at : (n : flat_moments C u s) → MeetsAt (typed_machine B d u) (flat_machine C u) (flat_moments B u) (flat_moments C u) (met B d C u) s n s
      at n = let x = moment_same s (ran C u s) (ran B u s) (ran_same r.typed.cells s r.typed.site) n in record { steps = 0; at = s; comes = refl; moment = x.0; met = x.1 }

  -- no lawful answers make a typed state wrong
  came_typed : (n : ℕ) (s to : Site) → IsTyped B d u s → Comes (site_next B u) n s to → IsTyped B d u to
  came_typed zero s to t c = subst (IsTyped B d u) c t
  came_typed (suc n) s to t c =
      let m = next_typed t.cells s (goes c.0) t.site c.1 in
      came_typed n c.0 to (record { cells = m.cells; site = m.typed }) c.2

  behaved_typed : (xs : List (Exchange (typed_machine B d u))) (s to : Site) → IsTyped B d u s → Behaves (typed_machine B d u) xs s to → IsTyped B d u to
  behaved_typed [] s to t b = subst (IsTyped B d u) b t
  behaved_typed (x ∷ xs) s to t b = behaved_typed xs b.0 to (answered_typed b.1.waiting x.ask b.1.resume x.answer b.0 b.1.asking b.1.lawful b.1.resumed) b.2

  right : (s : Site) → IsTyped B d u s → GoesWrong (typed_machine B d u) s → ⊥
  right s t g = let y = came_typed g.steps s g.at t g.comes in (next_typed y.cells g.at wrong y.site g.stuck).typed

  sound : (s : Site) → IsTyped B d u s → IsSound (typed_machine B d u) s
  sound s t f = right f.at (behaved_typed f.exchanges s f.at t f.behaves) f.goes_wrong

  slice_plays : (t s : Site) → ReadsTyped B d u t s → PlaysAlwaysFully (typed_machine B d u) (flat_machine C u) (itself B d C u) (flat_moments B u) (flat_moments C u) (met B d C u) t s
  slice_plays t s r =
      plays-fully (typed_machine B d u) (flat_machine C u) (itself B d C u) (flat_moments B u) (flat_moments C u) (met B d C u) t s (sound s r.typed)
      (plays-always (typed_machine B d u) (flat_machine C u) (itself B d C u) (flat_moments B u) (flat_moments C u) (met B d C u) slice_matches slice_meets t s r)

same_opening : (B : Blocks) (u : World) → opening_threads (cut u B) u ≡ opening_threads B u
same_opening B Home = refl
same_opening B Server = refl
same_opening B Panel = refl
same_opening B Any = refl

opens : (B : Blocks) (d : IsProgram B) (u : World) → u ≢ Any → ReadsTyped B d u (opening_site (opening_threads (cut u B) u)) (opening_site (opening_threads B u))
opens B d u site = record { same = ap opening_site (same_opening B u); typed = record { cells = λ w. []; site = opening_fits B d u site } }

pub sliced_go_on : SlicedGoOn
sliced_go_on B d u site = record {
  opens = opens B d u site;
  same = λ s t. ran_same B d u site t.cells s t.site;
  matches = slice_matches B d u site;
  meets = slice_meets B d u site;
  plays = slice_plays B d u site _ _ (opens B d u site);
}

-- each world's slice is the cut there
abbrev pub AreSlices : Blocks → Slices → Type 0
AreSlices B s = (w : World) → IsSiteWorld w → blocks_of (slice_at s w) ≡ cut w B

pub are_slices : (B : Blocks) (s : Slices) → blocks_of s.home ≡ cut Home B → blocks_of s.server ≡ cut Server B → blocks_of s.panel ≡ cut Panel B → AreSlices B s
are_slices B s h v p Home i = h
are_slices B s h v p Server i = v
are_slices B s h v p Panel i = p
are_slices B s h v p Any i = absurd (is-real Any i refl)

pub slices_go_on : (B : Blocks) (s : Slices) → AreSlices B s → (d : IsProgram B) (w : World) → IsSiteWorld w → GoesOnAs B d (blocks_of (slice_at s w)) w
slices_go_on B s a d w i = subst (λ C. GoesOnAs B d C w) (sym (a w i)) (sliced_go_on B d w (is-real w i))
