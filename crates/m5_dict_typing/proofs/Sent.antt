-- What a site sends is a thread that enters a closure.
use Rattle.std.proofs.Common.{ℕ, zero, suc, Bool, true, false, if◌then◌else◌, List, [], ◌∷◌, length, Option, Some, None, slice_get}
use Rattle.std.specs.Prelude.{nat_le}
use Rattle.m5_terms.specs.Machine.{goes, asks, wrong}
use Rattle.m5_terms.specs.TypeExpression.{same_world}
use Rattle.m5_terms.specs.declared.ask.AskOf.{AskOf}
use Rattle.m5_terms.specs.declared.ask.AskOf.TheVariants as query
use Rattle.m5_terms.specs.declared.types.World.{World}
use Rattle.m5_terms.specs.declared.types.Primitive.{Primitive}
use Rattle.m5_terms.specs.declared.types.Primitive.TheVariants as primitive
use Rattle.m5_terms.specs.declared.form.LeafForm.TheVariants as leaf_form
use Rattle.m5_meaning.specs.Step.{is_full}
use Rattle.m5_cps.specs.Blocks.{Straight, constant, one, two, unheld, unsham, spawn, Test, if_true, if_left, if_nil, if_here, Ending, go, ask, send, done}
use Rattle.m5_cps.specs.Blocks as cps
use Rattle.m5_cps.specs.Values.{left, right, held, sham, pair, cons, atom, wrap, join, enter, call, thread, raw, put, put_all, filled_by, SiteNext}
use Rattle.m5_cps.specs.Units.{leaf_units}
use Rattle.m5_cps.specs.Made.{Made, gives, makes_text, makes_cell, loads, stores, fails, made_by_one, made_by_two, one_units, two_units}
use Rattle.m5_cps.specs.Deeds.{Ran, makes, ends, taking_some, loaded, stored, did, opened_held, opened_sham, performed, tested}
use Rattle.m5_cps.specs.Asks.{asked, adds_handler, sent}
use Rattle.m5_cps.specs.Running.{last}
use Rattle.m5_flat.specs.Blocks.{Code, straight, closure, test, Blocks}
use Rattle.m5_flat.specs.Blocks as block
use Rattle.m5_flat.specs.Values.{Closure, Value, Thread, Item, Site}
use Rattle.m5_flat.specs.Running.{primitive_of, asks_or_calls, ended, run, Entered, resolved, started, front, ran, site_next}

abbrev pub AskEnters : AskOf Item → Type 0
AskEnters (query.Send v (thread (enter k x))) = Unit {0}
AskEnters (query.Send v (thread (call f x j))) = ⊥
AskEnters (query.Send v (raw bytes)) = ⊥
AskEnters _ = Unit {0}

abbrev pub NextEnters : SiteNext Closure → Type 0
NextEnters (goes s) = Unit {0}
NextEnters (asks q resume) = AskEnters q
NextEnters wrong = Unit {0}

abbrev RunEnters : Ran Closure → Type 0
RunEnters (makes p r) = RunEnters r
RunEnters (ends x) = NextEnters x

abbrev Goes : (Site → Value → Ran Closure) → Type 0
Goes f = (s : Site) (a : Value) → RunEnters (f s a)

either : (b : Bool) (r q : Ran Closure) → RunEnters r → RunEnters q → RunEnters (if b then r else q)
either true r q h k = h
either false r q h k = k

after_units : (c : ℕ) (s : Site) (f : Site → Ran Closure) → ((s : Site) → RunEnters (f s)) → RunEnters (taking_some c s f)
after_units zero s f h = h s
after_units (suc c) s f h = h _

done_enters : (u : World) (s : Site) (m : Made Closure) (f : Site → Value → Ran Closure) → Goes f → RunEnters (did u s m f)
done_enters u s (gives a) f h = h s a
done_enters u s (makes_text t) f h = h s _
done_enters u s (makes_cell a) f h = either (is_full s.cells) _ _ tt (h _ _)
done_enters u s (loads n) f h = by (slice_get s.cells n)
  where
    by : (o : Option Value) → RunEnters (loaded s f o)
    by None = tt
    by (Some a) = h s a
done_enters u s (stores n a) f h = by (slice_get s.cells n)
  where
    by : (o : Option Value) → RunEnters (stored s f n a o)
    by None = tt
    by (Some old) = h _ _
done_enters u s fails f h = tt

held_enters : (a : Value) (f : Value → Ran Closure) → ((a : Value) → RunEnters (f a)) → RunEnters (opened_held a f)
held_enters (wrap (held w) a) f h = h a
held_enters _ f h = tt

sham_enters : (a : Value) (f : Value → Ran Closure) → ((a : Value) → RunEnters (f a)) → RunEnters (opened_sham a f)
sham_enters (wrap sham a) f h = h a
sham_enters _ f h = tt

performed_enters : (u : World) (y : Straight) (ρ : ℕ → Value) (s : Site) (f : Site → Value → Ran Closure) → Goes f → RunEnters (performed u y ρ s f)
performed_enters u (constant y) ρ s f h = after_units (leaf_units y) s _ (λ t. h t _)
performed_enters u (one y x) ρ s f h = let m = made_by_one u y (ρ x) in after_units (one_units y m) s _ (λ t. done_enters u t m f h)
performed_enters u (two y x z) ρ s f h = let m = made_by_two u y (ρ x) (ρ z) in after_units (two_units y m) s _ (λ t. done_enters u t m f h)
performed_enters u (unheld x) ρ s f h = held_enters (ρ x) (f s) (h s)
performed_enters u (unsham x) ρ s f h = sham_enters (ρ x) (f s) (h s)
performed_enters u (spawn x) ρ s f h = either (nat_le 4096 (suc (length s.threads))) _ _ tt (h _ _)

tested_enters : (u : World) (t : Test) (a : Value) (f g : List Value → Ran Closure) → ((parts : List Value) → RunEnters (f parts)) → ((parts : List Value) → RunEnters (g parts)) → RunEnters (tested u t a f g)
tested_enters u if_true (atom (leaf_form.Bool true)) f g h k = h _
tested_enters u if_true (atom (leaf_form.Bool false)) f g h k = k _
tested_enters u if_left (wrap (left T) a) f g h k = h _
tested_enters u if_left (wrap (right T) a) f g h k = k _
tested_enters u if_nil (atom (leaf_form.Nil A)) f g h k = h _
tested_enters u if_nil (join cons a b) f g h k = k _
tested_enters u if_here (atom (leaf_form.Addr v)) f g h k = either (same_world v u) _ _ (h _) (k _)
tested_enters u t a f g h k = tt

handler_enters : (s : Site) (q : ℕ → AskOf Item) (a k : Value) → ((n : ℕ) → AskEnters (q n)) → RunEnters (adds_handler s q a k)
handler_enters s q a k h = either (is_full s.handlers) _ _ tt (h _)

asked_enters : (s : Site) (k : Value) (p : Primitive) (a : Value) → RunEnters (asked s k p a)
asked_enters s k primitive.Say (atom (leaf_form.Str t)) = tt
asked_enters s k primitive.SetText (join pair (atom (leaf_form.Str e)) (atom (leaf_form.Str t))) = tt
asked_enters s k primitive.GetText (atom (leaf_form.Str e)) = tt
asked_enters s k primitive.On (join pair (atom (leaf_form.Str e)) h) = handler_enters s (query.On e) h k (λ n. tt)
asked_enters s k primitive.Read (atom (leaf_form.Str e)) = tt
asked_enters s k primitive.Write (join pair (atom (leaf_form.Str e)) (atom (leaf_form.Str t))) = tt
asked_enters s k primitive.Watch (join pair (atom (leaf_form.Str e)) h) = handler_enters s (query.Watch e) h k (λ n. tt)
asked_enters s k primitive.Show (atom (leaf_form.Str t)) = tt
asked_enters s k p a = tt

sent_enters : (s : Site) (a k x : Value) → RunEnters (sent s a (enter k x))
sent_enters s (atom (leaf_form.Addr v)) k x = tt
sent_enters s a k x = tt

ended_enters : (B : Blocks) (e : Ending) (ρ : ℕ → Value) (s : Site) → RunEnters (ended B e ρ s)
ended_enters B (go k x) ρ s = tt
ended_enters B (cps.call f x k) ρ s = by (primitive_of B (ρ f))
  where
    by : (o : Option Primitive) → RunEnters (asks_or_calls o (ρ f) (ρ x) (ρ k) s)
    by None = tt
    by (Some p) = asked_enters s (ρ k) p (ρ x)
ended_enters B (ask p x k) ρ s = asked_enters s (ρ k) p (ρ x)
ended_enters B (send a k x) ρ s = sent_enters s (ρ a) (ρ k) (ρ x)
ended_enters B done ρ s = tt

run_enters : (B : Blocks) (u : World) (c : Code) (n : ℕ) (ρ : ℕ → Value) (s : Site) → RunEnters (run B u c n ρ s)
run_enters B u (straight y c) n ρ s = performed_enters u y ρ s _ (λ t a. run_enters B u c (suc n) (put n a ρ) t)
run_enters B u (closure ls i c) n ρ s = run_enters B u c (suc n) _ _
run_enters B u (test t x c e) n ρ s = tested_enters u t (ρ x) _ _ (λ parts. run_enters B u c (filled_by parts n) (put_all n parts ρ) s) (λ parts. run_enters B u e (filled_by parts n) (put_all n parts ρ) s)
run_enters B u (block.ends e) n ρ s = ended_enters B e ρ s

started_enters : (B : Blocks) (u : World) (s : Site) (o : Option Entered) → RunEnters (started B u s o)
started_enters B u s None = tt
started_enters B u s (Some e) = run_enters B u e.code e.filled e.slots _

front_enters : (B : Blocks) (u : World) (s : Site) (ts : List Thread) → RunEnters (front B u s ts)
front_enters B u s [] = tt
front_enters B u s (t ∷ ts) = started_enters B u _ (resolved B t)

last_enters : (r : Ran Closure) → RunEnters r → NextEnters (last r)
last_enters (makes p r) h = last_enters r h
last_enters (ends x) h = h

pub next_enters : (B : Blocks) (u : World) (s : Site) → NextEnters (site_next B u s)
next_enters B u s = last_enters (ran B u s) (either s.stopped _ _ tt (front_enters B u s s.threads))
