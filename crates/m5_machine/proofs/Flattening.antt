-- Bodies that are laid out as steps, one after the other.
use Rattle.std.proofs.Common.{◌≡◌, ℕ, zero, suc, ◌<◌, ◌∙◌, List, [], ◌∷◌, ◌++◌, length, drop, refl, ap, subst, arith, append_assoc, append-nil}
use Rattle.m5_machine.specs.declared.step.Step.{Step}
use Rattle.m5_machine.specs.declared.step.Step.TheVariants as steps
use Rattle.m5_machine.specs.declared.step.Instruction.{Instruction}
use Rattle.m5_machine.specs.Body.{Body, Then, If, Go, Ask, Send, Done, bodies, one, two, onto}
use Rattle.m5_machine.specs.code.Flattened.{flattened}

-- the steps of a body spell it
pub bodies_flat : (b : Body) (ss : List Step) → bodies (flattened b ++ ss) ≡ b ∷ bodies ss
unfolding flattened
bodies_flat (Then i b) ss = ap (one (Then i)) (bodies_flat b ss)
bodies_flat (If s a b) ss =
    ap (λ (x : List Step). two (If s) (bodies x)) (append_assoc (flattened a) (flattened b) ss)
    ∙ ap (two (If s)) (bodies_flat a (flattened b ++ ss) ∙ ap (λ (bs : List Body). a ∷ bs) (bodies_flat b ss))
bodies_flat (Go c v) ss = refl
bodies_flat (Ask p a n) ss = refl
bodies_flat (Send w c v) ss = refl
bodies_flat Done ss = refl

-- more steps behind leave the bodies that are there
pub record MoreBodies (old new : List Body) : Type 0 where
  pub more : List Body
  pub is : new ≡ old ++ more

one_more : (i : Instruction) (old new : List Body) → MoreBodies old new → MoreBodies (one (Then i) old) (one (Then i) new)
one_more i [] new m = record { more = one (Then i) new; is = refl }
one_more i (b ∷ bs) new m = record { more = m.more; is = ap (one (Then i)) m.is }

two_more : (s : ℕ) (old new : List Body) → MoreBodies old new → MoreBodies (two (If s) old) (two (If s) new)
two_more s [] new m = record { more = two (If s) new; is = refl }
two_more s (a ∷ []) new m = record { more = two (If s) new; is = refl }
two_more s (a ∷ b ∷ bs) new m = record { more = m.more; is = ap (two (If s)) m.is }

cons_more : (b : Body) (old new : List Body) → MoreBodies old new → MoreBodies (b ∷ old) (b ∷ new)
cons_more b old new m = record { more = m.more; is = ap (λ (bs : List Body). b ∷ bs) m.is }

onto_more : (s : Step) (old new : List Body) → MoreBodies old new → MoreBodies (onto s old) (onto s new)
onto_more (steps.Fill i) old new m = one_more i old new m
onto_more (steps.If slot place) old new m = two_more slot old new m
onto_more (steps.Go c v) old new m = cons_more (Go c v) old new m
onto_more (steps.Ask p a n) old new m = cons_more (Ask p a n) old new m
onto_more (steps.Send w c v) old new m = cons_more (Send w c v) old new m
onto_more steps.Done old new m = cons_more Done old new m

pub bodies_more : (xs ys : List Step) → MoreBodies (bodies xs) (bodies (xs ++ ys))
bodies_more [] ys = record { more = bodies ys; is = refl }
bodies_more (x ∷ xs) ys = onto_more x (bodies xs) (bodies (xs ++ ys)) (bodies_more xs ys)

-- a body begins at each step
pub record Whole (ss : List Step) : Type 0 where
  pub each : (at : ℕ) → at < length ss → 0 < length (bodies (drop at ss))

still_some : (old new : List Body) → MoreBodies old new → 0 < length old → 0 < length new
still_some [] new m h = absurd (omega arith)
still_some (b ∷ bs) new m h = rw m.is (omega arith)

pub none_whole : Whole []
none_whole = record { each = λ at h. absurd (omega arith) }

each_cons : (s : Step) (ss : List Step) → 0 < length (bodies (s ∷ ss)) → Whole ss → (at : ℕ) → at < length (s ∷ ss) → 0 < length (bodies (drop at (s ∷ ss)))
each_cons s ss h w zero l = h
each_cons s ss h w (suc at) l = w.each at (omega arith)

whole_cons : (s : Step) (ss : List Step) → 0 < length (bodies (s ∷ ss)) → Whole ss → Whole (s ∷ ss)
whole_cons s ss h w = record { each = each_cons s ss h w }

each_append : (xs ys : List Step) → Whole xs → Whole ys → (at : ℕ) → at < length (xs ++ ys) → 0 < length (bodies (drop at (xs ++ ys)))
each_append [] ys w v at l = v.each at l
each_append (x ∷ xs) ys w v zero l = still_some (bodies (x ∷ xs)) (bodies ((x ∷ xs) ++ ys)) (bodies_more (x ∷ xs) ys) (w.each 0 (omega arith))
each_append (x ∷ xs) ys w v (suc at) l = each_append xs ys (record { each = λ k h. w.each (suc k) (omega arith) }) v at (omega arith)

pub whole_append : (xs ys : List Step) → Whole xs → Whole ys → Whole (xs ++ ys)
whole_append xs ys w v = record { each = each_append xs ys w v }

some_bodies : (b : Body) → 0 < length (bodies (flattened b))
some_bodies b = subst (λ (ss : List Step). 0 < length (bodies ss)) (append-nil (flattened b)) (rw (bodies_flat b []) (omega arith))

pub whole_flat : (b : Body) → Whole (flattened b)
unfolding flattened
whole_flat (Then i b) = whole_cons (steps.Fill i) (flattened b) (some_bodies (Then i b)) (whole_flat b)
whole_flat (If s a b) = whole_cons (steps.If s 0) (flattened a ++ flattened b) (some_bodies (If s a b)) (whole_append (flattened a) (flattened b) (whole_flat a) (whole_flat b))
whole_flat (Go c v) = whole_cons (steps.Go c v) [] (some_bodies (Go c v)) none_whole
whole_flat (Ask p a n) = whole_cons (steps.Ask p a n) [] (some_bodies (Ask p a n)) none_whole
whole_flat (Send w c v) = whole_cons (steps.Send w c v) [] (some_bodies (Send w c v)) none_whole
whole_flat Done = whole_cons steps.Done [] (some_bodies Done) none_whole
