-- Blocks laid out one after the other, and linked.
use Rattle.std.proofs.Common.{◌≡◌, ℕ, zero, suc, ◌+◌, ◌<◌, ◌≤◌, ◌∙◌, List, [], ◌∷◌, ◌++◌, length, drop, refl, ap, sym, subst, arith, append-nil, length-append, Some, None, slice_get, Bool, ◌==◌, if◌then◌else◌, inl, inr}
use Rattle.std.specs.List.{flat_map}
use Rattle.std.proofs.lemmas.Bool.{ne_eqb, cases_eq}
use Rattle.std.proofs.lemmas.List.{drop-append-le, drop_at}
use Rattle.std.proofs.lemmas.List.Concat.{flat_map-append}
use Rattle.m5_machine.specs.declared.step.Step.{Step}
use Rattle.m5_machine.specs.Body.{Body, Then, If, Go, Ask, Send, Done, bodies, fills, depth}
use Rattle.m5_machine.specs.Blocks.{Flat, IsFlat, HasBody, BeginsBlock, body_at, start_in, first_or_done}
use Rattle.m5_machine.specs.Linked.{CanLink, IsLinked}
use Rattle.m5_machine.specs.Labelled.{Labelled, blocks_from, blocks_of}
use Rattle.m5_machine.specs.code.Flattened.{flattened, laid, StartsWithin, IsLaid, AllFit, Rising}
use Rattle.m5_machine.proofs.Places.{some_start}
use Rattle.m5_machine.proofs.Placing.{same_bodies}
use Rattle.m5_machine.proofs.Linking.{start_is}
use Rattle.m5_machine.proofs.Flattening.{MoreBodies, Whole, none_whole, bodies_flat, bodies_more, whole_append, whole_flat}

-- one label more, which has no block or has one
pub blocks_none : (code : Flat) (n s : ℕ) (starts : List ℕ) → s ≡ 4294967295 → blocks_from code n (s ∷ starts) ≡ blocks_from code (n + 1) starts
blocks_none code n s starts e = ap (λ (k : ℕ). if k == 4294967295 then blocks_from code (n + 1) starts else record { label = n; body = body_at code k } ∷ blocks_from code (n + 1) starts) e

pub blocks_some : (code : Flat) (n s : ℕ) (starts : List ℕ) → (s ≡ 4294967295 → ⊥) → blocks_from code n (s ∷ starts) ≡ record { label = n; body = body_at code s } ∷ blocks_from code (n + 1) starts
blocks_some code n s starts h = ap (λ (t : Bool). if t then blocks_from code (n + 1) starts else record { label = n; body = body_at code s } ∷ blocks_from code (n + 1) starts) (ne_eqb s 4294967295 h)

blocks_append : (code : Flat) (n : ℕ) (xs ys : List ℕ) → blocks_from code n (xs ++ ys) ≡ blocks_from code n xs ++ blocks_from code (n + length xs) ys
blocks_append code n [] ys = ap (λ (k : ℕ). blocks_from code k ys) (let e : n ≡ n + 0 = omega arith in e)
blocks_append code n (x ∷ xs) ys =
    let next : blocks_from code (n + 1) (xs ++ ys) ≡ blocks_from code (n + 1) xs ++ blocks_from code (n + length (x ∷ xs)) ys =
    blocks_append code (n + 1) xs ys ∙ ap (λ (k : ℕ). blocks_from code (n + 1) xs ++ blocks_from code k ys) (let e : n + 1 + length xs ≡ n + suc (length xs) = omega arith in e) in
    elim (cases_eq x 4294967295) [
      | inl e ↦ blocks_none code n x (xs ++ ys) e ∙ next ∙ ap (λ (bs : List Labelled). bs ++ blocks_from code (n + length (x ∷ xs)) ys) (sym (blocks_none code n x xs e))
      | inr h ↦ blocks_some code n x (xs ++ ys) h ∙ ap (λ (bs : List Labelled). record { label = n; body = body_at code x } ∷ bs) next ∙ ap (λ (bs : List Labelled). bs ++ blocks_from code (n + length (x ∷ xs)) ys) (sym (blocks_some code n x xs h))
    ]

-- bodies that are the same at each start
same_blocks : (old new : Flat) (n : ℕ) (xs : List ℕ) → ((i s : ℕ) → slice_get xs i ≡ Some s → (s ≡ 4294967295 → ⊥) → body_at new s ≡ body_at old s) → blocks_from new n xs ≡ blocks_from old n xs
same_blocks old new n [] h = refl
same_blocks old new n (x ∷ xs) h =
    let next = same_blocks old new (n + 1) xs (λ i s e k. h (suc i) s e k) in
    elim (cases_eq x 4294967295) [
      | inl e ↦ blocks_none new n x xs e ∙ next ∙ sym (blocks_none old n x xs e)
      | inr k ↦ blocks_some new n x xs k ∙ ap (λ (bs : List Labelled). record { label = n; body = body_at new x } ∷ bs) next
          ∙ ap (λ (b : Body). record { label = n; body = b } ∷ blocks_from old (n + 1) xs) (h 0 x refl k) ∙ sym (blocks_some old n x xs k)
    ]

first_more : (old new : List Body) → MoreBodies old new → 0 < length old → first_or_done new ≡ first_or_done old
first_more [] new m h = absurd (omega arith)
first_more (b ∷ bs) new m h = ap first_or_done m.is

body_more : (a b : List ℕ) (xs ys : List Step) (at : ℕ) → Whole xs → at < length xs → body_at (record { starts = b; steps = xs ++ ys }) at ≡ body_at (record { starts = a; steps = xs }) at
unfolding body_at
body_more a b xs ys at w h =
    ap (λ (ss : List Step). first_or_done (bodies ss)) (drop-append-le at xs ys (omega arith)) ∙ first_more (bodies (drop at xs)) _ (bodies_more (drop at xs) ys) (w.each at h)

body_last : (a : List ℕ) (xs : List Step) (b : Body) → body_at (record { starts = a; steps = xs ++ flattened b }) (length xs) ≡ b
unfolding body_at
body_last a xs b =
    ap (λ (ss : List Step). first_or_done (bodies ss)) (drop_at xs (flattened b) (length xs) refl ∙ sym (append-nil (flattened b))) ∙ ap first_or_done (bodies_flat b [])

start_within : (n : ℕ) (xs : List ℕ) (i s : ℕ) → StartsWithin n xs → slice_get xs i ≡ Some s → (s ≡ 4294967295 → ⊥) → s < n
start_within n [] i s w e h = absurd (let none : None ≡ Some s = e in cc)
start_within n (x ∷ xs) zero s w e h = let same : x ≡ s = cc in subst (λ (k : ℕ). k < n) same (w.0 (subst (λ (k : ℕ). k ≡ 4294967295 → ⊥) (sym same) h))
start_within n (x ∷ xs) (suc i) s w e h = start_within n xs i s w.1 e h

within_append : (n m : ℕ) (xs : List ℕ) (s : ℕ) → n ≤ m → StartsWithin n xs → ((s ≡ 4294967295 → ⊥) → s < m) → StartsWithin m (xs ++ s ∷ [])
within_append n m [] s l w h = (h, tt)
within_append n m (x ∷ xs) s l w h = ((λ k. let p = w.0 k in omega arith), within_append n m xs s l w.1 h)

pub whole_laid : (bs : List Labelled) → Whole (flat_map laid bs)
whole_laid [] = none_whole
whole_laid (b ∷ bs) = whole_append (flattened b.body) (flat_map laid bs) (whole_flat b.body) (whole_laid bs)

laid_last : (bs : List Labelled) (b : Labelled) → flat_map laid bs ++ flattened b.body ≡ flat_map laid (bs ++ b ∷ [])
laid_last bs b = sym (flat_map-append laid bs (b ∷ []) ∙ ap (λ (ss : List Step). flat_map laid bs ++ ss) (append-nil (flattened b.body)))

pub nothing_laid : IsLaid [] [] []
nothing_laid = record { steps = refl; blocks = refl; within = tt }

body_same : (a b : List ℕ) (ss : List Step) (at : ℕ) → body_at (record { starts = b; steps = ss }) at ≡ body_at (record { starts = a; steps = ss }) at
unfolding body_at
body_same a b ss at = refl

flat_length : (b : Body) → 0 < length (flattened b)
unfolding flattened
flat_length (Then i b) = omega arith
flat_length (If s a b) = omega arith
flat_length (Go c v) = omega arith
flat_length (Ask p a n) = omega arith
flat_length (Send w c v) = omega arith
flat_length Done = omega arith

flat_some : (ss : List Step) (b : Body) → length ss < length (ss ++ flattened b)
flat_some ss b = omega (arith, length-append ss (flattened b), flat_length b)

-- a label without a block, and one with a block behind the others
pub laid_none : (starts : List ℕ) (ss : List Step) (bs : List Labelled) → IsLaid starts ss bs → IsLaid (starts ++ 4294967295 ∷ []) ss bs
laid_none starts ss bs l = record {
  steps = l.steps;
  blocks = blocks_append _ 0 starts (4294967295 ∷ []) ∙ append-nil _ ∙ same_blocks (record { starts = starts; steps = ss }) (record { starts = starts ++ 4294967295 ∷ []; steps = ss }) 0 starts (λ i s e k. body_same starts (starts ++ 4294967295 ∷ []) ss s) ∙ l.blocks;
  within = within_append (length ss) (length ss) starts 4294967295 (omega arith) l.within (λ k. absurd (k refl));
}

pub laid_block : (starts : List ℕ) (ss : List Step) (bs : List Labelled) (b : Body) → IsLaid starts ss bs → length ss < 4294967295 → IsLaid (starts ++ length ss ∷ []) (ss ++ flattened b) (bs ++ record { label = length starts; body = b } ∷ [])
laid_block starts ss bs b l small =
    let old : Flat = record { starts = starts; steps = ss } in
    let new : Flat = record { starts = starts ++ length ss ∷ []; steps = ss ++ flattened b } in
    let whole : Whole ss = subst Whole (sym l.steps) (whole_laid bs) in
    let some : length ss ≡ 4294967295 → ⊥ = λ e. omega arith in
    record {
      steps = ap (λ (x : List Step). x ++ flattened b) l.steps ∙ laid_last bs (record { label = length starts; body = b });
      blocks = blocks_append new 0 starts (length ss ∷ [])
          ∙ ap (λ (n : ℕ). blocks_from new 0 starts ++ blocks_from new n (length ss ∷ [])) (let e : 0 + length starts ≡ length starts = omega arith in e)
          ∙ ap (λ (x : List Labelled). x ++ blocks_from new (length starts) (length ss ∷ [])) (same_blocks old new 0 starts (λ i s e k. body_more starts (starts ++ length ss ∷ []) ss (flattened b) s whole (start_within (length ss) starts i s l.within e k)) ∙ l.blocks)
          ∙ ap (λ (x : List Labelled). bs ++ x) (blocks_some new (length starts) (length ss) [] some ∙ ap (λ (x : Body). record { label = length starts; body = x } ∷ []) (body_last (starts ++ length ss ∷ []) ss b));
      within = within_append (length ss) (length (ss ++ flattened b)) starts (length ss) (omega (arith, length-append ss (flattened b))) l.within (λ k. flat_some ss b);
    }

fits_at : (code : Flat) (n : ℕ) (xs : List ℕ) (i s : ℕ) → AllFit (blocks_from code n xs) → slice_get xs i ≡ Some s → (s ≡ 4294967295 → ⊥) → (fills (body_at code s) ≤ 65534) × (depth (body_at code s) ≤ 1000)
fits_at code n [] i s f e h = absurd (let none : None ≡ Some s = e in cc)
fits_at code n (x ∷ xs) zero s f e h =
    let same : x ≡ s = cc in
    let g = subst AllFit (blocks_some code n s xs h) (subst (λ (k : ℕ). AllFit (blocks_from code n (k ∷ xs))) same f) in
    (g.0, g.1)
fits_at code n (x ∷ xs) (suc i) s f e h =
    elim (cases_eq x 4294967295) [
      | inl k ↦ fits_at code (n + 1) xs i s (subst AllFit (blocks_none code n x xs k) f) e h
      | inr k ↦ fits_at code (n + 1) xs i s (subst AllFit (blocks_some code n x xs k) f).2 e h
    ]

pub can_link : (starts : List ℕ) (ss : List Step) (bs : List Labelled) → IsLaid starts ss bs → AllFit bs → length ss < 4294967295 → CanLink starts ss
unfolding HasBody
can_link starts ss bs l f small =
    let whole : Whole ss = subst Whole (sym l.steps) (whole_laid bs) in
    record {
      complete = whole.each;
      begin = λ label start e.
          let is = start_is (slice_get starts label) start e in
          let fit = fits_at (record { starts = starts; steps = ss }) 0 starts label start (subst AllFit (sym l.blocks) f) is.0 is.1 in
          record { body = whole.each start (start_within (length ss) starts label start l.within is.0 is.1); room = fit.0; nesting = fit.1 };
      small = small;
    }

-- linking leaves the blocks
pub linked_blocks : (starts : List ℕ) (ss : List Step) (code : Flat) → IsLinked starts ss code → blocks_of code ≡ blocks_of (record { starts = starts; steps = ss })
unfolding body_at
linked_blocks starts ss code l =
    ap (blocks_from code 0) l.starts_are ∙ same_blocks (record { starts = starts; steps = ss }) code 0 starts (λ i s e k. ap first_or_done (same_bodies ss code.steps s l.steps_are))

fit_from : (code : Flat) (n : ℕ) (xs : List ℕ) → ((i s : ℕ) → slice_get xs i ≡ Some s → (s ≡ 4294967295 → ⊥) → BeginsBlock code s) → AllFit (blocks_from code n xs)
fit_from code n [] h = tt
fit_from code n (x ∷ xs) h =
    let next = fit_from code (n + 1) xs (λ i s e k. h (suc i) s e k) in
    elim (cases_eq x 4294967295) [
      | inl e ↦ subst AllFit (sym (blocks_none code n x xs e)) next
      | inr k ↦ let b = h 0 x refl k in subst AllFit (sym (blocks_some code n x xs k)) (b.room, b.nesting, next)
    ]

-- the blocks of a code are bodies that blocks may have, by labels in rising order
pub flat_fit : (code : Flat) → IsFlat code → AllFit (blocks_of code)
flat_fit code f = fit_from code 0 code.starts (λ i s e k. f.starts i s (ap start_in e ∙ some_start s k))

rising_less : (n : ℕ) (bs : List Labelled) → Rising (n + 1) bs → Rising n bs
rising_less n [] r = tt
rising_less n (b ∷ bs) r = (omega (arith, r.0), r.1, r.2)

rising_from : (code : Flat) (n : ℕ) (xs : List ℕ) → n + length xs ≤ 65536 → Rising n (blocks_from code n xs)
rising_from code n [] h = tt
rising_from code n (x ∷ xs) h =
    let next = rising_from code (n + 1) xs (omega arith) in
    elim (cases_eq x 4294967295) [
      | inl e ↦ subst (Rising n) (sym (blocks_none code n x xs e)) (rising_less n _ next)
      | inr k ↦ subst (Rising n) (sym (blocks_some code n x xs k)) (omega arith, omega arith, next)
    ]

pub flat_rising : (code : Flat) → length code.starts ≤ 65536 → Rising 0 (blocks_of code)
flat_rising code h = rising_from code 0 code.starts (omega arith)
