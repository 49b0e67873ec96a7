-- Steps whose places are set are blocks.
use Rattle.std.proofs.Common.{◌≡◌, ℕ, zero, suc, ◌+◌, ◌-◌, ◌<◌, ◌≤◌, ◌∙◌, List, [], ◌∷◌, length, map, drop, refl, ap, sym, subst, arith, Option, Some, None, slice_get, slice_index_or, Bool, true, false, ◌⊎◌, inl, inr, eq-zero-or-pos, nat_lt, nat_le, ◌==◌, ◌&&◌, if◌then◌else◌}
use Rattle.std.specs.List.{list_all}
use Rattle.std.proofs.lemmas.Bool.{ne_eqb}
use Rattle.std.proofs.lemmas.Bool.Decides.{nat_tests}
use Rattle.m5_machine.specs.declared.link.Shape.{Shape}
use Rattle.m5_machine.specs.declared.step.Step.{Step}
use Rattle.m5_machine.specs.declared.step.Step.TheVariants as steps
use Rattle.m5_machine.specs.Body.{Body, bodies, one, two, Then, If}
use Rattle.m5_machine.specs.Blocks.{IsFlat, StandsBefore, HasBody, BeginsBlock, body_at, start_of, start_in, all_but_first}
use Rattle.m5_machine.specs.Linked.{erased, CanLink}
use Rattle.m5_machine.specs.code.Shapes.{IsShape, HasShapes, PlacesSet, start_fits, shape_fits}
use Rattle.m5_machine.proofs.Shapes.{here, at_index, index_there}
use Rattle.m5_machine.proofs.Places.{past, some_start}
use Rattle.m5_machine.proofs.Placing.{same_bodies}

one_some : (f : Body → Body) (bs : List Body) → 0 < length (one f bs) → 0 < length bs
one_some f [] h = h
one_some f (b ∷ bs) h = omega arith

two_some : (f : Body → Body → Body) (bs : List Body) → 0 < length (two f bs) → 1 < length bs
two_some f [] h = absurd (omega arith)
two_some f (a ∷ []) h = absurd (omega arith)
two_some f (a ∷ b ∷ bs) h = omega arith

stands : (starts : List ℕ) (old new : List Step) (at : ℕ) (s : Step) → map erased new ≡ map erased old → length new ≡ length old → PlacesSet old new → slice_get new at ≡ Some s → 0 < length (bodies (drop at new)) → StandsBefore (record { starts = starts; steps = new }) at s
stands starts old new at (steps.Fill i) e l p f h =
    let next : at + 1 ≡ suc at = omega arith in
    subst (λ (n : ℕ). 0 < length (bodies (drop n new))) next (one_some (Then i) _ (subst (λ (bs : List Body). 0 < length bs) (here new at (steps.Fill i) f) h))
stands starts old new at (steps.If slot place) e l p f h =
    let next : at + 1 ≡ suc at = omega arith in
    let more : 1 < length (bodies (drop (at + 1) new)) = two_some (If slot) _ (subst (λ (bs : List Body). 0 < length bs) (here new at (steps.If slot place) f) h) in
    let second : bodies (drop place new) ≡ all_but_first (bodies (drop (at + 1) new)) =
    same_bodies old new place e ∙ p.second at slot place (omega (arith, past new (at + 1) (omega arith), l)) f ∙ ap all_but_first (sym (same_bodies old new (at + 1) e)) in
    subst (λ (n : ℕ). (1 < length (bodies (drop n new))) × (bodies (drop place new) ≡ all_but_first (bodies (drop n new)))) next (more, second)
stands starts old new at (steps.Go c v) e l p f h = tt
stands starts old new at (steps.Ask q a n) e l p f h = tt
stands starts old new at (steps.Send w c v) e l p f h = tt
stands starts old new at steps.Done e l p f h = tt

pub and_first : (a b : Bool) → (a && b) ≡ true → a ≡ true
and_first true b e = refl
and_first false b e = e

pub and_second : (a b : Bool) → (a && b) ≡ true → b ≡ true
and_second true b e = e
and_second false b e = absurd (let no : false ≡ true = e in cc)

-- what a test of all says of one
one_passes : (p : ℕ → Bool) (xs : List ℕ) (i x : ℕ) → list_all p xs ≡ true → slice_get xs i ≡ Some x → p x ≡ true
one_passes p [] i x e f = absurd (let none : None ≡ Some x = f in cc)
one_passes p (y ∷ xs) zero x e f = let same : y ≡ x = cc in ap p (sym same) ∙ and_first (p y) (list_all p xs) e
one_passes p (y ∷ xs) (suc i) x e f = one_passes p xs i x (and_second (p y) (list_all p xs) e) f

all_pass : (p : ℕ → Bool) (xs : List ℕ) → ((i x : ℕ) → slice_get xs i ≡ Some x → p x ≡ true) → list_all p xs ≡ true
all_pass p [] h = refl
all_pass p (y ∷ xs) h = rw (h 0 y refl, all_pass p xs (λ i x e. h (suc i) x e)) refl

le_true : (a b : ℕ) → a ≤ b → nat_le a b ≡ true
le_true a b h = grind (arith, nat_tests)

le_read : (a b : ℕ) → nat_le a b ≡ true → a ≤ b
le_read a b e = grind (arith, nat_tests)

lt_true : (a b : ℕ) → a < b → nat_lt a b ≡ true
lt_true a b h = grind (arith, nat_tests)

lt_cases : (a b : ℕ) → (nat_lt a b ≡ true) × (a < b) ⊎ (nat_lt a b ≡ false)
lt_cases a b = elim (eq-zero-or-pos (b - a)) [ inl z ↦ inr (grind (arith, nat_tests)) | inr g ↦ inl (grind (arith, nat_tests), omega arith) ]

pub record FitsThere (shapes : List Shape) (start : ℕ) : Type 0 where
  pub shape : Shape
  pub there : start < length shapes
  pub is : slice_get shapes (length shapes - 1 - start) ≡ Some shape
  pub fills : shape.fills ≤ 65534
  pub depth : shape.depth ≤ 1000

fits_read : (shapes : List Shape) (start : ℕ) (o : Option Shape) → o ≡ slice_get shapes (length shapes - 1 - start) → start < length shapes → shape_fits o ≡ true → FitsThere shapes start
fits_read shapes start None e h f = absurd (let no : false ≡ true = f in cc)
fits_read shapes start (Some s) e h f = record {
  shape = s;
  there = h;
  is = sym e;
  fills = le_read s.fills 65534 (and_first (nat_le s.fills 65534) (nat_le s.depth 1000) f);
  depth = le_read s.depth 1000 (and_second (nat_le s.fills 65534) (nat_le s.depth 1000) f);
}

pub start_read : (shapes : List Shape) (start : ℕ) → (start ≡ 4294967295 → ⊥) → start_fits shapes start ≡ true → FitsThere shapes start
start_read shapes start n e =
    let not_none : (start == 4294967295) ≡ false = ne_eqb start 4294967295 n in
    let f = rw not_none at e in
    elim (lt_cases start (length shapes)) [
      | inl p ↦ fits_read shapes start (slice_get shapes (length shapes - 1 - start)) refl p.1 (rw p.0 at f)
      | inr p ↦ absurd (let g = rw p at f in let no : false ≡ true = g in cc)
    ]

either_true : (b : Bool) → (if b then true else true) ≡ true
either_true true = refl
either_true false = refl

pub start_passes : (shapes : List Shape) (start : ℕ) (s : Shape) → start < length shapes → slice_get shapes (length shapes - 1 - start) ≡ Some s → s.fills ≤ 65534 → s.depth ≤ 1000 → start_fits shapes start ≡ true
start_passes shapes start s h e f d = rw (lt_true start (length shapes) h, e, le_true s.fills 65534 f, le_true s.depth 1000 d) (either_true (start == 4294967295))

equal_or_not : (a b : ℕ) → (a ≡ b) ⊎ (a ≡ b → ⊥)
equal_or_not a b =
    elim (eq-zero-or-pos (a - b)) [
      | inl p ↦ elim (eq-zero-or-pos (b - a)) [ inl q ↦ inl (omega arith) | inr q ↦ inr (λ e. omega arith) ]
      | inr p ↦ inr (λ e. omega arith)
    ]

start_if : (s start : ℕ) (b : Bool) → b ≡ (s == 4294967295) → (let o : Option ℕ = if b then None else Some s in o) ≡ Some start → (s ≡ start) × (start ≡ 4294967295 → ⊥)
start_if s start true b e = absurd (let none : None ≡ Some start = e in cc)
start_if s start false b e = let same : s ≡ start = cc in (same, λ f. let yes : (s == 4294967295) ≡ true = rw (same, f) refl in let no : false ≡ true = b ∙ yes in cc)

pub start_is : (o : Option ℕ) (start : ℕ) → start_in o ≡ Some start → (o ≡ Some start) × (start ≡ 4294967295 → ⊥)
start_is None start e = absurd (let none : None ≡ Some start = e in cc)
start_is (Some s) start e = let f = start_if s start (s == 4294967295) refl e in (ap Some f.0, f.1)

shape_known : (old : List Step) (shapes : List Shape) (at : ℕ) → HasShapes old shapes → length shapes ≡ length old → at < length old → (s : Shape) × (IsShape old at s)
shape_known old shapes at h c l =
    let none : Shape = record { after = 0; fills = 0; depth = 0 } in
    let m = length old - 1 - at in
    let there : m < length shapes = omega arith in
    let back : length old - 1 - m ≡ at = omega arith in
    (slice_index_or shapes m none, at_index old shapes m at _ h (index_there shapes m none there) back)

pub record Linkable (starts : List ℕ) (old new : List Step) (shapes : List Shape) : Type 0 where
  pub shapes_are : HasShapes old shapes
  pub count : length shapes ≡ length old
  pub small : length old < 4294967295
  pub fit : list_all (start_fits shapes) starts ≡ true
  pub same : map erased new ≡ map erased old
  pub long : length new ≡ length old
  pub places : PlacesSet old new

begins : (starts : List ℕ) (old new : List Step) (shapes : List Shape) (label start : ℕ) → Linkable starts old new shapes → start_of (record { starts = starts; steps = new }) label ≡ Some start → BeginsBlock (record { starts = starts; steps = new }) start
unfolding HasBody body_at
begins starts old new shapes label start l e =
    let is = start_is (slice_get starts label) start e in
    let fits = start_read shapes start is.1 (one_passes (start_fits shapes) starts label start l.fit is.0) in
    let count = l.count in
    let there = fits.there in
    let back : length old - 1 - (length shapes - 1 - start) ≡ start = omega arith in
    let s = at_index old shapes (length shapes - 1 - start) start fits.shape l.shapes_are fits.is back in
    let same = same_bodies old new start l.same in
    record {
      body = rw same s.body;
      room = rw same (omega (arith, s.fills, fits.fills));
      nesting = rw same (omega (arith, s.depth, fits.depth));
    }

item_within : (ss : List Step) (at : ℕ) (s : Step) → slice_get ss at ≡ Some s → at < length ss
item_within [] at s e = absurd (let none : None ≡ Some s = e in cc)
item_within (t ∷ ss) zero s e = omega arith
item_within (t ∷ ss) (suc at) s e = omega (arith, item_within ss at s e)

pub linked : (starts : List ℕ) (old new : List Step) (shapes : List Shape) → Linkable starts old new shapes → IsFlat (record { starts = starts; steps = new })
linked starts old new shapes l = record {
  steps = λ at s e.
      let there = item_within new at s e in
      let long = l.long in
      let known = shape_known old shapes at l.shapes_are l.count (omega arith) in
      stands starts old new at s l.same l.long l.places e (subst (λ (bs : List Body). 0 < length bs) (sym (same_bodies old new at l.same)) known.1.body);
  starts = λ label start e. begins starts old new shapes label start l e;
  small = let long = l.long in let small = l.small in omega arith;
}

passes : (starts : List ℕ) (old : List Step) (shapes : List Shape) → HasShapes old shapes → length shapes ≡ length old → CanLink starts old → (label start : ℕ) → slice_get starts label ≡ Some start → start_fits shapes start ≡ true
unfolding HasBody body_at
passes starts old shapes h c k label start e =
    elim (equal_or_not start 4294967295) [
      | inl none ↦ rw none refl
      | inr some ↦
          let b = k.begin label start (ap start_in e ∙ some_start start some) in
          let within : start < length old = past old start b.body in
          let none : Shape = record { after = 0; fills = 0; depth = 0 } in
          let m = length shapes - 1 - start in
          let there : m < length shapes = omega arith in
          let back : length old - 1 - m ≡ start = omega arith in
          let s = at_index old shapes m start _ h (index_there shapes m none there) back in
          start_passes shapes start (slice_index_or shapes m none) (omega arith) (index_there shapes m none there) (omega (arith, s.fills, b.room)) (omega (arith, s.depth, b.nesting))
    ]

pub no_link : (starts : List ℕ) (old : List Step) (shapes : List Shape) → HasShapes old shapes → length shapes ≡ length old → list_all (start_fits shapes) starts ≡ false → CanLink starts old → ⊥
no_link starts old shapes h c f k =
    let all : list_all (start_fits shapes) starts ≡ true = all_pass (start_fits shapes) starts (passes starts old shapes h c k) in
    let no : false ≡ true = sym f ∙ all in
    cc
