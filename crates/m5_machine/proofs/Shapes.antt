-- The body that begins at a step, by those behind it.
use Rattle.std.proofs.Common.{◌≡◌, ℕ, zero, suc, ◌+◌, ◌-◌, ◌<◌, ◌≤◌, ◌∙◌, max, List, [], ◌∷◌, ◌++◌, length, drop, refl, ap, sym, subst, arith, Some, None, slice_get, slice_index_or, get_or, length-drop, ◌⊎◌, inl, inr}
use Rattle.m5_machine.specs.declared.link.Shape.{Shape}
use Rattle.m5_machine.specs.declared.step.Instruction.{Instruction}
use Rattle.m5_machine.specs.declared.step.Step.{Step}
use Rattle.m5_machine.specs.declared.step.Step.TheVariants as steps
use Rattle.m5_machine.specs.Body.{Body, Then, If, Go, Ask, Send, Done, bodies, one, two, onto, fills, depth}
use Rattle.m5_machine.specs.Blocks.{first_or_done, all_but_first}
use Rattle.m5_machine.proofs.Places.{item_there}
use Rattle.m5_machine.specs.code.Shapes.{IsShape, HasShapes, IsOpen}

drop_there : (ss : List Step) (at : ℕ) (s : Step) → slice_get ss at ≡ Some s → drop at ss ≡ s ∷ drop (suc at) ss
drop_there [] at s e = absurd (let none : None ≡ Some s = e in cc)
drop_there (t ∷ ss) zero s e = let same : t ≡ s = cc in ap (λ (x : Step). x ∷ ss) same
drop_there (t ∷ ss) (suc at) s e = drop_there ss at s e

-- the bodies from a step on, by those behind it
pub here : (ss : List Step) (at : ℕ) (s : Step) → slice_get ss at ≡ Some s → bodies (drop at ss) ≡ onto s (bodies (drop (at + 1) ss))
here ss at s e = ap bodies (drop_there ss at s e) ∙ ap (λ (n : ℕ). onto s (bodies (drop n ss))) (let p : suc at ≡ at + 1 = omega arith in p)

past_end : (ss : List Step) (at : ℕ) → length ss ≤ at → bodies (drop at ss) ≡ []
past_end [] zero h = refl
past_end [] (suc at) h = refl
past_end (s ∷ ss) zero h = absurd (omega arith)
past_end (s ∷ ss) (suc at) h = past_end ss at (omega arith)

-- the sizes of bodies are at most the number of steps that spell them
abbrev pub AllSmall : ℕ → List Body → Type 0
AllSmall n [] = Unit {0}
AllSmall n (b ∷ bs) = (fills b ≤ n) × (depth b ≤ n) × AllSmall n bs

larger : (n m : ℕ) (bs : List Body) → n ≤ m → AllSmall n bs → AllSmall m bs
larger n m [] l h = tt
larger n m (b ∷ bs) l h = (omega (arith, h.0), omega (arith, h.1), larger n m bs l h.2)

one_small : (n : ℕ) (i : Instruction) (bs : List Body) → AllSmall n bs → AllSmall (suc n) (one (Then i) bs)
unfolding fills depth
one_small n i [] h = tt
one_small n i (b ∷ bs) h = (omega (arith, h.0), omega (arith, h.1), larger n (suc n) bs (omega arith) h.2)

two_small : (n s : ℕ) (bs : List Body) → AllSmall n bs → AllSmall (suc n) (two (If s) bs)
unfolding fills depth
two_small n s [] h = tt
two_small n s (a ∷ []) h = tt
two_small n s (a ∷ b ∷ bs) h = (omega (arith, h.0, h.2.0), omega (arith, h.1, h.2.1), larger n (suc n) bs (omega arith) h.2.2)

onto_small : (n : ℕ) (s : Step) (bs : List Body) → AllSmall n bs → AllSmall (suc n) (onto s bs)
unfolding fills depth
onto_small n (steps.Fill i) bs h = one_small n i bs h
onto_small n (steps.If slot place) bs h = two_small n slot bs h
onto_small n (steps.Go closure value) bs h = (omega arith, omega arith, larger n (suc n) bs (omega arith) h)
onto_small n (steps.Ask primitive argument next) bs h = (omega arith, omega arith, larger n (suc n) bs (omega arith) h)
onto_small n (steps.Send world closure value) bs h = (omega arith, omega arith, larger n (suc n) bs (omega arith) h)
onto_small n steps.Done bs h = (omega arith, omega arith, larger n (suc n) bs (omega arith) h)

all_small : (ss : List Step) → AllSmall (length ss) (bodies ss)
all_small [] = tt
all_small (s ∷ ss) = onto_small (length ss) s (bodies ss) (all_small ss)

small_at : (ss : List Step) (at : ℕ) → AllSmall (length ss) (bodies (drop at ss))
small_at ss at = larger (length (drop at ss)) (length ss) (bodies (drop at ss)) (omega (arith, length-drop at ss)) (all_small (drop at ss))

first_small : (n : ℕ) (bs : List Body) → 0 < length bs → AllSmall n bs → (fills (first_or_done bs) ≤ n) × (depth (first_or_done bs) ≤ n)
first_small n [] h s = absurd (omega arith)
first_small n (b ∷ bs) h s = (s.0, s.1)

-- a shape's numbers are at most how many steps there are
pub shape_small : (ss : List Step) (at : ℕ) (s : Shape) → IsShape ss at s → (s.fills ≤ length ss) × (s.depth ≤ length ss)
shape_small ss at s h = let f = first_small (length ss) (bodies (drop at ss)) h.body (small_at ss at) in (omega (arith, f.0, h.fills), omega (arith, f.1, h.depth))

pub record FirstOf (bs : List Body) (b : Body) (more : List Body) : Type 0 where
  pub some : 0 < length bs
  pub first : first_or_done bs ≡ b
  pub rest : all_but_first bs ≡ more

one_first : (f : Body → Body) (bs : List Body) → 0 < length bs → FirstOf (one f bs) (f (first_or_done bs)) (all_but_first bs)
one_first f [] h = absurd (omega arith)
one_first f (b ∷ bs) h = record { some = omega arith; first = refl; rest = refl }

two_first : (f : Body → Body → Body) (bs more : List Body) → 0 < length bs → more ≡ all_but_first bs → 0 < length more → FirstOf (two f bs) (f (first_or_done bs) (first_or_done more)) (all_but_first more)
two_first f [] more h e k = absurd (omega arith)
two_first f (a ∷ []) more h e k = absurd (let none : length more ≡ 0 = ap length e in omega arith)
two_first f (a ∷ b ∷ bs) more h e k = rw e (record { some = omega arith; first = refl; rest = refl })

from_first : (ss : List Step) (at after f d : ℕ) (b : Body) (rest bs : List Body) → bodies (drop at ss) ≡ bs → FirstOf bs b rest → bodies (drop after ss) ≡ rest → at < after → after ≤ length ss → f ≡ fills b → d ≡ depth b → IsShape ss at (record { after = after; fills = f; depth = d })
from_first ss at after f d b rest bs e x r l w fe de = record {
  body = rw e x.some;
  behind = l;
  within = w;
  rest = r ∙ sym x.rest ∙ ap all_but_first (sym e);
  fills = fe ∙ ap fills (sym x.first ∙ ap first_or_done (sym e));
  depth = de ∙ ap depth (sym x.first ∙ ap first_or_done (sym e));
}

-- an instruction onto the body behind it
pub shape_fill : (ss : List Step) (at : ℕ) (i : Instruction) (next : Shape) → slice_get ss at ≡ Some (steps.Fill i) → IsShape ss (at + 1) next → IsShape ss at (record { after = next.after; fills = next.fills + 1; depth = next.depth })
unfolding fills depth
shape_fill ss at i next e n =
    from_first ss at next.after (next.fills + 1) next.depth (Then i (first_or_done (bodies (drop (at + 1) ss)))) (all_but_first (bodies (drop (at + 1) ss))) _ (here ss at (steps.Fill i) e)
    (one_first (Then i) (bodies (drop (at + 1) ss)) n.body) n.rest (omega (arith, n.behind)) n.within (omega (arith, n.fills)) n.depth

-- an `If` onto the two bodies behind it
pub shape_if : (ss : List Step) (at slot place : ℕ) (first second : Shape) → slice_get ss at ≡ Some (steps.If slot place) → IsShape ss (at + 1) first → IsShape ss first.after second → IsShape ss at (record { after = second.after; fills = max first.fills second.fills; depth = max first.depth second.depth + 1 })
unfolding fills depth
shape_if ss at slot place first second e a b =
    from_first ss at second.after (max first.fills second.fills) (max first.depth second.depth + 1)
    (If slot (first_or_done (bodies (drop (at + 1) ss))) (first_or_done (bodies (drop first.after ss)))) (all_but_first (bodies (drop first.after ss))) _ (here ss at (steps.If slot place) e)
    (two_first (If slot) (bodies (drop (at + 1) ss)) (bodies (drop first.after ss)) a.body a.rest b.body) b.rest (omega (arith, a.behind, b.behind)) b.within
    (let p = a.fills in let q = b.fills in rw (p, q) refl) (let p = a.depth in let q = b.depth in rw (p, q) (omega arith))

ending : (ss : List Step) (at : ℕ) (b : Body) → bodies (drop at ss) ≡ b ∷ bodies (drop (at + 1) ss) → 0 ≡ fills b → 1 ≡ depth b → at < length ss → IsShape ss at (record { after = at + 1; fills = 0; depth = 1 })
ending ss at b e f d h = from_first ss at (at + 1) 0 1 b (bodies (drop (at + 1) ss)) (b ∷ bodies (drop (at + 1) ss)) e (record { some = omega arith; first = refl; rest = refl }) refl (omega arith) (omega arith) f d

pub shape_go : (ss : List Step) (at c v : ℕ) → slice_get ss at ≡ Some (steps.Go c v) → at < length ss → IsShape ss at (record { after = at + 1; fills = 0; depth = 1 })
unfolding fills depth
shape_go ss at c v e h = ending ss at (Go c v) (here ss at (steps.Go c v) e) refl refl h

pub shape_ask : (ss : List Step) (at p a n : ℕ) → slice_get ss at ≡ Some (steps.Ask p a n) → at < length ss → IsShape ss at (record { after = at + 1; fills = 0; depth = 1 })
unfolding fills depth
shape_ask ss at p a n e h = ending ss at (Ask p a n) (here ss at (steps.Ask p a n) e) refl refl h

pub shape_send : (ss : List Step) (at w c v : ℕ) → slice_get ss at ≡ Some (steps.Send w c v) → at < length ss → IsShape ss at (record { after = at + 1; fills = 0; depth = 1 })
unfolding fills depth
shape_send ss at w c v e h = ending ss at (Send w c v) (here ss at (steps.Send w c v) e) refl refl h

pub shape_done : (ss : List Step) (at : ℕ) → slice_get ss at ≡ Some steps.Done → at < length ss → IsShape ss at (record { after = at + 1; fills = 0; depth = 1 })
unfolding fills depth
shape_done ss at e h = ending ss at Done (here ss at steps.Done e) refl refl h

none_behind : (s : Step) (bs : List Body) → bs ≡ [] → onto s bs ≡ onto s []
none_behind s bs e = ap (onto s) e

-- an instruction at the end has no body
pub open_fill : (ss : List Step) (at : ℕ) (i : Instruction) → slice_get ss at ≡ Some (steps.Fill i) → at + 1 ≡ length ss → IsOpen ss
open_fill ss at i e h = record { at = at; there = omega arith; none = ap length (here ss at (steps.Fill i) e ∙ none_behind (steps.Fill i) _ (past_end ss (at + 1) (omega arith))) }

pub open_if : (ss : List Step) (at slot place : ℕ) → slice_get ss at ≡ Some (steps.If slot place) → at + 1 ≡ length ss → IsOpen ss
open_if ss at slot place e h = record { at = at; there = omega arith; none = ap length (here ss at (steps.If slot place) e ∙ none_behind (steps.If slot place) _ (past_end ss (at + 1) (omega arith))) }

lone : (s : ℕ) (bs : List Body) → all_but_first bs ≡ [] → length (two (If s) bs) ≡ 0
lone s [] e = refl
lone s (a ∷ []) e = refl
lone s (a ∷ b ∷ bs) e = absurd (let none : suc (length bs) ≡ 0 = ap length e in omega arith)

-- an `If` whose first body is the last one
pub open_second : (ss : List Step) (at slot place : ℕ) (first : Shape) → slice_get ss at ≡ Some (steps.If slot place) → at < length ss → IsShape ss (at + 1) first → first.after ≡ length ss → IsOpen ss
open_second ss at slot place first e h a f = record {
  at = at;
  there = h;
  none = ap length (here ss at (steps.If slot place) e) ∙ lone slot (bodies (drop (at + 1) ss)) (sym a.rest ∙ past_end ss first.after (omega arith));
}

pub at_index : (ss : List Step) (shapes : List Shape) (m at : ℕ) (s : Shape) → HasShapes ss shapes → slice_get shapes m ≡ Some s → length ss - 1 - m ≡ at → IsShape ss at s
at_index ss shapes m at s h e p = subst (λ (k : ℕ). IsShape ss k s) p (h.each m s e)

none_yet : (ss : List Step) → HasShapes ss []
none_yet ss = record { each = λ m s e. absurd (let none : None ≡ Some s = e in cc) }

last_item : {X : Type 0} (xs : List X) (x : X) (m : ℕ) (y : X) → slice_get (xs ++ x ∷ []) m ≡ Some y → (slice_get xs m ≡ Some y) ⊎ ((m ≡ length xs) × (x ≡ y))
last_item [] x zero y e = inr (refl, let same : x ≡ y = cc in same)
last_item [] x (suc m) y e = absurd (let none : None ≡ Some y = e in cc)
last_item (z ∷ xs) x zero y e = inl e
last_item (z ∷ xs) x (suc m) y e =
    elim (last_item xs x m y e) [
      | inl p ↦ inl p
      | inr p ↦ inr (ap suc p.0, p.1)
    ]

-- one shape more
pub one_more : (ss : List Step) (shapes new : List Shape) (at : ℕ) (s : Shape) → HasShapes ss shapes → new ≡ shapes ++ s ∷ [] → length ss - 1 - length shapes ≡ at → IsShape ss at s → HasShapes ss new
one_more ss shapes new at s h e p x = record {
  each = λ m y f.
      elim (last_item shapes s m y (ap (λ (z : List Shape). slice_get z m) (sym e) ∙ f)) [
        | inl g ↦ h.each m y g
        | inr g ↦ subst (λ (k : ℕ). IsShape ss k y) (sym p ∙ ap (λ (k : ℕ). length ss - 1 - k) (sym g.0)) (subst (IsShape ss at) g.1 x)
      ];
}

-- the step that was read at a place
pub step_at : (ss : List Step) (at : ℕ) (x s : Step) → at < length ss → x ≡ get_or ss at x → x ≡ s → slice_get ss at ≡ Some s
step_at ss at x s h e f = item_there ss at x h e ∙ ap Some f

pub index_there : (xs : List Shape) (i : ℕ) (d : Shape) → i < length xs → slice_get xs i ≡ Some (slice_index_or xs i d)
index_there [] i d h = absurd (omega arith)
index_there (x ∷ xs) zero d h = refl
index_there (x ∷ xs) (suc i) d h = index_there xs i d (omega arith)
