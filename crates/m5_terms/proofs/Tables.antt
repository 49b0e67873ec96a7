-- Tables as functions from numbers, and entries that are put back.
use Rattle.std.proofs.Common.{◌≡◌, ℕ, zero, suc, ◌<◌, cond, List, [], ◌∷◌, ◌++◌, Option, None, length, get_or, set, refl, ap, sym, ◌∙◌, inl, inr, arith}
use Rattle.std.proofs.lemmas.List.{get_or-set_other}
use Rattle.std.proofs.lemmas.Grind.{get_or-set_at}
use Rattle.std.proofs.lemmas.Bool.Decides.{eqb_tells}
use Rattle.m5_terms.specs.Table.{entries, put}

pub same_default : {T : Type 0} (t : List (Option T)) (x : ℕ) (a b : Option T) → x < length t → get_or t x a ≡ get_or t x b
same_default [] x a b h = absurd (omega arith)
same_default (e ∷ t) zero a b h = refl
same_default (e ∷ t) (suc x) a b h = same_default t x a b (omega arith)

-- a number past the end has no entry
entry_push : {T : Type 0} (t : List (Option T)) (y : ℕ) → entries (t ++ None ∷ []) y ≡ entries t y
entry_push [] zero = refl
entry_push [] (suc y) = refl
entry_push (a ∷ t) zero = refl
entry_push (a ∷ t) (suc y) = entry_push t y

pub entries_push : {T : Type 0} (t : List (Option T)) → entries (t ++ None ∷ []) ≡ entries t
entries_push t = λ i y. entry_push t y i

entry_set : {T : Type 0} (t : List (Option T)) (x : ℕ) (e : Option T) (y : ℕ) → x < length t → entries (set t x e) y ≡ put x e (entries t) y
entry_set t x e y h =
    elim (eqb_tells y x) [
      | inl p ↦ get_or-set_at t x y e None p.1 h ∙ sym (ap (λ b. cond b e (get_or t y None)) p.0)
      | inr p ↦ get_or-set_other t x y e None p.1 ∙ sym (ap (λ b. cond b e (get_or t y None)) p.0)
    ]

pub entries_set : {T : Type 0} (t : List (Option T)) (x : ℕ) (e : Option T) → x < length t → entries (set t x e) ≡ put x e (entries t)
entries_set t x e h = λ i y. entry_set t x e y h i

entry_back : {T : Type 0} (s : ℕ → Option T) (x : ℕ) (e : Option T) (y : ℕ) → put x (s x) (put x e s) y ≡ s y
entry_back s x e y =
    elim (eqb_tells y x) [
      | inl p ↦ ap (λ b. cond b (s x) (cond b e (s y))) p.0 ∙ ap s (sym p.1)
      | inr p ↦ ap (λ b. cond b (s x) (cond b e (s y))) p.0
    ]

-- the entry that was there, put back
put_back : {T : Type 0} (s : ℕ → Option T) (x : ℕ) (e : Option T) → put x (s x) (put x e s) ≡ s
put_back s x e = λ i y. entry_back s x e y i

pub before_one : {T : Type 0} (old new : ℕ → Option T) (x : ℕ) (e was : Option T) → new ≡ put x e old → was ≡ old x → put x was new ≡ old
before_one old new x e was p q = ap (λ s. put x was s) p ∙ (ap (λ o. put x o (put x e old)) q ∙ put_back old x e)

pub before_two : {T : Type 0} (old mid new : ℕ → Option T) (x y : ℕ) (e d first second : Option T)
    → mid ≡ put y d old → second ≡ old y → new ≡ put x e mid → first ≡ mid x → put y second (put x first new) ≡ old
before_two old mid new x y e d first second p q f g = ap (λ s. put y second s) (before_one mid new x e first f g) ∙ before_one old mid y d second p q

-- in a table that has grown: another entry for a number, and the one that was there
pub put_in : {T : Type 0} (old grown t : List (Option T)) (x : ℕ) (e d : Option T) → t ≡ grown → entries grown ≡ entries old → x < length grown → d ≡ e
    → entries (set t x d) ≡ put x e (entries old)
put_in old grown t x e d is same room given =
    ap (λ (l : List (Option _)). entries (set l x d)) is ∙ ap (λ (a : Option _). entries (set grown x a)) given ∙ entries_set grown x e room
    ∙ ap (λ s. put x e s) same

pub was_in : {T : Type 0} (old grown t : List (Option T)) (x : ℕ) (a : Option T) → t ≡ grown → entries grown ≡ entries old → x < length grown
    → get_or t x a ≡ entries old x
was_in old grown t x a is same room =
    ap (λ (l : List (Option _)). get_or l x a) is ∙ same_default grown x a None room ∙ ap (λ s. s x) same
