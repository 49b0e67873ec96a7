-- The level at each token that is read.
use Rattle.std.proofs.Common.{◌≡◌, ℕ, ◌<◌, ◌≤◌, Bool, List, [], ◌∷◌, ◌++◌, length, refl, sym, ◌∙◌, ap, subst, arith, length-append}
use Rattle.m5_parse.specs.Kinds.{code_at}
use Rattle.m5_tree.specs.Reading.{State, Reads, token, acts, rule, act, shift, limit}
use Rattle.m5_tree.specs.Level.{Arrives, here, beyond, by_act, by_rule}
use Rattle.m5_parse.specs.Machine.{Outcome, Accepted, Refused, TooDeep, Ends, accepted, more, shifted, deep, other, acted, chosen}
use Rattle.m5_parse.specs.Rows.{choose}
use Rattle.m5_lex.specs.declared.tokens.Placed.{Placed}
use Rattle.m5_tree.specs.declared.grammar.Kind.{Kind}
use Rattle.m5_tree.specs.declared.grammar.Symbol.{Symbol}
use Rattle.m5_tree.specs.declared.grammar.Symbol.TheVariants.{Tok, Nt, Act}
use Rattle.m5_tree.specs.declared.grammar.Phrase.{Phrase}
use Rattle.m5_tree.specs.declared.grammar.Action.{Action}
use Rattle.m5_parse.proofs.Theory.{Good, Agree, good_choice, some_choice, same_choice}
use Rattle.m5_parse.proofs.Words.{word_of}

-- what arrives at a token can be read to some end
pub record Ahead (next : Placed) (ss : List Symbol) (front : List Placed) (s : State) : Type 0 where
  pub tail : List Placed
  pub end : State
  pub reads : Reads end ss (front ++ next ∷ tail) s

ahead : {next : Placed} {level : ℕ} {ss : List Symbol} {front : List Placed} {s : State} → Arrives next level ss front s → Ahead next ss front s
ahead {next} (here {keep} {k} {ss} {s} c l) =
    let word = word_of ss (shift keep next s)
    in record { tail = word.tokens; end = word.end; reads = token c word.reads }
ahead (beyond c r) = let x = ahead r in record { tail = x.tail; end = x.end; reads = token c x.reads }
ahead (by_act r) = let x = ahead r in record { tail = x.tail; end = x.end; reads = acts x.reads }
ahead (by_rule q one r) = let x = ahead r in record { tail = x.tail; end = x.end; reads = rule q one x.reads }

agree_next : (front : List Placed) (t : Placed) (us vs : List Placed) → Agree (front ++ t ∷ us) (front ++ t ∷ vs)
agree_next [] t us vs = refl
agree_next (f ∷ fs) t us vs = refl

by_choice_too : {next : Placed} {level : ℕ} {n : Phrase} {ss : List Symbol} {front : List Placed} {s : State} (left ts : List Placed) → ts ≡ front ++ next ∷ left → Good (Nt n ∷ ss) → Arrives next level (Nt n ∷ ss) front s → Arrives next level (choose n ts ++ ss) front s
by_choice_too {next} {level} left ts split g (by_rule {n} {ss} {ts = front} {s} q one r) =
    let x = ahead r in
    let a : Agree (front ++ next ∷ x.tail) ts = agree_next front next x.tail left ∙ ap code_at (sym split) in
    let same : q ≡ choose n ts = same_choice n ss ts g a q one x.reads in
    subst (λ y. Arrives next level (y ++ ss) front s) same r

abbrev pub Low : ℕ → List Symbol → List Placed → State → Type 0
Low n ss ts s =
    (front : List Placed) (t : Placed) (left : List Placed) (level : ℕ) → ts ≡ front ++ t ∷ left → n < length (t ∷ left) → Arrives t level ss front s → level ≤ limit

abbrev pub left_of : Outcome → ℕ
left_of (Accepted s) = 0
left_of (Refused n) = n
left_of (TooDeep n) = n

too_few : (n : ℕ) (ss : List Symbol) (ts : List Placed) (s : State) → n ≡ length ts → Low n ss ts s
too_few n ss ts s e front t left level split h r =
    absurd (omega (arith, ap length split, length-append front (t ∷ left)))

nothing : {next : Placed} {level : ℕ} {front : List Placed} {s : State} → Arrives next level [] front s → ⊥
nothing r = elim r [ ]

after_act : {next : Placed} {level : ℕ} {a : Action} {ss : List Symbol} {front : List Placed} {s : State} → Arrives next level (Act a ∷ ss) front s → Arrives next level ss front (act a s)
after_act (by_act r) = r

at_once : {next : Placed} {level : ℕ} {keep : Bool} {k : Kind} {ss : List Symbol} {s : State} → Arrives next level (Tok keep k ∷ ss) [] s → s.level ≡ level
at_once (here c l) = l

later : {next : Placed} {level : ℕ} {keep : Bool} {k : Kind} {t : Placed} {ss : List Symbol} {front : List Placed} {s : State} → Arrives next level (Tok keep k ∷ ss) (t ∷ front) s → Arrives next level ss front (shift keep t s)
later (beyond c r) = r

low_token : (n : ℕ) (keep : Bool) (k : Kind) (t : Placed) (ss : List Symbol) (ts : List Placed) (s : State) → s.level ≤ limit → Low n ss ts (shift keep t s) → Low n (Tok keep k ∷ ss) (t ∷ ts) s
low_token n keep k t ss ts s l h [] next left level split m r = let e : s.level ≡ level = at_once r in omega arith
low_token n keep k t ss ts s l h (f ∷ front) next left level split m r =
    let same : t ≡ f = cc in
    let rest : ts ≡ front ++ next ∷ left = cc in
    let r' : Arrives next level (Tok keep k ∷ ss) (t ∷ front) s = subst (λ x. Arrives next level (Tok keep k ∷ ss) (x ∷ front) s) (sym same) r
    in h front next left level rest m (later r')

pub low : {o : Outcome} {ss : List Symbol} {ts : List Placed} {s : State} → Ends o ss ts s → Good ss → Low (left_of o) ss ts s
low (accepted {s} h) g = λ front t left level split m r. absurd (nothing r)
low (more {t} {ts} {s} h) g = λ front t left level split m r. absurd (nothing r)
low {o} (shifted {keep} {k} {t} {ss} {ts} {s} c l r) g = low_token (left_of o) keep k t ss ts s l (low r g)
low {o} (deep {keep} {k} {t} {ss} {ts} {s} c l h) g = too_few (left_of o) (Tok keep k ∷ ss) (t ∷ ts) s (ap left_of h)
low {o} (other {keep} {k} {ss} {ts} {s} not h) g = too_few (left_of o) (Tok keep k ∷ ss) ts s (ap left_of h)
low (acted r) g = λ front t left level split m x. low r g front t left level split m (after_act x)
low (chosen {n} {ss} {ts} {s} r) g =
    λ front t left level split m x. low r (good_choice n ts ss g) front t left level split m (by_choice_too left ts split g x)

-- what is too deep has its level
pub record Over (n : ℕ) (ss : List Symbol) (ts : List Placed) (s : State) : Type 0 where
  pub front : List Placed
  pub next : Placed
  pub left : List Placed
  pub split : ts ≡ front ++ next ∷ left
  pub count : length (next ∷ left) ≡ n
  pub level : ℕ
  pub arrives : Arrives next level ss front s
  pub over : limit < level

pub over : {o : Outcome} {n : ℕ} {ss : List Symbol} {ts : List Placed} {s : State} → Ends o ss ts s → o ≡ TooDeep n → Over n ss ts s
over (accepted h) e = absurd cc
over (more h) e = absurd cc
over (shifted {t = t} c l r) e =
    let x = over r e
    in record { front = t ∷ x.front; next = x.next; left = x.left; split = ap (λ us. t ∷ us) x.split; count = x.count; level = x.level; arrives = beyond c x.arrives; over = x.over }
over (deep {t = t} {ts = ts} {s = s} c l h) e =
    record { front = []; next = t; left = ts; split = refl; count = cc; level = s.level; arrives = here c refl; over = l }
over (other not h) e = absurd cc
over (acted r) e =
    let x = over r e
    in record { front = x.front; next = x.next; left = x.left; split = x.split; count = x.count; level = x.level; arrives = by_act x.arrives; over = x.over }
over (chosen {n} {ss} {ts} r) e =
    let x = over r e
    in record { front = x.front; next = x.next; left = x.left; split = x.split; count = x.count; level = x.level; arrives = by_rule (choose n ts) (some_choice n ts) x.arrives; over = x.over }
