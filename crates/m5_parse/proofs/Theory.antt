-- Reading with one token of look-ahead is reading.
use Rattle.std.proofs.Common.{◌≡◌, ℕ, Bool, true, false, cond, not, ◌&&◌, ◌||◌, ◌==◌, List, [], ◌∷◌, ◌++◌, refl, ◌∙◌, ap, ◌⊎◌, inl, inr}
use Rattle.std.proofs.lemmas.Bool.{and_parts, and_from, both_ways, not-true, false≢true, eq-eqb}
use Rattle.m5_tree.specs.Kinds.{code_of, token_code}
use Rattle.m5_parse.specs.Kinds.{among, leads, code_at, tests}
use Rattle.m5_tree.specs.Reading.{State, OneOf, Reads, done, token, acts, rule}
use Rattle.m5_tree.specs.Productions.{alternatives}
use Rattle.m5_parse.specs.First.{first, nullable}
use Rattle.m5_parse.specs.After.{extends}
use Rattle.m5_parse.specs.Rows.{begins, nulls, pick, choose}
use Rattle.m5_tree.specs.declared.grammar.Symbol.{Symbol}
use Rattle.m5_tree.specs.declared.grammar.Symbol.TheVariants.{Tok, Nt, Act}
use Rattle.m5_tree.specs.declared.grammar.Phrase.{Phrase}
use Rattle.m5_tree.specs.declared.grammar.Phrase.TheVariants as phrase
use Rattle.m5_tree.specs.declared.grammar.Kind.{Kind}
use Rattle.m5_lex.specs.declared.tokens.Placed.{Placed}
use Rattle.m5_parse.proofs.Tables.{within, apart, begins_all, first_fits, told_apart, ends_well, all_end_well, checked}
use Rattle.m5_parse.proofs.Sets.{or_left, among-append, among-left, among-right, among-within, among-apart}

-- What follows each pending phrase does not belong to it.
abbrev pub Good : List Symbol → Type 0
Good [] = Unit {0}
Good (Tok keep k ∷ ss) = Good ss
Good (Act a ∷ ss) = Good ss
Good (Nt n ∷ ss) = ((c : ℕ) → among c (extends n) ≡ true → among c (begins ss) ≡ true → ⊥) × Good ss

nulls-append : (q ss : List Symbol) → nulls (q ++ ss) ≡ true → (nulls q ≡ true) × (nulls ss ≡ true)
nulls-append [] ss h = (refl, h)
nulls-append (Tok keep k ∷ q) ss h = absurd (false≢true h)
nulls-append (Act a ∷ q) ss h = nulls-append q ss h
nulls-append (Nt n ∷ q) ss h =
    let parts = and_parts (nullable n) (nulls (q ++ ss)) h in
    let below = nulls-append q ss parts.1
    in (and_from (nullable n) (nulls q) parts.0 below.0, below.1)

-- the kinds of a sequence are those of its front, and those of the rest where the front may be empty
split_begins : (c : ℕ) (b : Bool) (xs ys zs : List Kind) (e : Bool) → (among c ys ≡ true → (among c zs ≡ true) ⊎ (e ≡ true)) → among c (xs ++ cond b ys []) ≡ true → (among c (xs ++ cond b zs []) ≡ true) ⊎ ((b && e) ≡ true)
split_begins c true xs ys zs e f h =
    elim (among-append c xs ys h) [
      | inl x ↦ inl (among-left c xs zs x)
      | inr y ↦ elim (f y) [ inl z ↦ inl (among-right c xs zs z) | inr w ↦ inr w ]
    ]
split_begins c false xs ys zs e f h = inl h

begins-append : (c : ℕ) (q ss : List Symbol) → among c (begins (q ++ ss)) ≡ true → (among c (begins q) ≡ true) ⊎ ((nulls q && among c (begins ss)) ≡ true)
begins-append c [] ss h = inr h
begins-append c (Tok keep k ∷ q) ss h = inl h
begins-append c (Act a ∷ q) ss h = begins-append c q ss h
begins-append c (Nt n ∷ q) ss h =
    elim (split_begins c (nullable n) (first n) (begins (q ++ ss)) (begins q) (nulls q && among c (begins ss)) (begins-append c q ss) h) [
      | inl a ↦ inl a
      | inr b ↦ inr (regroup (nullable n) (nulls q) (among c (begins ss)) b)
    ]
  where
    regroup : (x y z : Bool) → (x && (y && z)) ≡ true → ((x && y) && z) ≡ true
    regroup true y z h = h
    regroup false y z h = h

implied : (x y : Bool) → (not x || y) ≡ true → x ≡ true → y ≡ true
implied true y h z = h
implied false y h z = absurd (false≢true z)

one_fits : (n : Phrase) (q : List Symbol) (qs : List (List Symbol)) → first_fits n qs ≡ true → OneOf q qs → (within (begins q) (first n) ≡ true) × (nulls q ≡ true → nullable n ≡ true)
one_fits n q [] h one = absurd one
one_fits n q (p ∷ ps) h one =
    let parts = and_parts (within (begins p) (first n) && (not (nulls p) || nullable n)) (first_fits n ps) h in
    let here = and_parts (within (begins p) (first n)) (not (nulls p) || nullable n) parts.0
    in elim one [
      | inl e ↦ rw e (here.0, implied (nulls p) (nullable n) here.1)
      | inr o ↦ one_fits n q ps parts.1 o
    ]

fits : (n : Phrase) (q : List Symbol) → OneOf q (alternatives n) → (within (begins q) (first n) ≡ true) × (nulls q ≡ true → nullable n ≡ true)
fits n q one = one_fits n q (alternatives n) (and_parts (first_fits n (alternatives n)) (told_apart n (alternatives n) && all_end_well n (alternatives n)) (checked n)).0 one

-- what reads no token may be empty
reads_nothing : {e s : State} {ss : List Symbol} {ts : List Placed} → Reads e ss ts s → ts ≡ [] → nulls ss ≡ true
reads_nothing (done x) h = refl
reads_nothing (token c r) h = absurd cc
reads_nothing (acts r) h = reads_nothing r h
reads_nothing (rule {n} {ss} q one r) h =
    let below = nulls-append q ss (reads_nothing r h)
    in and_from (nullable n) (nulls ss) ((fits n q one).1 below.0) below.1

-- the first token that is read is of a kind with which the symbols begin
pub among_one : (a b : ℕ) → a ≡ b → ((a == b) || false) ≡ true
among_one a b h = or_left (a == b) false (eq-eqb a b h)

reads_first : {e s : State} {ss : List Symbol} {ts : List Placed} → Reads e ss ts s → (t : Placed) (us : List Placed) → ts ≡ t ∷ us → among (token_code t.token) (begins ss) ≡ true
reads_first (done x) t us h = absurd cc
reads_first (token {k = k} {t = v} c r) t us h =
    let same : v ≡ t = cc in among_one (token_code t.token) (code_of k) (rw (← same) c)
reads_first (acts r) t us h = reads_first r t us h
reads_first (rule {n} {ss} q one r) t us h =
    let c = token_code t.token
    in elim (begins-append c q ss (reads_first r t us h)) [
      | inl a ↦ among-left c (first n) (cond (nullable n) (begins ss) []) (among-within c (begins q) (first n) (fits n q one).0 a)
      | inr b ↦
          let parts = and_parts (nulls q) (among c (begins ss)) b
          in among-right c (first n) (cond (nullable n) (begins ss) []) (where_null c (nullable n) (begins ss) ((fits n q one).1 parts.0) parts.1)
    ]
  where
    where_null : (c : ℕ) (b : Bool) (xs : List Kind) → b ≡ true → among c xs ≡ true → among c (cond b xs []) ≡ true
    where_null c true xs e h = h
    where_null c false xs e h = absurd (false≢true e)

-- an alternative keeps what is pending good
good_append : (n : Phrase) (q ss : List Symbol) → ends_well n q ≡ true → Good (Nt n ∷ ss) → Good (q ++ ss)
good_append n [] ss w g = g.1
good_append n (Tok keep k ∷ q) ss w g = good_append n q ss w g
good_append n (Act a ∷ q) ss w g = good_append n q ss w g
good_append n (Nt m ∷ q) ss w g =
    let parts = and_parts (apart (extends m) (begins q) && (not (nulls q) || within (extends m) (extends n))) (ends_well n q) w in
    let here = and_parts (apart (extends m) (begins q)) (not (nulls q) || within (extends m) (extends n)) parts.0
    in (
      λ c x y. elim (begins-append c q ss y) [
        | inl a ↦ among-apart c (extends m) (begins q) here.0 x a
        | inr b ↦
            let two = and_parts (nulls q) (among c (begins ss)) b
            in g.0 c (among-within c (extends m) (extends n) (implied (nulls q) (within (extends m) (extends n)) here.1 two.0) x) two.1
      ],
      good_append n q ss parts.1 g,
    )

pick_ends_well : (n : Phrase) (ts : List Placed) (qs : List (List Symbol)) → all_end_well n qs ≡ true → ends_well n (pick ts qs) ≡ true
pick_ends_well n ts [] h = refl
pick_ends_well n ts (q ∷ []) h = (and_parts (ends_well n q) true h).0
pick_ends_well n ts (q ∷ p ∷ ps) h =
    let parts = and_parts (ends_well n q) (all_end_well n (p ∷ ps)) h
    in choice (leads ts (begins q)) q (pick ts (p ∷ ps)) parts.0 (pick_ends_well n ts (p ∷ ps) parts.1)
  where
    choice : (b : Bool) (x y : List Symbol) → ends_well n x ≡ true → ends_well n y ≡ true → ends_well n (cond b x y) ≡ true
    choice true x y hx hy = hx
    choice false x y hx hy = hy

pub good_choice : (n : Phrase) (ts : List Placed) (ss : List Symbol) → Good (Nt n ∷ ss) → Good (choose n ts ++ ss)
good_choice n ts ss g =
    let parts = and_parts (first_fits n (alternatives n)) (told_apart n (alternatives n) && all_end_well n (alternatives n)) (checked n) in
    let two = and_parts (told_apart n (alternatives n)) (all_end_well n (alternatives n)) parts.1
    in good_append n (choose n ts) ss (pick_ends_well n ts (alternatives n) two.1) g

pick_one : (ts : List Placed) (q : List Symbol) (qs : List (List Symbol)) → OneOf (pick ts (q ∷ qs)) (q ∷ qs)
pick_one ts q [] = inl refl
pick_one ts q (p ∷ ps) = choice (leads ts (begins q)) (pick_one ts p ps)
  where
    choice : (b : Bool) → OneOf (pick ts (p ∷ ps)) (p ∷ ps) → OneOf (cond b q (pick ts (p ∷ ps))) (q ∷ p ∷ ps)
    choice true h = inl refl
    choice false h = inr h

one_begins : (c : ℕ) (q : List Symbol) (qs : List (List Symbol)) → OneOf q qs → among c (begins q) ≡ true → among c (begins_all qs) ≡ true
one_begins c q [] one h = absurd one
one_begins c q (p ∷ ps) one h =
    elim one [
      | inl e ↦ among-left c (begins p) (begins_all ps) (rw (← e) h)
      | inr o ↦ among-right c (begins p) (begins_all ps) (one_begins c q ps o h)
    ]

-- a phrase that is not empty begins with one of its kinds
begins_here : {e s : State} (p ss : List Symbol) (ts : List Placed) → nulls p ≡ false → Reads e (p ++ ss) ts s → leads ts (begins p) ≡ true
begins_here p ss [] z r = absurd (both_ways (nulls p) z (nulls-append p ss (reads_nothing r refl)).0)
begins_here p ss (t ∷ us) z r =
    elim (begins-append (token_code t.token) p ss (reads_first r t us refl)) [
      | inl a ↦ a
      | inr b ↦ absurd (both_ways (nulls p) z (and_parts (nulls p) (among (token_code t.token) (begins ss)) b).0)
    ]

-- a later alternative does not begin as this one does
begins_later : {e s : State} (n : Phrase) (ss : List Symbol) (ts : List Placed) (p q : List Symbol) (qs : List (List Symbol)) → Good (Nt n ∷ ss) → apart (begins p) (begins_all qs) ≡ true → (nullable n ≡ true → within (begins p) (extends n) ≡ true) → (nulls q ≡ true → nullable n ≡ true) → OneOf q qs → Reads e (q ++ ss) ts s → leads ts (begins p) ≡ true → ⊥
begins_later n ss [] p q qs g a w z one r h = false≢true h
begins_later n ss (t ∷ us) p q qs g a w z one r h =
    let c = token_code t.token
    in elim (begins-append c q ss (reads_first r t us refl)) [
      | inl x ↦ among-apart c (begins p) (begins_all qs) a h (one_begins c q qs one x)
      | inr b ↦
          let two = and_parts (nulls q) (among c (begins ss)) b
          in g.0 c (among-within c (begins p) (extends n) (w (z two.0)) h) two.1
    ]

cond_true : (b : Bool) (x y : List Symbol) → b ≡ true → x ≡ cond b x y
cond_true true x y h = refl
cond_true false x y h = absurd (false≢true h)

cond_false : (b : Bool) (x y z : List Symbol) → (b ≡ true → ⊥) → z ≡ y → z ≡ cond b x y
cond_false true x y z h e = absurd (h refl)
cond_false false x y z h e = e

-- whoever reads these tokens took the alternative that the next token picks
picked : {e s : State} (n : Phrase) (ss : List Symbol) (ts : List Placed) (qs : List (List Symbol)) (q : List Symbol) → Good (Nt n ∷ ss) → told_apart n qs ≡ true → (nulls q ≡ true → nullable n ≡ true) → OneOf q qs → Reads e (q ++ ss) ts s → q ≡ pick ts qs
picked n ss ts [] q g w z one r = absurd one
picked n ss ts (p ∷ []) q g w z one r = elim one [ inl e ↦ e | inr o ↦ absurd o ]
picked {e} {s} n ss ts (p ∷ p' ∷ ps) q g w z one r =
    let parts = and_parts (not (nulls p) && apart (begins p) (begins_all (p' ∷ ps))) ((not (nullable n) || within (begins p) (extends n)) && told_apart n (p' ∷ ps)) w in
    let left = and_parts (not (nulls p)) (apart (begins p) (begins_all (p' ∷ ps))) parts.0 in
    let right = and_parts (not (nullable n) || within (begins p) (extends n)) (told_apart n (p' ∷ ps)) parts.1
    in elim one [
      | inl same ↦
          let r' : Reads e (p ++ ss) ts s = rw (← same) r
          in same ∙ cond_true (leads ts (begins p)) p (pick ts (p' ∷ ps)) (begins_here p ss ts (not-true (nulls p) left.0) r')
      | inr o ↦
          cond_false (leads ts (begins p)) p (pick ts (p' ∷ ps)) q
          (begins_later n ss ts p q (p' ∷ ps) g left.1 (implied (nullable n) (within (begins p) (extends n)) right.0) z o r)
          (picked n ss ts (p' ∷ ps) q g right.1 z o r)
    ]

-- the first tokens are of one kind, or there is none in either
abbrev pub Agree : List Placed → List Placed → Type 0
Agree us vs = code_at us ≡ code_at vs

pick_agree : (us vs : List Placed) (qs : List (List Symbol)) → Agree us vs → pick us qs ≡ pick vs qs
pick_agree us vs [] a = refl
pick_agree us vs (q ∷ []) a = refl
pick_agree us vs (q ∷ p ∷ ps) a = rw (ap (tests (begins q)) a, pick_agree us vs (p ∷ ps) a) refl

pub same_choice : {e s : State} (n : Phrase) (ss : List Symbol) {ts : List Placed} (vs : List Placed) → Good (Nt n ∷ ss) → Agree ts vs → (q : List Symbol) → OneOf q (alternatives n) → Reads e (q ++ ss) ts s → q ≡ choose n vs
same_choice {e} {s} n ss {ts} vs g a q one r =
    let parts = and_parts (first_fits n (alternatives n)) (told_apart n (alternatives n) && all_end_well n (alternatives n)) (checked n) in
    let two = and_parts (told_apart n (alternatives n)) (all_end_well n (alternatives n)) parts.1
    in picked n ss ts (alternatives n) q g two.0 (fits n q one).1 one r ∙ pick_agree ts vs (alternatives n) a

pub by_choice : {e s : State} {n : Phrase} {ss : List Symbol} {ts : List Placed} (vs : List Placed) → Good (Nt n ∷ ss) → Agree ts vs → Reads e (Nt n ∷ ss) ts s → Reads e (choose n vs ++ ss) ts s
by_choice vs g a (rule {n} {ss} q one r) = rw (← same_choice n ss vs g a q one r) r

abbrev filled : List (List Symbol) → Bool
filled [] = false
filled (q ∷ qs) = true

each_filled : (n : Phrase) → filled (alternatives n) ≡ true
unfolding alternatives
each_filled phrase.Program = refl
each_filled _ = refl

pick_some : (ts : List Placed) (qs : List (List Symbol)) → filled qs ≡ true → OneOf (pick ts qs) qs
pick_some ts [] h = absurd (false≢true h)
pick_some ts (q ∷ qs) h = pick_one ts q qs

pub some_choice : (n : Phrase) (ts : List Placed) → OneOf (choose n ts) (alternatives n)
some_choice n ts = pick_some ts (alternatives n) (each_filled n)
