-- What was read of a text, and what another code with the same text has.
use Rattle.std.proofs.Common.{◌≡◌, ℕ, ◌+◌, ◌<◌, ◌≤◌, ◌∙◌, List, [], ◌∷◌, ◌++◌, length, refl, ap, sym, subst, arith, append_assoc, append-nil, length-append, Option, Some, None, Bool, true, ◌&&◌, IfNone, IsSome, codes}
use Rattle.std.specs.List.{flat_map, list_all}
use Rattle.std.specs.Fmt.{decimal}
use Rattle.std.proofs.lemmas.List.Concat.{flat_map-append}
use Rattle.m5_machine.specs.declared.step.Step.{Step}
use Rattle.m5_machine.specs.Body.{Body, Then, If, Go, Ask, Send, Done, depth, fills}
use Rattle.m5_machine.specs.Blocks.{Flat, IsFlat}
use Rattle.m5_machine.specs.Labelled.{Labelled, blocks_of}
use Rattle.m5_machine.specs.Linked.{CanLink, IsLinked}
use Rattle.m5_machine.specs.Numbers.{IsStep}
use Rattle.m5_machine.specs.code.Flattened.{flattened, laid, AllFit, Rising, EachStep, EachBlock}
use Rattle.m5_machine.proofs.Laying.{nothing_laid, linked_blocks, flat_fit, flat_rising, can_link}
use Rattle.m5_machine.proofs.EachStep.{Each, ForgetsPlace, each_test, each_all, each_block, each_laid}
use Rattle.m5_machine.proofs.Kept.{linked_all, linked_numbers}
use Rattle.m5_js.specs.Page.{page_step}
use Rattle.m5_js.specs.Spelling.{body_text, line_text, statement_text, branch_text}
use Rattle.m5_js.specs.Fault.{Spells, ArePageBlocks, FirstBad}
use Rattle.m5_js.specs.Page.{IsPageStep}
use Rattle.m5_js.specs.code.Lines.{LineHere, LineRead, LinesRead}
use Rattle.m5_js.proofs.Steps.{page_erased}
use Rattle.m5_js.proofs.Lines.{line_unique}

pub none_read : (old : List ℕ) → LinesRead old old [] [] 0
none_read old = record { blocks = []; is = refl; good = tt; fit = tt; laid = nothing_laid; labels = omega arith; count_is = refl; above = λ b r. omega arith }

good_more : (bs : List Labelled) (b : Labelled) → EachBlock IsPageStep bs → EachStep IsPageStep b.body → EachBlock IsPageStep (bs ++ b ∷ [])
good_more [] b g h = (h, tt)
good_more (a ∷ bs) b g h = (g.0, good_more bs b g.1 h)

fit_more : (bs : List Labelled) (b : Labelled) → AllFit bs → fills b.body ≤ 65534 → depth b.body ≤ 1000 → AllFit (bs ++ b ∷ [])
fit_more [] b f r d = (r, d, tt)
fit_more (a ∷ bs) b f r d = (f.0, f.1, fit_more bs b f.2 r d)

more_text : (bs : List Labelled) (b : Labelled) → flat_map line_text (bs ++ b ∷ []) ≡ flat_map line_text bs ++ line_text b
more_text bs b = flat_map-append line_text bs (b ∷ []) ∙ ap (λ (xs : List ℕ). flat_map line_text bs ++ xs) (append-nil (line_text b))

rising_last : (from : ℕ) (bs : List Labelled) (c b : Labelled) → Rising from ((bs ++ c ∷ []) ++ b ∷ []) → c.label + 1 ≤ b.label
rising_last from [] c b r = omega (arith, r.2.0)
rising_last from (a ∷ bs) c b r = rising_last (a.label + 1) bs c b r.2

pub one_read : (old mid new starts after : List ℕ) (ss more : List Step) (count : ℕ) → length ss < 4294967295 → LinesRead old mid starts ss count → LineRead mid starts ss new after more → LinesRead old new after more (count + 1)
one_read old mid new starts after ss more count small r b = record {
  blocks = r.blocks ++ b.block ∷ [];
  is = r.is ∙ ap (λ (xs : List ℕ). flat_map line_text r.blocks ++ xs) b.is ∙ sym (append_assoc (flat_map line_text r.blocks) (line_text b.block) new) ∙ ap (λ (xs : List ℕ). xs ++ new) (sym (more_text r.blocks b.block));
  good = good_more r.blocks b.block r.good b.good;
  fit = fit_more r.blocks b.block r.fit b.room b.deep;
  laid = b.laid r.blocks r.laid small;
  labels = omega (arith, b.next, b.high);
  count_is = length-append r.blocks (b.block ∷ []) ∙ ap (λ (n : ℕ). n + 1) r.count_is;
  above = λ d q. omega (arith, b.next, rising_last 0 r.blocks b.block d q);
}

-- at most as many steps and lines as bytes
flat_short : (n : ℕ) (b : Body) → length (flattened b) ≤ length (body_text n b)
unfolding flattened body_text
flat_short n (Then i b) = omega (arith, flat_short (n + 1) b, length-append (statement_text n i) (body_text (n + 1) b))
flat_short n (If s a b) =
    omega (
      arith,
      flat_short n a,
      flat_short n b,
      length-append (flattened a) (flattened b),
      length-append (branch_text s) (body_text n a ++ (codes "} else { " ++ (body_text n b ++ codes "} "))),
      length-append (body_text n a) (codes "} else { " ++ (body_text n b ++ codes "} ")),
      length-append (body_text n b) (codes "} "),
    )
flat_short n (Go c v) = omega arith
flat_short n (Ask p a k) = omega arith
flat_short n (Send w c v) = omega arith
flat_short n Done = omega arith

line_short : (b : Labelled) → length (flattened b.body) + 1 ≤ length (line_text b)
line_short b =
    omega (arith, flat_short 0 b.body, length-append (decimal b.label) (codes " = (e, a) => { " ++ (body_text 0 b.body ++ codes "};\n")), length-append (body_text 0 b.body) (codes "};\n"))

laid_short : (bs : List Labelled) → length (flat_map laid bs) + length bs ≤ length (flat_map line_text bs)
laid_short [] = omega arith
laid_short (b ∷ bs) = omega (arith, line_short b, laid_short bs, length-append (flattened b.body) (flat_map laid bs), length-append (line_text b) (flat_map line_text bs))

pub few : (old new starts : List ℕ) (ss : List Step) (count : ℕ) → LinesRead old new starts ss count → length ss + count + length new ≤ length old
few old new starts ss count r =
    omega (arith, laid_short r.blocks, ap length r.laid.steps, r.count_is, ap length r.is, length-append (flat_map line_text r.blocks) new)

pub line_less : (old starts new after : List ℕ) (ss more : List Step) → LineRead old starts ss new after more → length new < length old
line_less old starts new after ss more b = omega (arith, ap length b.is, line_short b.block, length-append (line_text b.block) new)

pub page_blocks : (old new starts : List ℕ) (ss : List Step) (count : ℕ) (r : LinesRead old new starts ss count) → ArePageBlocks r.blocks
page_blocks old new starts ss count r = record {
  rising = subst (Rising 0) r.laid.blocks (flat_rising (record { starts = starts; steps = ss }) r.labels);
  fit = r.fit;
  good = r.good;
}

-- another code with the text
forgets : ForgetsPlace IsPageStep
forgets = record { any = λ slot place g. record { page = refl; numbers = (g.numbers.0, omega arith) } }

both : (ss : List Step) → Each (λ s. page_step s ≡ true) ss → Each IsStep ss → Each IsPageStep ss
both [] t n = tt
both (s ∷ ss) t n = (record { page = t.0; numbers = n.0 }, both ss t.1 n.1)

other_blocks : (code : Flat) (text : List ℕ) → Spells code text → ArePageBlocks (blocks_of code)
other_blocks code text s = record {
  rising = flat_rising code s.page.labels;
  fit = flat_fit code s.page.flat;
  good = each_block IsPageStep code s.page.flat forgets (both code.steps (each_test page_step code.steps s.page.steps) (each_all IsStep code.steps s.numbers));
}

-- the blocks that were read are the first ones of every code with the text
record Behind (bs os : List Labelled) (rest : List ℕ) : Type 0 where
  pub more : List Labelled
  pub is : os ≡ bs ++ more
  pub text : rest ≡ flat_map line_text more

prefix : (from to : ℕ) (bs os : List Labelled) (rest : List ℕ) → Rising from bs → Rising to os → AllFit bs → AllFit os → EachBlock IsPageStep bs → EachBlock IsPageStep os → flat_map line_text bs ++ rest ≡ flat_map line_text os → Behind bs os rest
prefix from to [] os rest r q f g h k e = record { more = os; is = refl; text = e }
prefix from to (b ∷ bs) [] rest r q f g h k e = absurd (omega (arith, ap length e, line_short b, length-append (line_text b ++ flat_map line_text bs) rest, length-append (line_text b) (flat_map line_text bs)))
prefix from to (b ∷ bs) (o ∷ os) rest r q f g h k e =
    let u = line_unique b o (flat_map line_text bs ++ rest) (flat_map line_text os) r.1 q.1 h.0 k.0 f.0 g.0 (sym (append_assoc (line_text b) (flat_map line_text bs) rest) ∙ e) in
    let p = prefix (b.label + 1) (o.label + 1) bs os rest r.2 q.2 f.2 g.2 h.1 k.1 u.1 in
    record { more = p.more; is = ap (λ (x : Labelled). x ∷ os) (sym u.0) ∙ ap (λ (xs : List Labelled). b ∷ xs) p.is; text = p.text }

other_behind : (code : Flat) (text new starts : List ℕ) (ss : List Step) (count : ℕ) → Spells code text → (r : LinesRead text new starts ss count) → Behind r.blocks (blocks_of code) new
other_behind code text new starts ss count s r =
    let o = other_blocks code text s in
    let p = page_blocks text new starts ss count r in
    prefix 0 0 r.blocks (blocks_of code) new p.rising o.rising p.fit o.fit p.good o.good (sym r.is ∙ sym s.spelled)

front_rising : (from : ℕ) (xs ys : List Labelled) → Rising from (xs ++ ys) → Rising from xs
front_rising from [] ys r = tt
front_rising from (x ∷ xs) ys r = (r.0, r.1, front_rising (x.label + 1) xs ys r.2)

front_fit : (xs ys : List Labelled) → AllFit (xs ++ ys) → AllFit xs
front_fit [] ys f = tt
front_fit (x ∷ xs) ys f = (f.0, f.1, front_fit xs ys f.2)

front_good : (xs ys : List Labelled) → EachBlock IsPageStep (xs ++ ys) → EachBlock IsPageStep xs
front_good [] ys g = tt
front_good (x ∷ xs) ys g = (g.0, front_good xs ys g.1)

front_page : (xs ys : List Labelled) → ArePageBlocks (xs ++ ys) → ArePageBlocks xs
front_page xs ys p = record { rising = front_rising 0 xs ys p.rising; fit = front_fit xs ys p.fit; good = front_good xs ys p.good }

last_high : (from : ℕ) (bs : List Labelled) (b : Labelled) → Rising from (bs ++ b ∷ []) → b.label < 65536
last_high from [] b r = r.1
last_high from (a ∷ bs) b r = last_high (a.label + 1) bs b r.2

last_fit : (bs : List Labelled) (b : Labelled) → AllFit (bs ++ b ∷ []) → (fills b.body ≤ 65534) × (depth b.body ≤ 1000)
last_fit [] b f = (f.0, f.1)
last_fit (a ∷ bs) b f = last_fit bs b f.2

last_good : (bs : List Labelled) (b : Labelled) → EachBlock IsPageStep (bs ++ b ∷ []) → EachStep IsPageStep b.body
last_good [] b g = g.0
last_good (a ∷ bs) b g = last_good bs b g.1

-- no line where none was read
no_more : (text new starts : List ℕ) (ss : List Step) (count : ℕ) (r : LinesRead text new starts ss count) → (LineHere (length starts) new → ⊥) → (b : Labelled) (behind : List ℕ) → ArePageBlocks (r.blocks ++ b ∷ []) → new ≡ line_text b ++ behind → ⊥
no_more text new starts ss count r n b behind p e =
    let f = last_fit r.blocks b p.fit in
    n (record { block = b; rest = behind; is = e; low = r.above b p.rising; high = last_high 0 r.blocks b p.rising; room = f.0; deep = f.1; good = last_good r.blocks b p.good })

pub first_bad : (text new starts : List ℕ) (ss : List Step) (count line : ℕ) → LinesRead text new starts ss count → line ≡ count + 1 → (LineHere (length starts) new → ⊥) → FirstBad text line
first_bad text new starts ss count line r l n = record {
  before = r.blocks;
  rest = new;
  is = r.is;
  blocks = page_blocks text new starts ss count r;
  line_is = omega (arith, l, r.count_is);
  none = no_more text new starts ss count r n;
}

behind_none : (code : Flat) (text new starts : List ℕ) (ss : List Step) (count : ℕ) → 0 < length new → (r : LinesRead text new starts ss count) → (LineHere (length starts) new → ⊥) → Spells code text → (more : List Labelled) → blocks_of code ≡ r.blocks ++ more → new ≡ flat_map line_text more → ⊥
behind_none code text new starts ss count some r n s [] e f = omega (arith, ap length f)
behind_none code text new starts ss count some r n s (b ∷ more) e f =
    no_more text new starts ss count r n b (flat_map line_text more)
    (front_page (r.blocks ++ b ∷ []) more (subst ArePageBlocks (e ∙ sym (append_assoc r.blocks (b ∷ []) more)) (other_blocks code text s))) f

nothing_behind : (more : List Labelled) → flat_map line_text more ≡ [] → more ≡ []
nothing_behind [] e = refl
nothing_behind (b ∷ more) e = absurd (omega (arith, ap length e, line_short b, length-append (line_text b) (flat_map line_text more)))

pub no_code : (code : Flat) (text new starts : List ℕ) (ss : List Step) (count : ℕ) → 0 < length new → LinesRead text new starts ss count → (LineHere (length starts) new → ⊥) → Spells code text → ⊥
no_code code text new starts ss count some r n s = behind_none code text new starts ss count some r n s (other_behind code text new starts ss count s r).more (other_behind code text new starts ss count s r).is (other_behind code text new starts ss count s r).text

pub same_as_other : (code : Flat) (text starts : List ℕ) (ss : List Step) (count : ℕ) → Spells code text → (r : LinesRead text [] starts ss count) → blocks_of code ≡ r.blocks
same_as_other code text starts ss count s r =
    let p = other_behind code text [] starts ss count s r in
    p.is ∙ ap (λ (xs : List Labelled). r.blocks ++ xs) (nothing_behind p.more (sym p.text)) ∙ append-nil r.blocks

tests : (ss : List Step) → Each IsPageStep ss → list_all page_step ss ≡ true
tests [] g = refl
tests (s ∷ ss) g = ap (λ (t : Bool). t && list_all page_step ss) g.0.page ∙ tests ss g.1

numbers_of : (ss : List Step) → Each IsPageStep ss → Each IsStep ss
numbers_of [] g = tt
numbers_of (s ∷ ss) g = (g.0.numbers, numbers_of ss g.1)

pub linked_read : (code : Flat) (text new starts : List ℕ) (ss : List Step) (count : ℕ) → IsLinked starts ss code → (r : LinesRead text new starts ss count) → blocks_of code ≡ r.blocks
linked_read code text new starts ss count l r = linked_blocks starts ss code l ∙ r.laid.blocks

-- what was read can be linked, and is then the code of the text
pub may_link : (text new starts : List ℕ) (ss : List Step) (count : ℕ) → length text < 4294967295 → LinesRead text new starts ss count → CanLink starts ss
may_link text new starts ss count short r = can_link starts ss r.blocks r.laid r.fit (omega (arith, few text new starts ss count r))

pub code_read : (code : Flat) (text starts : List ℕ) (ss : List Step) (count : ℕ) → LinesRead text [] starts ss count → IsFlat code → IsLinked starts ss code → Spells code text
code_read code text starts ss count r f l =
    let all : Each IsPageStep ss = subst (Each IsPageStep) (sym r.laid.steps) (each_laid IsPageStep r.blocks r.good) in
    record {
      page = record { flat = f; steps = linked_all page_step starts ss code page_erased l ∙ tests ss all; labels = omega (arith, r.labels, ap length l.starts_are) };
      numbers = linked_numbers starts ss code f l (numbers_of ss all);
      spelled = ap (flat_map line_text) (linked_read code text [] starts ss count l r) ∙ sym (r.is ∙ append-nil (flat_map line_text r.blocks));
    }

pub nothing : (xs : List ℕ) → length xs ≤ 0 → xs ≡ []
nothing [] h = refl
nothing (x ∷ xs) h = absurd (omega arith)

pub some_linked : {X : Type 0} (C : Type 0) (o : Option X) → IfNone o (C → ⊥) → C → IsSome o
some_linked C None n k = absurd (n k)
some_linked C (Some x) n k = refl
