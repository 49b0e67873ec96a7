-- A block that is spelled at the front of bytes is the only one there.
use Rattle.std.proofs.Common.{◌≡◌, ℕ, suc, ◌+◌, ◌<◌, ◌≤◌, ◌^◌, ◌∙◌, List, [], ◌∷◌, ◌++◌, length, ap, sym, subst, arith, length-append, Option, Some, None, Bool, true, false}
use Rattle.std.specs.List.{flat_map}
use Rattle.m5_machine.specs.declared.step.Step.{Step}
use Rattle.m5_machine.specs.Body.{Body, depth}
use Rattle.m5_machine.specs.Labelled.{Labelled}
use Rattle.m5_machine.specs.code.Flattened.{IsLaid, AllFit, Rising, EachStep, EachBlock}
use Rattle.m5_machine.proofs.Laying.{laid_block}
use Rattle.m5_bytecode.specs.declared.input.CodeEnd.{CodeEnd}
use Rattle.m5_bytecode.specs.declared.input.CodeEnd.TheVariants.{Bad, Memory}
use Rattle.m5_bytecode.specs.Spelling.{two, four, body_bytes, block_bytes}
use Rattle.m5_bytecode.specs.code.Reading.{two_in, four_in, Refuses}
use Rattle.m5_bytecode.specs.code.Bodies.{IsServerStep, BodyHere, BodyRead, NoBody}
use Rattle.m5_bytecode.specs.code.Blocks.{BlocksHere, BlockRead, NoBlock}
use Rattle.m5_bytecode.proofs.Reading.{two_back, four_back}
use Rattle.m5_bytecode.proofs.Bodies.{unique}

-- a number that was read
abbrev pub number_read : ℕ → List ℕ → Option (ℕ × List ℕ)
number_read n r = Some (n, r)

abbrev pub number_of : Option (ℕ × List ℕ) → ℕ
number_of None = 0
number_of (Some found) = found.0

abbrev pub left_of : Option (ℕ × List ℕ) → List ℕ
left_of None = []
left_of (Some found) = found.1

abbrev pub is_there : Option (ℕ × List ℕ) → Bool
is_there None = false
is_there (Some found) = true

-- the first block, and those behind it
pub record FirstHere (from count : ℕ) (bytes : List ℕ) : Type 0 where
  pub block : Labelled
  pub others : List Labelled
  pub is : bytes ≡ block_bytes block ++ flat_map block_bytes others
  pub low : from ≤ block.label
  pub high : block.label < 65536
  pub rising : Rising (block.label + 1) others
  pub deep : depth block.body ≤ 1000
  pub fit : AllFit others
  pub good : EachStep IsServerStep block.body
  pub goods : EachBlock IsServerStep others
  pub count_is : length others ≡ count
  pub short : length bytes < 2 ^ 32

first_by : (bs : List Labelled) (from count : ℕ) (bytes : List ℕ) → bytes ≡ flat_map block_bytes bs → Rising from bs → AllFit bs → EachBlock IsServerStep bs → length bs ≡ suc count → length bytes < 2 ^ 32 → FirstHere from count bytes
first_by [] from count bytes e r f g n s = absurd (omega arith)
first_by (b ∷ bs) from count bytes e r f g n s = record { block = b; others = bs; is = e; low = r.0; high = r.1; rising = r.2; deep = f.1; fit = f.2; good = g.0; goods = g.1; count_is = omega arith; short = s }

pub first_here : (from count : ℕ) (bytes : List ℕ) → BlocksHere from (suc count) bytes → FirstHere from count bytes
first_here from count bytes h = first_by h.blocks from count bytes h.is h.rising h.fit h.good h.count_is h.short

-- its label is read, then its length, and then its body stands there
label_read : (b : Labelled) (r : List ℕ) → b.label < 65536 → two_in (block_bytes b ++ r) ≡ number_read b.label (four (length (body_bytes b.body)) ++ (body_bytes b.body ++ r))
label_read b r h = two_back b.label (four (length (body_bytes b.body)) ++ (body_bytes b.body ++ r)) h

block_length : (b : Labelled) (r : List ℕ) → length (block_bytes b ++ r) ≡ 6 + length (body_bytes b.body) + length r
block_length b r = omega (arith, length-append (body_bytes b.body) r)

pub block_unique : (a b : Labelled) (r q : List ℕ) → a.label < 65536 → b.label < 65536 → EachStep IsServerStep a.body → EachStep IsServerStep b.body → block_bytes a ++ r ≡ block_bytes b ++ q → length (block_bytes a ++ r) < 2 ^ 32 → (a ≡ b) × (r ≡ q)
block_unique a b r q h k g f e s =
    let t : length (block_bytes b ++ q) < 2 ^ 32 = subst (λ (xs : List ℕ). length xs < 2 ^ 32) e s in
    let labels : number_read a.label (four (length (body_bytes a.body)) ++ (body_bytes a.body ++ r)) ≡ number_read b.label (four (length (body_bytes b.body)) ++ (body_bytes b.body ++ q)) =
    sym (label_read a r h) ∙ ap two_in e ∙ label_read b q k in
    let lengths : number_read (length (body_bytes a.body)) (body_bytes a.body ++ r) ≡ number_read (length (body_bytes b.body)) (body_bytes b.body ++ q) =
    sym (four_back (length (body_bytes a.body)) (body_bytes a.body ++ r) (omega (arith, block_length a r))) ∙ ap four_in (ap left_of labels) ∙ four_back (length (body_bytes b.body)) (body_bytes b.body ++ q) (omega (arith, block_length b q)) in
    let bodies = unique a.body b.body r q g f (ap left_of lengths) (omega (arith, block_length a r, length-append (body_bytes a.body) r)) in
    (ap (λ (n : ℕ). record { label = n; body = a.body }) (ap number_of labels) ∙ ap (λ (x : Body). record { label = b.label; body = x }) bodies.0, bodies.1)

-- what is known once label and length were read
pub record Opened (from count label long : ℕ) (rest : List ℕ) : Type 0 where
  pub first : Body
  pub behind : List ℕ
  pub low : from ≤ label
  pub long_is : long ≡ length (body_bytes first)
  pub is : rest ≡ body_bytes first ++ behind
  pub deep : depth first ≤ 1000
  pub good : EachStep IsServerStep first
  pub short : length rest < 2 ^ 32

label_is : (from count label : ℕ) (old mid : List ℕ) (f : FirstHere from count old) → two_in old ≡ number_read label mid → (label ≡ f.block.label) × (mid ≡ four (length (body_bytes f.block.body)) ++ (body_bytes f.block.body ++ flat_map block_bytes f.others))
label_is from count label old mid f e =
    let same : number_read label mid ≡ number_read f.block.label (four (length (body_bytes f.block.body)) ++ (body_bytes f.block.body ++ flat_map block_bytes f.others)) =
    sym e ∙ ap two_in f.is ∙ label_read f.block (flat_map block_bytes f.others) f.high in
    (ap number_of same, ap left_of same)

length_read : (from count : ℕ) (old mid : List ℕ) (f : FirstHere from count old) → mid ≡ four (length (body_bytes f.block.body)) ++ (body_bytes f.block.body ++ flat_map block_bytes f.others) → four_in mid ≡ number_read (length (body_bytes f.block.body)) (body_bytes f.block.body ++ flat_map block_bytes f.others)
length_read from count old mid f e =
    ap four_in e ∙ four_back (length (body_bytes f.block.body)) (body_bytes f.block.body ++ flat_map block_bytes f.others) (omega (arith, f.short, ap length f.is, block_length f.block (flat_map block_bytes f.others)))

pub opened : (from count label long : ℕ) (old mid rest : List ℕ) → BlocksHere from (suc count) old → two_in old ≡ number_read label mid → four_in mid ≡ number_read long rest → Opened from count label long rest
opened from count label long old mid rest h e k =
    let f = first_here from count old h in
    let l = label_is from count label old mid f e in
    let same : number_read long rest ≡ number_read (length (body_bytes f.block.body)) (body_bytes f.block.body ++ flat_map block_bytes f.others) = sym k ∙ length_read from count old mid f l.1 in
    record {
      first = f.block.body;
      behind = flat_map block_bytes f.others;
      low = omega (arith, f.low, l.0);
      long_is = ap number_of same;
      is = ap left_of same;
      deep = f.deep;
      good = f.good;
      short = omega (arith, f.short, ap length f.is, block_length f.block (flat_map block_bytes f.others), ap length (ap left_of same), length-append (body_bytes f.block.body) (flat_map block_bytes f.others));
    }

pub no_label : (e : CodeEnd) (from : ℕ) (old : List ℕ) → Refuses e (two_in old) → NoBlock e from old
no_label Bad from old n = λ count h.
    let f = first_here from count old h in
    absurd (let no : false ≡ true = sym (ap is_there n) ∙ ap is_there (ap two_in f.is ∙ label_read f.block (flat_map block_bytes f.others) f.high) in cc)
no_label Memory from old n = tt

pub low_label : (from count label : ℕ) (old mid : List ℕ) → label < from → two_in old ≡ number_read label mid → BlocksHere from (suc count) old → ⊥
low_label from count label old mid l e h =
    let f = first_here from count old h in
    let is = label_is from count label old mid f e in
    omega (arith, f.low, is.0)

pub no_length : (e : CodeEnd) (from label : ℕ) (old mid : List ℕ) → two_in old ≡ number_read label mid → Refuses e (four_in mid) → NoBlock e from old
no_length Bad from label old mid e n = λ count h.
    let f = first_here from count old h in
    let is = label_is from count label old mid f e in
    absurd (let no : false ≡ true = sym (ap is_there n) ∙ ap is_there (length_read from count old mid f is.1) in cc)
no_length Memory from label old mid e n = tt

body_here : (from count label long : ℕ) (rest : List ℕ) → Opened from count label long rest → BodyHere 1 rest
body_here from count label long rest o = record { body = o.first; rest = o.behind; is = o.is; good = o.good; deep = omega (arith, o.deep); short = o.short }

pub no_block_body : (e : CodeEnd) (from label long : ℕ) (old mid rest : List ℕ) → two_in old ≡ number_read label mid → four_in mid ≡ number_read long rest → NoBody e 1 rest → NoBlock e from old
no_block_body Bad from label long old mid rest e k n = λ count h. n (body_here from count label long rest (opened from count label long old mid rest h e k))
no_block_body Memory from label long old mid rest e k n = tt

pub no_block_memory : (e : CodeEnd) (from : ℕ) (old : List ℕ) → e ≡ Memory → NoBlock e from old
no_block_memory Bad from old h = absurd (let no : Bad ≡ Memory = h in cc)
no_block_memory Memory from old h = tt

pub long_as_told : (from count label long : ℕ) (rest new : List ℕ) (before after : List Step) → Opened from count label long rest → BodyRead 1 rest before new after → length rest ≡ long + length new
long_as_told from count label long rest new before after o m =
    let u = unique o.first m.body o.behind new o.good m.good (sym o.is ∙ m.is) (subst (λ (xs : List ℕ). length xs < 2 ^ 32) o.is o.short) in
    omega (arith, ap length m.is, length-append (body_bytes m.body) new, o.long_is, ap (λ (x : Body). length (body_bytes x)) u.0)

-- the parts of a block that was read
pub block_read : (label long n : ℕ) (old mid rest new starts skipped after : List ℕ) (ss more : List Step) → old ≡ two label ++ mid → mid ≡ four long ++ rest → length rest ≡ long + length new → label < 65536 → length skipped ≡ label → n ≡ length ss → after ≡ skipped ++ n ∷ [] → ((ss : List Step) (bs : List Labelled) → IsLaid starts ss bs → IsLaid skipped ss bs) → BodyRead 1 rest ss new more → BlockRead old starts ss new after more
block_read label long n old mid rest new starts skipped after ss more e f l h s k a g m =
    let long_is : long ≡ length (body_bytes m.body) = omega (arith, l, ap length m.is, length-append (body_bytes m.body) new) in
    let after_is : after ≡ skipped ++ length ss ∷ [] = a ∙ ap (λ (x : ℕ). skipped ++ x ∷ []) k in
    record {
      block = record { label = label; body = m.body };
      is = e ∙ ap (λ (xs : List ℕ). two label ++ xs) (f ∙ ap (λ (x : ℕ). four x ++ rest) long_is ∙ ap (λ (xs : List ℕ). four (length (body_bytes m.body)) ++ xs) m.is);
      good = m.good;
      label = h;
      next = omega (arith, ap length after_is, length-append skipped (length ss ∷ []));
      laid = λ bs i small.
          subst (λ (x : ℕ). IsLaid after more (bs ++ record { label = x; body = m.body } ∷ [])) s
          (subst (λ (xs : List ℕ). IsLaid xs more (bs ++ record { label = length skipped; body = m.body } ∷ [])) (sym after_is)
          (subst (λ (xs : List Step). IsLaid (skipped ++ length ss ∷ []) xs (bs ++ record { label = length skipped; body = m.body } ∷ [])) (sym m.steps)
          (laid_block skipped ss bs m.body (g ss bs i) small)));
    }

-- the blocks behind one that was read
pub blocks_next : (from count : ℕ) (old new starts after : List ℕ) (ss more : List Step) → BlocksHere from (suc count) old → BlockRead old starts ss new after more → BlocksHere (length after) count new
blocks_next from count old new starts after ss more h b =
    let f = first_here from count old h in
    let u = block_unique f.block b.block (flat_map block_bytes f.others) new f.high b.label f.good b.good (sym f.is ∙ b.is) (subst (λ (xs : List ℕ). length xs < 2 ^ 32) f.is f.short) in
    let next : f.block.label + 1 ≡ length after = omega (arith, b.next, ap (λ (x : Labelled). x.label) u.0) in
    record {
      blocks = f.others;
      is = sym u.1;
      rising = subst (λ (n : ℕ). Rising n f.others) next f.rising;
      fit = f.fit;
      good = f.goods;
      count_is = f.count_is;
      short = omega (arith, f.short, ap length b.is, block_length b.block new);
    }
