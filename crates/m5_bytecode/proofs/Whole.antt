-- What was read of a code, and what another code with the same bytes has.
use Rattle.std.proofs.Common.{◌≡◌, ℕ, suc, ◌+◌, ◌*◌, ◌-◌, ◌<◌, ◌≤◌, ◌^◌, ◌∙◌, List, [], ◌∷◌, ◌++◌, length, refl, ap, sym, subst, arith, append_assoc, append-nil, length-append, Bool, true, false, ◌&&◌}
use Rattle.std.specs.List.{flat_map, list_all}
use Rattle.std.proofs.lemmas.List.Concat.{flat_map-append}
use Rattle.std.proofs.lemmas.List.Sums.{sum_by-cons, sum_by-append}
use Rattle.m5_machine.specs.declared.step.Step.{Step}
use Rattle.m5_machine.specs.declared.step.Step.TheVariants as steps
use Rattle.m5_machine.specs.Body.{Body, Then, If, Go, Ask, Send, Done}
use Rattle.m5_machine.specs.Blocks.{Flat, IsFlat}
use Rattle.m5_machine.specs.Labelled.{Labelled, blocks_of}
use Rattle.m5_machine.specs.Linked.{erased, CanLink, IsLinked}
use Rattle.m5_machine.specs.Numbers.{IsStep}
use Rattle.m5_machine.specs.code.Flattened.{flattened, laid, AllFit, Rising, EachStep, EachBlock}
use Rattle.m5_machine.proofs.Laying.{nothing_laid, linked_blocks, flat_fit, flat_rising, can_link}
use Rattle.m5_machine.proofs.EachStep.{Each, ForgetsPlace, each_test, each_all, each_block, each_laid}
use Rattle.m5_machine.proofs.Kept.{linked_all, linked_sum, linked_numbers}
use Rattle.m5_bytecode.specs.declared.input.CodeEnd.{CodeEnd}
use Rattle.m5_bytecode.specs.declared.input.CodeEnd.TheVariants.{Bad, Memory}
use Rattle.m5_bytecode.specs.Spelling.{two, instruction_bytes, body_bytes, block_bytes, code_bytes}
use Rattle.m5_bytecode.specs.Server.{server_step, step_length, steps_length, Spells, NoCode}
use Rattle.m5_bytecode.specs.code.Reading.{two_in, Refuses}
use Rattle.m5_bytecode.specs.code.Bodies.{IsServerStep}
use Rattle.m5_bytecode.specs.code.Blocks.{BlocksHere, BlockRead, BlocksRead, NoBlock}
use Rattle.m5_bytecode.proofs.Reading.{two_back, some_bytes}
use Rattle.m5_bytecode.proofs.Labels.{number_read, number_of, left_of, is_there, block_unique}

-- nothing was read yet, and one block more
pub none_read : (old : List ℕ) → BlocksRead old old [] [] 0
none_read old = record { blocks = []; is = refl; good = tt; laid = nothing_laid; labels = omega arith; count_is = refl }

good_more : (bs : List Labelled) (b : Labelled) → EachBlock IsServerStep bs → EachStep IsServerStep b.body → EachBlock IsServerStep (bs ++ b ∷ [])
good_more [] b g h = (h, tt)
good_more (a ∷ bs) b g h = (g.0, good_more bs b g.1 h)

more_bytes : (bs : List Labelled) (b : Labelled) → flat_map block_bytes (bs ++ b ∷ []) ≡ flat_map block_bytes bs ++ block_bytes b
more_bytes bs b = flat_map-append block_bytes bs (b ∷ []) ∙ ap (λ (xs : List ℕ). flat_map block_bytes bs ++ xs) (append-nil (block_bytes b))

pub one_read : (old mid new starts after : List ℕ) (ss more : List Step) (count : ℕ) → length ss < 4294967295 → BlocksRead old mid starts ss count → BlockRead mid starts ss new after more → BlocksRead old new after more (count + 1)
one_read old mid new starts after ss more count small r b = record {
  blocks = r.blocks ++ b.block ∷ [];
  is = r.is ∙ ap (λ (xs : List ℕ). flat_map block_bytes r.blocks ++ xs) b.is ∙ sym (append_assoc (flat_map block_bytes r.blocks) (block_bytes b.block) new) ∙ ap (λ (xs : List ℕ). xs ++ new) (sym (more_bytes r.blocks b.block));
  good = good_more r.blocks b.block r.good b.good;
  laid = b.laid r.blocks r.laid small;
  labels = omega (arith, b.next, b.label);
  count_is = length-append r.blocks (b.block ∷ []) ∙ ap (λ (n : ℕ). n + 1) r.count_is;
}

-- as many steps as bytes, at most
step_some : (s : Step) → IsServerStep s → 0 < step_length s
step_some (steps.Fill f) g = some_bytes f g
step_some (steps.If s n) g = omega arith
step_some (steps.Go c v) g = omega arith
step_some (steps.Ask p a n) g = omega arith
step_some (steps.Send w c v) g = omega arith
step_some steps.Done g = omega arith

fewer_steps : (ss : List Step) → Each IsServerStep ss → length ss ≤ steps_length ss
fewer_steps [] g = omega arith
fewer_steps (s ∷ ss) g = omega (arith, sum_by-cons step_length s ss, step_some s g.0, fewer_steps ss g.1)

flat_bytes : (b : Body) → steps_length (flattened b) ≡ length (body_bytes b)
unfolding flattened body_bytes
flat_bytes (Then i b) = sum_by-cons step_length (steps.Fill i) (flattened b) ∙ ap (λ (n : ℕ). length (instruction_bytes i) + n) (flat_bytes b) ∙ sym (length-append (instruction_bytes i) (body_bytes b))
flat_bytes (If s a b) = omega (arith, sum_by-cons step_length (steps.If s 0) (flattened a ++ flattened b), sum_by-append step_length (flattened a) (flattened b), flat_bytes a, flat_bytes b, length-append (body_bytes a) (body_bytes b))
flat_bytes (Go c v) = refl
flat_bytes (Ask p a n) = refl
flat_bytes (Send w c v) = refl
flat_bytes Done = refl

laid_bytes : (bs : List Labelled) → steps_length (flat_map laid bs) + 6 * length bs ≡ length (flat_map block_bytes bs)
laid_bytes [] = refl
laid_bytes (b ∷ bs) = omega (arith, sum_by-append step_length (flattened b.body) (flat_map laid bs), flat_bytes b.body, laid_bytes bs, length-append (body_bytes b.body) (flat_map block_bytes bs))

pub few_steps : (old new starts : List ℕ) (ss : List Step) (count : ℕ) → BlocksRead old new starts ss count → (length ss ≤ length old) × (steps_length ss ≤ length old)
few_steps old new starts ss count r =
    let all : Each IsServerStep ss = subst (Each IsServerStep) (sym r.laid.steps) (each_laid IsServerStep r.blocks r.good) in (
      omega (arith, fewer_steps ss all, ap steps_length r.laid.steps, laid_bytes r.blocks, ap length r.is, length-append (flat_map block_bytes r.blocks) new),
      omega (arith, ap steps_length r.laid.steps, laid_bytes r.blocks, ap length r.is, length-append (flat_map block_bytes r.blocks) new),
    )

-- another code with the bytes
forgets : ForgetsPlace IsServerStep
forgets = record { any = λ slot place g. record { server = refl; numbers = (g.numbers.0, omega arith) } }

both : (ss : List Step) → Each (λ s. server_step s ≡ true) ss → Each IsStep ss → Each IsServerStep ss
both [] t n = tt
both (s ∷ ss) t n = (record { server = t.0; numbers = n.0 }, both ss t.1 n.1)

other_good : (code : Flat) (bytes : List ℕ) → Spells code bytes → EachBlock IsServerStep (blocks_of code)
other_good code bytes s = each_block IsServerStep code s.server.flat forgets (both code.steps (each_test server_step code.steps s.server.steps) (each_all IsStep code.steps s.numbers))

other_read : (code : Flat) (bytes : List ℕ) → Spells code bytes → two_in bytes ≡ number_read (length (blocks_of code)) (flat_map block_bytes (blocks_of code))
unfolding code_bytes
other_read code bytes s = ap two_in (sym s.spelled) ∙ two_back (length (blocks_of code)) (flat_map block_bytes (blocks_of code)) s.server.count

pub other_count : (code : Flat) (count : ℕ) (bytes rest : List ℕ) → Spells code bytes → two_in bytes ≡ number_read count rest → (length (blocks_of code) ≡ count) × (rest ≡ flat_map block_bytes (blocks_of code))
other_count code count bytes rest s e =
    let same : number_read count rest ≡ number_read (length (blocks_of code)) (flat_map block_bytes (blocks_of code)) = sym e ∙ other_read code bytes s in
    (sym (ap number_of same), ap left_of same)

pub other_here : (code : Flat) (count : ℕ) (bytes rest : List ℕ) → Spells code bytes → two_in bytes ≡ number_read count rest → length rest < 2 ^ 32 → BlocksHere 0 count rest
other_here code count bytes rest s e short =
    let o = other_count code count bytes rest s e in
    record { blocks = blocks_of code; is = o.1; rising = flat_rising code s.server.labels; fit = flat_fit code s.server.flat; good = other_good code bytes s; count_is = o.0; short = short }

pub no_count : (e : CodeEnd) (bytes : List ℕ) → Refuses e (two_in bytes) → NoCode e bytes
no_count Bad bytes n = λ code s. absurd (let no : false ≡ true = sym (ap is_there n) ∙ ap is_there (other_read code bytes s) in cc)
no_count Memory bytes n = tt

pub no_code_block : (e : CodeEnd) (from count : ℕ) (bytes rest here : List ℕ) → two_in bytes ≡ number_read count rest → length rest < 2 ^ 32 → (n : ℕ) → n < count → (BlocksHere 0 count rest → BlocksHere from (count - n) here) → NoBlock e from here → NoCode e bytes
no_code_block Bad from count bytes rest here e short n l f h = λ code s.
    let left : count - n ≡ suc (count - n - 1) = omega arith in
    h (count - n - 1) (subst (λ (k : ℕ). BlocksHere from k here) left (f (other_here code count bytes rest s e short)))
no_code_block Memory from count bytes rest here e short n l f h = tt

nothing_here : (bs : List Labelled) → length bs ≡ 0 → flat_map block_bytes bs ≡ []
nothing_here [] e = refl
nothing_here (b ∷ bs) e = absurd (omega arith)

pub none_left : (from n : ℕ) (bytes : List ℕ) → n ≡ 0 → BlocksHere from n bytes → bytes ≡ []
none_left from n bytes e h = h.is ∙ nothing_here h.blocks (h.count_is ∙ e)

-- the blocks are the only ones with these bytes
lists_same : (from to : ℕ) (cs bs : List Labelled) → Rising from cs → Rising to bs → EachBlock IsServerStep cs → EachBlock IsServerStep bs → length cs ≡ length bs → flat_map block_bytes cs ≡ flat_map block_bytes bs → length (flat_map block_bytes cs) < 2 ^ 32 → cs ≡ bs
lists_same from to [] [] r q g h n e s = refl
lists_same from to [] (b ∷ bs) r q g h n e s = absurd (omega arith)
lists_same from to (a ∷ cs) [] r q g h n e s = absurd (omega arith)
lists_same from to (a ∷ cs) (b ∷ bs) r q g h n e s =
    let u = block_unique a b (flat_map block_bytes cs) (flat_map block_bytes bs) r.1 q.1 g.0 h.0 e s in
    let next = lists_same (a.label + 1) (b.label + 1) cs bs r.2 q.2 g.1 h.1 (omega arith) u.1 (omega (arith, length-append (block_bytes a) (flat_map block_bytes cs))) in
    ap (λ (x : Labelled). x ∷ cs) u.0 ∙ ap (λ (xs : List Labelled). b ∷ xs) next

pub same_as_other : (code : Flat) (count : ℕ) (bytes rest starts : List ℕ) (ss : List Step) → Spells code bytes → two_in bytes ≡ number_read count rest → length rest < 2 ^ 32 → (r : BlocksRead rest [] starts ss count) → blocks_of code ≡ r.blocks
same_as_other code count bytes rest starts ss s e short r =
    let o = other_count code count bytes rest s e in
    let is : rest ≡ flat_map block_bytes r.blocks = r.is ∙ append-nil (flat_map block_bytes r.blocks) in
    lists_same 0 0 (blocks_of code) r.blocks (flat_rising code s.server.labels) (subst (Rising 0) r.laid.blocks (flat_rising (record { starts = starts; steps = ss }) r.labels))
    (other_good code bytes s) r.good (o.0 ∙ sym r.count_is) (sym o.1 ∙ is) (subst (λ (xs : List ℕ). length xs < 2 ^ 32) o.1 short)

pub must_link : (count : ℕ) (bytes rest starts : List ℕ) (ss : List Step) → two_in bytes ≡ number_read count rest → length rest + 2 < 2 ^ 32 → BlocksRead rest [] starts ss count → (CanLink starts ss → ⊥) → (code : Flat) → Spells code bytes → ⊥
must_link count bytes rest starts ss e short r n code s =
    let same = same_as_other code count bytes rest starts ss s e (omega arith) r in
    let few = few_steps rest [] starts ss count r in
    n (can_link starts ss r.blocks r.laid (subst AllFit same (flat_fit code s.server.flat)) (omega (arith, few.0)))

server_erased : (s : Step) → server_step (erased s) ≡ server_step s
server_erased (steps.Fill i) = refl
server_erased (steps.If slot place) = refl
server_erased (steps.Go c v) = refl
server_erased (steps.Ask p a n) = refl
server_erased (steps.Send w c v) = refl
server_erased steps.Done = refl

length_erased : (s : Step) → step_length (erased s) ≡ step_length s
length_erased (steps.Fill i) = refl
length_erased (steps.If slot place) = refl
length_erased (steps.Go c v) = refl
length_erased (steps.Ask p a n) = refl
length_erased (steps.Send w c v) = refl
length_erased steps.Done = refl

tests : (ss : List Step) → Each IsServerStep ss → list_all server_step ss ≡ true
tests [] g = refl
tests (s ∷ ss) g = ap (λ (t : Bool). t && list_all server_step ss) g.0.server ∙ tests ss g.1

numbers_of : (ss : List Step) → Each IsServerStep ss → Each IsStep ss
numbers_of [] g = tt
numbers_of (s ∷ ss) g = (g.0.numbers, numbers_of ss g.1)

whole_bytes : (code : Flat) (count : ℕ) (bytes rest starts : List ℕ) (ss : List Step) → bytes ≡ two count ++ rest → (r : BlocksRead rest [] starts ss count) → blocks_of code ≡ r.blocks → code_bytes code ≡ bytes
unfolding code_bytes
whole_bytes code count bytes rest starts ss e r b =
    ap (λ (bs : List Labelled). two (length bs) ++ flat_map block_bytes bs) b ∙ ap (λ (n : ℕ). two n ++ flat_map block_bytes r.blocks) r.count_is
    ∙ ap (λ (xs : List ℕ). two count ++ xs) (sym (r.is ∙ append-nil (flat_map block_bytes r.blocks))) ∙ sym e

-- what was read and linked is the code of the bytes
pub code_read : (code : Flat) (count : ℕ) (bytes rest starts : List ℕ) (ss : List Step) → bytes ≡ two count ++ rest → count < 2 ^ 16 → length bytes < 2 ^ 32 → BlocksRead rest [] starts ss count → IsFlat code → IsLinked starts ss code → Spells code bytes
code_read code count bytes rest starts ss e small short r f l =
    let all : Each IsServerStep ss = subst (Each IsServerStep) (sym r.laid.steps) (each_laid IsServerStep r.blocks r.good) in
    let blocks : blocks_of code ≡ r.blocks = linked_blocks starts ss code l ∙ r.laid.blocks in
    let bytes_are = whole_bytes code count bytes rest starts ss e r blocks in
    let few = few_steps rest [] starts ss count r in
    record {
      server = record {
        flat = f;
        steps = linked_all server_step starts ss code server_erased l ∙ tests ss all;
        small = omega (arith, few.1, linked_sum step_length starts ss code length_erased l, ap length e, length-append (two count) rest);
        labels = omega (arith, r.labels, ap length l.starts_are);
        count = omega (arith, ap length blocks, r.count_is);
        short = subst (λ (xs : List ℕ). length xs < 2 ^ 32) (sym bytes_are) short;
      };
      numbers = linked_numbers starts ss code f l (numbers_of ss all);
      spelled = bytes_are;
    }

pub nothing : (xs : List ℕ) → length xs ≤ 0 → xs ≡ []
nothing [] h = refl
nothing (x ∷ xs) h = absurd (omega arith)

pub linked_read : (code : Flat) (count : ℕ) (old new starts : List ℕ) (ss : List Step) → IsLinked starts ss code → (r : BlocksRead old new starts ss count) → blocks_of code ≡ r.blocks
linked_read code count old new starts ss l r = linked_blocks starts ss code l ∙ r.laid.blocks
