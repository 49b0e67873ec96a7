-- A body that is spelled at the front of bytes is the only one there.
use Rattle.std.proofs.Common.{◌≡◌, ℕ, ◌+◌, ◌<◌, ◌≤◌, ◌^◌, ◌∙◌, List, [], ◌++◌, length, refl, ap, sym, subst, arith, append_assoc, length-append, Option, Some, None, Bool, true, false}
use Rattle.m5_machine.specs.declared.step.Instruction.{Instruction}
use Rattle.m5_machine.specs.declared.step.Step.{Step}
use Rattle.m5_machine.specs.declared.step.Step.TheVariants as steps
use Rattle.m5_machine.specs.Body.{Body, Then, If, Go, Ask, Send, Done, depth}
use Rattle.m5_machine.specs.code.Flattened.{EachStep}
use Rattle.m5_bytecode.specs.Spelling.{instruction_bytes, body_bytes}
use Rattle.m5_bytecode.specs.declared.input.CodeEnd.{CodeEnd}
use Rattle.m5_bytecode.specs.declared.input.CodeEnd.TheVariants.{Bad, Memory}
use Rattle.m5_bytecode.specs.code.Reading.{step_in, Refuses}
use Rattle.m5_bytecode.specs.code.Bodies.{step_bytes, IsServerStep, StepRead, BodyHere, BodyRead, NoBody}
use Rattle.m5_bytecode.proofs.Reading.{step_back}

-- the first step of a body, and what is spelled behind it
abbrev pub head_step : Body → Step
head_step (Then i b) = steps.Fill i
head_step (If s a b) = steps.If s (length (body_bytes a))
head_step (Go c v) = steps.Go c v
head_step (Ask p a n) = steps.Ask p a n
head_step (Send w c v) = steps.Send w c v
head_step Done = steps.Done

abbrev pub tail_bytes : Body → List ℕ
tail_bytes (Then i b) = body_bytes b
tail_bytes (If s a b) = body_bytes a ++ body_bytes b
tail_bytes (Go c v) = []
tail_bytes (Ask p a n) = []
tail_bytes (Send w c v) = []
tail_bytes Done = []

first_step : (b : Body) (r : List ℕ) → body_bytes b ++ r ≡ step_bytes (head_step b) ++ (tail_bytes b ++ r)
unfolding body_bytes
first_step (Then i b) r = append_assoc (instruction_bytes i) (body_bytes b) r
first_step (If s a b) r = refl
first_step (Go c v) r = refl
first_step (Ask p a n) r = refl
first_step (Send w c v) r = refl
first_step Done r = refl

head_length : (b : Body) (r : List ℕ) → length (body_bytes b ++ r) ≡ length (step_bytes (head_step b)) + length (tail_bytes b ++ r)
head_length b r = ap length (first_step b r) ∙ length-append (step_bytes (head_step b)) (tail_bytes b ++ r)

tail_short : (b : Body) (r : List ℕ) → length (tail_bytes b ++ r) ≤ length (body_bytes b ++ r)
tail_short b r = omega (arith, head_length b r)

head_good : (b : Body) (r : List ℕ) → EachStep IsServerStep b → length (body_bytes b ++ r) < 2 ^ 32 → IsServerStep (head_step b)
unfolding EachStep
head_good (Then i b) r g h = g.0
head_good (If s a b) r g h = record { server = refl; numbers = (g.0.numbers.0, omega (arith, tail_short (If s a b) r, length-append (body_bytes a ++ body_bytes b) r, length-append (body_bytes a) (body_bytes b))) }
head_good (Go c v) r g h = g
head_good (Ask p a n) r g h = g
head_good (Send w c v) r g h = g
head_good Done r g h = g

-- the first step is read there
head_read : (b : Body) (r : List ℕ) → EachStep IsServerStep b → length (body_bytes b ++ r) < 2 ^ 32 → step_in (body_bytes b ++ r) ≡ Some (head_step b, tail_bytes b ++ r)
head_read b r g h = ap step_in (first_step b r) ∙ step_back (head_step b) (tail_bytes b ++ r) (head_good b r g h) (omega (arith, head_length b r))

-- what was read
abbrev pub as_read : Step → List ℕ → Option (Step × List ℕ)
as_read s r = Some (s, r)

abbrev pub step_of : Option (Step × List ℕ) → Step
step_of None = steps.Done
step_of (Some found) = found.0

abbrev pub rest_of : Option (Step × List ℕ) → List ℕ
rest_of None = []
rest_of (Some found) = found.1

abbrev pub is_read : Option (Step × List ℕ) → Bool
is_read None = false
is_read (Some found) = true

same_head : (a b : Body) (r q : List ℕ) → EachStep IsServerStep a → EachStep IsServerStep b → body_bytes a ++ r ≡ body_bytes b ++ q → length (body_bytes a ++ r) < 2 ^ 32 → (head_step a ≡ head_step b) × (tail_bytes a ++ r ≡ tail_bytes b ++ q)
same_head a b r q g h e f =
    let same : as_read (head_step a) (tail_bytes a ++ r) ≡ as_read (head_step b) (tail_bytes b ++ q) =
    sym (head_read a r g f) ∙ ap step_in e ∙ head_read b q h (subst (λ (xs : List ℕ). length xs < 2 ^ 32) e f) in
    (ap step_of same, ap rest_of same)

-- two bodies at one place are the same
pub unique : (a b : Body) (r q : List ℕ) → EachStep IsServerStep a → EachStep IsServerStep b → body_bytes a ++ r ≡ body_bytes b ++ q → length (body_bytes a ++ r) < 2 ^ 32 → (a ≡ b) × (r ≡ q)
unfolding EachStep
unique (Then i a) (Then j b) r q g h e f =
    let s = same_head (Then i a) (Then j b) r q g h e f in
    let same : steps.Fill i ≡ steps.Fill j = s.0 in
    let u = unique a b r q g.1 h.1 s.1 (omega (arith, tail_short (Then i a) r)) in
    let this : i ≡ j = cc in
    (ap (λ (f : Instruction). Then f a) this ∙ ap (Then j) u.0, u.1)
unique (Then i a) (If t b1 b2) r q g h e f = absurd (let no : head_step (Then i a) ≡ head_step (If t b1 b2) = (same_head (Then i a) (If t b1 b2) r q g h e f).0 in cc)
unique (Then i a) (Go d w) r q g h e f = absurd (let no : head_step (Then i a) ≡ head_step (Go d w) = (same_head (Then i a) (Go d w) r q g h e f).0 in cc)
unique (Then i a) (Ask k y m) r q g h e f = absurd (let no : head_step (Then i a) ≡ head_step (Ask k y m) = (same_head (Then i a) (Ask k y m) r q g h e f).0 in cc)
unique (Then i a) (Send o d w) r q g h e f = absurd (let no : head_step (Then i a) ≡ head_step (Send o d w) = (same_head (Then i a) (Send o d w) r q g h e f).0 in cc)
unique (Then i a) Done r q g h e f = absurd (let no : head_step (Then i a) ≡ head_step Done = (same_head (Then i a) Done r q g h e f).0 in cc)
unique (If s a1 a2) (Then j b) r q g h e f = absurd (let no : head_step (If s a1 a2) ≡ head_step (Then j b) = (same_head (If s a1 a2) (Then j b) r q g h e f).0 in cc)
unique (If s a1 a2) (If t b1 b2) r q g h e f =
    let both = same_head (If s a1 a2) (If t b1 b2) r q g h e f in
    let same : steps.If s (length (body_bytes a1)) ≡ steps.If t (length (body_bytes b1)) = both.0 in
    let this : s ≡ t = cc in
    let moved : body_bytes a1 ++ (body_bytes a2 ++ r) ≡ body_bytes b1 ++ (body_bytes b2 ++ q) = sym (append_assoc (body_bytes a1) (body_bytes a2) r) ∙ both.1 ∙ append_assoc (body_bytes b1) (body_bytes b2) q in
    let short : length (body_bytes a1 ++ (body_bytes a2 ++ r)) < 2 ^ 32 = subst (λ (xs : List ℕ). length xs < 2 ^ 32) (append_assoc (body_bytes a1) (body_bytes a2) r) (omega (arith, tail_short (If s a1 a2) r)) in
    let u = unique a1 b1 (body_bytes a2 ++ r) (body_bytes b2 ++ q) g.1 h.1 moved short in
    let v = unique a2 b2 r q g.2 h.2 u.1 (omega (arith, length-append (body_bytes a1) (body_bytes a2 ++ r))) in
    (ap (λ (n : ℕ). If n a1 a2) this ∙ ap (λ (x : Body). If t x a2) u.0 ∙ ap (If t b1) v.0, v.1)
unique (If s a1 a2) (Go d w) r q g h e f = absurd (let no : head_step (If s a1 a2) ≡ head_step (Go d w) = (same_head (If s a1 a2) (Go d w) r q g h e f).0 in cc)
unique (If s a1 a2) (Ask k y m) r q g h e f = absurd (let no : head_step (If s a1 a2) ≡ head_step (Ask k y m) = (same_head (If s a1 a2) (Ask k y m) r q g h e f).0 in cc)
unique (If s a1 a2) (Send o d w) r q g h e f = absurd (let no : head_step (If s a1 a2) ≡ head_step (Send o d w) = (same_head (If s a1 a2) (Send o d w) r q g h e f).0 in cc)
unique (If s a1 a2) Done r q g h e f = absurd (let no : head_step (If s a1 a2) ≡ head_step Done = (same_head (If s a1 a2) Done r q g h e f).0 in cc)
unique (Go c v) (Then j b) r q g h e f = absurd (let no : head_step (Go c v) ≡ head_step (Then j b) = (same_head (Go c v) (Then j b) r q g h e f).0 in cc)
unique (Go c v) (If t b1 b2) r q g h e f = absurd (let no : head_step (Go c v) ≡ head_step (If t b1 b2) = (same_head (Go c v) (If t b1 b2) r q g h e f).0 in cc)
unique (Go c v) (Go d w) r q g h e f =
    let both = same_head (Go c v) (Go d w) r q g h e f in
    let same : steps.Go c v ≡ steps.Go d w = both.0 in
    ((let one : c ≡ d = cc in let two : v ≡ w = cc in ap (λ (n : ℕ). Go n v) one ∙ ap (Go d) two), both.1)
unique (Go c v) (Ask k y m) r q g h e f = absurd (let no : head_step (Go c v) ≡ head_step (Ask k y m) = (same_head (Go c v) (Ask k y m) r q g h e f).0 in cc)
unique (Go c v) (Send o d w) r q g h e f = absurd (let no : head_step (Go c v) ≡ head_step (Send o d w) = (same_head (Go c v) (Send o d w) r q g h e f).0 in cc)
unique (Go c v) Done r q g h e f = absurd (let no : head_step (Go c v) ≡ head_step Done = (same_head (Go c v) Done r q g h e f).0 in cc)
unique (Ask p x n) (Then j b) r q g h e f = absurd (let no : head_step (Ask p x n) ≡ head_step (Then j b) = (same_head (Ask p x n) (Then j b) r q g h e f).0 in cc)
unique (Ask p x n) (If t b1 b2) r q g h e f = absurd (let no : head_step (Ask p x n) ≡ head_step (If t b1 b2) = (same_head (Ask p x n) (If t b1 b2) r q g h e f).0 in cc)
unique (Ask p x n) (Go d w) r q g h e f = absurd (let no : head_step (Ask p x n) ≡ head_step (Go d w) = (same_head (Ask p x n) (Go d w) r q g h e f).0 in cc)
unique (Ask p x n) (Ask k y m) r q g h e f =
    let both = same_head (Ask p x n) (Ask k y m) r q g h e f in
    let same : steps.Ask p x n ≡ steps.Ask k y m = both.0 in
    ((let one : p ≡ k = cc in let two : x ≡ y = cc in let three : n ≡ m = cc in ap (λ (z : ℕ). Ask z x n) one ∙ ap (λ (z : ℕ). Ask k z n) two ∙ ap (Ask k y) three), both.1)
unique (Ask p x n) (Send o d w) r q g h e f = absurd (let no : head_step (Ask p x n) ≡ head_step (Send o d w) = (same_head (Ask p x n) (Send o d w) r q g h e f).0 in cc)
unique (Ask p x n) Done r q g h e f = absurd (let no : head_step (Ask p x n) ≡ head_step Done = (same_head (Ask p x n) Done r q g h e f).0 in cc)
unique (Send u c v) (Then j b) r q g h e f = absurd (let no : head_step (Send u c v) ≡ head_step (Then j b) = (same_head (Send u c v) (Then j b) r q g h e f).0 in cc)
unique (Send u c v) (If t b1 b2) r q g h e f = absurd (let no : head_step (Send u c v) ≡ head_step (If t b1 b2) = (same_head (Send u c v) (If t b1 b2) r q g h e f).0 in cc)
unique (Send u c v) (Go d w) r q g h e f = absurd (let no : head_step (Send u c v) ≡ head_step (Go d w) = (same_head (Send u c v) (Go d w) r q g h e f).0 in cc)
unique (Send u c v) (Ask k y m) r q g h e f = absurd (let no : head_step (Send u c v) ≡ head_step (Ask k y m) = (same_head (Send u c v) (Ask k y m) r q g h e f).0 in cc)
unique (Send u c v) (Send o d w) r q g h e f =
    let both = same_head (Send u c v) (Send o d w) r q g h e f in
    let same : steps.Send u c v ≡ steps.Send o d w = both.0 in
    ((let one : u ≡ o = cc in let two : c ≡ d = cc in let three : v ≡ w = cc in ap (λ (z : ℕ). Send z c v) one ∙ ap (λ (z : ℕ). Send o z v) two ∙ ap (Send o d) three), both.1)
unique (Send u c v) Done r q g h e f = absurd (let no : head_step (Send u c v) ≡ head_step Done = (same_head (Send u c v) Done r q g h e f).0 in cc)
unique Done (Then j b) r q g h e f = absurd (let no : head_step Done ≡ head_step (Then j b) = (same_head Done (Then j b) r q g h e f).0 in cc)
unique Done (If t b1 b2) r q g h e f = absurd (let no : head_step Done ≡ head_step (If t b1 b2) = (same_head Done (If t b1 b2) r q g h e f).0 in cc)
unique Done (Go d w) r q g h e f = absurd (let no : head_step Done ≡ head_step (Go d w) = (same_head Done (Go d w) r q g h e f).0 in cc)
unique Done (Ask k y m) r q g h e f = absurd (let no : head_step Done ≡ head_step (Ask k y m) = (same_head Done (Ask k y m) r q g h e f).0 in cc)
unique Done (Send o d w) r q g h e f = absurd (let no : head_step Done ≡ head_step (Send o d w) = (same_head Done (Send o d w) r q g h e f).0 in cc)
unique Done Done r q g h e f =
    let both = same_head Done Done r q g h e f in
    let same : steps.Done ≡ steps.Done = both.0 in
    (refl, both.1)

-- the step that was read is the first of the body that is spelled here
head_is : (level : ℕ) (old rest : List ℕ) (s : Step) (h : BodyHere level old) → StepRead old s rest → (head_step h.body ≡ s) × (tail_bytes h.body ++ h.rest ≡ rest)
head_is level old rest s h k =
    let step_short : length (step_bytes s) < 2 ^ 32 = omega (arith, ap length k.is, length-append (step_bytes s) rest, h.short) in
    let same : as_read (head_step h.body) (tail_bytes h.body ++ h.rest) ≡ as_read s rest =
    sym (head_read h.body h.rest h.good (subst (λ (xs : List ℕ). length xs < 2 ^ 32) h.is h.short)) ∙ ap step_in (sym h.is) ∙ ap step_in k.is ∙ step_back s rest k.good step_short in
    (ap step_of same, ap rest_of same)

rest_short : (level : ℕ) (old rest : List ℕ) (s : Step) → BodyHere level old → StepRead old s rest → length rest < 2 ^ 32
rest_short level old rest s h k = omega (arith, ap length k.is, length-append (step_bytes s) rest, h.short)

here_then : (b : Body) (i : Instruction) (r rest : List ℕ) (level : ℕ) → EachStep IsServerStep b → depth b + level ≤ 1001 → head_step b ≡ steps.Fill i → tail_bytes b ++ r ≡ rest → length rest < 2 ^ 32 → BodyHere level rest
unfolding EachStep depth
here_then (Then j b) i r rest level g d e t s =
    record { body = b; rest = r; is = sym t; good = g.1; deep = d; short = s }
here_then (If n a1 a2) i r rest level g d e t s = absurd (let no : head_step (If n a1 a2) ≡ steps.Fill i = e in cc)
here_then (Go c v) i r rest level g d e t s = absurd (let no : head_step (Go c v) ≡ steps.Fill i = e in cc)
here_then (Ask p x n) i r rest level g d e t s = absurd (let no : head_step (Ask p x n) ≡ steps.Fill i = e in cc)
here_then (Send u c v) i r rest level g d e t s = absurd (let no : head_step (Send u c v) ≡ steps.Fill i = e in cc)
here_then Done i r rest level g d e t s = absurd (let no : head_step Done ≡ steps.Fill i = e in cc)

-- behind an instruction the same body goes on
pub here_fill : (level : ℕ) (old rest : List ℕ) (i : Instruction) → StepRead old (steps.Fill i) rest → BodyHere level old → BodyHere level rest
here_fill level old rest i k h =
    let p = head_is level old rest (steps.Fill i) h k in
    here_then h.body i h.rest rest level h.good h.deep p.0 p.1 (rest_short level old rest (steps.Fill i) h k)

-- the two bodies behind an `If`
pub record BranchHere (level : ℕ) (bytes : List ℕ) (n : ℕ) : Type 0 where
  pub first : Body
  pub second : Body
  pub rest : List ℕ
  pub is : bytes ≡ body_bytes first ++ (body_bytes second ++ rest)
  pub long : n ≡ length (body_bytes first)
  pub first_good : EachStep IsServerStep first
  pub second_good : EachStep IsServerStep second
  pub first_deep : depth first + (level + 1) ≤ 1001
  pub second_deep : depth second + (level + 1) ≤ 1001
  pub short : length bytes < 2 ^ 32

here_branch : (b : Body) (s n : ℕ) (r rest : List ℕ) (level : ℕ) → EachStep IsServerStep b → depth b + level ≤ 1001 → head_step b ≡ steps.If s n → tail_bytes b ++ r ≡ rest → length rest < 2 ^ 32 → BranchHere level rest n
unfolding EachStep depth
here_branch (Then j b) s n r rest level g d e u l = absurd (let no : head_step (Then j b) ≡ steps.If s n = e in cc)
here_branch (If t a b) s n r rest level g d e u l =
    let same : steps.If t (length (body_bytes a)) ≡ steps.If s n = e in
    let long : length (body_bytes a) ≡ n = cc in
    record { first = a; second = b; rest = r; is = sym u ∙ append_assoc (body_bytes a) (body_bytes b) r; long = sym long; first_good = g.1; second_good = g.2; first_deep = omega arith; second_deep = omega arith; short = l }
here_branch (Go c v) s n r rest level g d e u l = absurd (let no : head_step (Go c v) ≡ steps.If s n = e in cc)
here_branch (Ask p x m) s n r rest level g d e u l = absurd (let no : head_step (Ask p x m) ≡ steps.If s n = e in cc)
here_branch (Send w c v) s n r rest level g d e u l = absurd (let no : head_step (Send w c v) ≡ steps.If s n = e in cc)
here_branch Done s n r rest level g d e u l = absurd (let no : head_step Done ≡ steps.If s n = e in cc)

pub here_if : (level : ℕ) (old rest : List ℕ) (s n : ℕ) → StepRead old (steps.If s n) rest → BodyHere level old → BranchHere level rest n
here_if level old rest s n k h =
    let p = head_is level old rest (steps.If s n) h k in
    here_branch h.body s n h.rest rest level h.good h.deep p.0 p.1 (rest_short level old rest (steps.If s n) h k)

some_depth : (b : Body) → 0 < depth b
unfolding depth
some_depth (Then i b) = some_depth b
some_depth (If s a b) = omega arith
some_depth (Go c v) = omega arith
some_depth (Ask p a n) = omega arith
some_depth (Send w c v) = omega arith
some_depth Done = omega arith

-- no `If` nests below the last level
pub too_deep : (level : ℕ) (old rest : List ℕ) (s n : ℕ) → 1000 ≤ level → StepRead old (steps.If s n) rest → BodyHere level old → ⊥
too_deep level old rest s n l k h = let b = here_if level old rest s n k h in omega (arith, some_depth b.first, b.first_deep)

pub here_first : (level : ℕ) (rest : List ℕ) (n : ℕ) → BranchHere level rest n → BodyHere (level + 1) rest
here_first level rest n b = record { body = b.first; rest = body_bytes b.second ++ b.rest; is = b.is; good = b.first_good; deep = b.first_deep; short = b.short }

-- the first body is the one that was read: its length is as told, and the second follows it
first_is : (level : ℕ) (rest mid : List ℕ) (n : ℕ) (before after : List Step) (b : BranchHere level rest n) (m : BodyRead (level + 1) rest before mid after) → (b.first ≡ m.body) × (body_bytes b.second ++ b.rest ≡ mid)
first_is level rest mid n before after b m =
    unique b.first m.body (body_bytes b.second ++ b.rest) mid b.first_good m.good (sym b.is ∙ m.is) (subst (λ (xs : List ℕ). length xs < 2 ^ 32) b.is b.short)

pub here_length : (level : ℕ) (rest mid : List ℕ) (n : ℕ) (before after : List Step) → BranchHere level rest n → BodyRead (level + 1) rest before mid after → length rest ≡ n + length mid
here_length level rest mid n before after b m =
    let p = first_is level rest mid n before after b m in
    omega (arith, ap length m.is, length-append (body_bytes m.body) mid, b.long, ap (λ (x : Body). length (body_bytes x)) p.0)

pub here_second : (level : ℕ) (rest mid : List ℕ) (n : ℕ) (before after : List Step) → BranchHere level rest n → BodyRead (level + 1) rest before mid after → BodyHere (level + 1) mid
here_second level rest mid n before after b m =
    let p = first_is level rest mid n before after b m in
    record { body = b.second; rest = b.rest; is = sym p.1; good = b.second_good; deep = b.second_deep; short = omega (arith, ap length m.is, length-append (body_bytes m.body) mid, b.short) }

-- where no step is, no body is
pub no_step : (e : CodeEnd) (level : ℕ) (old rest : List ℕ) → (BodyHere level old → BodyHere level rest) → Refuses e (step_in rest) → NoBody e level old
no_step Bad level old rest f n = λ h.
    let b = f h in
    let read : step_in rest ≡ as_read (head_step b.body) (tail_bytes b.body ++ b.rest) = ap step_in b.is ∙ head_read b.body b.rest b.good (subst (λ (xs : List ℕ). length xs < 2 ^ 32) b.is b.short) in
    absurd (let no : false ≡ true = sym (ap is_read n) ∙ ap is_read read in cc)
no_step Memory level old rest f n = tt

pub no_body : (e : CodeEnd) (level next : ℕ) (old rest : List ℕ) → (BodyHere level old → BodyHere next rest) → NoBody e next rest → NoBody e level old
no_body Bad level next old rest f n = λ h. n (f h)
no_body Memory level next old rest f n = tt

pub no_memory : (e : CodeEnd) (level : ℕ) (old : List ℕ) → e ≡ Memory → NoBody e level old
no_memory Bad level old h = absurd (let no : Bad ≡ Memory = h in cc)
no_memory Memory level old h = tt
