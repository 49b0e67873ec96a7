-- What is read of a body, step by step.
use Rattle.std.proofs.Common.{◌≡◌, ℕ, ◌+◌, ◌≤◌, ◌∙◌, List, [], ◌∷◌, ◌++◌, length, refl, ap, sym, arith, append_assoc, length-append}
use Rattle.m5_machine.specs.declared.step.Instruction.{Instruction}
use Rattle.m5_machine.specs.declared.step.Step.{Step}
use Rattle.m5_machine.specs.declared.step.Step.TheVariants as steps
use Rattle.m5_machine.specs.Body.{Body, Then, If, Go, Ask, Send, Done, depth}
use Rattle.m5_machine.specs.code.Flattened.{flattened, EachStep}
use Rattle.m5_bytecode.specs.Spelling.{two, four, instruction_bytes, body_bytes}
use Rattle.m5_bytecode.specs.code.Bodies.{StepRead, BodyRead}

-- an instruction before the rest of the body
pub read_fill : (level : ℕ) (old rest new : List ℕ) (before mid after : List Step) (i : Instruction) → StepRead old (steps.Fill i) rest → mid ≡ before ++ steps.Fill i ∷ [] → BodyRead level rest mid new after → BodyRead level old before new after
unfolding body_bytes flattened EachStep depth
read_fill level old rest new before mid after i s e m = record {
  body = Then i m.body;
  is = s.is ∙ ap (λ (xs : List ℕ). instruction_bytes i ++ xs) m.is ∙ sym (append_assoc (instruction_bytes i) (body_bytes m.body) new);
  steps = m.steps ∙ ap (λ (ss : List Step). ss ++ flattened m.body) e ∙ append_assoc before (steps.Fill i ∷ []) (flattened m.body);
  good = (s.good, m.good);
  deep = m.deep;
}

-- an ending
pub read_go : (level : ℕ) (old new : List ℕ) (before after : List Step) (c v : ℕ) → level ≤ 1000 → StepRead old (steps.Go c v) new → after ≡ before ++ steps.Go c v ∷ [] → BodyRead level old before new after
unfolding body_bytes flattened EachStep depth
read_go level old new before after c v l s e = record { body = Go c v; is = s.is; steps = e; good = s.good; deep = omega arith }

pub read_ask : (level : ℕ) (old new : List ℕ) (before after : List Step) (p a n : ℕ) → level ≤ 1000 → StepRead old (steps.Ask p a n) new → after ≡ before ++ steps.Ask p a n ∷ [] → BodyRead level old before new after
unfolding body_bytes flattened EachStep depth
read_ask level old new before after p a n l s e = record { body = Ask p a n; is = s.is; steps = e; good = s.good; deep = omega arith }

pub read_send : (level : ℕ) (old new : List ℕ) (before after : List Step) (w c v : ℕ) → level ≤ 1000 → StepRead old (steps.Send w c v) new → after ≡ before ++ steps.Send w c v ∷ [] → BodyRead level old before new after
unfolding body_bytes flattened EachStep depth
read_send level old new before after w c v l s e = record { body = Send w c v; is = s.is; steps = e; good = s.good; deep = omega arith }

pub read_done : (level : ℕ) (old new : List ℕ) (before after : List Step) → level ≤ 1000 → StepRead old steps.Done new → after ≡ before ++ steps.Done ∷ [] → BodyRead level old before new after
unfolding body_bytes flattened EachStep depth
read_done level old new before after l s e = record { body = Done; is = s.is; steps = e; good = s.good; deep = omega arith }

if_is : (s n : ℕ) (a b : Body) (old rest mid new : List ℕ) → old ≡ (0x20 ∷ (two s ++ four n)) ++ rest → n ≡ length (body_bytes a) → rest ≡ body_bytes a ++ mid → mid ≡ body_bytes b ++ new → old ≡ body_bytes (If s a b) ++ new
unfolding body_bytes
if_is s n a b old rest mid new e l f g =
    e ∙ ap (λ (k : ℕ). 0x20 ∷ (two s ++ (four k ++ rest))) l
    ∙ ap (λ (xs : List ℕ). 0x20 ∷ (two s ++ (four (length (body_bytes a)) ++ xs))) (f ∙ ap (λ (xs : List ℕ). body_bytes a ++ xs) g ∙ sym (append_assoc (body_bytes a) (body_bytes b) new))

-- an `If` before its two bodies
pub read_if : (level : ℕ) (old rest mid new : List ℕ) (b0 b1 b2 after : List Step) (s n : ℕ) → StepRead old (steps.If s n) rest → b1 ≡ b0 ++ steps.If s 0 ∷ [] → BodyRead (level + 1) rest b1 mid b2 → length rest ≡ n + length mid → BodyRead (level + 1) mid b2 new after → BodyRead level old b0 new after
unfolding body_bytes flattened EachStep depth
read_if level old rest mid new b0 b1 b2 after s n k e f l g =
    let long : n ≡ length (body_bytes f.body) = omega (arith, l, ap length f.is, length-append (body_bytes f.body) mid) in
    record {
      body = If s f.body g.body;
      is = if_is s n f.body g.body old rest mid new k.is long f.is g.is;
      steps = g.steps ∙ ap (λ (ss : List Step). ss ++ flattened g.body) (f.steps ∙ ap (λ (ss : List Step). ss ++ flattened f.body) e ∙ append_assoc b0 (steps.If s 0 ∷ []) (flattened f.body))
          ∙ append_assoc b0 (steps.If s 0 ∷ flattened f.body) (flattened g.body);
      good = (record { server = refl; numbers = (k.good.numbers.0, omega arith) }, f.good, g.good);
      deep = omega (arith, f.deep, g.deep);
    }
