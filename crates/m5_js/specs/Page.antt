-- Which blocks are a browser's code.
use Rattle.std.specs.Prelude.{pos, ◌≤◌, length, Bool, true, false, IsTrue, nat_le, int_le, ◌==◌, ◌||◌, ◌≡◌}
use Rattle.std.specs.List.{list_all}
use Rattle.m5_terms.specs.Text.{text_byte}
use Rattle.m5_machine.specs.declared.step.Instruction.{Instruction}
use Rattle.m5_machine.specs.declared.step.Instruction.TheVariants as i
use Rattle.m5_machine.specs.declared.step.Step.{Step}
use Rattle.m5_machine.specs.declared.step.Step.TheVariants as steps
use Rattle.m5_machine.specs.Blocks.{Flat, IsFlat}
use Rattle.m5_machine.specs.Numbers.{IsStep}

-- a browser's instructions: no negative literal, a text as a program's may be, a place up to
-- 65,534, and one form of equality, `Same`
abbrev pub page_instruction : Instruction → Bool
page_instruction i.Unit = true
page_instruction (i.Bool b) = true
page_instruction (i.Int n) = int_le (pos 0) n
page_instruction (i.Text bytes) = list_all text_byte bytes
page_instruction (i.Array slots) = true
page_instruction (i.Field s place) = nat_le place 65534
page_instruction (i.Add a b) = true
page_instruction (i.Sub a b) = true
page_instruction (i.Mul a b) = true
page_instruction (i.Quo a b) = true
page_instruction (i.Cat a b) = true
page_instruction (i.Str a) = true
page_instruction (i.Less a b) = true
page_instruction (i.EqualInts a b) = false
page_instruction (i.EqualTexts a b) = false
page_instruction (i.Same a b) = true
page_instruction (i.Cell s) = true
page_instruction (i.Load s) = true
page_instruction (i.Store s v) = true
page_instruction (i.Spawn s) = true

-- a browser asks say, set_text, get_text, on and show, codes 0 to 3 and 7, and sends to any world,
-- 0 to 2
abbrev pub page_step : Step → Bool
page_step (steps.Fill i) = page_instruction i
page_step (steps.If slot place) = true
page_step (steps.Go closure value) = true
page_step (steps.Ask primitive argument next) = nat_le primitive 3 || primitive == 7
page_step (steps.Send world closure value) = nat_le world 2
page_step steps.Done = true

-- blocks of a browser's steps
pub record IsPageCode (code : Flat) : Type 0 where
  pub flat : IsFlat code
  pub steps : IsTrue (list_all page_step code.steps)
  pub labels : length code.starts ≤ 65536

-- a browser's step, whose numbers are ones that its type holds
pub record IsPageStep (s : Step) : Type 0 where
  pub page : page_step s ≡ true
  pub numbers : IsStep s
