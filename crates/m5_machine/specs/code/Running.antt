-- What a machine keeps while it runs a block, and where one step leads.
use Rattle.std.specs.Prelude.{◌≡◌, ℕ, suc, ◌+◌, ◌≤◌, ◌<◌, length, All}
use Rattle.m5_region.specs.declared.value.Value.{Value}
use Rattle.m5_region.specs.declared.bench.Bench.{Bench}
use Rattle.m5_region.specs.Region.{Refers}
use Rattle.m5_machine.specs.declared.closure.Target.{Target}
use Rattle.m5_machine.specs.declared.next.Next.{Next}
use Rattle.m5_machine.specs.declared.next.Led.{Led}
use Rattle.m5_machine.specs.declared.next.Led.TheVariants.{On, Out}
use Rattle.m5_machine.specs.Body.{Body, Then, If, Go, Ask, Send, Done, fills}
use Rattle.m5_machine.specs.Blocks.{Flat, body_at, HasBody, BeginsBlock}
use Rattle.m5_machine.specs.Closure.{IsSound}
use Rattle.m5_machine.specs.Block.{run_body, NextFits}

-- the size of a body, which falls with each step
unfoldable pub size : Body → ℕ
size (Then i b) = suc (size b)
size (If s a b) = suc (size a + size b)
size (Go closure value) = 1
size (Ask primitive argument next) = 1
size (Send world closure value) = 1
size Done = 1

-- a bench whose slots refer as its cells and threads do
pub record IsRunning (code : Flat) (bench : Bench) : Type 0 where
  pub sound : IsSound code bench
  pub slots : All (Refers bench.region.objects) bench.slots

-- the body at a place may run
pub record IsReady (code : Flat) (bench : Bench) (at : ℕ) : Type 0 where
  pub body : HasBody code at
  pub running : IsRunning code bench
  pub room : length bench.slots + fills (body_at code at) ≤ 65536

-- what filling a slot keeps
pub record KeepsFilling (code : Flat) (old new : Bench) : Type 0 where
  pub running : IsRunning code new
  pub slots : length new.slots ≤ length old.slots + 1
  pub fuel : new.fuel ≡ old.fuel

-- one step at a place leads on to another, from which the run is the same, or out
pub record LeadsOn (code : Flat) (old new : Bench) (at to : ℕ) : Type 0 where
  pub same : run_body code (body_at code at) old ≡ run_body code (body_at code to) new
  pub ready : IsReady code new to
  pub fuel : new.fuel ≡ old.fuel
  pub smaller : size (body_at code to) < size (body_at code at)

pub record LeadsOut (code : Flat) (old new : Bench) (at : ℕ) (next : Next) : Type 0 where
  pub run : run_body code (body_at code at) old ≡ (next, new)
  pub sound : IsSound code new
  pub fuel : new.fuel ≡ old.fuel
  pub fits : NextFits code new.region.objects next

abbrev pub Leads : Flat → Bench → ℕ → Led → Bench → Type 0
Leads code old at (On to) new = LeadsOn code old new at to
Leads code old at (Out next) new = LeadsOut code old new at next

-- a thread may enter a block
pub record MayEnter (code : Flat) (bench : Bench) (closure value : Value) (to : Target) : Type 0 where
  pub begins : BeginsBlock code to.start
  pub sound : IsSound code bench
  pub closure_refers : Refers bench.region.objects closure
  pub value_refers : Refers bench.region.objects value
