-- Where a step leads.
use Rattle.std.proofs.Common.{◌≡◌, ℕ, suc, ◌+◌, ◌≤◌, ◌<◌, ◌∙◌, max, length, refl, ap, sym, subst, arith, Option, Some, None, Bool, true, false, slice_get}
use Rattle.m5_region.specs.declared.bench.Bench.{Bench}
use Rattle.m5_machine.specs.declared.step.Instruction.{Instruction}
use Rattle.m5_machine.specs.declared.next.Next.{Next}
use Rattle.m5_machine.specs.declared.next.Next.TheVariants.{Enters, Sends, Ended, NoCase}
use Rattle.m5_machine.specs.Body.{Body, Then, If, Go, Ask, Send, Done, fills}
use Rattle.m5_machine.specs.Blocks.{Flat, body_at, HasBody}
use Rattle.m5_machine.specs.Operand.{bool_in}
use Rattle.m5_machine.specs.Block.{run_body, and_then, filling, choice, of_slots, asking, NextFits}
use Rattle.m5_machine.specs.code.Running.{IsReady, KeepsFilling, LeadsOn, LeadsOut, size}

pub fill_room : (code : Flat) (bench : Bench) (at : ℕ) (i : Instruction) (b : Body) → IsReady code bench at → body_at code at ≡ Then i b → length bench.slots < 65536
unfolding fills
fill_room code bench at i b r e = let room : length bench.slots + suc (fills b) ≤ 65536 = subst (λ (x : Body). length bench.slots + fills x ≤ 65536) e r.room in omega arith

pub filled_on : (code : Flat) (old new : Bench) (at to : ℕ) (i : Instruction) → IsReady code old at → body_at code at ≡ Then i (body_at code to) → HasBody code to → filling code i old ≡ (None, new) → KeepsFilling code old new → LeadsOn code old new at to
unfolding run_body fills size
filled_on code old new at to i r e h f k =
    let room : length old.slots + suc (fills (body_at code to)) ≤ 65536 = subst (λ (x : Body). length old.slots + fills x ≤ 65536) e r.room in
    record {
      same = ap (λ (x : Body). run_body code x old) e ∙ ap (λ (p : Option Next × Bench). and_then p.0 p.1 (run_body code (body_at code to))) f;
      ready = record { body = h; running = k.running; room = omega (arith, k.slots, room) };
      fuel = k.fuel;
      smaller = subst (λ (x : Body). size (body_at code to) < size x) (sym e) (omega arith);
    }

pub filled_out : (code : Flat) (old new : Bench) (at to : ℕ) (i : Instruction) (next : Next) → body_at code at ≡ Then i (body_at code to) → filling code i old ≡ (Some next, new) → KeepsFilling code old new → NextFits code new.region.objects next → LeadsOut code old new at next
unfolding run_body
filled_out code old new at to i next e f k n = record {
  run = ap (λ (x : Body). run_body code x old) e ∙ ap (λ (p : Option Next × Bench). and_then p.0 p.1 (run_body code (body_at code to))) f;
  sound = k.running.sound;
  fuel = k.fuel;
  fits = n;
}

size_positive : (b : Body) → 0 < size b
unfolding size
size_positive (Then i b) = omega arith
size_positive (If s a b) = omega arith
size_positive (Go c v) = omega arith
size_positive (Ask p a n) = omega arith
size_positive (Send w c v) = omega arith
size_positive Done = omega arith

pub chosen_first : (code : Flat) (bench : Bench) (at first second s : ℕ) → IsReady code bench at → body_at code at ≡ If s (body_at code first) (body_at code second) → HasBody code first → Some true ≡ bool_in (slice_get bench.slots s) → LeadsOn code bench bench at first
unfolding run_body fills size
chosen_first code bench at first second s r e h t =
    let room : length bench.slots + max (fills (body_at code first)) (fills (body_at code second)) ≤ 65536 = subst (λ (x : Body). length bench.slots + fills x ≤ 65536) e r.room in
    record {
      same = ap (λ (x : Body). run_body code x bench) e ∙ ap (λ (o : Option Bool). choice o bench (run_body code (body_at code first) bench) (run_body code (body_at code second) bench)) (sym t);
      ready = record { body = h; running = r.running; room = omega arith };
      fuel = refl;
      smaller = subst (λ (x : Body). size (body_at code first) < size x) (sym e) (omega arith);
    }

pub chosen_second : (code : Flat) (bench : Bench) (at first second s : ℕ) → IsReady code bench at → body_at code at ≡ If s (body_at code first) (body_at code second) → HasBody code second → Some false ≡ bool_in (slice_get bench.slots s) → LeadsOn code bench bench at second
unfolding run_body fills size
chosen_second code bench at first second s r e h t =
    let room : length bench.slots + max (fills (body_at code first)) (fills (body_at code second)) ≤ 65536 = subst (λ (x : Body). length bench.slots + fills x ≤ 65536) e r.room in
    record {
      same = ap (λ (x : Body). run_body code x bench) e ∙ ap (λ (o : Option Bool). choice o bench (run_body code (body_at code first) bench) (run_body code (body_at code second) bench)) (sym t);
      ready = record { body = h; running = r.running; room = omega arith };
      fuel = refl;
      smaller = subst (λ (x : Body). size (body_at code second) < size x) (sym e) (omega arith);
    }

-- the block's run ends there, with nothing changed
pub ends : (code : Flat) (bench : Bench) (at : ℕ) (next : Next) → IsReady code bench at → run_body code (body_at code at) bench ≡ (next, bench) → NextFits code bench.region.objects next → LeadsOut code bench bench at next
ends code bench at next r e n = record { run = e; sound = r.running.sound; fuel = refl; fits = n }

pub chosen_none : (code : Flat) (bench : Bench) (at first second s : ℕ) → IsReady code bench at → body_at code at ≡ If s (body_at code first) (body_at code second) → None ≡ bool_in (slice_get bench.slots s) → LeadsOut code bench bench at NoCase
unfolding run_body
chosen_none code bench at first second s r e t =
    ends code bench at NoCase r (ap (λ (x : Body). run_body code x bench) e ∙ ap (λ (o : Option Bool). choice o bench (run_body code (body_at code first) bench) (run_body code (body_at code second) bench)) (sym t)) tt

pub ends_go : (code : Flat) (bench : Bench) (at closure value : ℕ) (next : Next) → IsReady code bench at → body_at code at ≡ Go closure value → next ≡ of_slots bench.slots closure value Enters → NextFits code bench.region.objects next → LeadsOut code bench bench at next
unfolding run_body
ends_go code bench at closure value next r e n f = ends code bench at next r (rw (e, n) refl) f

pub ends_ask : (code : Flat) (bench : Bench) (at primitive argument after : ℕ) (next : Next) → IsReady code bench at → body_at code at ≡ Ask primitive argument after → next ≡ of_slots bench.slots argument after (asking code bench.region.objects primitive) → NextFits code bench.region.objects next → LeadsOut code bench bench at next
unfolding run_body
ends_ask code bench at primitive argument after next r e n f = ends code bench at next r (rw (e, n) refl) f

pub ends_send : (code : Flat) (bench : Bench) (at world closure value : ℕ) (next : Next) → IsReady code bench at → body_at code at ≡ Send world closure value → next ≡ of_slots bench.slots closure value (Sends world) → NextFits code bench.region.objects next → LeadsOut code bench bench at next
unfolding run_body
ends_send code bench at world closure value next r e n f = ends code bench at next r (rw (e, n) refl) f

pub ends_done : (code : Flat) (bench : Bench) (at : ℕ) → IsReady code bench at → body_at code at ≡ Done → LeadsOut code bench bench at Ended
unfolding run_body
ends_done code bench at r e = ends code bench at Ended r (rw e refl) tt
