-- When a site of blocks is met by another: of whatever closures, as many blocks were entered, and all else has the same counts.
use Rattle.std.specs.Prelude.{◌≡◌, ◌⊎◌, true, length}
use Rattle.std.proofs.Common.{inl, inr}
use Rattle.m5_cps.specs.Values.{Site}
use Rattle.m5_cps.specs.Deeds.{Point, Ran}
use Rattle.m5_cps.specs.Machine.{Making, point_of, is_entering}

-- a site whose front thread's block runs so is about to enter that block, or to make an object in it
abbrev pub Moment : {C : Type 0} → Site C → Ran C → Type 0
Moment s r = (is_entering s.stopped s.threads ≡ true) ⊎ Making r

-- what stands where a site is about to enter a block
abbrev pub entry_point : {C : Type 0} → Site C → Point
entry_point s = record { units = s.units; threads = length s.threads; cells = length s.cells; handlers = length s.handlers }

-- both are about to enter a block, or to make an object
abbrev pub IsMet : {C D : Type 0} (t : Site C) (r : Ran C) (s : Site D) (q : Ran D) → Moment t r → Moment s q → Type 0
IsMet t r s q (inl e) (inl f) = (t.entered ≡ s.entered) × (entry_point t ≡ entry_point s)
IsMet t r s q (inr i) (inr j) = (t.entered ≡ s.entered) × (point_of r i ≡ point_of q j)
IsMet t r s q (inl e) (inr j) = ⊥
IsMet t r s q (inr i) (inl f) = ⊥
