-- What values, threads and sites of blocks under labels are read back to.
use Rattle.std.specs.Prelude.{◌≡◌, ◌≤◌, ℕ, List, length, Some, slice_get}
use Rattle.std.specs.List.{AllZip}
use Rattle.m5_typing.specs.Context.{Setting}
use Rattle.m5_cps_typing.specs.Rows.{Kinds}
use Rattle.m5_cps.specs.Blocks.{constant}
use Rattle.m5_cps.specs.Values.{Value, atom, wrap, join, closed, enter, call, thread, raw, unit_value}
use Rattle.m5_cps.specs.Captured.{over}
use Rattle.m5_cps.specs.Captured as cps
use Rattle.m5_flat.specs.Blocks.{Blocks}
use Rattle.m5_flat.specs.Values.{under}
use Rattle.m5_flat.specs.Values as flat
use Rattle.m5_flat.specs.Fits.{IsPlain}
use Rattle.m5_close.specs.Close.{free, IsFunction, IsBlockOf}

-- slots from n on are not filled
abbrev pub EmptyFrom : {C : Type 0} → ℕ → (ℕ → Value C) → Type 0
EmptyFrom n ρ = (l : ℕ) → n ≤ l → ρ l ≡ unit_value

module _ (E : Setting) (B : Blocks) (functions : List ℕ) where
  -- a closure is read back to one of the block of which its label's block is made, where each value that it has taken is read back
  -- to that of the slot; one that has taken nothing, to a function
  abbrev pub Reads : flat.Value → cps.Value → Type 0
  Reads (atom f) (atom g) = (f ≡ g) × IsPlain (constant f)
  Reads (wrap f a) (wrap g c) = (f ≡ g) × Reads a c
  Reads (join f a b) (join g c d) = (f ≡ g) × Reads a c × Reads b d
  Reads (closed (under i k) σ) (closed (over y n c) ρ) =
      ((τ : Kinds) × IsBlockOf E B functions i y τ n c) × (k ≡ length (free n c)) × EmptyFrom k σ × EmptyFrom n ρ
      × ((j l : ℕ) → slice_get (free n c) j ≡ Some l → Reads (σ j) (ρ l))
  Reads (closed (under i k) σ) (atom f) = IsFunction E B functions i f × (k ≡ 0) × EmptyFrom 0 σ
  Reads _ _ = ⊥

  abbrev pub ReadsThread : flat.Thread → cps.Thread → Type 0
  ReadsThread (enter k x) (enter l z) = Reads k l × Reads x z
  ReadsThread (call f x k) (call g z l) = Reads f g × Reads x z × Reads k l
  ReadsThread _ _ = ⊥

  abbrev pub ReadsItem : flat.Item → cps.Item → Type 0
  ReadsItem (thread a) (thread b) = ReadsThread a b
  ReadsItem (raw s) (raw t) = s ≡ t
  ReadsItem _ _ = ⊥

  -- as many blocks were entered, and as many units are taken
  pub record ReadsSite (t : flat.Site) (s : cps.Site) : Type 0 where
    pub threads : AllZip ReadsThread t.threads s.threads
    pub cells : AllZip Reads t.cells s.cells
    pub handlers : AllZip Reads t.handlers s.handlers
    pub entered : t.entered ≡ s.entered
    pub units : t.units ≡ s.units
    pub stopped : t.stopped ≡ s.stopped
