-- What a step of the source weighs at least.
use Rattle.std.proofs.Common.{ℕ, zero, suc, List, [], ◌∷◌, Option, Some, None, Bool, true, false, refl, arith, if◌then◌else◌, nat_lt, nat_le, length}
use Rattle.m5_terms.specs.Expression.{Expression, leaf, unary, binary, ternary}
use Rattle.m5_terms.specs.declared.types.World.{World}
use Rattle.m5_terms.specs.declared.thread.Frame.{Frame}
use Rattle.m5_terms.specs.declared.thread.Frame.TheVariants as frame
use Rattle.m5_terms.specs.declared.thread.Focus.{Focus}
use Rattle.m5_terms.specs.declared.thread.Focus.TheVariants.{Eval, Returned}
use Rattle.m5_terms.specs.declared.form.LeafForm.{LeafForm}
use Rattle.m5_terms.specs.declared.form.LeafForm.TheVariants as leaf_form
use Rattle.m5_terms.specs.declared.form.UnaryForm.TheVariants as unary_form
use Rattle.m5_meaning.specs.Site.{Program, Site, Thread}
use Rattle.m5_meaning.specs.Parts.{parts, fill}
use Rattle.m5_meaning.specs.Reduction.{Reduced, reduced}
use Rattle.m5_meaning.specs.Reduction as reduction
use Rattle.m5_meaning.specs.Step.{SiteNext, atom, loaded, stored, outcome, evaluated, returned, focused, front, site_next}
use Rattle.m5_cps_convert.proofs.Meets.{Weighs}

module _ (P : Program) (u : World) (s : Site) where
  Least : SiteNext → Type 0
  Least x = Weighs P x s 0

  either_least : (b : Bool) (x y : SiteNext) → Weighs P x s 0 → Weighs P y s 0 → Weighs P (if b then x else y) s 0
  either_least true x y h g = h
  either_least false x y h g = g

  loaded_least : (ts : List Thread) (fs : List Frame) (w : World) (o : Option Expression) → Weighs P (loaded P s ts fs w o) s 0
  loaded_least ts fs w None = refl
  loaded_least ts fs w (Some v) = omega arith

  stored_least : (ts : List Thread) (fs : List Frame) (w : World) (n : ℕ) (v : Expression) (o : Option Expression) → Weighs P (stored P s ts fs w n v o) s 0
  stored_least ts fs w n v None = refl
  stored_least ts fs w n v (Some old) = omega arith

  outcome_least : (ts : List Thread) (fs : List Frame) (w : World) (r : Reduced) → Weighs P (outcome P u s ts fs w r) s 0
  outcome_least ts fs w (reduction.gives v) = omega arith
  outcome_least ts fs w (reduction.makes_text t) = omega arith
  outcome_least ts fs w (reduction.goes_on e) = omega arith
  outcome_least ts fs w (reduction.makes_cell v) = either_least (nat_le 4096 (length s.cells)) _ _ refl (omega arith)
  outcome_least ts fs w (reduction.loads n) = loaded_least ts fs w _
  outcome_least ts fs w (reduction.stores n v) = stored_least ts fs w n v _
  outcome_least ts fs w (reduction.leaves v e) = refl
  outcome_least ts fs w (reduction.says t) = refl
  outcome_least ts fs w (reduction.shows t) = refl
  outcome_least ts fs w (reduction.sets e t) = refl
  outcome_least ts fs w (reduction.writes e t) = refl
  outcome_least ts fs w (reduction.gets e) = refl
  outcome_least ts fs w (reduction.reads e) = refl
  outcome_least ts fs w (reduction.handles e h) = either_least (nat_le 4096 (length s.handlers)) _ _ refl refl
  outcome_least ts fs w (reduction.watches e h) = either_least (nat_le 4096 (length s.handlers)) _ _ refl refl
  outcome_least ts fs w reduction.wrong = refl

  leaf_least : (ts : List Thread) (fs : List Frame) (w : World) (f : LeafForm) → Weighs P (atom P s ts fs w (leaf f)) s 0
  leaf_least ts fs w (leaf_form.Str t) = omega arith
  leaf_least ts fs w leaf_form.Here = omega arith
  leaf_least ts fs w (leaf_form.Var x) = omega arith
  leaf_least ts fs w (leaf_form.Valid x) = omega arith
  leaf_least ts fs w (leaf_form.Glob x) = omega arith
  leaf_least ts fs w (leaf_form.Extern x) = omega arith
  leaf_least ts fs w leaf_form.Unit = omega arith
  leaf_least ts fs w (leaf_form.Bool x) = omega arith
  leaf_least ts fs w (leaf_form.Int x) = omega arith
  leaf_least ts fs w (leaf_form.Addr x) = omega arith
  leaf_least ts fs w (leaf_form.Nil x) = omega arith
  leaf_least ts fs w (leaf_form.CellAt x n) = omega arith

  atom_least : (ts : List Thread) (fs : List Frame) (w : World) (e : Expression) → Weighs P (atom P s ts fs w e) s 0
  atom_least ts fs w (leaf f) = leaf_least ts fs w f
  atom_least ts fs w (unary unary_form.Spawn a) = either_least (nat_le 4096 (length s.threads)) _ _ refl (omega arith)
  atom_least ts fs w (unary (unary_form.Fn x A) a) = omega arith
  atom_least ts fs w (unary (unary_form.Rec f x A B) a) = omega arith
  atom_least ts fs w (unary unary_form.Fst a) = omega arith
  atom_least ts fs w (unary unary_form.Snd a) = omega arith
  atom_least ts fs w (unary unary_form.StrOf a) = omega arith
  atom_least ts fs w (unary unary_form.Div a) = omega arith
  atom_least ts fs w (unary unary_form.NewCell a) = omega arith
  atom_least ts fs w (unary unary_form.Load a) = omega arith
  atom_least ts fs w (unary unary_form.Hold a) = omega arith
  atom_least ts fs w (unary unary_form.Sham a) = omega arith
  atom_least ts fs w (unary (unary_form.Inl A) a) = omega arith
  atom_least ts fs w (unary (unary_form.Inr A) a) = omega arith
  atom_least ts fs w (unary (unary_form.Held v) a) = omega arith
  atom_least ts fs w (binary f a b) = omega arith
  atom_least ts fs w (ternary f a b c) = omega arith

  evaluated_least : (ts : List Thread) (fs : List Frame) (w : World) (e : Expression) (n : ℕ) → Weighs P (evaluated P s ts fs w e n) s 0
  evaluated_least ts fs w e zero = atom_least ts fs w e
  evaluated_least ts fs w e (suc n) = omega arith

  returned_least : (ts : List Thread) (fs : List Frame) (w : World) (v : Expression) → Weighs P (returned P u s ts fs w v) s 0
  returned_least ts [] w v = omega arith
  returned_least ts (frame.Part x e k ∷ fs) w v = either_least (nat_lt (suc k) (parts (fill e k v))) _ _ (omega arith) (outcome_least ts fs x (reduced P u (fill e k v)))
  returned_least ts (frame.Return x ∷ fs) w v = refl

  focused_least : (ts : List Thread) (fs : List Frame) (f : Focus) → Weighs P (focused P u s ts fs f) s 0
  focused_least ts fs (Eval w e) = evaluated_least ts fs w e (parts e)
  focused_least ts fs (Returned w v) = returned_least ts fs w v

  front_least : (ts : List Thread) → Weighs P (front P u s ts) s 0
  front_least [] = refl
  front_least (t ∷ ts) = focused_least ts t.frames t.focus

-- each step weighs at least one and the width
pub least : (P : Program) (u : World) (s : Site) → Weighs P (site_next P u s) s 0
least P u s = front_least P u s s.threads
