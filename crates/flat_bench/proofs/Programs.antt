-- Chains are a program.
use Rattle.std.proofs.Common.{◌≡◌, ◌∙◌, ℕ, zero, suc, ◌≤◌, ◌+◌, List, [], ◌∷◌, length, map, Option, Some, None, slice_get, refl, sym, ap, subst, inl, inr, arith}
use Rattle.std.specs.List.{AllZip, AllByRecursion as Each}
use Rattle.m5_terms.specs.TypeExpression.{TypeExpression, unit}
use Rattle.m5_cps.specs.Entries as entries
use Rattle.m5_cps.specs.Entries.{SlotType, of, takes, only, everywhere, by_value, world_of, entry_mode, entry_type, entry_filled, main_entry}
use Rattle.m5_cps.specs.Blocks.{go, done}
use Rattle.m5_cps.specs.Slots.{Slot, slot, Slots, fill, Needs, entry_slots}
use Rattle.m5_cps.specs.Fits.{EndingFits}
use Rattle.m5_cps.specs.Steps.{entry_of, mode_of, argument_of}
use Rattle.m5_cps.specs.declared.entry.Mode.{Mode}
use Rattle.m5_cps.specs.declared.entry.Entry.TheVariants.{ByValue}
use Rattle.m5_cps.specs.declared.step.Ending.TheVariants.{Go, Done}
use Rattle.m5_flat.specs.Blocks.{Code, closure, ends, Block, Blocks}
use Rattle.m5_flat.specs.Fits.{Environments, slot_type, Fits, TakesSlot}
use Rattle.m5_flat.specs.Limits.{IsLimited}
use Rattle.m5_flat.specs.Program.{IsBlock, IsMain, IsFinish, IsProgram}
use Rattle.m5_flat.specs.Steps.{kind_of, code_at}
use Rattle.m5_flat.specs.Table.{Table, or_done, HasCode, block_of, blocks_of, IsTable}
use Rattle.m5_flat.specs.declared.label.Kind.{Kind}
use Rattle.m5_flat.specs.declared.label.Label.{Label}
use Rattle.m5_flat.proofs.Standing.{ending_stands, closure_stands}
use Rattle.flat_bench.specs.declared.chains.Built.{Built}
use Rattle.flat_bench.specs.Chains.{EndsAtOnce, EntersAnother, IsChained, IsBare, AreChains}

each_by : {A : Type 0} (P : A → Type 0) (xs : List A) → ((i : ℕ) (x : A) → slice_get xs i ≡ Some x → P x) → Each P xs
each_by P [] h = tt
each_by P (x ∷ xs) h = (h 0 x refl, each_by P xs (λ i y e. h (suc i) y e))

each_mapped : {A B : Type 0} (f : A → B) (P : B → Type 0) (xs : List A) → ((i : ℕ) (x : A) → slice_get xs i ≡ Some x → P (f x)) → Each P (map f xs)
each_mapped f P [] h = tt
each_mapped f P (x ∷ xs) h = (h 0 x refl, each_mapped f P xs (λ i y e. h (suc i) y e))

get_mapped : {A B : Type 0} (f : A → B) (xs : List A) (i : ℕ) (x : A) → slice_get xs i ≡ Some x → slice_get (map f xs) i ≡ Some (f x)
get_mapped f [] i x e = absurd (cc)
get_mapped f (y ∷ ys) zero x e = let q : y ≡ x = cc in ap (λ z. Some (f z)) q
get_mapped f (y ∷ ys) (suc i) x e = get_mapped f ys i x e

get_back : {A B : Type 0} (f : A → B) (xs : List A) (i : ℕ) (y : B) → slice_get (map f xs) i ≡ Some y → (x : A) × (slice_get xs i ≡ Some x) × (f x ≡ y)
get_back f [] i y e = absurd (cc)
get_back f (x ∷ xs) zero y e = (x, refl, (cc))
get_back f (x ∷ xs) (suc i) y e = get_back f xs i y e

module _ (types : List TypeExpression) (b : Built) where
  abbrev T : Table
  T = record { types = types; steps = b.steps; labels = b.labels; primitives = []; main = 1; finish = 0 }

  abbrev B : Blocks
  B = blocks_of T

  -- what a label's block takes, in the block's own mode
  abbrev slots : Label → List Slot
  slots l = map (λ k. slot (entry_mode (entry_of types l.entry)) (kind_of types k)) l.environment

  abbrev slots_of : Option Label → Option (List Slot)
  slots_of None = None
  slots_of (Some l) = Some (slots l)

  abbrev M : Environments
  M i = slots_of (slice_get b.labels i)

  -- the code of a label's block
  pub done_code : (l : Label) → EndsAtOnce b l → code_at types b.steps l.place ≡ Some (ends done)
  done_code l e = ending_stands types b.steps l.place Done e.done

  entering_code : (l : Label) (e : EntersAnother b l) → code_at types b.steps l.place ≡ Some (closure (0 ∷ []) e.next (ends (go 3 2)))
  entering_code l e =
      closure_stands types b.steps l.place (0 ∷ []) e.next (suc l.place) (ends (go 3 2)) e.closure (omega arith)
      (ending_stands types b.steps (suc l.place) (Go 3 2) e.enters)

  has_code : (l : Label) → IsChained b l → HasCode T l.place
  has_code l h = elim h.code [
    | inl e ↦ record { code = ends done; is = done_code l e }
    | inr e ↦ record { code = closure (0 ∷ []) e.next (ends (go 3 2)); is = entering_code l e }
  ]

  -- limits
  done_limited : (y : entries.Entry) (es : List SlotType) (m : entries.Mode) (A : SlotType) → y ≡ by_value m A → length es ≤ 1 → IsLimited (record { entry = y; environment = es; code = ends done })
  done_limited y es m A e few = rw e (record { depth = omega arith; slots = omega (arith, few) })

  entering_limited : (y : entries.Entry) (K : SlotType) (i : ℕ) (m : entries.Mode) (A : SlotType) → y ≡ by_value m A → IsLimited (record { entry = y; environment = K ∷ []; code = closure (0 ∷ []) i (ends (go 3 2)) })
  entering_limited y K i m A e = rw e (record { depth = omega arith; slots = omega arith })

  length_mapped : (ks : List Kind) → length (map (kind_of types) ks) ≡ length ks
  length_mapped [] = refl
  length_mapped (k ∷ ks) = ap suc (length_mapped ks)

  limited : (l : Label) → IsChained b l → IsLimited (block_of T l)
  limited l h =
      let entry : entry_of types l.entry ≡ by_value (mode_of h.mode) (argument_of types h.argument) = ap (entry_of types) h.entry in elim h.code [
        | inl e ↦ rw (ap or_done (done_code l e)) (done_limited (entry_of types l.entry) (map (kind_of types) l.environment) (mode_of h.mode) (argument_of types h.argument) entry (let q = length_mapped l.environment in omega (arith, q, e.few)))
        | inr e ↦ rw (ap or_done (entering_code l e)) (rw e.environment (entering_limited (entry_of types l.entry) (kind_of types e.held) e.next (mode_of h.mode) (argument_of types h.argument) entry))
      ]

  -- a block of this mode enters another one with its own argument
  enters_like : (m : entries.Mode) (A K : SlotType) (i : ℕ) (d : Block) → slice_get B.table i ≡ Some d → d.entry ≡ by_value m A → M i ≡ Some (slot m K ∷ [])
      → Fits B M (world_of m) 3 (entry_slots (by_value m A) 1 (slice_get (slot m K ∷ []))) (closure (0 ∷ []) i (ends (go 3 2)))
  enters_like (only w) A K i d at e bare = (
    d,
    slot (only w) K ∷ [],
    at,
    bare,
    (((only w, refl, inl refl), inl (ap entry_mode e)), tt),
    (A, (only w, ap (λ y. Some (slot (entry_mode y) (entry_type y))) e, inl refl), (only w, refl, inl refl)),
  )
  enters_like everywhere A K i d at e bare = (
    d,
    slot everywhere K ∷ [],
    at,
    bare,
    (((everywhere, refl, tt), inr (λ q. absurd (cc))), tt),
    (A, (everywhere, ap (λ y. Some (slot (entry_mode y) (entry_type y))) e, tt), (only (world_of everywhere), refl, inl refl)),
  )

  -- a block of this mode over one thing is typed
  entering_block : (m : entries.Mode) (A K : SlotType) (y : entries.Entry) (es : List Slot) (ts : List SlotType) (i : ℕ) (d : Block) → y ≡ by_value m A → es ≡ slot m K ∷ [] → ts ≡ K ∷ [] → slice_get B.table i ≡ Some d → d.entry ≡ by_value m A → M i ≡ Some (slot m K ∷ [])
      → IsBlock B M es (record { entry = y; environment = ts; code = closure (0 ∷ []) i (ends (go 3 2)) })
  entering_block m A K y es ts i d e f g at de bare = rw e (rw f (rw g (record { types = refl; fits = enters_like m A K i d at de bare })))

  slot_types : (m : entries.Mode) (ks : List Kind) → map slot_type (map (λ k. slot m (kind_of types k)) ks) ≡ map (kind_of types) ks
  slot_types m [] = refl
  slot_types m (k ∷ ks) = ap (λ ts. kind_of types k ∷ ts) (slot_types m ks)

  typed_block : (l : Label) → IsChained b l → IsBlock B M (slots l) (block_of T l)
  typed_block l h =
      let entry : entry_of types l.entry ≡ by_value (mode_of h.mode) (argument_of types h.argument) = ap (entry_of types) h.entry in elim h.code [
        | inl e ↦ rw (ap or_done (done_code l e)) (record { types = slot_types (entry_mode (entry_of types l.entry)) l.environment; fits = tt })
        | inr e ↦ rw (ap or_done (entering_code l e)) (entering_block (mode_of h.mode) (argument_of types h.argument) (kind_of types e.held) (entry_of types l.entry) (slots l) (map (kind_of types) l.environment) e.next (block_of T e.block)
            entry
            (ap (λ y. map (λ k. slot (entry_mode (entry_of types y)) (kind_of types k)) l.environment) h.entry ∙ ap (map (λ k. slot (mode_of h.mode) (kind_of types k))) e.environment)
            (ap (map (kind_of types)) e.environment)
            (get_mapped (block_of T) b.labels e.next e.block e.at)
            (ap (entry_of types) (e.same_entry ∙ h.entry))
            (ap slots_of e.at ∙ ap (λ y. Some (map (λ k. slot (entry_mode (entry_of types y)) (kind_of types k)) e.block.environment)) (e.same_entry ∙ h.entry) ∙ ap (λ ks. Some (map (λ k. slot (mode_of h.mode) (kind_of types k)) ks)) (e.same_environment ∙ e.environment)))
      ]

  typed_at : (h : AreChains types b) (i : ℕ) (es : List Slot) (x : Block) (o : Option Label) → slice_get b.labels i ≡ o → slots_of o ≡ Some es → slice_get B.table i ≡ Some x → IsBlock B M es x
  typed_at h i es x None is known at = absurd (cc)
  typed_at h i es x (Some l) is known at =
      let q : slots l ≡ es = cc (known) in
      let r : Some (block_of T l) ≡ Some x = sym (get_mapped (block_of T) b.labels i l is) ∙ at in
      let s : block_of T l ≡ x = cc (r) in
      subst (λ (fs : List Slot). IsBlock B M fs x) q (subst (IsBlock B M (slots l)) s (typed_block l (h.chained i l is)))

  -- a block that takes nothing and ends at once
  bare_known : (i : ℕ) (y : entries.Entry) → IsBare types b i y → M i ≡ Some []
  bare_known i y h = ap slots_of h.at ∙ ap (λ ks. Some (map (λ k. slot (entry_mode (entry_of types h.label.entry)) (kind_of types k)) ks)) h.environment

  bare_block : (i : ℕ) (y : entries.Entry) → IsBare types b i y → slice_get B.table i ≡ Some (record { entry = y; environment = []; code = ends done })
  bare_block i y h =
      get_mapped (block_of T) b.labels i h.label h.at
      ∙ ap (λ z. Some (record { entry = z; environment = map (kind_of types) h.label.environment; code = or_done (code_at types b.steps h.label.place) })) h.entry
      ∙ ap (λ ks. Some (record { entry = y; environment = map (kind_of types) ks; code = or_done (code_at types b.steps h.label.place) })) h.environment
      ∙ ap (λ c. Some (record { entry = y; environment = []; code = or_done c })) (ending_stands types b.steps h.label.place Done h.done)

  pub is_table : AreChains types b → IsTable T
  is_table h = record {
    begin = each_by (λ (l : Label). HasCode T l.place) b.labels (λ i l at. has_code l (h.chained i l at));
    program = record {
      environments = M;
      blocks = λ i es x known at. typed_at h i es x (slice_get b.labels i) refl known at;
      limited = each_mapped (block_of T) IsLimited b.labels (λ i l at. limited l (h.chained i l at));
      primitives = tt;
      few = omega arith;
      main = record { bare = bare_known 1 main_entry h.main; block = record { entry = main_entry; environment = []; code = ends done }; at = bare_block 1 main_entry h.main; entry = refl; environment = refl };
      finish = record { bare = bare_known 0 (by_value everywhere (of unit)) h.finish; block = bare_block 0 (by_value everywhere (of unit)) h.finish };
    };
  }
