-- A closed block fills as many slots as the one that it is made of, and its endings nest as deep.
use Rattle.std.proofs.Common.{◌≡◌, ℕ, suc, ◌+◌, ◌≤◌, max, List, map, Some, refl, sym, ap, ap₂, ◌∙◌, subst, arith}
use Rattle.m5_terms.specs.declared.types.World.{World}
use Rattle.m5_terms.specs.declared.form.LeafForm.TheVariants as leaf_form
use Rattle.m5_terms.specs.declared.form.UnaryForm.TheVariants as unary_form
use Rattle.m5_typing.specs.Context.{Setting}
use Rattle.m5_cps_typing.specs.Rows.{Kinds}
use Rattle.m5_cps.specs.Blocks.{Straight, constant, one, two, unheld, unsham, spawn, Ending, go, call, ask, send, done, Code, straight, closure, test, ends}
use Rattle.m5_cps.specs.Captured.{captured}
use Rattle.m5_cps.specs.Limits.{parts_then, parts_else, straight_slots, test_slots, ending_slots, straight_depth, ending_depth, begun_slots}
use Rattle.m5_cps.specs.Limits as cps
use Rattle.m5_flat.specs.Blocks.{Block, Blocks}
use Rattle.m5_flat.specs.Blocks as flat
use Rattle.m5_flat.specs.Limits.{path, depth, IsLimited}
use Rattle.m5_close.specs.Close.{free, straight_anew, ending_anew, IsStraightMade, IsMade}
use Rattle.m5_close.specs.Closing.{ClosedAreLimited}
use Rattle.m5_close.proofs.Slots.{captured_length, map_long}

same_slots : (r : ℕ → ℕ) (f : Straight) → straight_slots (straight_anew r f) ≡ straight_slots f
same_slots r (constant f) = refl
same_slots r (one unary_form.Div x) = refl
same_slots r (one f x) = refl
same_slots r (two f x y) = refl
same_slots r (unheld x) = refl
same_slots r (unsham x) = refl
same_slots r (spawn x) = refl

same_depth : (r : ℕ → ℕ) (f : Straight) → straight_depth (straight_anew r f) ≡ straight_depth f
same_depth r (constant f) = refl
same_depth r (one unary_form.Div x) = refl
same_depth r (one f x) = refl
same_depth r (two f x y) = refl
same_depth r (unheld x) = refl
same_depth r (unsham x) = refl
same_depth r (spawn x) = refl

same_ending : (r : ℕ → ℕ) (e : Ending) → (ending_slots (ending_anew r e) ≡ ending_slots e) × (ending_depth (ending_anew r e) ≡ ending_depth e)
same_ending r (go k x) = (refl, refl)
same_ending r (call f x k) = (refl, refl)
same_ending r (ask p x k) = (refl, refl)
same_ending r (send a k x) = (refl, refl)
same_ending r done = (refl, refl)

zero_plus : (n : ℕ) → n ≡ 0 + n
zero_plus n = omega arith

module _ (E : Setting) (B : Blocks) (L : List ℕ) where
  straight_path : (r : ℕ → ℕ) (f : Straight) (d e : flat.Code) → IsStraightMade E B L r f d e → (path d ≡ straight_slots f + path e) × (depth d ≡ straight_depth f + depth e)
  straight_path r (constant (leaf_form.Glob g)) d e md = (ap path md.1, ap depth md.1 ∙ zero_plus (depth e))
  straight_path r (constant (leaf_form.Extern p)) d e md = (ap path md.1, ap depth md.1 ∙ zero_plus (depth e))
  straight_path r f d e md = (ap path md ∙ ap (λ z. z + path e) (same_slots r f), ap depth md ∙ ap (λ z. z + depth e) (same_depth r f))

  made_alike : (c : Code) (r : ℕ → ℕ) (b : World) (τ : Kinds) (n : ℕ) (d : flat.Code) → IsMade E B L r b τ n c d → (path d ≡ cps.path c) × (depth d ≡ cps.depth c)
  made_alike (straight f c) r b τ n d md =
      let q = straight_path r f d md.0 md.1 in
      let i = made_alike c r b _ (suc n) md.0 md.2 in
      (q.0 ∙ ap (λ z. straight_slots f + z) i.0, q.1 ∙ ap (λ z. straight_depth f + z) i.1)
  made_alike (closure y k c) r b τ n d md = let i = made_alike c r b _ (suc n) md.1 md.4 in (ap path md.2 ∙ ap (λ z. 2 + z) i.0, ap depth md.2 ∙ i.1)
  made_alike (test t x k c) r b τ n d md =
      let i = made_alike k r b _ (parts_then t + n) md.0 md.3 in
      let j = made_alike c r b _ (parts_else t + n) md.1 md.4 in
      (ap path md.2 ∙ ap₂ (λ v w. test_slots t + max (parts_then t + v) (parts_else t + w)) i.0 j.0, ap depth md.2 ∙ ap₂ (λ v w. suc (max v w)) i.1 j.1)
  made_alike (ends e) r b τ n d md = (ap path md ∙ (same_ending r e).0, ap depth md ∙ (same_ending r e).1)

pub closed_are_limited : ClosedAreLimited
closed_are_limited E B L i y τ n c m b at h =
    let a = made_alike E B L c _ _ _ _ m.0 m.3 in
    let x : Block = record { entry = y; environment = map τ (free n c); code = m.0 } in
    let same : Some x ≡ Some b = sym m.1 ∙ at in
    let q : x ≡ b = cc (same) in
    subst IsLimited q (record {
      depth = subst (λ z. z ≤ 1000) (sym a.1) h.depth;
      slots = subst (λ z. z + (begun_slots y + path m.0) ≤ 65536) (sym (map_long τ (free n c) ∙ sym (captured_length n c))) (subst (λ z. captured n c + (begun_slots y + z) ≤ 65536) (sym a.0) h.slots);
    })
