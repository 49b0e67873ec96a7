-- How writing goes on.
use Rattle.std.proofs.Common.{◌≡◌, ℕ, zero, suc, ◌+◌, ◌<◌, List, [], ◌∷◌, ◌++◌, length, drop, Option, Some, slice_get, refl, ap, sym, ◌∙◌, arith, add-one, append_assoc}
use Rattle.std.specs.List.{flat_map}
use Rattle.m5_lex.specs.declared.tokens.Placed.{Placed}
use Rattle.m5_lex.specs.Tokens.{Listing}
use Rattle.m5_poly.specs.Survey.{Generic}
use Rattle.m5_poly.specs.Uses.{Scope, Bracketed, use_at}
use Rattle.m5_poly.specs.Walk.{Made, generic_used}
use Rattle.m5_poly.specs.Expansion.{Writing, written, named}
use Rattle.m5_poly.specs.code.Writing.{with_tokens, use_number}

-- tokens behind tokens
pub with_both : (out : Listing) (xs ys : List Placed) → with_tokens (with_tokens out xs) ys ≡ with_tokens out (xs ++ ys)
with_both out xs ys = ap (λ (ts : List Placed). with_tokens (record { tokens = []; ending = out.ending }) ts) (append_assoc out.tokens xs ys)

written_skip : (w : Writing) (n : ℕ) (ps : List Placed) → written w n ps ≡ written w 0 (drop n ps)
written_skip w zero [] = refl
written_skip w zero (p ∷ ps) = refl
written_skip w (suc n) [] = refl
written_skip w (suc n) (p ∷ ps) = written_skip w n ps

drop_one : (n : ℕ) (p : Placed) (ps : List Placed) → drop (1 + n) (p ∷ ps) ≡ drop n ps
drop_one n p ps = let e : 1 + n ≡ suc n = omega arith in rw e refl

-- a use is written as its instance's name
pub wrote_use : (gs : List Generic) (made : List Made) (s : Scope) (out : Listing) (ts more : List Placed) (p : Placed) (u : Bracketed) (i : ℕ)
    → ts ≡ p ∷ more → use_at s p more ≡ Some u → generic_used gs s u ≡ Some i
    → with_tokens (with_tokens out (named u.name (use_number made s u i) p.place ∷ [])) (written (record { generics = gs; made = made; scope = s }) 0 (drop (1 + (length u.content + 2)) ts))
    ≡ with_tokens out (written (record { generics = gs; made = made; scope = s }) 0 ts)
wrote_use gs made s out ts more p u i is h k =
    with_both out (named u.name (use_number made s u i) p.place ∷ []) _
    ∙ rw (is, h, k, drop_one (length u.content + 2) p more) (ap (λ (ps : List Placed). with_tokens out (named u.name (use_number made s u i) p.place ∷ ps))
    (sym (written_skip (record { generics = gs; made = made; scope = s }) (length u.content + 2) more)))

-- one instance more
pub instances_next : (f : Option Made → List Placed) (ms : List Made) (i : ℕ) → i < length ms
    → flat_map (λ (m : Made). f (Some m)) (drop i ms) ≡ f (slice_get ms i) ++ flat_map (λ (m : Made). f (Some m)) (drop (i + 1) ms)
instances_next f ms i h = rw add-one (at ms i h)
  where
    at : (ms : List Made) (i : ℕ) → i < length ms → flat_map (λ (m : Made). f (Some m)) (drop i ms) ≡ f (slice_get ms i) ++ flat_map (λ (m : Made). f (Some m)) (drop (suc i) ms)
    at [] i h = absurd (omega arith)
    at (m ∷ ms) zero h = refl
    at (m ∷ ms) (suc i) h = at ms i (omega arith)
