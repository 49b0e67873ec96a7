-- Names and lists of types, read from left to right.
use Rattle.std.proofs.Common.{◌≡◌, ℕ, ◌+◌, ◌<◌, false, List, [], ◌∷◌, length, drop, get_or, Option, Some, None, refl, ap, arith}
use Rattle.std.proofs.lemmas.List.{drop_more}
use Rattle.m5_lex.specs.declared.tokens.Placed.{Placed}
use Rattle.m5_poly.specs.declared.types.Need.{Need}
use Rattle.m5_poly.specs.declared.types.Step.TheVariants.{Goes}
use Rattle.m5_poly.specs.Roles.{has_quotes, role}
use Rattle.m5_poly.specs.Types.{step, closing, longer}

-- no two quotes stand in less than two bytes
pub few_quotes : (x : List ℕ) → length x < 2 → has_quotes x ≡ false
few_quotes [] h = refl
few_quotes (a ∷ []) h = refl
few_quotes (a ∷ b ∷ x) h = absurd (omega arith)

longer-longer : (a b : ℕ) (o : Option ℕ) → longer a (longer b o) ≡ longer (a + b) o
longer-longer a b None = refl
longer-longer a b (Some n) = ap (λ (k : ℕ). Some k) (omega arith)

-- one token more of a list of types
pub read_on : (vs : List (List ℕ)) (ts : List Placed) (i : ℕ) (p : Placed) (n m : Need) (d e : ℕ) → i < length ts → p ≡ get_or ts i p
    → Goes m e ≡ step (role vs p.token) n d → longer i (closing vs n d (drop i ts)) ≡ longer (i + 1) (closing vs m e (drop (i + 1) ts))
read_on vs ts i p n m d e h is goes =
    rw (drop_more ts i p h, ← is, ← goes) (longer-longer i 1 (closing vs m e (drop (i + 1) ts)))
