-- Lists of types in brackets.
use Rattle.std.specs.Prelude.{ℕ, zero, suc, ◌+◌, ◌≤◌, List, [], ◌∷◌, Option, Some, None}
use Rattle.std.specs.Option.{option_map}
use Rattle.m5_lex.specs.declared.tokens.Placed.{Placed}
use Rattle.m5_poly.specs.declared.role.Role.{Role}
use Rattle.m5_poly.specs.declared.role.Role.TheVariants as role
use Rattle.m5_poly.specs.declared.types.Need.{Need}
use Rattle.m5_poly.specs.declared.types.Need.TheVariants as need
use Rattle.m5_poly.specs.declared.types.Step.{Step}
use Rattle.m5_poly.specs.declared.types.Step.TheVariants.{Ends, Goes, Stops}
use Rattle.m5_poly.specs.Roles as roles

-- what may follow a token of a list of types, by what is needed before it and how many parentheses are open:
-- a type, the `addr` of a world, the world of an `at`, or, after a whole type, what goes on with it
abbrev pub step : Role → Need → ℕ → Step
step role.Open need.Begin depth = Goes need.Begin (depth + 1)
step role.Prefix need.Begin depth = Goes need.Begin depth
step role.Base need.Begin depth = Goes need.More depth
step role.World need.Begin depth = Goes need.Addr depth
step role.Addr need.Addr depth = Goes need.More depth
step role.World need.World depth = Goes need.More depth
step role.Suffix need.More depth = Goes need.More depth
step role.At need.More depth = Goes need.World depth
step role.Infix need.More depth = Goes need.Begin depth
step role.Close need.More (suc depth) = Goes need.More depth
step role.Comma need.More zero = Goes need.Begin 0
step role.Closing need.More zero = Ends
step _ _ _ = Stops

-- one token more
abbrev pub longer : ℕ → Option ℕ → Option ℕ
longer n o = option_map (λ k. n + k) o

abbrev pub after_step : Step → (Need → ℕ → Option ℕ) → Option ℕ
after_step Ends next = Some 0
after_step Stops next = None
after_step (Goes needed depth) next = longer 1 (next needed depth)

-- how many tokens of types, parted by commas, stand before the `]` that ends them; none where they are no such list
abbrev pub closing : List (List ℕ) → Need → ℕ → List Placed → Option ℕ
closing variables needed depth [] = None
closing variables needed depth (p ∷ ps) = after_step (step (roles.role variables p.token) needed depth) (λ n k. closing variables n k ps)

-- one parenthesis more at most is open behind a token
abbrev pub IsDeeper : Step → ℕ → Type 0
IsDeeper (Goes needed after) depth = after ≤ depth + 1
IsDeeper _ depth = Unit {0}
