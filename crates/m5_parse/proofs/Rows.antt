-- The table's rows are picked as the productions are.
use Rattle.std.proofs.Common.{◌≡◌, cond, List, [], ◌∷◌, map, refl, ap}
use Rattle.m5_lex.specs.declared.tokens.Placed.{Placed}
use Rattle.m5_tree.specs.declared.grammar.Symbol.{Symbol}
use Rattle.m5_parse.specs.Kinds.{leads}
use Rattle.m5_parse.specs.Rows.{begins, row, pick, pick_row}

pub pick_row-row : (ts : List Placed) (qs : List (List Symbol)) → pick_row ts (map row qs) ≡ pick ts qs
pick_row-row ts [] = refl
pick_row-row ts (q ∷ []) = refl
pick_row-row ts (q ∷ p ∷ ps) = ap (λ x. cond (leads ts (begins q)) q x) (pick_row-row ts (p ∷ ps))
