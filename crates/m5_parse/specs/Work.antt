-- What is left to do, which falls with each step.
use Rattle.std.specs.Prelude.{ℕ, ◌+◌, ◌*◌, ◌-◌, List, [], ◌∷◌, length}
use Rattle.m5_lex.specs.declared.tokens.Placed.{Placed}
use Rattle.m5_tree.specs.declared.grammar.Symbol.{Symbol}
use Rattle.m5_tree.specs.declared.grammar.Symbol.TheVariants.{Tok, Nt, Act}
use Rattle.m5_tree.specs.declared.grammar.Phrase.{Phrase}
use Rattle.m5_tree.specs.declared.grammar.Phrase.TheVariants as phrase

-- a phrase weighs more than each of its productions, until a token is read
abbrev pub rank : Phrase → ℕ
rank phrase.Program = 23
rank phrase.Written = 14
rank phrase.SumType = 10
rank phrase.ProductType = 8
rank phrase.PostfixType = 6
rank phrase.AtomType = 4
rank phrase.Expr = 16
rank phrase.Body = 13
rank phrase.Compare = 11
rank phrase.Cons = 9
rank phrase.Sum = 7
rank phrase.Product = 5
rank phrase.Application = 3
rank phrase.Group = 19
rank phrase.More = 2
rank _ = 1

-- what a token will pay that is certain to be read next
abbrev pub credit : Phrase → ℕ
credit phrase.Atom = 31
credit _ = 0

abbrev pub weight : List Symbol → ℕ
weight [] = 0
weight (Tok keep k ∷ ss) = 1 + weight ss
weight (Act a ∷ ss) = 1 + weight ss
weight (Nt n ∷ ss) = rank n + weight ss

abbrev pub lead : List Symbol → ℕ
lead [] = 0
lead (Tok keep k ∷ ss) = 127
lead (Act a ∷ ss) = 0
lead (Nt n ∷ ss) = credit n

abbrev pub work : List Symbol → List Placed → ℕ
work ss ts = 128 * length ts + 128 + weight ss - lead ss
