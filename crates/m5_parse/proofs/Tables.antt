-- What the tables say of each other, by computing.
use Rattle.std.proofs.Common.{◌≡◌, Bool, true, not, ◌&&◌, ◌||◌, List, [], ◌∷◌, ◌++◌, refl}
use Rattle.m5_tree.specs.Kinds.{code_of}
use Rattle.m5_parse.specs.Kinds.{among}
use Rattle.m5_tree.specs.Productions.{alternatives}
use Rattle.m5_parse.specs.First.{first, nullable}
use Rattle.m5_parse.specs.After.{extends}
use Rattle.m5_parse.specs.Rows.{begins, nulls}
use Rattle.m5_tree.specs.declared.grammar.Symbol.{Symbol}
use Rattle.m5_tree.specs.declared.grammar.Symbol.TheVariants.{Tok, Nt, Act}
use Rattle.m5_tree.specs.declared.grammar.Phrase.{Phrase}
use Rattle.m5_tree.specs.declared.grammar.Phrase.TheVariants as phrase
use Rattle.m5_tree.specs.declared.grammar.Kind.{Kind}

abbrev pub within : List Kind → List Kind → Bool
within [] ys = true
within (x ∷ xs) ys = among (code_of x) ys && within xs ys

abbrev pub apart : List Kind → List Kind → Bool
apart [] ys = true
apart (x ∷ xs) ys = not (among (code_of x) ys) && apart xs ys

abbrev pub begins_all : List (List Symbol) → List Kind
begins_all [] = []
begins_all (q ∷ qs) = begins q ++ begins_all qs

-- an alternative begins as its phrase may, and is empty only where its phrase may be
abbrev pub first_fits : Phrase → List (List Symbol) → Bool
first_fits n [] = true
first_fits n (q ∷ qs) = (within (begins q) (first n) && (not (nulls q) || nullable n)) && first_fits n qs

-- one token tells the alternatives apart
abbrev pub told_apart : Phrase → List (List Symbol) → Bool
told_apart n [] = true
told_apart n (q ∷ []) = true
told_apart n (q ∷ p ∷ ps) =
    (not (nulls q) && apart (begins q) (begins_all (p ∷ ps))) && ((not (nullable n) || within (begins q) (extends n)) && told_apart n (p ∷ ps))

-- what follows a phrase inside an alternative does not belong to it
abbrev pub ends_well : Phrase → List Symbol → Bool
ends_well n [] = true
ends_well n (Tok keep k ∷ ss) = ends_well n ss
ends_well n (Act a ∷ ss) = ends_well n ss
ends_well n (Nt m ∷ ss) =
    (apart (extends m) (begins ss) && (not (nulls ss) || within (extends m) (extends n))) && ends_well n ss

abbrev pub all_end_well : Phrase → List (List Symbol) → Bool
all_end_well n [] = true
all_end_well n (q ∷ qs) = ends_well n q && all_end_well n qs

abbrev checks : Phrase → Bool
checks n = first_fits n (alternatives n) && (told_apart n (alternatives n) && all_end_well n (alternatives n))

pub checked : (n : Phrase) → checks n ≡ true
unfolding alternatives first nullable extends
checked phrase.Program = refl
checked phrase.Externs = refl
checked phrase.Functions = refl
checked phrase.FunctionName = refl
checked phrase.World = refl
checked phrase.Written = refl
checked phrase.WrittenRest = refl
checked phrase.SumType = refl
checked phrase.SumTypeRest = refl
checked phrase.ProductType = refl
checked phrase.ProductTypeRest = refl
checked phrase.PostfixType = refl
checked phrase.Suffixes = refl
checked phrase.AtomType = refl
checked phrase.Expr = refl
checked phrase.Body = refl
checked phrase.StoreRest = refl
checked phrase.Compare = refl
checked phrase.CompareRest = refl
checked phrase.Cons = refl
checked phrase.ConsRest = refl
checked phrase.Sum = refl
checked phrase.SumRest = refl
checked phrase.Product = refl
checked phrase.ProductRest = refl
checked phrase.Application = refl
checked phrase.Arguments = refl
checked phrase.Head = refl
checked phrase.Atom = refl
checked phrase.Group = refl
checked phrase.TupleRest = refl
checked phrase.Declarations = refl
checked phrase.More = refl
checked phrase.Arms = refl
