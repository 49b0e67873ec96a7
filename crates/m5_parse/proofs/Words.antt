-- Each sequence of symbols has tokens that it reads.
use Rattle.std.proofs.Common.{◌≡◌, ℕ, zero, suc, ◌-◌, nat_lt, arith, lit<, lit≤, if◌then◌else◌, List, [], ◌∷◌, ◌++◌, refl, inl, inr}
use Rattle.std.specs.List.{AllPass}
use Rattle.m5_lex.specs.Alphabet.{is_name_byte, keywords, symbols}
use Rattle.m5_lex.specs.Token.{IsToken}
use Rattle.m5_tree.specs.Program.{AreOfText}
use Rattle.m5_lex.specs.declared.token.Token.{Token}
use Rattle.m5_lex.specs.declared.token.Token.TheVariants as lex
use Rattle.m5_tree.specs.declared.grammar.Kind.{Kind}
use Rattle.m5_tree.specs.declared.grammar.Kind.TheVariants as kind
use Rattle.m5_tree.specs.Kinds.{code_of, token_code}
use Rattle.m5_tree.specs.Reading.{State, OneOf, Reads, done, token, acts, rule, shift, act}
use Rattle.m5_tree.specs.Productions.{alternatives}
use Rattle.m5_tree.specs.declared.grammar.Symbol.{Symbol}
use Rattle.m5_tree.specs.declared.grammar.Symbol.TheVariants.{Tok, Nt, Act}
use Rattle.m5_tree.specs.declared.grammar.Phrase.{Phrase}
use Rattle.m5_tree.specs.declared.grammar.Phrase.TheVariants as phrase
use Rattle.m5_lex.specs.declared.tokens.Placed.{Placed}

-- a token of each kind
abbrev token_by : ℕ → Token
token_by n = if nat_lt n 1 then lex.Name (97 ∷ []) else if nat_lt n 2 then lex.Number 0 else if nat_lt n 3 then lex.Literal [] else if nat_lt n 47 then lex.Word (n - 3) else lex.Sign (n - 47)

abbrev some_token : Kind → Placed
some_token k = record { token = token_by (code_of k); place = record { line = 0; column = 0 } }

some_token-code : (k : Kind) → token_code (some_token k).token ≡ code_of k
some_token-code kind.Name = refl
some_token-code _ = refl

one_letter : AllPass is_name_byte (97 ∷ [])
one_letter zero d h = refl
one_letter (suc k) d h = absurd (omega arith)

some_token-of_text : (k : Kind) → IsToken (some_token k).token
unfolding keywords symbols
some_token-of_text kind.Name = record { first = refl; all = one_letter; free = refl }
some_token-of_text kind.Number = lit≤ tt
some_token-of_text kind.Literal = refl
some_token-of_text _ = lit< tt

pub record Word (ss : List Symbol) (s : State) : Type 0 where
  pub tokens : List Placed
  pub of_text : AreOfText tokens
  pub end : State
  pub reads : Reads end ss tokens s

-- a phrase with tokens before whatever has tokens
abbrev pub Grows : Phrase → Type 0
Grows n = (ss : List Symbol) → ((s : State) → Word ss s) → (s : State) → Word (Nt n ∷ ss) s

abbrev AllGrow : List Symbol → Type 0
AllGrow [] = Unit {0}
AllGrow (Tok keep k ∷ q) = AllGrow q
AllGrow (Act a ∷ q) = AllGrow q
AllGrow (Nt n ∷ q) = Grows n × AllGrow q

along : (q : List Symbol) → AllGrow q → (ss : List Symbol) → ((s : State) → Word ss s) → (s : State) → Word (q ++ ss) s
along [] a ss h s = h s
along (Tok keep k ∷ q) a ss h s =
    let t = some_token k in
    let below = along q a ss h (shift keep t s)
    in record { tokens = t ∷ below.tokens; of_text = (some_token-of_text k, below.of_text); end = below.end; reads = token (some_token-code k) below.reads }
along (Act b ∷ q) a ss h s =
    let below = along q a ss h (act b s)
    in record { tokens = below.tokens; of_text = below.of_text; end = below.end; reads = acts below.reads }
along (Nt n ∷ q) a ss h s = a.0 (q ++ ss) (along q a.1 ss h) s

by : (n : Phrase) (q : List Symbol) → OneOf q (alternatives n) → AllGrow q → Grows n
by n q one a ss h s =
    let below = along q a ss h s
    in record { tokens = below.tokens; of_text = below.of_text; end = below.end; reads = rule q one below.reads }

module _ where
  externs_grows : Grows phrase.Externs
  unfolding alternatives
  externs_grows = by phrase.Externs [] (inr (inl refl)) tt

  functions_grows : Grows phrase.Functions
  unfolding alternatives
  functions_grows = by phrase.Functions [] (inr (inl refl)) tt

  function_name_grows : Grows phrase.FunctionName
  unfolding alternatives
  function_name_grows = by phrase.FunctionName _ (inl refl) tt

  world_grows : Grows phrase.World
  unfolding alternatives
  world_grows = by phrase.World _ (inl refl) tt

  written_rest_grows : Grows phrase.WrittenRest
  unfolding alternatives
  written_rest_grows = by phrase.WrittenRest [] (inr (inl refl)) tt

  sum_type_rest_grows : Grows phrase.SumTypeRest
  unfolding alternatives
  sum_type_rest_grows = by phrase.SumTypeRest [] (inr (inl refl)) tt

  product_type_rest_grows : Grows phrase.ProductTypeRest
  unfolding alternatives
  product_type_rest_grows = by phrase.ProductTypeRest [] (inr (inl refl)) tt

  suffixes_grows : Grows phrase.Suffixes
  unfolding alternatives
  suffixes_grows = by phrase.Suffixes [] (inr (inr (inr (inl refl)))) tt

  atom_type_grows : Grows phrase.AtomType
  unfolding alternatives
  atom_type_grows = by phrase.AtomType _ (inl refl) tt

  postfix_type_grows : Grows phrase.PostfixType
  unfolding alternatives
  postfix_type_grows = by phrase.PostfixType _ (inl refl) (atom_type_grows, (suffixes_grows, tt))

  product_type_grows : Grows phrase.ProductType
  unfolding alternatives
  product_type_grows = by phrase.ProductType _ (inl refl) (postfix_type_grows, (product_type_rest_grows, tt))

  sum_type_grows : Grows phrase.SumType
  unfolding alternatives
  sum_type_grows = by phrase.SumType _ (inl refl) (product_type_grows, (sum_type_rest_grows, tt))

  written_grows : Grows phrase.Written
  unfolding alternatives
  written_grows = by phrase.Written _ (inl refl) (sum_type_grows, (written_rest_grows, tt))

  store_rest_grows : Grows phrase.StoreRest
  unfolding alternatives
  store_rest_grows = by phrase.StoreRest [] (inr (inl refl)) tt

  compare_rest_grows : Grows phrase.CompareRest
  unfolding alternatives
  compare_rest_grows = by phrase.CompareRest [] (inr (inr (inr (inl refl)))) tt

  cons_rest_grows : Grows phrase.ConsRest
  unfolding alternatives
  cons_rest_grows = by phrase.ConsRest [] (inr (inl refl)) tt

  sum_rest_grows : Grows phrase.SumRest
  unfolding alternatives
  sum_rest_grows = by phrase.SumRest [] (inr (inr (inr (inl refl)))) tt

  product_rest_grows : Grows phrase.ProductRest
  unfolding alternatives
  product_rest_grows = by phrase.ProductRest [] (inr (inl refl)) tt

  arguments_grows : Grows phrase.Arguments
  unfolding alternatives
  arguments_grows = by phrase.Arguments [] (inr (inl refl)) tt

  atom_grows : Grows phrase.Atom
  unfolding alternatives
  atom_grows = by phrase.Atom _ (inl refl) tt

  head_grows : Grows phrase.Head
  unfolding alternatives
  head_grows = by phrase.Head _ (inr (inr (inr (inr (inr (inr (inr (inr (inr (inr (inl refl))))))))))) (atom_grows, tt)

  application_grows : Grows phrase.Application
  unfolding alternatives
  application_grows = by phrase.Application _ (inl refl) (head_grows, (arguments_grows, tt))

  product_grows : Grows phrase.Product
  unfolding alternatives
  product_grows = by phrase.Product _ (inl refl) (application_grows, (product_rest_grows, tt))

  sum_grows : Grows phrase.Sum
  unfolding alternatives
  sum_grows = by phrase.Sum _ (inl refl) (product_grows, (sum_rest_grows, tt))

  cons_grows : Grows phrase.Cons
  unfolding alternatives
  cons_grows = by phrase.Cons _ (inl refl) (sum_grows, (cons_rest_grows, tt))

  compare_grows : Grows phrase.Compare
  unfolding alternatives
  compare_grows = by phrase.Compare _ (inl refl) (cons_grows, (compare_rest_grows, tt))

  body_grows : Grows phrase.Body
  unfolding alternatives
  body_grows = by phrase.Body _ (inr (inr (inr (inr (inr (inl refl)))))) (compare_grows, (store_rest_grows, tt))

  expr_grows : Grows phrase.Expr
  unfolding alternatives
  expr_grows = by phrase.Expr _ (inl refl) (body_grows, tt)

  program_grows : Grows phrase.Program
  unfolding alternatives
  program_grows = by phrase.Program _ (inl refl) (externs_grows, (functions_grows, (expr_grows, tt)))

  group_grows : Grows phrase.Group
  unfolding alternatives
  group_grows = by phrase.Group _ (inl refl) tt

  tuple_rest_grows : Grows phrase.TupleRest
  unfolding alternatives
  tuple_rest_grows = by phrase.TupleRest _ (inr (inl refl)) tt

  more_grows : Grows phrase.More
  unfolding alternatives
  more_grows = by phrase.More _ (inl refl) (expr_grows, tt)

  declarations_grows : Grows phrase.Declarations
  unfolding alternatives
  declarations_grows = by phrase.Declarations _ (inr (inl refl)) (expr_grows, (more_grows, tt))

  arms_grows : Grows phrase.Arms
  unfolding alternatives
  arms_grows = by phrase.Arms _ (inl refl) (expr_grows, (expr_grows, tt))

grows : (n : Phrase) → Grows n
grows phrase.Program = program_grows
grows phrase.Externs = externs_grows
grows phrase.Functions = functions_grows
grows phrase.FunctionName = function_name_grows
grows phrase.World = world_grows
grows phrase.Written = written_grows
grows phrase.WrittenRest = written_rest_grows
grows phrase.SumType = sum_type_grows
grows phrase.SumTypeRest = sum_type_rest_grows
grows phrase.ProductType = product_type_grows
grows phrase.ProductTypeRest = product_type_rest_grows
grows phrase.PostfixType = postfix_type_grows
grows phrase.Suffixes = suffixes_grows
grows phrase.AtomType = atom_type_grows
grows phrase.Expr = expr_grows
grows phrase.Body = body_grows
grows phrase.StoreRest = store_rest_grows
grows phrase.Compare = compare_grows
grows phrase.CompareRest = compare_rest_grows
grows phrase.Cons = cons_grows
grows phrase.ConsRest = cons_rest_grows
grows phrase.Sum = sum_grows
grows phrase.SumRest = sum_rest_grows
grows phrase.Product = product_grows
grows phrase.ProductRest = product_rest_grows
grows phrase.Application = application_grows
grows phrase.Arguments = arguments_grows
grows phrase.Head = head_grows
grows phrase.Atom = atom_grows
grows phrase.Group = group_grows
grows phrase.TupleRest = tuple_rest_grows
grows phrase.Declarations = declarations_grows
grows phrase.More = more_grows
grows phrase.Arms = arms_grows

pub word_of : (ss : List Symbol) (s : State) → Word ss s
word_of [] s = record { tokens = []; of_text = tt; end = s; reads = done refl }
word_of (Tok keep k ∷ ss) s =
    let t = some_token k in
    let below = word_of ss (shift keep t s)
    in record { tokens = t ∷ below.tokens; of_text = (some_token-of_text k, below.of_text); end = below.end; reads = token (some_token-code k) below.reads }
word_of (Act a ∷ ss) s =
    let below = word_of ss (act a s)
    in record { tokens = below.tokens; of_text = below.of_text; end = below.end; reads = acts below.reads }
word_of (Nt n ∷ ss) s = grows n ss (word_of ss) s
