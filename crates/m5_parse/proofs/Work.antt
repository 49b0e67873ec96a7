-- Each step leaves less to do.
use Rattle.std.proofs.Common.{◌≡◌, ℕ, ◌+◌, ◌*◌, ◌-◌, ◌<◌, ◌≤◌, Bool, true, ◌&&◌, nat_lt, inl, inr, List, [], ◌∷◌, ◌++◌, length, refl, arith}
use Rattle.std.proofs.lemmas.Bool.{and_parts, ltb-true}
use Rattle.m5_tree.specs.Productions.{alternatives}
use Rattle.m5_tree.specs.Reading.{OneOf}
use Rattle.m5_parse.specs.Rows.{choose}
use Rattle.m5_parse.specs.Work.{credit, lead, rank, weight, work}
use Rattle.m5_parse.proofs.Theory.{some_choice}
use Rattle.m5_tree.specs.declared.grammar.Symbol.{Symbol}
use Rattle.m5_tree.specs.declared.grammar.Symbol.TheVariants.{Tok, Nt, Act}
use Rattle.m5_tree.specs.declared.grammar.Phrase.{Phrase}
use Rattle.m5_tree.specs.declared.grammar.Phrase.TheVariants as phrase
use Rattle.m5_tree.specs.declared.grammar.Action.{Action}
use Rattle.m5_tree.specs.declared.grammar.Kind.{Kind}
use Rattle.m5_lex.specs.declared.tokens.Placed.{Placed}

weight-append : (q ss : List Symbol) → weight (q ++ ss) ≡ weight q + weight ss
weight-append [] ss = omega arith
weight-append (Tok keep k ∷ q) ss = omega (arith, weight-append q ss)
weight-append (Act a ∷ q) ss = omega (arith, weight-append q ss)
weight-append (Nt n ∷ q) ss = omega (arith, weight-append q ss)

lead-append : (q ss : List Symbol) → lead q ≤ lead (q ++ ss)
lead-append [] ss = omega arith
lead-append (Tok keep k ∷ q) ss = omega arith
lead-append (Act a ∷ q) ss = omega arith
lead-append (Nt n ∷ q) ss = omega arith

lighter : Phrase → List Symbol → Bool
lighter n q = nat_lt (weight q + credit n) (rank n + lead q)

all_lighter : Phrase → List (List Symbol) → Bool
all_lighter n [] = true
all_lighter n (q ∷ qs) = lighter n q && all_lighter n qs

each_lighter : (n : Phrase) → all_lighter n (alternatives n) ≡ true
unfolding alternatives lighter all_lighter
each_lighter phrase.Program = refl
each_lighter _ = refl

one_lighter : (n : Phrase) (q : List Symbol) (qs : List (List Symbol)) → all_lighter n qs ≡ true → OneOf q qs → weight q + credit n < rank n + lead q
unfolding lighter all_lighter
one_lighter n q [] h one = absurd one
one_lighter n q (p ∷ ps) h one =
    let parts = and_parts (lighter n p) (all_lighter n ps) h
    in elim one [
      | inl e ↦ rw e (ltb-true (weight p + credit n) (rank n + lead p) parts.0)
      | inr o ↦ one_lighter n q ps parts.1 o
    ]

pub choice_lighter : (n : Phrase) (ss : List Symbol) (ts : List Placed) → work (choose n ts ++ ss) ts < work (Nt n ∷ ss) ts
choice_lighter n ss ts =
    let q = choose n ts in
    let h : weight q + credit n < rank n + lead q = one_lighter n q (alternatives n) (each_lighter n) (some_choice n ts) in
    finish (length ts) (weight (q ++ ss)) (weight q) (weight ss) (lead (q ++ ss)) (lead q) (rank n) (credit n) (weight-append q ss) (lead-append q ss) h (small n)
  where
    finish : (len wqs wq ws lqs lq r c : ℕ) → wqs ≡ wq + ws → lq ≤ lqs → wq + c < r + lq → c ≤ 31 → 128 * len + 128 + wqs - lqs < 128 * len + 128 + (r + ws) - c
    finish len wqs wq ws lqs lq r c e l h s = omega arith

    small : (n : Phrase) → credit n ≤ 31
    small phrase.Atom = omega arith
    small _ = omega arith

pub token_lighter : (keep : Bool) (k : Kind) (t : Placed) (ss : List Symbol) (ts : List Placed) → work ss ts < work (Tok keep k ∷ ss) (t ∷ ts)
token_lighter keep k t ss ts = omega arith

pub act_lighter : (a : Action) (ss : List Symbol) (ts : List Placed) → work ss ts < work (Act a ∷ ss) ts
act_lighter a ss ts = omega arith
