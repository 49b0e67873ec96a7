-- The values of each phrase are of the sort that the productions around it want.
use Rattle.std.proofs.Common.{◌≡◌, ℕ, ◌≤◌, ◌+◌, nat_lt, Bool, true, false, cond, if◌then◌else◌, Option, Some, None, List, [], ◌∷◌, ◌++◌, refl, sym, ◌∙◌, ap, subst, inl, inr, arith}
use Rattle.std.proofs.lemmas.Bool.{le-ltb}
use Rattle.m5_lex.specs.declared.place.Place.{Place}
use Rattle.m5_lex.specs.declared.token.Token.{Token}
use Rattle.m5_lex.specs.declared.token.Token.TheVariants as lex
use Rattle.m5_lex.specs.declared.tokens.Placed.{Placed}
use Rattle.m5_tree.specs.Kinds.{code_of, token_code}
use Rattle.m5_tree.specs.Values.{◌>>=◌}
use Rattle.m5_tree.specs.Making.{made}
use Rattle.m5_tree.specs.Productions.{alternatives}
use Rattle.m5_tree.specs.Reading.{State, Reads, done, token, acts, rule, OneOf, put, value_of}
use Rattle.m5_tree.specs.declared.tree.Program.{Program}
use Rattle.m5_tree.specs.declared.value.Value.{Value}
use Rattle.m5_tree.specs.declared.value.Value.TheVariants as value
use Rattle.m5_tree.specs.declared.grammar.Symbol.{Symbol}
use Rattle.m5_tree.specs.declared.grammar.Symbol.TheVariants.{Tok, Nt, Act}
use Rattle.m5_tree.specs.declared.grammar.Phrase.{Phrase}
use Rattle.m5_tree.specs.declared.grammar.Phrase.TheVariants as phrase
use Rattle.m5_tree.specs.declared.grammar.Action.TheVariants.{Enter, Leave, Pass, Make}
use Rattle.m5_parse.proofs.Sorts.{Sort, M, N, I, L, W, Y, E, S, D, P, sort, sorts, fit, form_fine, Fine}

abbrev pub through : Phrase → List Sort → Option (List Sort)
through phrase.Program st = Some (P ∷ st)
through phrase.Externs (D ∷ st) = Some (D ∷ st)
through phrase.Functions (D ∷ st) = Some (D ∷ st)
through phrase.FunctionName st = Some (W ∷ N ∷ st)
through phrase.World st = Some (W ∷ st)
through phrase.Written st = Some (Y ∷ st)
through phrase.WrittenRest (Y ∷ st) = Some (Y ∷ st)
through phrase.SumType st = Some (Y ∷ st)
through phrase.SumTypeRest (Y ∷ st) = Some (Y ∷ st)
through phrase.ProductType st = Some (Y ∷ st)
through phrase.ProductTypeRest (Y ∷ st) = Some (Y ∷ st)
through phrase.PostfixType st = Some (Y ∷ st)
through phrase.Suffixes (Y ∷ st) = Some (Y ∷ st)
through phrase.AtomType st = Some (Y ∷ st)
through phrase.Expr st = Some (E ∷ st)
through phrase.Body st = Some (E ∷ st)
through phrase.StoreRest (E ∷ st) = Some (E ∷ st)
through phrase.Compare st = Some (E ∷ st)
through phrase.CompareRest (E ∷ st) = Some (E ∷ st)
through phrase.Cons st = Some (E ∷ st)
through phrase.ConsRest (E ∷ st) = Some (E ∷ st)
through phrase.Sum st = Some (E ∷ st)
through phrase.SumRest (E ∷ st) = Some (E ∷ st)
through phrase.Product st = Some (E ∷ st)
through phrase.ProductRest (E ∷ st) = Some (E ∷ st)
through phrase.Application st = Some (E ∷ st)
through phrase.Arguments (E ∷ st) = Some (E ∷ st)
through phrase.Head st = Some (E ∷ st)
through phrase.Atom st = Some (E ∷ st)
through phrase.Group (S ∷ st) = Some (S ∷ st)
through phrase.TupleRest (S ∷ st) = Some (S ∷ st)
through phrase.Declarations st = Some (E ∷ st)
through phrase.More st = Some (E ∷ st)
through phrase.Arms (E ∷ M ∷ st) = Some (E ∷ st)
through _ _ = None

-- the sort of a kept token, by the number of its kind
abbrev pub code_sort : ℕ → Sort
code_sort n = if nat_lt n 1 then N else if nat_lt n 2 then I else if nat_lt n 3 then L else M

abbrev pub go : List Symbol → List Sort → Option (List Sort)
go [] st = Some st
go (Tok keep k ∷ ss) st = go ss (cond keep (code_sort (code_of k) ∷ st) st)
go (Act (Make f) ∷ ss) st = fit f st >>= go ss
go (Act _ ∷ ss) st = go ss st
go (Nt n ∷ ss) st = through n st >>= go ss

abbrev AllFine : Phrase → List Sort → List (List Symbol) → Type 0
AllFine n st [] = Unit {0}
AllFine n st (q ∷ qs) = Fine (through n st) (go q st) × AllFine n st qs

each_fine : (n : Phrase) (st : List Sort) → AllFine n st (alternatives n)
unfolding alternatives
each_fine phrase.Program st = (refl, tt)
each_fine phrase.Externs (D ∷ st) = (refl, (refl, tt))
each_fine phrase.Externs _ = (tt, (tt, tt))
each_fine phrase.Functions (D ∷ st) = (refl, (refl, tt))
each_fine phrase.Functions _ = (tt, (tt, tt))
each_fine phrase.FunctionName st = (refl, (refl, tt))
each_fine phrase.World st = (refl, (refl, (refl, tt)))
each_fine phrase.Written st = (refl, tt)
each_fine phrase.WrittenRest (Y ∷ st) = (refl, (refl, tt))
each_fine phrase.WrittenRest _ = (tt, (tt, tt))
each_fine phrase.SumType st = (refl, tt)
each_fine phrase.SumTypeRest (Y ∷ st) = (refl, (refl, tt))
each_fine phrase.SumTypeRest _ = (tt, (tt, tt))
each_fine phrase.ProductType st = (refl, tt)
each_fine phrase.ProductTypeRest (Y ∷ st) = (refl, (refl, tt))
each_fine phrase.ProductTypeRest _ = (tt, (tt, tt))
each_fine phrase.PostfixType st = (refl, tt)
each_fine phrase.Suffixes (Y ∷ st) = (refl, (refl, (refl, (refl, tt))))
each_fine phrase.Suffixes _ = (tt, (tt, (tt, (tt, tt))))
each_fine phrase.AtomType st = (refl, (refl, (refl, (refl, (refl, (refl, (refl, tt)))))))
each_fine phrase.Expr st = (refl, tt)
each_fine phrase.Body st = (refl, (refl, (refl, (refl, (refl, (refl, tt))))))
each_fine phrase.StoreRest (E ∷ st) = (refl, (refl, tt))
each_fine phrase.StoreRest _ = (tt, (tt, tt))
each_fine phrase.Compare st = (refl, tt)
each_fine phrase.CompareRest (E ∷ st) = (refl, (refl, (refl, (refl, tt))))
each_fine phrase.CompareRest _ = (tt, (tt, (tt, (tt, tt))))
each_fine phrase.Cons st = (refl, tt)
each_fine phrase.ConsRest (E ∷ st) = (refl, (refl, tt))
each_fine phrase.ConsRest _ = (tt, (tt, tt))
each_fine phrase.Sum st = (refl, tt)
each_fine phrase.SumRest (E ∷ st) = (refl, (refl, (refl, (refl, tt))))
each_fine phrase.SumRest _ = (tt, (tt, (tt, (tt, tt))))
each_fine phrase.Product st = (refl, tt)
each_fine phrase.ProductRest (E ∷ st) = (refl, (refl, tt))
each_fine phrase.ProductRest _ = (tt, (tt, tt))
each_fine phrase.Application st = (refl, tt)
each_fine phrase.Arguments (E ∷ st) = (refl, (refl, tt))
each_fine phrase.Arguments _ = (tt, (tt, tt))
each_fine phrase.Head st = (refl, (refl, (refl, (refl, (refl, (refl, (refl, (refl, (refl, (refl, (refl, tt)))))))))))
each_fine phrase.Atom st = (refl, (refl, (refl, (refl, (refl, (refl, (refl, (refl, (refl, (refl, (refl, (refl, (refl, tt)))))))))))))
each_fine phrase.Group (S ∷ st) = (refl, (refl, tt))
each_fine phrase.Group _ = (tt, (tt, tt))
each_fine phrase.TupleRest (S ∷ st) = (refl, (refl, tt))
each_fine phrase.TupleRest _ = (tt, (tt, tt))
each_fine phrase.Declarations st = (refl, (refl, (refl, (refl, (refl, tt)))))
each_fine phrase.More st = (refl, (refl, tt))
each_fine phrase.Arms (E ∷ M ∷ st) = (refl, (refl, tt))
each_fine phrase.Arms _ = (tt, (tt, tt))

one_fine : (n : Phrase) (st : List Sort) (q : List Symbol) (qs : List (List Symbol)) → AllFine n st qs → OneOf q qs → Fine (through n st) (go q st)
one_fine n st q [] h one = absurd one
one_fine n st q (p ∷ ps) h one =
    elim one [ inl e ↦ subst (λ x. Fine (through n st) (go x st)) (sym e) h.0 | inr o ↦ one_fine n st q ps h.1 o ]

bound : (o : Option (List Sort)) (f : List Sort → Option (List Sort)) (out : List Sort) → (o >>= f) ≡ Some out → (mid : List Sort) × (o ≡ Some mid) × (f mid ≡ Some out)
bound (Some mid) f out h = (mid, refl, h)
bound None f out h = absurd cc

fine_at : (o r : Option (List Sort)) (out : List Sort) → Fine o r → o ≡ Some out → r ≡ Some out
fine_at (Some x) r out h e = h ∙ e
fine_at None r out h e = absurd cc

go_append : (q ss : List Symbol) (st mid : List Sort) → go q st ≡ Some mid → go (q ++ ss) st ≡ go ss mid
go_append [] ss st mid h = let e : st ≡ mid = cc in ap (go ss) e
go_append (Tok keep k ∷ q) ss st mid h = go_append q ss (cond keep (code_sort (code_of k) ∷ st) st) mid h
go_append (Act (Make f) ∷ q) ss st mid h =
    let b = bound (fit f st) (go q) mid h
    in ap (λ o. o >>= go (q ++ ss)) b.1 ∙ go_append q ss b.0 mid b.2
go_append (Act Enter ∷ q) ss st mid h = go_append q ss st mid h
go_append (Act Leave ∷ q) ss st mid h = go_append q ss st mid h
go_append (Act Pass ∷ q) ss st mid h = go_append q ss st mid h
go_append (Nt n ∷ q) ss st mid h =
    let b = bound (through n st) (go q) mid h
    in ap (λ o. o >>= go (q ++ ss)) b.1 ∙ go_append q ss b.0 mid b.2

word_sort : (n : ℕ) → 3 ≤ n → code_sort n ≡ M
word_sort n h = let a : nat_lt n 1 ≡ false = le-ltb n 1 (omega arith) in let b : nat_lt n 2 ≡ false = le-ltb n 2 (omega arith) in let c : nat_lt n 3 ≡ false = le-ltb n 3 (omega arith) in rw (a, b, c) refl

choice_sort : (b : Bool) (n : ℕ) → 3 ≤ n → code_sort (if b then n else 255) ≡ M
choice_sort true n h = word_sort n h
choice_sort false n h = refl

token_sort : (names : List (List ℕ)) (at : Place) (t : Token) → sort (value_of names at t) ≡ code_sort (token_code t)
token_sort names at (lex.Name x) = refl
token_sort names at (lex.Number n) = refl
token_sort names at (lex.Literal x) = refl
token_sort names at (lex.Word i) = sym (choice_sort (nat_lt i 44) (3 + i) (omega arith))
token_sort names at (lex.Sign i) = sym (choice_sort (nat_lt i 21) (47 + i) (omega arith))

pub reads_sorts : {e s : State} {ss : List Symbol} {ts : List Placed} → Reads e ss ts s → (out : List Sort) → go ss (sorts s.values) ≡ Some out → sorts e.values ≡ out
reads_sorts {e} (done {s} h) out g = let x : sorts s.values ≡ out = cc in ap (λ y. sorts y.values) (sym h) ∙ x
reads_sorts (token {keep = true} {k} {t} {ss} {ts} {s} c r) out g =
    let e : sort (value_of s.names t.place t.token) ≡ code_sort (code_of k) = token_sort s.names t.place t.token ∙ ap code_sort c
    in reads_sorts r out (ap (λ x. go ss (x ∷ sorts s.values)) e ∙ g)
reads_sorts (token {keep = false} c r) out g = reads_sorts r out g
reads_sorts (acts {a = Enter} r) out g = reads_sorts r out g
reads_sorts (acts {a = Leave} r) out g = reads_sorts r out g
reads_sorts (acts {a = Pass} r) out g = reads_sorts r out g
reads_sorts (acts {a = Make f} {ss} {ts} {s} r) out g =
    let b = bound (fit f (sorts s.values)) (go ss) out g in
    let m : Some (sorts (put (made f s.values))) ≡ Some b.0 = fine_at (fit f (sorts s.values)) (Some (sorts (put (made f s.values)))) b.0 (form_fine f s.values) b.1 in
    let m' : sorts (put (made f s.values)) ≡ b.0 = cc in
    reads_sorts r out (ap (go ss) m' ∙ b.2)
reads_sorts (rule {n} {ss} {ts} {s} q one r) out g =
    let st = sorts s.values in
    let b = bound (through n st) (go ss) out g in
    let h : go q st ≡ Some b.0 = fine_at (through n st) (go q st) b.0 (one_fine n st q (alternatives n) (each_fine n st) one) b.1
    in reads_sorts r out (go_append q ss st b.0 h ∙ b.2)

pub record One (vs : List Value) : Type 0 where
  pub program : Program
  pub is : vs ≡ value.Whole program ∷ []

pub one_program : (vs : List Value) → sorts vs ≡ P ∷ [] → One vs
one_program (value.Whole q ∷ []) h = record { program = q; is = refl }
one_program _ h = absurd cc
