-- The same tokens at other places are read alike.
use Rattle.std.proofs.Common.{◌≡◌, ℕ, ◌<◌, Bool, true, false, Option, Some, None, List, [], ◌∷◌, ◌++◌, length, refl, sym, ◌∙◌, ap, subst, arith}
use Rattle.m5_lex.specs.declared.place.Place.{Place}
use Rattle.m5_lex.specs.declared.token.Token.{Token}
use Rattle.m5_lex.specs.declared.token.Token.TheVariants as lex
use Rattle.m5_lex.specs.declared.tokens.Placed.{Placed}
use Rattle.m5_lex.specs.Shown.{tokens_of}
use Rattle.m5_terms.specs.declared.types.World.{World}
use Rattle.m5_tree.specs.TypeSyntax.{TypeSyntax}
use Rattle.m5_tree.specs.Syntax.{Syntax}
use Rattle.m5_tree.specs.Words.{leaf_of, unary_of, binary_of}
use Rattle.m5_tree.specs.Kinds.{token_code}
use Rattle.m5_tree.specs.DeclarationMaking.{declaration_made}
use Rattle.m5_tree.specs.WrittenMaking.{written_made}
use Rattle.m5_tree.specs.ExprMaking.{expr_made}
use Rattle.m5_tree.specs.Making.{made}
use Rattle.m5_tree.specs.Reading.{State, Reads, done, token, acts, rule, act, shift, put, raised, back, outer, value_of, names_with, at_start}
use Rattle.m5_tree.specs.Level.{Arrives, here, beyond, by_act, by_rule, NoneDeep}
use Rattle.m5_tree.specs.Program.{IsProgram}
use Rattle.m5_tree.specs.declared.expr.Part.{Part}
use Rattle.m5_tree.specs.declared.form.LeafForm.TheVariants as leaf_tree
use Rattle.m5_tree.specs.declared.form.TypePlain.TheVariants as plain_tree
use Rattle.m5_tree.specs.declared.form.TypeWrap.TheVariants as wrap_tree
use Rattle.m5_tree.specs.declared.form.TernaryForm.TheVariants as ternary_tree
use Rattle.m5_tree.specs.declared.tree.Extern.{Extern}
use Rattle.m5_tree.specs.declared.tree.Function.{Function}
use Rattle.m5_tree.specs.declared.tree.Declarations.{Declarations}
use Rattle.m5_tree.specs.declared.tree.Program.{Program}
use Rattle.m5_tree.specs.declared.tree.Tree.{Tree}
use Rattle.m5_tree.specs.declared.value.Value.{Value}
use Rattle.m5_tree.specs.declared.value.Value.TheVariants as value
use Rattle.m5_tree.specs.declared.grammar.Action.{Action}
use Rattle.m5_tree.specs.declared.grammar.Action.TheVariants.{Enter, Leave, Pass, Make}
use Rattle.m5_tree.specs.declared.grammar.Form.{Form}
use Rattle.m5_tree.specs.declared.grammar.Form.TheVariants.{Declare, Write, Build}
use Rattle.m5_tree.specs.declared.grammar.DeclarationForm.{DeclarationForm}
use Rattle.m5_tree.specs.declared.grammar.DeclarationForm.TheVariants as declaration
use Rattle.m5_tree.specs.declared.grammar.WrittenForm.{WrittenForm}
use Rattle.m5_tree.specs.declared.grammar.WrittenForm.TheVariants as written
use Rattle.m5_tree.specs.declared.grammar.ExprForm.{ExprForm}
use Rattle.m5_tree.specs.declared.grammar.ExprForm.TheVariants as expr
use Rattle.m5_tree.specs.declared.grammar.Symbol.{Symbol}
use Rattle.m5_cli.proofs.Likeness.{TypeLike, Like, PartsLike, no_parts, plain_like, wrapped_like, joined_like, same_leaf, nil_like, leaf_like, same_unary, fn_like, rec_like, inl_like, inr_like, unary_like, binary_like, ternary_like, parts_more, tuple_like}

pub data ExternsLike : List Extern → List Extern → Type 0 where
  no_externs : ExternsLike [] []
  an_extern : {p q : Place} {x : ℕ} {t u : TypeSyntax} {w : World} {xs ys : List Extern} → TypeLike t u → ExternsLike xs ys
      → ExternsLike (record { place = p; name = x; ty = t; world = w } ∷ xs) (record { place = q; name = x; ty = u; world = w } ∷ ys)

pub data FunctionsLike : List Function → List Function → Type 0 where
  no_functions : FunctionsLike [] []
  a_function : {p q pn qn : Place} {x y : ℕ} {w : World} {t u v r : TypeSyntax} {e d : Syntax} {gs hs : List Function} → TypeLike t u → TypeLike v r → Like e d → FunctionsLike gs hs
      → FunctionsLike (record { place = p; name_place = pn; name = x; world = w; parameter = y; ty = t; result = v; body = e } ∷ gs)
      (record { place = q; name_place = qn; name = x; world = w; parameter = y; ty = u; result = r; body = d } ∷ hs)

pub record DeclaredLike (d e : Declarations) : Type 0 where
  pub externs : ExternsLike d.externs e.externs
  pub functions : FunctionsLike d.functions e.functions

pub record ProgramLike (p q : Program) : Type 0 where
  pub declarations : DeclaredLike p.declarations q.declarations
  pub body : Like p.body q.body

-- values that differ in their places alone
pub data ValueLike : Value → Value → Type 0 where
  marks : {p q : Place} → ValueLike (value.Mark p) (value.Mark q)
  names : {p q : Place} {x : ℕ} → ValueLike (value.Name p x) (value.Name q x)
  numbers : {p q : Place} {n : ℕ} → ValueLike (value.Number p n) (value.Number q n)
  literals : {p q : Place} {t : List ℕ} → ValueLike (value.Literal p t) (value.Literal q t)
  worlds : {p q : Place} {w : World} → ValueLike (value.World p w) (value.World q w)
  types : {p q : Place} {t u : TypeSyntax} → TypeLike t u → ValueLike (value.Written p t) (value.Written q u)
  terms : {p q : Place} {e d : Syntax} → Like e d → ValueLike (value.Expr p e) (value.Expr q d)
  tuples : {ps qs : List Part} → PartsLike ps qs → ValueLike (value.Parts ps) (value.Parts qs)
  declares : {d e : Declarations} → DeclaredLike d e → ValueLike (value.Declared d) (value.Declared e)
  programs : {p q : Program} → ProgramLike p q → ValueLike (value.Whole p) (value.Whole q)

pub data Likes : List Value → List Value → Type 0 where
  none : Likes [] []
  one : {v w : Value} {vs ws : List Value} → ValueLike v w → Likes vs ws → Likes (v ∷ vs) (w ∷ ws)

-- ---- what is made of values

abbrev MadeLike : Option (Value × List Value) → Option (Value × List Value) → Type 0
MadeLike (Some a) (Some b) = ValueLike a.0 b.0 × Likes a.1 b.1
MadeLike None None = Unit {0}
MadeLike _ _ = ⊥

externs_more : {xs ys : List Extern} {t u : TypeSyntax} (p q : Place) (x : ℕ) (w : World) → ExternsLike xs ys → TypeLike t u
    → ExternsLike (xs ++ record { place = p; name = x; ty = t; world = w } ∷ []) (ys ++ record { place = q; name = x; ty = u; world = w } ∷ [])
externs_more p q x w no_externs h = an_extern h no_externs
externs_more p q x w (an_extern k more) h = an_extern k (externs_more p q x w more h)

functions_more : {gs hs : List Function} {t u v r : TypeSyntax} {e d : Syntax} (p q pn qn : Place) (x y : ℕ) (w : World) → FunctionsLike gs hs → TypeLike t u → TypeLike v r → Like e d
    → FunctionsLike (gs ++ record { place = p; name_place = pn; name = x; world = w; parameter = y; ty = t; result = v; body = e } ∷ [])
    (hs ++ record { place = q; name_place = qn; name = x; world = w; parameter = y; ty = u; result = r; body = d } ∷ [])
functions_more p q pn qn x y w no_functions h k b = a_function h k b no_functions
functions_more p q pn qn x y w (a_function i j c more) h k b = a_function i j c (functions_more p q pn qn x y w more h k b)

declaration_like : (f : DeclarationForm) {vs ws : List Value} → Likes vs ws → MadeLike (declaration_made f vs) (declaration_made f ws)
unfolding declaration_made
declaration_like declaration.Begin h = (declares (record { externs = no_externs; functions = no_functions }), h)
declaration_like declaration.OfExtern (one (worlds {w}) (one (types t) (one (names {p} {q} {x}) (one (declares d) h)))) =
    (declares (record { externs = externs_more p q x w d.externs t; functions = d.functions }), h)
declaration_like declaration.OfExtern _ = tt
declaration_like declaration.Anywhere (one names h) = (worlds, one names h)
declaration_like declaration.Anywhere _ = tt
declaration_like declaration.OfFunction (one (terms e) (one (types b) (one (types a) (one (names {x = y}) (one (worlds {w}) (one (names {p = pn} {q = qn} {x}) (one (marks {p} {q}) (one (declares d) h)))))))) =
    (declares (record { externs = d.externs; functions = functions_more p q pn qn x y w d.functions a b e }), h)
declaration_like declaration.OfFunction _ = tt
declaration_like declaration.OfProgram (one (terms e) (one marks (one (declares d) h))) = (programs (record { declarations = d; body = e }), h)
declaration_like declaration.OfProgram _ = tt
declaration_like (declaration.OfWorld w) (one marks h) = (worlds, h)
declaration_like (declaration.OfWorld w) _ = tt

written_like : (f : WrittenForm) {vs ws : List Value} → Likes vs ws → MadeLike (written_made f vs) (written_made f ws)
unfolding written_made
written_like (written.OfBase f) (one (marks {p} {q}) h) = (types (plain_like p q f), h)
written_like (written.OfBase f) _ = tt
written_like written.OfAddress (one (worlds {p} {q} {w}) h) = (types (plain_like p q (plain_tree.Addr w)), h)
written_like written.OfAddress _ = tt
written_like written.OfSham (one (types t) (one (marks {p} {q}) h)) = (types (wrapped_like p q wrap_tree.Sham t), h)
written_like written.OfSham _ = tt
written_like (written.OfSuffix f) (one (types {p} {q} t) h) = (types (wrapped_like p q f t), h)
written_like (written.OfSuffix f) _ = tt
written_like written.OfAt (one (worlds {w}) (one (types {p} {q} t) h)) = (types (wrapped_like p q (wrap_tree.At w) t), h)
written_like written.OfAt _ = tt
written_like (written.OfJoin f) (one (types b) (one (types {p} {q} a) h)) = (types (joined_like p q f a b), h)
written_like (written.OfJoin f) _ = tt
written_like written.Group (one (types t) (one marks h)) = (types t, h)
written_like written.Group _ = tt

expr_like : (f : ExprForm) {vs ws : List Value} → Likes vs ws → MadeLike (expr_made f vs) (expr_made f ws)
unfolding expr_made
expr_like expr.OfName (one (names {p} {q} {x}) h) = (terms (leaf_like p q (same_leaf (leaf_tree.Name x))), h)
expr_like expr.OfName _ = tt
expr_like expr.OfNumber (one (numbers {p} {q} {n}) h) = (terms (leaf_like p q (same_leaf (leaf_tree.Number n))), h)
expr_like expr.OfNumber _ = tt
expr_like expr.OfLiteral (one (literals {p} {q} {t}) h) = (terms (leaf_like p q (same_leaf (leaf_tree.Str t))), h)
expr_like expr.OfLiteral _ = tt
expr_like (expr.OfPlain k) (one (marks {p} {q}) h) = (terms (leaf_like p q (same_leaf (leaf_of k))), h)
expr_like (expr.OfPlain k) _ = tt
expr_like expr.OfNil (one (types t) (one (marks {p} {q}) h)) = (terms (leaf_like p q (nil_like t)), h)
expr_like expr.OfNil _ = tt
expr_like (expr.OfPrefix k) (one (terms e) (one (marks {p} {q}) h)) = (terms (unary_like p q (same_unary (unary_of k)) e), h)
expr_like (expr.OfPrefix k) _ = tt
expr_like expr.OfInl (one (terms e) (one (types t) (one (marks {p} {q}) h))) = (terms (unary_like p q (inl_like t) e), h)
expr_like expr.OfInl _ = tt
expr_like expr.OfInr (one (terms e) (one (types t) (one (marks {p} {q}) h))) = (terms (unary_like p q (inr_like t) e), h)
expr_like expr.OfInr _ = tt
expr_like expr.OfFn (one (terms e) (one (types t) (one (names {x}) (one (marks {p} {q}) h)))) = (terms (unary_like p q (fn_like x t) e), h)
expr_like expr.OfFn _ = tt
expr_like expr.OfRec (one (terms e) (one (types b) (one (types a) (one (names {x}) (one (names {x = f}) (one (marks {p} {q}) h)))))) = (terms (unary_like p q (rec_like f x a b) e), h)
expr_like expr.OfRec _ = tt
expr_like (expr.OfInfix f) (one (terms b) (one (terms {p} {q} a) h)) = (terms (binary_like p q f a b), h)
expr_like (expr.OfInfix f) _ = tt
expr_like (expr.OfLeading f) (one (terms b) (one (terms a) (one (marks {p} {q}) h))) = (terms (binary_like p q f a b), h)
expr_like (expr.OfLeading f) _ = tt
expr_like (expr.OfBinding f) (one (terms b) (one (terms a) (one (names {x}) (one (marks {p} {q}) h)))) = (terms (binary_like p q (binary_of f x) a b), h)
expr_like (expr.OfBinding f) _ = tt
expr_like expr.OfIf (one (terms c) (one (terms b) (one (terms a) (one (marks {p} {q}) h)))) = (terms (ternary_like p q ternary_tree.If a b c), h)
expr_like expr.OfIf _ = tt
expr_like expr.OfCaseSum (one (terms c) (one (names {x = y}) (one (terms b) (one (names {x}) (one (terms a) (one (marks {p} {q}) h)))))) =
    (terms (ternary_like p q (ternary_tree.CaseSum x y) a b c), h)
expr_like expr.OfCaseSum _ = tt
expr_like expr.OfCaseList (one (terms c) (one (names {x = y}) (one (names {x}) (one (terms b) (one (terms a) (one (marks {p} {q}) h)))))) =
    (terms (ternary_like p q (ternary_tree.CaseList x y) a b c), h)
expr_like expr.OfCaseList _ = tt
expr_like expr.NoParts h = (tuples no_parts, h)
expr_like expr.AddPart (one (terms {p} {q} e) (one (tuples ps) h)) = (tuples (parts_more p q ps e), h)
expr_like expr.AddPart _ = tt
expr_like expr.OfTuple (one (tuples ps) (one (marks {p} {q}) h)) = (terms (tuple_like p q ps), h)
expr_like expr.OfTuple _ = tt
expr_like expr.Group (one (terms e) (one marks h)) = (terms e, h)
expr_like expr.Group _ = tt

made_like : (f : Form) {vs ws : List Value} → Likes vs ws → MadeLike (made f vs) (made f ws)
made_like (Declare f) h = declaration_like f h
made_like (Write f) h = written_like f h
made_like (Build f) h = expr_like f h

put_like : (a b : Option (Value × List Value)) → MadeLike a b → Likes (put a) (put b)
put_like None None h = none
put_like (Some a) (Some b) h = one h.0 h.1
put_like None (Some b) h = absurd h
put_like (Some a) None h = absurd h

-- ---- states

pub record StateLike (s r : State) : Type 0 where
  pub names : s.names ≡ r.names
  pub values : Likes s.values r.values
  pub level : s.level ≡ r.level
  pub outside : s.outside ≡ r.outside

act_like : (a : Action) (s r : State) → StateLike s r → StateLike (act a s) (act a r)
act_like Enter s r h = record { names = h.names; values = h.values; level = ap raised h.level; outside = λ i. h.level i ∷ h.outside i }
act_like Leave s r h = record { names = h.names; values = h.values; level = ap back h.outside; outside = ap outer h.outside }
act_like Pass s r h = record { names = h.names; values = h.values; level = ap raised h.level; outside = h.outside }
act_like (Make f) s r h = record { names = h.names; values = put_like (made f s.values) (made f r.values) (made_like f h.values); level = h.level; outside = h.outside }

same_value : (ns : List (List ℕ)) (p q : Place) (k : Token) → ValueLike (value_of ns p k) (value_of ns q k)
same_value ns p q (lex.Name x) = names
same_value ns p q (lex.Number n) = numbers
same_value ns p q (lex.Literal t) = literals
same_value ns p q _ = marks

kept_like : (ns ms : List (List ℕ)) (p q : Place) (k l : Token) → ns ≡ ms → k ≡ l → ValueLike (value_of ns p k) (value_of ms q l)
kept_like ns ms p q k l n e =
    subst (λ m. ValueLike (value_of ns p k) (value_of m q l)) n (subst (λ j. ValueLike (value_of ns p k) (value_of ns q j)) e (same_value ns p q k))

shift_like : (keep : Bool) (t u : Placed) (s r : State) → t.token ≡ u.token → StateLike s r → StateLike (shift keep t s) (shift keep u r)
shift_like true t u s r e h = record {
  names = λ i. names_with (h.names i) (e i);
  values = one (kept_like s.names r.names t.place u.place t.token u.token h.names e) h.values;
  level = h.level;
  outside = h.outside;
}
shift_like false t u s r e h = record { names = h.names; values = h.values; level = h.level; outside = h.outside }

start_like : StateLike at_start at_start
start_like = record { names = refl; values = none; level = refl; outside = refl }

-- ---- reading

abbrev pub SameTokens : List Placed → List Placed → Type 0
SameTokens [] [] = Unit {0}
SameTokens (t ∷ ts) (u ∷ us) = (t.token ≡ u.token) × SameTokens ts us
SameTokens _ _ = ⊥

first_same : (x y : Token) (xs ys : List Token) → x ∷ xs ≡ y ∷ ys → x ≡ y
first_same x y xs ys h = cc

rest_same : (x y : Token) (xs ys : List Token) → x ∷ xs ≡ y ∷ ys → xs ≡ ys
rest_same x y xs ys h = cc

none_same : {P : Type 0} (x : Token) (xs : List Token) → [] ≡ x ∷ xs → P
none_same x xs h = cc

pub same_tokens : (ts us : List Placed) → tokens_of ts ≡ tokens_of us → SameTokens ts us
same_tokens [] [] h = tt
same_tokens [] (u ∷ us) h = none_same u.token (tokens_of us) h
same_tokens (t ∷ ts) [] h = none_same t.token (tokens_of ts) (sym h)
same_tokens (t ∷ ts) (u ∷ us) h =
    (first_same t.token u.token (tokens_of ts) (tokens_of us) h, same_tokens ts us (rest_same t.token u.token (tokens_of ts) (tokens_of us) h))

record ReadsTo (ss : List Symbol) (us : List Placed) (r end : State) : Type 0 where
  last : State
  reads : Reads last ss us r
  like : StateLike end last

reads_like : {end : State} {ss : List Symbol} {ts : List Placed} {s : State} → Reads end ss ts s → (us : List Placed) (r : State) → SameTokens ts us → StateLike s r → ReadsTo ss us r end
reads_like (done e) [] r g h = record { last = r; reads = done refl; like = subst (λ x. StateLike x r) e h }
reads_like (done e) (u ∷ us) r g h = absurd g
reads_like (token c more) [] r g h = absurd g
reads_like (token {keep} {k} {t} {s} c more) (u ∷ us) r g h =
    let x = reads_like more us (shift keep u r) g.1 (shift_like keep t u s r g.0 h) in
    record { last = x.last; reads = token (ap token_code (sym g.0) ∙ c) x.reads; like = x.like }
reads_like (acts {a} {s} more) us r g h =
    let x = reads_like more us (act a r) g (act_like a s r h) in
    record { last = x.last; reads = acts x.reads; like = x.like }
reads_like (rule q one_of more) us r g h =
    let x = reads_like more us r g h in
    record { last = x.last; reads = rule q one_of x.reads; like = x.like }

arrives_like : {next : Placed} {level : ℕ} {ss : List Symbol} {ts : List Placed} {s : State} → Arrives next level ss ts s → (other : Placed) (us : List Placed) (r : State)
    → next.token ≡ other.token → SameTokens ts us → StateLike s r → Arrives other level ss us r
arrives_like (here c l) other [] r e g h = here (ap token_code (sym e) ∙ c) (sym h.level ∙ l)
arrives_like (here c l) other (u ∷ us) r e g h = absurd g
arrives_like (beyond c more) other [] r e g h = absurd g
arrives_like (beyond {keep} {k} {t} {s} c more) other (u ∷ us) r e g h =
    beyond (ap token_code (sym g.0) ∙ c) (arrives_like more other us (shift keep u r) e g.1 (shift_like keep t u s r g.0 h))
arrives_like (by_act {a} {s} more) other us r e g h = by_act (arrives_like more other us (act a r) e g (act_like a s r h))
arrives_like (by_rule q one_of more) other us r e g h = by_rule q one_of (arrives_like more other us r e g h)

-- where the same tokens at other places are parted, these are
record Parted (front : List Placed) (t : Placed) (ts : List Placed) : Type 0 where
  before : List Placed
  next : Placed
  left : List Placed
  split : ts ≡ before ++ next ∷ left
  same : SameTokens front before
  token : t.token ≡ next.token

parted : (front : List Placed) (t : Placed) (left ts : List Placed) → SameTokens ts (front ++ t ∷ left) → Parted front t ts
parted [] t left [] g = absurd g
parted [] t left (x ∷ xs) g = record { before = []; next = x; left = xs; split = refl; same = tt; token = sym g.0 }
parted (f ∷ fs) t left [] g = absurd g
parted (f ∷ fs) t left (x ∷ xs) g =
    let p = parted fs t left xs g.1 in
    record { before = x ∷ p.before; next = p.next; left = p.left; split = ap (λ l. x ∷ l) p.split; same = (sym g.0, p.same); token = p.token }

some_left : (t : Placed) (ts : List Placed) → 0 < length (t ∷ ts)
some_left t ts = omega arith

pub none_deep_like : (ts us : List Placed) → SameTokens ts us → NoneDeep ts 0 → NoneDeep us 0
none_deep_like ts us g h front t left level split few has =
    let p = parted front t left ts (subst (λ l. SameTokens ts l) split g) in
    h p.before p.next p.left level p.split (some_left p.next p.left) (arrives_like has p.next p.before at_start p.token p.same start_like)

record IsWhole (p : Program) (ws : List Value) : Type 0 where
  other : Program
  is : ws ≡ value.Whole other ∷ []
  like : ProgramLike p other

whole_of : {p : Program} {ws : List Value} → Likes (value.Whole p ∷ []) ws → IsWhole p ws
whole_of (one (programs {q} h) none) = record { other = q; is = refl; like = h }

-- the same tokens at other places are a program too
pub record TreeLike (tree : Tree) (us : List Placed) : Type 0 where
  pub other : Tree
  pub program : IsProgram us other
  pub names : tree.names ≡ other.names
  pub like : ProgramLike tree.program other.program

pub tree_like : (ts us : List Placed) (tree : Tree) → SameTokens ts us → IsProgram ts tree → TreeLike tree us
tree_like ts us tree g h =
    let x = reads_like h.reading us at_start g start_like in
    let w = whole_of (subst (λ l. Likes l x.last.values) h.value x.like.values) in
    record {
      other = record { names = x.last.names; program = w.other };
      program = record { end = x.last; reading = x.reads; value = w.is; names = refl };
      names = sym h.names ∙ x.like.names;
      like = w.like;
    }
