-- One step of a reading with look-ahead.
use Rattle.std.proofs.Common.{◌≡◌, ℕ, ◌<◌, ◌≤◌, Bool, true, false, ◌==◌, ◌||◌, List, [], ◌∷◌, ◌++◌, length, refl, sym, ◌∙◌, ap, subst, inl, inr, arith}
use Rattle.std.proofs.lemmas.Bool.{eqb-true, or_cases, false≢true}
use Rattle.m5_tree.specs.Kinds.{code_of, token_code}
use Rattle.m5_parse.specs.Kinds.{leads}
use Rattle.m5_tree.specs.Reading.{State, shift, act, limit}
use Rattle.m5_parse.specs.Machine.{Outcome, Accepted, Refused, TooDeep, Ends, accepted, more, shifted, deep, acted, chosen}
use Rattle.m5_parse.specs.Rows.{choose}
use Rattle.m5_parse.specs.Work.{work}
use Rattle.m5_tree.specs.declared.grammar.Symbol.{Symbol}
use Rattle.m5_tree.specs.declared.grammar.Symbol.TheVariants.{Tok, Nt, Act}
use Rattle.m5_tree.specs.declared.grammar.Phrase.{Phrase}
use Rattle.m5_tree.specs.declared.grammar.Action.{Action}
use Rattle.m5_parse.proofs.Work.{choice_lighter}
use Rattle.m5_tree.specs.declared.grammar.Kind.{Kind}
use Rattle.m5_lex.specs.declared.tokens.Placed.{Placed}

one_kind : (a b : ℕ) → ((a == b) || false) ≡ true → a ≡ b
one_kind a b h = elim (or_cases (a == b) false h) [ inl e ↦ eqb-true a b e | inr e ↦ absurd (false≢true e) ]

pub take_deep : (o : Outcome) (keep : Bool) (k : Kind) (ss : List Symbol) (ts : List Placed) (s : State) → leads ts (k ∷ []) ≡ true → limit < s.level → o ≡ TooDeep (length ts) → Ends o (Tok keep k ∷ ss) ts s
take_deep o keep k ss [] s h l is = absurd (false≢true h)
take_deep o keep k ss (t ∷ ts) s h l is = deep (one_kind (token_code t.token) (code_of k) h) l is

pub take_on : (o : Outcome) (keep : Bool) (k : Kind) (ss : List Symbol) (ts : List Placed) (s : State) (t : Placed) (us : List Placed) → leads ts (k ∷ []) ≡ true → ts ≡ t ∷ us → s.level ≤ limit → Ends o ss us (shift keep t s) → Ends o (Tok keep k ∷ ss) ts s
take_on o keep k ss ts s t us h e l r =
    let c : leads (t ∷ us) (k ∷ []) ≡ true = subst (λ x. leads x (k ∷ []) ≡ true) e h in
    let P : List Placed → Type 0 = λ x. Ends o (Tok keep k ∷ ss) x s
    in subst P (sym e) (shifted (one_kind (token_code t.token) (code_of k) c) l r)

pub phrase_on : (o : Outcome) (y : Symbol) (n : Phrase) (q ss after : List Symbol) (ts : List Placed) (s : State) → y ≡ Nt n → q ≡ choose n ts → after ≡ q ++ ss → Ends o after ts s → Ends o (y ∷ ss) ts s
phrase_on o y n q ss after ts s is e a r =
    let P : List Symbol → Type 0 = λ x. Ends o x ts s in
    let Q : Symbol → Type 0 = λ x. Ends o (x ∷ ss) ts s
    in subst Q (sym is) (chosen (subst P (a ∙ ap (λ x. x ++ ss) e) r))

pub phrase_lighter : (y : Symbol) (n : Phrase) (q ss after : List Symbol) (ts : List Placed) → y ≡ Nt n → q ≡ choose n ts → after ≡ q ++ ss → work after ts < work (y ∷ ss) ts
phrase_lighter y n q ss after ts is e a =
    let P : List Symbol → Type 0 = λ x. work x ts < work (y ∷ ss) ts in
    let Q : Symbol → Type 0 = λ x. work (choose n ts ++ ss) ts < work (x ∷ ss) ts
    in subst P (sym (a ∙ ap (λ x. x ++ ss) e)) (subst Q (sym is) (choice_lighter n ss ts))

pub act_on : (o : Outcome) (y : Symbol) (a : Action) (ss after : List Symbol) (ts : List Placed) (s s' : State) → y ≡ Act a → s' ≡ act a s → after ≡ ss → Ends o after ts s' → Ends o (y ∷ ss) ts s
act_on o y a ss after ts s s' is e p r =
    let P : State → Type 0 = λ x. Ends o ss ts x in
    let R : List Symbol → Type 0 = λ x. Ends o x ts s' in
    let Q : Symbol → Type 0 = λ x. Ends o (x ∷ ss) ts s
    in subst Q (sym is) (acted (subst P e (subst R p r)))

pub all_read : (ss : List Symbol) (ts : List Placed) (s : State) → ss ≡ [] → length ts ≡ 0 → Ends (Accepted s) ss ts s
all_read ss [] s h e = rw h (accepted refl)
all_read ss (t ∷ ts) s h e = absurd (omega arith)

pub some_left : (o : Outcome) (ss : List Symbol) (ts : List Placed) (s : State) → ss ≡ [] → (length ts ≡ 0 → ⊥) → o ≡ Refused (length ts) → Ends o ss ts s
some_left o ss [] s h n is = absurd (n refl)
some_left o ss (t ∷ ts) s h n is = rw h (more is)
