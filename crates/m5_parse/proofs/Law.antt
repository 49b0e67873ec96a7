-- How a reading with look-ahead ends is how it should.
use Rattle.std.proofs.Common.{◌≡◌, ℕ, Bool, true, List, [], ◌∷◌, ◌++◌, length, refl, sym, ◌∙◌, ap}
use Rattle.std.proofs.lemmas.Bool.{false≢true}
use Rattle.m5_tree.specs.Kinds.{code_of, token_code}
use Rattle.m5_parse.specs.Kinds.{leads, code_at, tests}
use Rattle.m5_tree.specs.Reading.{State, Reads, done, token, acts, rule, shift, act}
use Rattle.m5_parse.specs.Machine.{Outcome, Accepted, Refused, TooDeep, Ends, accepted, more, shifted, deep, other, acted, chosen}
use Rattle.m5_parse.specs.Rows.{choose}
use Rattle.m5_tree.specs.declared.grammar.Symbol.{Symbol}
use Rattle.m5_tree.specs.declared.grammar.Symbol.TheVariants.{Tok, Nt, Act}
use Rattle.m5_tree.specs.declared.grammar.Phrase.{Phrase}
use Rattle.m5_tree.specs.declared.grammar.Action.{Action}
use Rattle.m5_tree.specs.declared.grammar.Kind.{Kind}
use Rattle.m5_tree.specs.Program.{AreOfText}
use Rattle.m5_lex.specs.declared.tokens.Placed.{Placed}
use Rattle.m5_tree.specs.Program.{AreOfText}
use Rattle.m5_parse.proofs.Theory.{Good, Agree, by_choice, some_choice, good_choice, among_one}
use Rattle.m5_parse.proofs.Words.{word_of}

-- With so many tokens left no end is possible that begins as they do; some end is possible.
pub record Stands (ss : List Symbol) (ts : List Placed) (s : State) (n : ℕ) : Type 0 where
  pub front : List Placed
  pub left : List Placed
  pub split : ts ≡ front ++ left
  pub count : length left ≡ n
  pub tail : List Placed
  pub of_text : AreOfText tail
  pub end : State
  pub possible : Reads end ss (front ++ tail) s
  pub none : (ws : List Placed) (e : State) → Agree ws left → Reads e ss (front ++ ws) s → ⊥

abbrev pub Says : Outcome → List Symbol → List Placed → State → Type 0
Says (Accepted e) ss ts s = Reads e ss ts s × ((e' : State) → Reads e' ss ts s → e' ≡ e)
Says (Refused n) ss ts s = Stands ss ts s n
Says (TooDeep n) ss ts s = Unit {0}

unit_of : {e : State} {t : Placed} {ws : List Placed} {s : State} → Reads e [] (t ∷ ws) s → ⊥
unit_of r = elim r [ ]

pub at_end : {e s : State} → Reads e [] [] s → s ≡ e
at_end (done h) = h

pub after_token : {e s : State} {keep : Bool} {k : Kind} {t : Placed} {ss : List Symbol} {ts : List Placed} → Reads e (Tok keep k ∷ ss) (t ∷ ts) s → Reads e ss ts (shift keep t s)
after_token (token c r) = r

pub after_act : {e s : State} {a : Action} {ss : List Symbol} {ts : List Placed} → Reads e (Act a ∷ ss) ts s → Reads e ss ts (act a s)
after_act (acts r) = r

first_is : {e s : State} {keep : Bool} {k : Kind} {ss : List Symbol} {ts : List Placed} → Reads e (Tok keep k ∷ ss) ts s → leads ts (k ∷ []) ≡ true
first_is {k = k} (token {t = t} c r) = among_one (token_code t.token) (code_of k) c

nothing_more : {e s : State} (t : Placed) (ts ws : List Placed) → Agree ws (t ∷ ts) → Reads e [] ws s → ⊥
nothing_more t ts [] a r = absurd cc
nothing_more t ts (w ∷ ws) a r = unit_of r

agree_front : (front ws left : List Placed) → Agree ws left → Agree (front ++ ws) (front ++ left)
agree_front [] ws left a = a
agree_front (t ∷ us) ws left a = refl

says_token : (o : Outcome) (keep : Bool) (k : Kind) (t : Placed) (ss : List Symbol) (ts : List Placed) (s : State) → token_code t.token ≡ code_of k → Says o ss ts (shift keep t s) → Says o (Tok keep k ∷ ss) (t ∷ ts) s
says_token (Accepted e) keep k t ss ts s c h = (token c h.0, λ e' r. h.1 e' (after_token r))
says_token (Refused n) keep k t ss ts s c h = record {
  front = t ∷ h.front;
  left = h.left;
  split = ap (λ us. t ∷ us) h.split;
  count = h.count;
  tail = h.tail;
  of_text = h.of_text;
  end = h.end;
  possible = token c h.possible;
  none = λ ws e a r. h.none ws e a (after_token r);
}
says_token (TooDeep n) keep k t ss ts s c h = tt

says_act : (o : Outcome) (a : Action) (ss : List Symbol) (ts : List Placed) (s : State) → Says o ss ts (act a s) → Says o (Act a ∷ ss) ts s
says_act (Accepted e) a ss ts s h = (acts h.0, λ e' r. h.1 e' (after_act r))
says_act (Refused n) a ss ts s h = record {
  front = h.front;
  left = h.left;
  split = h.split;
  count = h.count;
  tail = h.tail;
  of_text = h.of_text;
  end = h.end;
  possible = acts h.possible;
  none = λ ws e x r. h.none ws e x (after_act r);
}
says_act (TooDeep n) a ss ts s h = tt

says_choice : (o : Outcome) (n : Phrase) (ss : List Symbol) (ts : List Placed) (s : State) → Good (Nt n ∷ ss) → Says o (choose n ts ++ ss) ts s → Says o (Nt n ∷ ss) ts s
says_choice (Accepted e) n ss ts s g h = (rule (choose n ts) (some_choice n ts) h.0, λ e' r. h.1 e' (by_choice ts g refl r))
says_choice (Refused m) n ss ts s g h = record {
  front = h.front;
  left = h.left;
  split = h.split;
  count = h.count;
  tail = h.tail;
  of_text = h.of_text;
  end = h.end;
  possible = rule (choose n ts) (some_choice n ts) h.possible;
  none = λ ws e a r.
      let same : Agree (h.front ++ ws) ts = agree_front h.front ws h.left a ∙ ap code_at (sym h.split)
      in h.none ws e a (by_choice ts g same r);
}
says_choice (TooDeep m) n ss ts s g h = tt

says_at_once : {o : Outcome} {n : ℕ} (ss : List Symbol) (ts : List Placed) (s : State) → o ≡ Refused n → length ts ≡ n → ((ws : List Placed) (e : State) → Agree ws ts → Reads e ss ws s → ⊥) → Says o ss ts s
says_at_once ss ts s same count none =
    let word = word_of ss s
    in rw same record {
      front = [];
      left = ts;
      split = refl;
      count = count;
      tail = word.tokens;
      of_text = word.of_text;
      end = word.end;
      possible = word.reads;
      none = none;
    }

pub says : {o : Outcome} {ss : List Symbol} {ts : List Placed} {s : State} → Ends o ss ts s → Good ss → Says o ss ts s
says (accepted {s} h) g = rw h (done refl, λ e' r. sym (at_end r))
says (more {t} {ts} {s} h) g = says_at_once [] (t ∷ ts) s h refl (λ ws e a r. nothing_more t ts ws a r)
says {o} (shifted {keep} {k} {t} {ss} {ts} {s} c l r) g = says_token o keep k t ss ts s c (says r g)
says (deep c l h) g = rw h tt
says (other {keep} {k} {ss} {ts} {s} not h) g =
    says_at_once (Tok keep k ∷ ss) ts s h refl (λ ws e a r. false≢true (sym not ∙ sym (ap (tests (k ∷ [])) a) ∙ first_is r))
says {o} (acted {a} {ss} {ts} {s} r) g = says_act o a ss ts s (says r g)
says {o} (chosen {n} {ss} {ts} {s} r) g = says_choice o n ss ts s g (says r (good_choice n ts ss g))
