-- What is said of a reading, said of a program.
use Rattle.std.proofs.Common.{◌≡◌, ℕ, Some, None, List, [], ◌∷◌, ◌++◌, length, refl, sym, ◌∙◌, ap, subst, append_assoc}
use Rattle.m5_lex.specs.declared.place.Place.{Place}
use Rattle.m5_lex.specs.declared.tokens.Placed.{Placed}
use Rattle.m5_tree.specs.Reading.{State, Reads, at_start}
use Rattle.m5_tree.specs.Program.{IsProgram, IsFault, place_of}
use Rattle.m5_tree.specs.Level.{NoneDeep}
use Rattle.m5_tree.specs.Values.{whole}
use Rattle.m5_tree.specs.declared.tree.Program.{Program}
use Rattle.m5_tree.specs.declared.tree.Tree.{Tree}
use Rattle.m5_tree.specs.declared.value.Value.{Value}
use Rattle.m5_tree.specs.declared.value.Value.TheVariants as value
use Rattle.m5_tree.specs.declared.grammar.Symbol.TheVariants.{Nt}
use Rattle.m5_tree.specs.declared.grammar.Phrase.TheVariants as phrase
use Rattle.m5_parse.specs.Kinds.{code_at}
use Rattle.m5_parse.specs.Machine.{Accepted, Refused, TooDeep, Outcome, IsStop, Ends}
use Rattle.m5_parse.specs.Answers.{IsSyntaxFault, IsDeepFault}
use Rattle.m5_parse.specs.declared.machine.Stop.{Stop}
use Rattle.m5_parse.specs.declared.machine.Stop.TheVariants as stops
use Rattle.m5_parse.proofs.Theory.{Good}
use Rattle.m5_parse.proofs.Law.{says, Stands}
use Rattle.m5_parse.proofs.Levels.{low, over, Over}
use Rattle.m5_parse.proofs.Sorts.{P}
use Rattle.m5_parse.proofs.Shapes.{One, one_program, reads_sorts}
use Rattle.m5_parse.proofs.Unique.{one_end}

abbrev pub Whole : State → List Placed → Type 0
Whole e ts = Reads e (Nt phrase.Program ∷ []) ts at_start

abbrev pub Starts : Outcome → List Placed → Type 0
Starts o ts = Ends o (Nt phrase.Program ∷ []) ts at_start

good_start : Good (Nt phrase.Program ∷ [])
good_start = (λ c x y. absurd cc, tt)

has_program : {e : State} {ts : List Placed} → Whole e ts → One e.values
has_program {e} r = one_program e.values (reads_sorts r (P ∷ []) refl)

abbrev tree_of : State → Program → Tree
tree_of e p = record { names = e.names; program = p }

program_of : {e : State} {ts : List Placed} (r : Whole e ts) → IsProgram ts (tree_of e (has_program r).program)
program_of {e} r = record { end = e; reading = r; value = (has_program r).is; names = refl }

reads_whole : {e : State} {ts : List Placed} → Starts (Accepted e) ts → Whole e ts
reads_whole r = (says r good_start).0

top : (values : List Value) (p : Program) (vs : List Value) → whole values ≡ Some (p, vs) → values ≡ value.Whole p ∷ vs
top (value.Whole q ∷ vs) p left h =
    let e : ◌≡◌ {A = Program × List Value} (q, vs) (p, left) = cc
    in ap (λ (x : Program × List Value). value.Whole x.0 ∷ x.1) e
top _ p left h = absurd cc

-- two readings of the same tokens give one tree
pub one_tree : (ts : List Placed) (tree other : Tree) → IsProgram ts tree → IsProgram ts other → tree ≡ other
one_tree ts tree other p q =
    let same : q.end ≡ p.end = one_end p.reading good_start q.reading in
    let vs : q.end.values ≡ p.end.values = ap (λ (x : State). x.values) same in
    let ns : q.end.names ≡ p.end.names = ap (λ (x : State). x.names) same in
    let whole_same : value.Whole tree.program ∷ [] ≡ value.Whole other.program ∷ [] = sym p.value ∙ sym vs ∙ q.value in
    let program_same : tree.program ≡ other.program = cc in
    let names_same : tree.names ≡ other.names = sym p.names ∙ sym ns ∙ q.names
    in λ i. record { names = names_same i; program = program_same i }

pub read_program : (e : State) (ts : List Placed) (p : Program) (vs : List Value) → Starts (Accepted e) ts → whole e.values ≡ Some (p, vs) → IsProgram ts (tree_of e p)
read_program e ts p vs r h =
    let reading = reads_whole r in
    let one = has_program reading in
    let f = one.is in
    let t = top e.values p vs h in
    let same : e.values ≡ value.Whole p ∷ [] = cc
    in record { end = e; reading = reading; value = same; names = refl }

pub read_some : (e : State) (ts : List Placed) → Starts (Accepted e) ts → whole e.values ≡ None → ⊥
read_some e ts r h =
    let one = has_program (reads_whole r) in
    let f : whole e.values ≡ whole (value.Whole one.program ∷ []) = ap whole one.is
    in cc

pub read_level : (e : State) (ts : List Placed) → Starts (Accepted e) ts → NoneDeep ts 0
read_level e ts r = low r good_start

refused_fault : (n : ℕ) (ts : List Placed) (s : Stands (Nt phrase.Program ∷ []) ts at_start n) → IsFault ts s.left
refused_fault n ts s =
    record {
      front = s.front;
      split = s.split;
      possible = record { more = s.tail; of_text = s.of_text; tree = tree_of s.end (has_program s.possible).program; program = program_of s.possible };
      longest = λ t us e f.
          let R : List Placed → Type 0 = λ x. Whole f.program.end x in
          let reading : Whole f.program.end (s.front ++ (t ∷ f.more)) = subst R (append_assoc s.front (t ∷ []) f.more) f.program.reading
          in s.none (t ∷ f.more) f.program.end (ap code_at (sym e)) reading;
      no_program = λ e tree p.
          let R : List Placed → Type 0 = λ x. Whole p.end x in
          let reading : Whole p.end (s.front ++ []) = subst R (s.split ∙ ap (λ x. s.front ++ x) e) p.reading
          in s.none [] p.end (ap code_at (sym e)) reading;
    }

-- the place that is answered is that of whatever is left
abbrev pub Places : List Placed → Place → ℕ → Place → Type 0
Places ts ending n at = (front rest : List Placed) → ts ≡ front ++ rest → length rest ≡ n → at ≡ place_of rest ending

pub refused_is : (ts : List Placed) (ending : Place) (n : ℕ) (at : Place) → Starts (Refused n) ts → Places ts ending n at → IsSyntaxFault ts ending at
refused_is ts ending n at r places =
    let s : Stands (Nt phrase.Program ∷ []) ts at_start n = says r good_start in
    let L : ℕ → Type 0 = λ x. NoneDeep ts x
    in record { left = s.left; fault = refused_fault n ts s; place = places s.front s.left s.split s.count; none_deep = subst L (sym s.count) (low r good_start) }

pub refused_none : (n : ℕ) (ts : List Placed) (tree : Tree) → Starts (Refused n) ts → IsProgram ts tree → ⊥
refused_none n ts tree r p =
    let s : Stands (Nt phrase.Program ∷ []) ts at_start n = says r good_start in
    let R : List Placed → Type 0 = λ x. Whole p.end x
    in s.none s.left p.end refl (subst R s.split p.reading)

pub deep_is : (ts : List Placed) (ending : Place) (n : ℕ) (at : Place) → Starts (TooDeep n) ts → Places ts ending n at → IsDeepFault ts at
deep_is ts ending n at r places =
    let x : Over n (Nt phrase.Program ∷ []) ts at_start = over r refl in
    let L : ℕ → Type 0 = λ m. NoneDeep ts m
    in record {
      next = x.next;
      first = record { front = x.front; left = x.left; split = x.split; level = x.level; at_level = x.arrives; over = x.over; none_before = subst L (sym x.count) (low r good_start) };
      place = places x.front (x.next ∷ x.left) x.split x.count;
    }

pub at_end : (e : State) (ts us : List Placed) → us ≡ ts → Starts (Accepted e) us → Starts (Accepted e) ts
at_end e ts us same h = let Q : List Placed → Type 0 = λ x. Starts (Accepted e) x in subst Q same h

pub at_syntax : (e : Stop) (n : ℕ) (ts us : List Placed) → e ≡ stops.Syntax n → us ≡ ts → ((o : Outcome) → IsStop e o → Starts o us) → Starts (Refused n) ts
at_syntax e n ts us is same h = let Q : List Placed → Type 0 = λ x. Starts (Refused n) x in subst Q same (h (Refused n) (rw is refl))

pub at_deep : (e : Stop) (n : ℕ) (ts us : List Placed) → e ≡ stops.Deep n → us ≡ ts → ((o : Outcome) → IsStop e o → Starts o us) → Starts (TooDeep n) ts
at_deep e n ts us is same h = let Q : List Placed → Type 0 = λ x. Starts (TooDeep n) x in subst Q same (h (TooDeep n) (rw is refl))
