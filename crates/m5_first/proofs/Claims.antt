-- A program of the first form has the run that its history shows.
use Rattle.std.proofs.Common.{◌≡◌, ◌≢◌, ◌⊎◌, inl, inr, ℕ, zero, suc, ◌<◌, ◌≤◌, Bool, true, false, if◌then◌else◌, List, [], ◌∷◌, ◌++◌, length, map, Option, Some, None, IsSome, All, sum_by, refl, sym, ap, ◌∙◌, subst, ◌==◌, eqb-true, arith}
use Rattle.std.proofs.lemmas.List.Elements.{All-map}
use Rattle.m5_terms.specs.Expression.{Expression, leaf, unary, binary, ternary}
use Rattle.m5_terms.specs.Substitution.{among, unary_binders, binary_binders, second_binders, third_binders}
use Rattle.m5_terms.specs.Machine.{Comes}
use Rattle.m5_terms.specs.declared.ask.AskOf.TheVariants as ask
use Rattle.m5_terms.specs.declared.ask.AnswerOf.TheVariants as answer
use Rattle.m5_terms.specs.declared.types.World.{World}
use Rattle.m5_terms.specs.declared.types.World.TheVariants.{Home}
use Rattle.m5_terms.specs.declared.form.LeafForm.TheVariants as leaf_form
use Rattle.m5_terms.specs.declared.ask.Entry.{Entry}
use Rattle.m5_terms.specs.declared.ask.End.TheVariants as end
use Rattle.m5_meaning.specs.Site.{Program, Thread, Site, Item}
use Rattle.m5_meaning.specs.Step.{site_next}
use Rattle.m5_typing.specs.declared.functions.Function.{Function}
use Rattle.m5_script.specs.Scenario.{silent}
use Rattle.m5_network.specs.Board.{answer_of}
use Rattle.m5_network.specs.Entries.{Deed, entry_of}
use Rattle.m5_network.specs.Run.{Network, with_site, IsSite, Step, Run, IsAtRest, IsFinished}
use Rattle.m5_network.specs.Opening.{opening, opening_board, opening_site}
use Rattle.m5_network.specs.Claim.{IsRunOf, has_seal, place_of, primitive_of, IsAtItsWorld, stop_count, ending}
use Rattle.m5_first.specs.Says.{no_texts, Sayings, says_of}
use Rattle.m5_first.specs.Claimed.{program_of, said_entry, history_of}
use Rattle.m5_first.specs.Walk.{AppendedSayings, Walked}
use Rattle.m5_first.proofs.Closing.{close, without}
use Rattle.m5_first.proofs.Steps.{Leads, with_threads, one, and-then}
use Rattle.m5_first.proofs.Speaking.{Says, Speaks, speaks, ended}

-- ---- a term is itself where its variables stand for nothing

none-left : (bs : List ℕ) → without bs no_texts ≡ no_texts
none-left bs i y = choice (among y bs) i
  where
    choice : (b : Bool) → (if b then None else None) ≡ no_texts y
    choice true = refl
    choice false = refl

pub close-nothing : (e : Expression) → close no_texts e ≡ e
close-nothing (leaf (leaf_form.Var x)) = refl
close-nothing (leaf (leaf_form.Valid x)) = refl
close-nothing (leaf f) = refl
close-nothing (unary f a) = ap (λ env. unary f (close env a)) (none-left (unary_binders f)) ∙ ap (unary f) (close-nothing a)
close-nothing (binary f a b) = ap (λ env. binary f (close no_texts a) (close env b)) (none-left (binary_binders f)) ∙ (λ i. binary f (close-nothing a i) (close-nothing b i))
close-nothing (ternary f a b c) =
    (λ i. ternary f (close no_texts a) (close (none-left (second_binders f) i) b) (close (none-left (third_binders f) i) c))
    ∙ (λ i. ternary f (close-nothing a i) (close-nothing b i) (close-nothing c i))

-- ---- the run

abbrev said_deed : List ℕ → Deed Item
said_deed t = record { session = 1; world = Home; query = ask.Say t; reply = answer.Done }

-- the home stands at these threads and has not stopped, and the rest is as at the opening
record Stands (N : Network) (s : Site) (before : List Thread) : Type 0 where
  home : N.site 1 Home ≡ with_threads s before
  runs : s.stopped ≡ false
  others : (w : World) → w ≢ Home → N.site 1 w ≡ opening_site []
  board : N.board ≡ opening_board silent

first-home : IsSite silent 1 Home
first-home = record { from_one = omega arith; to_last = omega arith; world = (0, omega arith, refl) }

step : (P : Program) (N : Network) (s : Site) (before : List Thread) (t : List ℕ) (s1 : Site) (mid : List Thread) → Stands N s before → Says P Home s before t s1 mid
    → Step P silent N (place_of (said_entry t)) (said_deed t) (with_site 1 Home (with_threads s1 mid) N.board N)
step P N s before t s1 mid at does = record {
  site = first-home;
  runs = ap (λ (x : Site). x.stopped) at.home ∙ at.runs;
  makes = record {
    resume = does.resume;
    next = record {
      steps = does.steps;
      waiting = does.waiting;
      comes = subst (λ x. Comes (site_next P Home) does.steps x does.waiting) (sym at.home) does.comes;
      asking = does.asking;
    };
    session = refl;
    world = refl;
    reply = refl;
    told = λ e. cc;
    site = with_threads s1 mid;
    resumed = does.resumed;
    after = refl;
  };
}

others-stay : (x : Site) (N : Network) (w : World) → w ≢ Home → (with_site 1 Home x N.board N).site 1 w ≡ N.site 1 w
others-stay x N Home n = absurd (n refl)
others-stay x N _ n = refl

opened-others : (P : Program) (w : World) → w ≢ Home → (opening P silent).site 1 w ≡ opening_site []
opened-others P Home n = absurd (n refl)
opened-others P _ n = refl

abbrev Speaking : Program → Network → List (List ℕ) → List Thread → Type 0
Speaking P N ls after = (M : Network) × (s : Site) × (threads : List Thread) × Run P silent N (map place_of (map said_entry ls)) (map said_deed ls) M × Stands M s threads × Leads P Home s threads after

run : (P : Program) (ls : List (List ℕ)) (N : Network) (s : Site) (before after : List Thread) → Stands N s before → Speaks P Home s before ls after → Speaking P N ls after
run P [] N s before after at p = (N, s, before, refl, at, p)
run P (t ∷ ls) N s before after at p =
    let L = with_site 1 Home (with_threads p.0 p.1) N.board N in
    let rest = run P ls L p.0 p.1 after (record { home = refl; runs = p.2.stopped ∙ at.runs; others = λ w n. others-stay (with_threads p.0 p.1) N w n ∙ at.others w n; board = at.board }) p.3 in
    (rest.0, rest.1, rest.2, (L, step P N s before t p.0 p.1 at p.2, rest.3), rest.4, rest.5)

-- ---- its end

quiet : (w : World) → (answer_of (opening_board silent) 1 w ask.Take).reply ≡ answer.Nothing
quiet Home = refl
quiet _ = refl

nothing-there : (N : Network) (w : World) → N.board ≡ opening_board silent → (answer_of (opening_board silent) 1 w ask.Take).reply ≡ answer.Nothing → (answer_of N.board 1 w ask.Take).reply ≡ answer.Nothing
nothing-there N w e h = subst (λ b. (answer_of b 1 w ask.Take).reply ≡ answer.Nothing) (sym e) h

home-rests : (P : Program) (N : Network) (s : Site) (threads : List Thread) → Stands N s threads → Leads P Home s threads (ended [] Home []) → IsAtRest P N 1 Home
home-rests P N s threads at p =
    let q = and-then P Home s threads (ended [] Home []) [] p (λ t. one P Home t _ _ 0 refl) in
    record {
      resume = _;
      next = record {
        steps = q.0;
        waiting = with_threads q.1 [];
        comes = subst (λ x. Comes (site_next P Home) q.0 x (with_threads q.1 [])) (sym at.home) q.2;
        asking = refl;
      };
      nothing_there = nothing-there N Home at.board refl;
    }

other-rests : (P : Program) (N : Network) (s : Site) (threads : List Thread) (w : World) → Stands N s threads → w ≢ Home → IsAtRest P N 1 w
other-rests P N s threads w at n = record {
  resume = _;
  next = record {
    steps = 0;
    waiting = opening_site [];
    comes = at.others w n;
    asking = refl;
  };
  nothing_there = nothing-there N w at.board (quiet w);
}

rests : (P : Program) (N : Network) (s : Site) (threads : List Thread) → Stands N s threads → Leads P Home s threads (ended [] Home []) → (w : World) → IsAtRest P N 1 w
rests P N s threads at p Home = home-rests P N s threads at p
rests P N s threads at p w = other-rests P N s threads w at (λ e. cc)

finished : (P : Program) (N : Network) (s : Site) (threads : List Thread) → Stands N s threads → Leads P Home s threads (ended [] Home []) → IsFinished P silent N
finished P N s threads at p n w site =
    let only : n ≡ 1 = omega (arith, site.from_one, site.to_last) in
    inl (subst (λ k. IsAtRest P N k w) (sym only) (rests P N s threads at p w))

-- ---- the claim

shown : (ls : List (List ℕ)) → map said_entry ls ≡ map (entry_of has_seal) (map said_deed ls)
shown [] = refl
shown (t ∷ ls) = ap (λ es. said_entry t ∷ es) (shown ls)

no-stops : (ls : List (List ℕ)) → sum_by (λ (e : Entry). stop_count e.act) (map said_entry ls) ≡ 0
no-stops [] = refl
no-stops (t ∷ ls) = no-stops ls

at-home : (ls : List (List ℕ)) → All (λ (e : Entry). IsAtItsWorld (primitive_of e.act) e.world) (map said_entry ls)
at-home ls =
    let P : Entry → Type 0 = λ e. IsAtItsWorld (primitive_of e.act) e.world in
    All-map P said_entry ls (λ k d h. refl {a = Home})

-- what a term says is the history of its run
pub claim : (e : Expression) (ls : List (List ℕ)) → says_of no_texts e ≡ Some ls → IsRunOf (program_of e) silent (history_of ls)
claim e ls says =
    let P = program_of e in
    let N = opening P silent in
    let start = opening_site ((N.site 1 Home).threads) in
    let spoken = subst (λ x. Speaks P Home start (Rattle.m5_meaning.specs.Step.thread_of [] (Rattle.m5_terms.specs.declared.thread.Focus.TheVariants.Eval Home x) ∷ []) ls (ended [] Home [])) (close-nothing e) (speaks P Home no_texts e ls says start [] []) in
    let all = run P ls N start _ (ended [] Home []) (record { home = refl; runs = refl; others = opened-others P; board = refl }) spoken in
    record {
      deeds = map said_deed ls;
      last = all.0;
      run = all.3;
      shown = shown ls;
      finished = finished P all.0 all.1 all.2 all.4 all.5;
      worlds = at-home ls;
      ended = ap ending (sym (no-stops ls));
    }

-- a list of no items
pub no_items : (xs ys : List Function) → xs ≡ ys → (length xs == 0) ≡ true → ys ≡ []
no_items [] ys same none = sym same
no_items (x ∷ xs) ys same none = let zero_length : length (x ∷ xs) ≡ 0 = eqb-true (length (x ∷ xs)) 0 none in absurd (omega (arith, zero_length))

-- the same, of a program's main term and the entries to which the walk appended
pub walked : (P : Program) (old entries : List Entry) (all : Bool) → P.functions ≡ [] → old ≡ [] → all ≡ true → AppendedSayings old entries (says_of no_texts P.main) all
    → Walked P (Some (record { entries = entries; end = end.Rest }))
walked P old entries all alone empty is-all appended = by-answer (says_of no_texts P.main) refl appended
  where
    by-answer : (answer : Sayings) → says_of no_texts P.main ≡ answer → AppendedSayings old entries answer all → Walked P (Some (record { entries = entries; end = end.Rest }))
    by-answer None is appended = cc
    by-answer (Some ls) is appended =
        let same : map said_entry ls ≡ entries = sym (appended.1 ∙ ap (λ es. es ++ map said_entry ls) empty) in
        let A : List Entry → Type 0 = λ es. IsRunOf (program_of P.main) silent (record { entries = es; end = end.Rest }) in
        let B : List Function → Type 0 = λ gs. IsRunOf (record { functions = gs; main = P.main }) silent (record { entries = entries; end = end.Rest }) in
        (record { functions = alone; says = λ e. cc }, subst B (sym alone) (subst A same (claim P.main ls is)), refl)

-- where it appended none, the main term says nothing of the form
pub not_walked : (P : Program) (old entries : List Entry) (all : Bool) → all ≡ false → AppendedSayings old entries (says_of no_texts P.main) all → Walked P None
not_walked P old entries all is-none appended = λ texts. texts.says (by-answer (says_of no_texts P.main) refl appended)
  where
    by-answer : (answer : Sayings) → says_of no_texts P.main ≡ answer → AppendedSayings old entries answer all → says_of no_texts P.main ≡ None
    by-answer None is appended = is
    by-answer (Some ls) is appended = cc
