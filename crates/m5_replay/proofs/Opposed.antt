-- A trace has one verdict: what stands against a line's fitting stands against each other verdict.
use Rattle.std.proofs.Common.{◌≡◌, ℕ, ◌+◌, List, [], ◌∷◌, ◌++◌, length, Option, Some, None, refl, sym, ap, subst, ◌∙◌, inl, inr}
use Rattle.m5_meaning.specs.Site.{Program, Item}
use Rattle.m5_script.specs.Scenario.{Scenario}
use Rattle.m5_network.specs.Entries.{Deed}
use Rattle.m5_network.specs.Opening.{opening}
use Rattle.m5_network.specs.Plain.{sites_of}
use Rattle.m5_network.specs.Run.{Network, Place}
use Rattle.m5_replay.specs.Lines.{lines, place_named}
use Rattle.m5_replay.specs.Fitting.{Fits, Passes, Misfits, Overruns, SettlesAll, IsLast}
use Rattle.m5_replay.specs.Verdicts.{FitsNot, IsBeyond, IsVerdict}
use Rattle.m5_replay.specs.Laws.{OneVerdict}
use Rattle.m5_replay.specs.declared.verdict.Verdict.{Verdict}
use Rattle.m5_replay.specs.declared.verdict.Verdict.TheVariants.{Yes, No, Spent}
use Rattle.m5_replay.proofs.Excluded.{heads, tails, none-is}
use Rattle.m5_replay.proofs.Once.{not-both, fits-once, none-exceeds}

-- ---- what ends the lines that fit

-- the line after those that fit, with what follows it
record Begins (rest : List (List ℕ)) : Type 0 where
  line : List ℕ
  more : List (List ℕ)
  all : rest ≡ line ∷ more

-- how the check ends
data Ending : Type 0 where
  due : Ending
  misfit : Ending
  missing : Ending
  beyond : Ending

record IsDue (P : Program) (S : Scenario) (N : Network) (u : ℕ) (ds : List (Deed Item)) (rest : List (List ℕ)) : Type 0 where
  line : List ℕ
  all : rest ≡ line ∷ []
  unnamed : place_named line ≡ None
  after : ℕ
  settles : SettlesAll P S N u (sites_of S.sessions) after
  last : IsLast P S N ds line

record IsMisfit (P : Program) (S : Scenario) (N : Network) (u : ℕ) (ds : List (Deed Item)) (rest : List (List ℕ)) : Type 0 where
  begins : Begins rest
  not : FitsNot P S N u ds begins.line begins.more (place_named begins.line)

record IsOver (P : Program) (S : Scenario) (N : Network) (u : ℕ) (rest : List (List ℕ)) : Type 0 where
  begins : Begins rest
  over : IsBeyond P S N u begins.more (place_named begins.line)

abbrev Ends : Program → Scenario → Network → ℕ → List (Deed Item) → List (List ℕ) → Ending → Type 0
Ends P S N u ds rest due = IsDue P S N u ds rest
Ends P S N u ds rest misfit = IsMisfit P S N u ds rest
Ends P S N u ds rest missing = rest ≡ []
Ends P S N u ds rest beyond = IsOver P S N u rest

abbrev verdict_of : Ending → ℕ → Verdict
verdict_of due n = Yes
verdict_of misfit n = No n
verdict_of missing n = No n
verdict_of beyond n = Spent n

-- ---- no line fits there

abbrev IsStuck : Program → Scenario → Network → ℕ → List (List ℕ) → Type 0
IsStuck P S N u rest = (line : List ℕ) (more : List (List ℕ)) (d : Deed Item) (M : Network) (v : ℕ) → rest ≡ line ∷ more → Fits P S N u line d M v → ⊥

misfit-stuck : (P : Program) (S : Scenario) (N M : Network) (u v : ℕ) (ds : List (Deed Item)) (line : List ℕ) (more : List (List ℕ)) (d : Deed Item) → FitsNot P S N u ds line more (place_named line) → Fits P S N u line d M v → ⊥
misfit-stuck P S N M u v ds line more d n f =
    let m : Misfits P S N u line f.place = subst (FitsNot P S N u ds line more) f.named n in
    m.differs d M f.step f.text

over-stuck : (P : Program) (S : Scenario) (N M : Network) (u v : ℕ) (line : List ℕ) (more : List (List ℕ)) (d : Deed Item) → IsBeyond P S N u more (place_named line) → Fits P S N u line d M v → ⊥
over-stuck P S N M u v line more d n f =
    let o : Overruns P S N u f.place = subst (IsBeyond P S N u more) f.named n in
    not-both P S f.place.world f.place.cause u (N.site f.place.session f.place.world) f.settled f.settles o.exceeds

due-stuck : (line : List ℕ) (p : Place) → place_named line ≡ None → place_named line ≡ Some p → ⊥
due-stuck line p e f = cc

stuck : (P : Program) (S : Scenario) (N : Network) (u : ℕ) (ds : List (Deed Item)) (rest : List (List ℕ)) (o : Ending) → Ends P S N u ds rest o → IsStuck P S N u rest
stuck P S N u ds rest due h = λ line more d M v e f. due-stuck line f.place (subst (λ (x : List ℕ). place_named x ≡ None) (heads h.line line [] more (sym h.all ∙ e)) h.unnamed) f.named
stuck P S N u ds rest misfit h = λ line more d M v e f. misfit-stuck P S N M u v ds h.begins.line h.begins.more d h.not (subst (λ (x : List ℕ). Fits P S N u x d M v) (heads line h.begins.line more h.begins.more (sym e ∙ h.begins.all)) f)
stuck P S N u ds rest missing h = λ line more d M v e f. none-is line more (sym h ∙ e)
stuck P S N u ds rest beyond h = λ line more d M v e f. over-stuck P S N M u v h.begins.line h.begins.more d h.over (subst (λ (x : List ℕ). Fits P S N u x d M v) (heads line h.begins.line more h.begins.more (sym e ∙ h.begins.all)) f)

-- ---- two checks end at the same line

record Meets (M L : Network) (v t : ℕ) (ls ks r s : List (List ℕ)) (ds es : List (Deed Item)) : Type 0 where
  lines : ls ≡ ks
  rest : r ≡ s
  deeds : ds ≡ es
  at : M ≡ L
  weight : v ≡ t

meet : (P : Program) (S : Scenario) (N M L : Network) (u v t : ℕ) (ls ks r s : List (List ℕ)) (ds es : List (Deed Item)) → IsStuck P S M v r → IsStuck P S L t s →
    Passes P S N u ls ds M v → Passes P S N u ks es L t → ls ++ r ≡ ks ++ s → Meets M L v t ls ks r s ds es
meet P S N M L u v t [] [] r s [] [] a b h k e = record { lines = refl; rest = e; deeds = refl; at = h.0 ∙ sym k.0; weight = h.1 ∙ sym k.1 }
meet P S N M L u v t [] [] r s (d ∷ ds) es a b h k e = absurd h
meet P S N M L u v t [] [] r s [] (x ∷ es) a b h k e = absurd k
meet P S N M L u v t [] (l ∷ ks) r s (d ∷ ds) es a b h k e = absurd h
meet P S N M L u v t [] (l ∷ ks) r s [] [] a b h k e = absurd k
meet P S N M L u v t [] (l ∷ ks) r s [] (x ∷ es) a b h k e = absurd (a l (ks ++ s) x k.0 k.1 e (subst (λ (n : ℕ). Fits P S M n l x k.0 k.1) (sym h.1) (subst (λ (X : Network). Fits P S X u l x k.0 k.1) (sym h.0) k.2)))
meet P S N M L u v t (l ∷ ls) ks r s [] es a b h k e = absurd h
meet P S N M L u v t (l ∷ ls) [] r s (d ∷ ds) (x ∷ es) a b h k e = absurd k
meet P S N M L u v t (l ∷ ls) [] r s (d ∷ ds) [] a b h k e = absurd (b l (ls ++ r) d h.0 h.1 (sym e) (subst (λ (n : ℕ). Fits P S L n l d h.0 h.1) (sym k.1) (subst (λ (X : Network). Fits P S X u l d h.0 h.1) (sym k.0) h.2)))
meet P S N M L u v t (l ∷ ls) (m ∷ ks) r s (d ∷ ds) [] a b h k e = absurd k
meet P S N M L u v t (l ∷ ls) (m ∷ ks) r s (d ∷ ds) (x ∷ es) a b h k e =
    let line : l ≡ m = heads l m (ls ++ r) (ks ++ s) e in
    let same = fits-once P S N h.0 k.0 u h.1 k.1 l d x h.2 (subst (λ (z : List ℕ). Fits P S N u z x k.0 k.1) (sym line) k.2) in
    let others : Passes P S h.0 h.1 ks es L t = subst (λ (n : ℕ). Passes P S h.0 n ks es L t) (sym same.2) (subst (λ (X : Network). Passes P S X k.1 ks es L t) (sym same.1) k.3) in
    let more = meet P S h.0 M L h.1 v t ls ks r s ds es a b h.3 others (tails l m (ls ++ r) (ks ++ s) e) in
    record { lines = λ i. line i ∷ more.lines i; rest = more.rest; deeds = λ i. same.0 i ∷ more.deeds i; at = more.at; weight = more.weight }

-- ---- and in the same way

-- the line that is due is no misfit
due-misfit : (P : Program) (S : Scenario) (N : Network) (u : ℕ) (ds : List (Deed Item)) (line : List ℕ) (more : List (List ℕ)) → IsLast P S N ds line → place_named line ≡ None → [] ≡ more → FitsNot P S N u ds line more (place_named line) → ⊥
due-misfit P S N u ds line more l n e f =
    let m = subst (λ (ms : List (List ℕ)). FitsNot P S N u ds line ms None) (sym e) (subst (FitsNot P S N u ds line more) n f) in
    m.1 l

due-over : (P : Program) (S : Scenario) (N : Network) (u v : ℕ) (line : List ℕ) (more : List (List ℕ)) → SettlesAll P S N u (sites_of S.sessions) v → place_named line ≡ None → [] ≡ more → IsBeyond P S N u more (place_named line) → ⊥
due-over P S N u v line more h n e f = none-exceeds P S N u v (sites_of S.sessions) h (subst (λ (ms : List (List ℕ)). IsBeyond P S N u ms None) (sym e) (subst (IsBeyond P S N u more) n f))

misfit-over : (P : Program) (S : Scenario) (N : Network) (u : ℕ) (ds : List (Deed Item)) (line : List ℕ) (more : List (List ℕ)) (o : Option Place) → FitsNot P S N u ds line more o → IsBeyond P S N u more o → ⊥
misfit-over P S N u ds line more (Some p) m o = let k = m.within o.needs in not-both P S p.world p.cause u (N.site p.session p.world) k.0 k.1 o.exceeds
misfit-over P S N u ds line [] None m o = none-exceeds P S N u m.0.0 (sites_of S.sessions) m.0.1 o
misfit-over P S N u ds line (next ∷ more) None m o = absurd o

due-begins : (rest : List (List ℕ)) (line : List ℕ) → rest ≡ line ∷ [] → (b : Begins rest) → (line ≡ b.line) × ([] ≡ b.more)
due-begins rest line e b = let k : line ∷ [] ≡ b.line ∷ b.more = sym e ∙ b.all in (heads line b.line [] b.more k, tails line b.line [] b.more k)

due-not-misfit : (P : Program) (S : Scenario) (N : Network) (u : ℕ) (ds : List (Deed Item)) (rest : List (List ℕ)) → IsDue P S N u ds rest → IsMisfit P S N u ds rest → ⊥
due-not-misfit P S N u ds rest h k =
    let e = due-begins rest h.line h.all k.begins in
    due-misfit P S N u ds k.begins.line k.begins.more (subst (IsLast P S N ds) e.0 h.last) (subst (λ (x : List ℕ). place_named x ≡ None) e.0 h.unnamed) e.1 k.not

due-not-over : (P : Program) (S : Scenario) (N : Network) (u : ℕ) (ds : List (Deed Item)) (rest : List (List ℕ)) → IsDue P S N u ds rest → IsOver P S N u rest → ⊥
due-not-over P S N u ds rest h k =
    let e = due-begins rest h.line h.all k.begins in
    due-over P S N u h.after k.begins.line k.begins.more h.settles (subst (λ (x : List ℕ). place_named x ≡ None) e.0 h.unnamed) e.1 k.over

misfit-not-over : (P : Program) (S : Scenario) (N : Network) (u : ℕ) (ds : List (Deed Item)) (rest : List (List ℕ)) → IsMisfit P S N u ds rest → IsOver P S N u rest → ⊥
misfit-not-over P S N u ds rest h k =
    let e : h.begins.line ∷ h.begins.more ≡ k.begins.line ∷ k.begins.more = sym h.begins.all ∙ k.begins.all in
    let line : h.begins.line ≡ k.begins.line = heads h.begins.line k.begins.line h.begins.more k.begins.more e in
    let more : h.begins.more ≡ k.begins.more = tails h.begins.line k.begins.line h.begins.more k.begins.more e in
    let over : IsBeyond P S N u h.begins.more (place_named h.begins.line) = subst (λ (ms : List (List ℕ)). IsBeyond P S N u ms (place_named h.begins.line)) (sym more) (subst (λ (x : List ℕ). IsBeyond P S N u k.begins.more (place_named x)) (sym line) k.over) in
    misfit-over P S N u ds h.begins.line h.begins.more (place_named h.begins.line) h.not over

alike : (P : Program) (S : Scenario) (N : Network) (u : ℕ) (ds : List (Deed Item)) (rest : List (List ℕ)) (o p : Ending) (n : ℕ) → Ends P S N u ds rest o → Ends P S N u ds rest p → verdict_of o n ≡ verdict_of p n
alike P S N u ds rest due due n h k = refl
alike P S N u ds rest due misfit n h k = absurd (due-not-misfit P S N u ds rest h k)
alike P S N u ds rest due missing n h k = absurd (none-is h.line [] (sym k ∙ h.all))
alike P S N u ds rest due beyond n h k = absurd (due-not-over P S N u ds rest h k)
alike P S N u ds rest misfit due n h k = absurd (due-not-misfit P S N u ds rest k h)
alike P S N u ds rest misfit misfit n h k = refl
alike P S N u ds rest misfit missing n h k = refl
alike P S N u ds rest misfit beyond n h k = absurd (misfit-not-over P S N u ds rest h k)
alike P S N u ds rest missing due n h k = absurd (none-is k.line [] (sym h ∙ k.all))
alike P S N u ds rest missing misfit n h k = refl
alike P S N u ds rest missing missing n h k = refl
alike P S N u ds rest missing beyond n h k = absurd (none-is k.begins.line k.begins.more (sym h ∙ k.begins.all))
alike P S N u ds rest beyond due n h k = absurd (due-not-over P S N u ds rest k h)
alike P S N u ds rest beyond misfit n h k = absurd (misfit-not-over P S N u ds rest k h)
alike P S N u ds rest beyond missing n h k = absurd (none-is h.begins.line h.begins.more (sym k ∙ h.begins.all))
alike P S N u ds rest beyond beyond n h k = refl

-- ---- of each verdict

record Came (P : Program) (S : Scenario) (trace : List ℕ) (v : Verdict) : Type 0 where
  first : List (List ℕ)
  rest : List (List ℕ)
  all : lines trace ≡ first ++ rest
  deeds : List (Deed Item)
  at : Network
  weight : ℕ
  passes : Passes P S (opening P S) 0 first deeds at weight
  how : Ending
  ends : Ends P S at weight deeds rest how
  is : v ≡ verdict_of how (length first + 1)

came : (P : Program) (S : Scenario) (trace : List ℕ) (v : Verdict) → IsVerdict P S trace v → Came P S trace v
came P S trace Yes h = record {
  first = h.before.first;
  rest = h.line ∷ [];
  all = h.before.all;
  deeds = h.before.deeds;
  at = h.before.at;
  weight = h.before.weight;
  passes = h.before.passes;
  how = due;
  ends = record { line = h.line; all = refl; unnamed = h.unnamed; after = h.after; settles = h.settles; last = h.last };
  is = refl;
}
came P S trace (No n) (inl h) = record {
  first = h.before.first;
  rest = h.line ∷ h.more;
  all = h.before.all;
  deeds = h.before.deeds;
  at = h.before.at;
  weight = h.before.weight;
  passes = h.before.passes;
  how = misfit;
  ends = record { begins = record { line = h.line; more = h.more; all = refl }; not = h.misfit };
  is = ap No h.counted;
}
came P S trace (No n) (inr h) = record {
  first = h.before.first;
  rest = [];
  all = h.before.all;
  deeds = h.before.deeds;
  at = h.before.at;
  weight = h.before.weight;
  passes = h.before.passes;
  how = missing;
  ends = refl;
  is = ap No h.counted;
}
came P S trace (Spent n) h = record {
  first = h.before.first;
  rest = h.line ∷ h.more;
  all = h.before.all;
  deeds = h.before.deeds;
  at = h.before.at;
  weight = h.before.weight;
  passes = h.before.passes;
  how = beyond;
  ends = record { begins = record { line = h.line; more = h.more; all = refl }; over = h.beyond };
  is = ap Spent h.counted;
}

pub one-verdict : OneVerdict
one-verdict P S trace v w h k =
    let a = came P S trace v h in
    let b = came P S trace w k in
    let m = meet P S (opening P S) a.at b.at 0 a.weight b.weight a.first b.first a.rest b.rest a.deeds b.deeds (stuck P S a.at a.weight a.deeds a.rest a.how a.ends) (stuck P S b.at b.weight b.deeds b.rest b.how b.ends) a.passes b.passes (sym a.all ∙ b.all) in
    let ends : Ends P S a.at a.weight a.deeds a.rest b.how =
    subst (λ (x : List (List ℕ)). Ends P S a.at a.weight a.deeds x b.how) (sym m.rest) (subst (λ (x : List (Deed Item)). Ends P S a.at a.weight x b.rest b.how) (sym m.deeds) (subst (λ (x : ℕ). Ends P S a.at x b.deeds b.rest b.how) (sym m.weight) (subst (λ (x : Network). Ends P S x b.weight b.deeds b.rest b.how) (sym m.at) b.ends))) in
    a.is ∙ alike P S a.at a.weight a.deeds a.rest a.how b.how (length a.first + 1) a.ends ends ∙ ap (λ (ls : List (List ℕ)). verdict_of b.how (length ls + 1)) m.lines ∙ sym b.is
