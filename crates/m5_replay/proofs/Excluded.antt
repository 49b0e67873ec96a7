-- A run whose trace begins with lines that fit goes on from where they lead; so a line that does not fit is none of a run's.
use Rattle.std.proofs.Common.{◌≡◌, ℕ, List, [], ◌∷◌, ◌++◌, map, Option, Some, None, refl, sym, ap, subst, ◌∙◌, append_assoc, inl, inr}
use Rattle.std.proofs.lemmas.List.{append-nil}
use Rattle.m5_meaning.specs.Site.{Program, Item}
use Rattle.m5_script.specs.Scenario.{Scenario, IsScript}
use Rattle.m5_script.specs.Trace.{trace_of}
use Rattle.m5_network.specs.Claim.{has_seal, place_of}
use Rattle.m5_network.specs.Entries.{Deed, entry_of}
use Rattle.m5_network.specs.Opening.{opening}
use Rattle.m5_network.specs.Run.{Network, Place, Step, Run, IsFinished, source}
use Rattle.m5_network.proofs.Runs.{determine}
use Rattle.m5_replay.specs.Lines.{lines, place_named}
use Rattle.m5_replay.specs.Fitting.{deed_line, due_line, Misfits, Passes}
use Rattle.m5_replay.specs.Verdicts.{Passed, FitsNot}
use Rattle.m5_replay.specs.Laws.{history_of, entries_of, RunsBy, RunIsYes, NoExcludes, NoExcludesLonger, NoIsNoRun}
use Rattle.m5_replay.specs.declared.verdict.Verdict.TheVariants.{Yes, No, Spent}
use Rattle.m5_replay.proofs.Runs.{deed-names, same-some, fits-there}
use Rattle.m5_replay.proofs.TraceLines.{trace-lines, due-unnamed}

abbrev its_place : Deed Item → Place
its_place d = place_of (entry_of has_seal d)

abbrev its_places : List (Deed Item) → List Place
its_places ds = map place_of (entries_of ds)

pub heads : (x y : List ℕ) (xs ys : List (List ℕ)) → x ∷ xs ≡ y ∷ ys → x ≡ y
heads x y xs ys e = cc

pub tails : (x y : List ℕ) (xs ys : List (List ℕ)) → x ∷ xs ≡ y ∷ ys → xs ≡ ys
tails x y xs ys e = cc

named-not : (line : List ℕ) (p : Place) → place_named line ≡ Some p → place_named line ≡ None → ⊥
named-not line p h k = cc

pub none-is : (line : List ℕ) (more : List (List ℕ)) → [] ≡ line ∷ more → ⊥
none-is line more e = cc

-- the same line is of the same place
same-place : (P : Program) (S : Scenario) (N K L : Network) (p q : Place) (d e : Deed Item) → IsScript S → Step P S N p d K → Step P S N q e L → deed_line d ≡ deed_line e → its_place d ≡ its_place e
same-place P S N K L p q d e h t u k = same-some (its_place d) (its_place e) (sym (deed-names P S N K p d h t) ∙ (ap place_named k ∙ deed-names P S N L q e h u))

-- and makes the same deed, which leads to the same network
same-deed : (P : Program) (S : Scenario) (N K L : Network) (p : Place) (d e : Deed Item) → Step P S N p d K → Step P S N p e L → (d ≡ e) × (K ≡ L)
same-deed P S N K L p d e t u =
    let both = determine (source P S) S.sessions N K L (p ∷ []) (d ∷ []) (e ∷ []) (K, t, refl) (L, u, refl) in
    (first-same both.0, both.1)
  where
    first-same : d ∷ [] ≡ e ∷ [] → d ≡ e
    first-same k = cc

-- the run goes on from M with these lines, the last of which names no place
record Follows (P : Program) (S : Scenario) (M L : Network) (ds es : List (Deed Item)) (end : List ℕ) (rest : List (List ℕ)) : Type 0 where
  others : List (Deed Item)
  all : es ≡ ds ++ others
  run : Run P S M (its_places others) others L
  text : map deed_line others ++ end ∷ [] ≡ rest

follows : (P : Program) (S : Scenario) (N M L : Network) (u v : ℕ) (ls rest : List (List ℕ)) (end : List ℕ) (ds es : List (Deed Item)) → IsScript S → place_named end ≡ None →
    Passes P S N u ls ds M v → Run P S N (its_places es) es L → map deed_line es ++ end ∷ [] ≡ ls ++ rest → Follows P S M L ds es end rest
follows P S N M L u v [] rest end [] es h n r t k = record { others = es; all = refl; run = subst (λ (X : Network). Run P S X (its_places es) es L) (sym r.0) t; text = k }
follows P S N M L u v [] rest end (d ∷ ds) es h n r t k = absurd r
follows P S N M L u v (l ∷ ls) rest end [] es h n r t k = absurd r
follows P S N M L u v (l ∷ ls) rest end (d ∷ ds) [] h n r t k = absurd (named-not l r.2.place r.2.named (subst (λ (x : List ℕ). place_named x ≡ None) (heads end l [] (ls ++ rest) k) n))
follows P S N M L u v (l ∷ ls) rest end (d ∷ ds) (e ∷ es) h n r t k =
    let first : deed_line e ≡ l = heads (deed_line e) l (map deed_line es ++ end ∷ []) (ls ++ rest) k in
    let mine : Step P S N (its_place d) d r.0 = subst (λ (p : Place). Step P S N p d r.0) (fits-there P S N r.0 u r.1 l d h r.2) r.2.step in
    let same : its_place d ≡ its_place e = same-place P S N r.0 t.0 (its_place d) (its_place e) d e h mine t.1 (sym r.2.text ∙ sym first) in
    let there = same-deed P S N r.0 t.0 (its_place e) d e (subst (λ (p : Place). Step P S N p d r.0) same mine) t.1 in
    let more = follows P S r.0 M L r.1 v ls rest end ds es h n r.3 (subst (λ (X : Network). Run P S X (its_places es) es L) (sym there.1) t.2) (tails (deed_line e) l (map deed_line es ++ end ∷ []) (ls ++ rest) k) in
    record { others = more.others; all = λ i. sym there.0 i ∷ more.all i; run = more.run; text = more.text }

-- of a run from the opening whose trace begins with the lines passed
goes-on : (P : Program) (S : Scenario) (trace : List ℕ) (rest others : List (List ℕ)) (es : List (Deed Item)) (L : Network) → IsScript S → (b : Passed P S trace rest) → RunsBy P S es L → lines (trace_of (history_of es)) ≡ b.first ++ others → Follows P S b.at L b.deeds es (due_line es) others
goes-on P S trace rest others es L h b r k = follows P S (opening P S) b.at L 0 b.weight b.first others (due_line es) b.deeds es h (due-unnamed es) b.passes r (sym (trace-lines es) ∙ k)

-- its first line, if it names a place, is that place's deed
named-next : (P : Program) (S : Scenario) (M L : Network) (u : ℕ) (ds es : List (Deed Item)) (end line : List ℕ) (more : List (List ℕ)) (p : Place) → IsScript S → place_named end ≡ None → place_named line ≡ Some p → Misfits P S M u line p → Follows P S M L ds es end (line ∷ more) → ⊥
named-next P S M L u ds es end line more p h n q m f = by f.others f.run f.text
  where
    by : (os : List (Deed Item)) → Run P S M (its_places os) os L → map deed_line os ++ end ∷ [] ≡ line ∷ more → ⊥
    by [] r t = named-not line p q (subst (λ (x : List ℕ). place_named x ≡ None) (heads end line [] more t) n)
    by (o ∷ os) r t =
        let text : deed_line o ≡ line = heads (deed_line o) line (map deed_line os ++ end ∷ []) more t in
        let place : its_place o ≡ p = same-some (its_place o) p (sym (deed-names P S M r.0 (its_place o) o h r.1) ∙ (ap place_named text ∙ q)) in
        m.differs o r.0 (subst (λ (z : Place). Step P S M z o r.0) place r.1) (sym text)

-- if it names none, it is the last, and the run ends where the lines before lead
unnamed-next : (P : Program) (S : Scenario) (M L : Network) (ds es : List (Deed Item)) (end line : List ℕ) (more : List (List ℕ)) → IsScript S → place_named line ≡ None → Follows P S M L ds es end (line ∷ more) → (end ≡ line) × ([] ≡ more) × (L ≡ M) × (es ≡ ds)
unnamed-next P S M L ds es end line more h q f = by f.others f.run f.text f.all
  where
    by : (os : List (Deed Item)) → Run P S M (its_places os) os L → map deed_line os ++ end ∷ [] ≡ line ∷ more → es ≡ ds ++ os → (end ≡ line) × ([] ≡ more) × (L ≡ M) × (es ≡ ds)
    by [] r t a = (heads end line [] more t, tails end line [] more t, r, a ∙ append-nil ds)
    by (o ∷ os) r t a =
        let text : deed_line o ≡ line = heads (deed_line o) line (map deed_line os ++ end ∷ []) more t in
        absurd (named-not line (its_place o) (ap place_named (sym text) ∙ deed-names P S M r.0 (its_place o) o h r.1) q)

pub no-excludes : NoExcludes
no-excludes P S trace number p h n named b =
    let f = goes-on P S trace (n.line ∷ n.more) (n.line ∷ b.more) b.deeds b.last h n.before b.run (b.begins ∙ append_assoc n.before.first (n.line ∷ []) b.more) in
    let misfit : Misfits P S n.before.at n.before.weight n.line p = subst (FitsNot P S n.before.at n.before.weight n.before.deeds n.line n.more) named n.misfit in
    named-next P S n.before.at b.last n.before.weight n.before.deeds b.deeds (due_line b.deeds) n.line b.more p h (due-unnamed b.deeds) named misfit f

pub no-excludes-longer : NoExcludesLonger
no-excludes-longer P S trace number next more h n unnamed all b =
    let f = goes-on P S trace (n.line ∷ n.more) (n.line ∷ next ∷ b.more) b.deeds b.last h n.before b.run (b.begins ∙ append_assoc n.before.first (n.line ∷ next ∷ []) b.more) in
    none-is next b.more (unnamed-next P S n.before.at b.last n.before.deeds b.deeds (due_line b.deeds) n.line (next ∷ b.more) h unnamed f).1

-- the line of a no, with what follows it, is not how a finished run goes on
not-finished : (P : Program) (S : Scenario) (M L : Network) (u : ℕ) (ds es : List (Deed Item)) (line : List ℕ) (more : List (List ℕ)) (o : Option Place) → IsScript S → place_named line ≡ o → FitsNot P S M u ds line more o → IsFinished P S L → Follows P S M L ds es (due_line es) (line ∷ more) → ⊥
not-finished P S M L u ds es line more (Some p) h q m i f = named-next P S M L u ds es (due_line es) line more p h (due-unnamed es) q m f
not-finished P S M L u ds es line [] None h q m i f =
    let k = unnamed-next P S M L ds es (due_line es) line [] h q f in
    m.1 (record { finished = subst (IsFinished P S) k.2 i; due = sym k.0 ∙ ap due_line k.3 })
not-finished P S M L u ds es line (next ∷ more) None h q m i f = none-is next more (unnamed-next P S M L ds es (due_line es) line (next ∷ more) h q f).1

no-lines : (P : Program) (S : Scenario) (M L : Network) (ds es : List (Deed Item)) (end : List ℕ) → Follows P S M L ds es end [] → ⊥
no-lines P S M L ds es end f = by f.others f.text
  where
    by : (os : List (Deed Item)) → map deed_line os ++ end ∷ [] ≡ [] → ⊥
    by [] t = cc
    by (o ∷ os) t = cc

pub no-is-no-run : NoIsNoRun
no-is-no-run P S trace number h (inl n) r =
    let f = goes-on P S trace (n.line ∷ n.more) (n.line ∷ n.more) r.deeds r.last h n.before r.run (ap lines (sym r.text) ∙ n.before.all) in
    not-finished P S n.before.at r.last n.before.weight n.before.deeds r.deeds n.line n.more (place_named n.line) h refl n.misfit r.finished f
no-is-no-run P S trace number h (inr n) r = no-lines P S n.before.at r.last n.before.deeds r.deeds (due_line r.deeds) (goes-on P S trace [] [] r.deeds r.last h n.before r.run (ap lines (sym r.text) ∙ n.before.all))

pub run-is-yes : RunIsYes
run-is-yes P S trace Yes h r s v = refl
run-is-yes P S trace (No number) h r s v = absurd (no-is-no-run P S trace number h v r)
run-is-yes P S trace (Spent number) h r s v = absurd (s number v)
