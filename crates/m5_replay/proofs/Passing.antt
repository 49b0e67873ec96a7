-- The lines that fit: none at first, and one more; and what the verdict is where the next one does not fit.
use Rattle.std.proofs.Common.{◌≡◌, ℕ, ◌+◌, List, [], ◌∷◌, ◌++◌, length, refl, sym, ap, subst, ◌∙◌, append_assoc, length-append, arith}
use Rattle.m5_meaning.specs.Site.{Program, Item}
use Rattle.m5_script.specs.Scenario.{Scenario}
use Rattle.m5_network.specs.Entries.{Deed}
use Rattle.m5_network.specs.Opening.{opening}
use Rattle.m5_network.specs.Run.{Network}
use Rattle.m5_replay.specs.Lines.{lines}
use Rattle.m5_replay.specs.Fitting.{Fits, Passes}
use Rattle.m5_replay.specs.Verdicts.{Passed, line_number}
use Rattle.m5_replay.specs.code.Running.{StandsAt, GoesOn, Advances}
use Rattle.m5_replay.specs.declared.running.Running.{Running}

passes-on : (P : Program) (S : Scenario) (N M L : Network) (u v t : ℕ) (ls : List (List ℕ)) (line : List ℕ) (ds : List (Deed Item)) (d : Deed Item) → Passes P S N u ls ds M v → Fits P S M v line d L t → Passes P S N u (ls ++ line ∷ []) (ds ++ d ∷ []) L t
passes-on P S N M L u v t [] line [] d h f = (L, t, subst (λ (z : ℕ). Fits P S N z line d L t) h.1 (subst (λ (X : Network). Fits P S X v line d L t) h.0 f), (refl, refl))
passes-on P S N M L u v t [] line (e ∷ ds) d h f = absurd h
passes-on P S N M L u v t (l ∷ ls) line [] d h f = absurd h
passes-on P S N M L u v t (l ∷ ls) line (e ∷ ds) d h f = (h.0, h.1, h.2, passes-on P S h.0 M L h.1 v t ls line ds d h.3 f)

pub none-passed : (P : Program) (S : Scenario) (trace : List ℕ) → Passed P S trace (lines trace)
none-passed P S trace = record { first = []; all = refl; deeds = []; at = opening P S; weight = 0; passes = (refl, refl) }

pub one-more : (P : Program) (S : Scenario) (trace line : List ℕ) (more : List (List ℕ)) (d : Deed Item) (L : Network) (t : ℕ) (p : Passed P S trace (line ∷ more)) → Fits P S p.at p.weight line d L t → Passed P S trace more
one-more P S trace line more d L t p f = record {
  first = p.first ++ line ∷ [];
  all = p.all ∙ sym (append_assoc p.first (line ∷ []) more);
  deeds = p.deeds ++ d ∷ [];
  at = L;
  weight = t;
  passes = passes-on P S (opening P S) p.at L 0 p.weight t p.first line p.deeds d p.passes f;
}

pub one-more-line : (ls : List (List ℕ)) (line : List ℕ) → length (ls ++ line ∷ []) + 1 ≡ (length ls + 1) + 1
one-more-line ls line = omega (arith, length-append ls (line ∷ []))

-- the line fits, and the code's run stands for what follows
pub line-passed : (P : Program) (S : Scenario) (trace line : List ℕ) (more : List (List ℕ)) (p : Passed P S trace (line ∷ more)) (n : ℕ) (r : Running) → n ≡ line_number p → Advances P S p.at p.weight p.deeds line r → GoesOn P S trace more n r
unfolding one-more
line-passed P S trace line more p n r m a = record {
  passed = one-more P S trace line more a.deed a.network a.weight p a.fits;
  stands = a.stands;
  counted = one-more-line p.first line ∙ ap (λ (z : ℕ). z + 1) (sym m);
}

-- the lines before these fit, and the code's run stands for where they lead
pub record Stands (P : Program) (S : Scenario) (trace : List ℕ) (rest : List (List ℕ)) (n : ℕ) (r : Running) : Type 0 where
  pub passed : Passed P S trace rest
  pub stands : StandsAt S r passed.at passed.weight passed.deeds
  pub counted : n ≡ line_number passed

pub begins-stands : (P : Program) (S : Scenario) (trace : List ℕ) (r : Running) → StandsAt S r (opening P S) 0 [] → Stands P S trace (lines trace) 1 r
unfolding none-passed
begins-stands P S trace r h = record { passed = none-passed P S trace; stands = h; counted = refl }

pub next-stands : (P : Program) (S : Scenario) (trace : List ℕ) (rest : List (List ℕ)) (n m : ℕ) (r : Running) → m ≡ n + 1 → GoesOn P S trace rest n r → Stands P S trace rest m r
next-stands P S trace rest n m r e g = record { passed = g.passed; stands = g.stands; counted = e ∙ sym g.counted }

pub stands-by : (P : Program) (S : Scenario) (trace : List ℕ) (xs ys : List (List ℕ)) (n : ℕ) (r : Running) → xs ≡ ys → Stands P S trace xs n r → Stands P S trace ys n r
stands-by P S trace xs ys n r e s = subst (λ (zs : List (List ℕ)). Stands P S trace zs n r) e s
