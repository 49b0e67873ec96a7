-- The verdict at a line, by how its check ends.
use Rattle.std.proofs.Common.{◌≡◌, ◌≢◌, ℕ, ◌+◌, ◌<◌, ◌==◌, Bool, true, false, List, [], ◌∷◌, length, Option, Some, None, refl, sym, ap, subst, ◌∙◌, inl, inr, arith}
use Rattle.std.specs.Prelude.{MatchOption}
use Rattle.m5_meaning.specs.Site.{Program}
use Rattle.m5_script.specs.Scenario.{Scenario}
use Rattle.m5_script.specs.Fields.{◌>>=◌}
use Rattle.m5_script.specs.declared.items.SiteName.{SiteName}
use Rattle.m5_replay.specs.Lines.{before, lines, site_named, place_at, place_named}
use Rattle.m5_replay.specs.Verdicts.{Passed, line_number, FitsNot, IsBeyond, IsVerdict}
use Rattle.m5_replay.specs.code.Answering.{place_verdict, last_verdict}
use Rattle.m5_replay.specs.code.Running.{GoesOn, IsChecked, IsCheckedLast}
use Rattle.m5_replay.specs.declared.check.Checked.{Checked}
use Rattle.m5_replay.specs.declared.check.Checked.TheVariants as checked
use Rattle.m5_replay.specs.declared.running.Running.{Running}
use Rattle.m5_replay.specs.declared.verdict.Verdict.{Verdict}
use Rattle.m5_replay.specs.declared.verdict.Verdict.TheVariants.{No}
use Rattle.m5_replay.proofs.Advances.{named-place}
use Rattle.std.proofs.lemmas.Bool.{eqb-true}
use Rattle.m5_replay.proofs.Passing.{line-passed, Stands, stands-by}

unnamed : (line : List ℕ) → site_named line ≡ None → place_named line ≡ None
unnamed line e = ap (λ (o : Option SiteName). o >>= λ y. Some (place_at line y)) e

-- a line that names a place
pub at-place : (P : Program) (S : Scenario) (trace line : List ℕ) (more : List (List ℕ)) (p : Passed P S trace (line ∷ more)) (n : ℕ) (x : SiteName) (r : Running) (c : Checked) →
    site_named line ≡ Some x → n ≡ line_number p → IsChecked P S p.at p.weight p.deeds line (place_at line x) r c → MatchOption (place_verdict c n) (GoesOn P S trace more n r) (λ (v : Verdict). IsVerdict P S trace v)
at-place P S trace line more p n x r checked.Fits e m a = line-passed P S trace line more p n r m a
at-place P S trace line more p n x r checked.Differs e m a = inl (record {
  line = line;
  more = more;
  before = p;
  counted = m;
  misfit = subst (FitsNot P S p.at p.weight p.deeds line more) (sym (named-place line x e)) a;
})
at-place P S trace line more p n x r checked.Beyond e m a = record {
  line = line;
  more = more;
  before = p;
  counted = m;
  beyond = subst (IsBeyond P S p.at p.weight more) (sym (named-place line x e)) a;
}

-- a last line that names none
pub at-last : (P : Program) (S : Scenario) (trace line : List ℕ) (p : Passed P S trace (line ∷ [])) (n : ℕ) (c : Checked) → site_named line ≡ None → n ≡ line_number p → IsCheckedLast P S p.at p.weight p.deeds line c → IsVerdict P S trace (last_verdict c n)
at-last P S trace line p n checked.Fits e m a = record { line = line; before = p; unnamed = unnamed line e; after = a.0.0; settles = a.0.1; last = a.1 }
at-last P S trace line p n checked.Differs e m a = inl (record {
  line = line;
  more = [];
  before = p;
  counted = m;
  misfit = subst (FitsNot P S p.at p.weight p.deeds line []) (sym (unnamed line e)) a;
})
at-last P S trace line p n checked.Beyond e m a = record {
  line = line;
  more = [];
  before = p;
  counted = m;
  beyond = subst (IsBeyond P S p.at p.weight []) (sym (unnamed line e)) a;
}

some-line : (bs : List ℕ) → bs ≢ [] → (l : List ℕ) × (ls : List (List ℕ)) × (lines bs ≡ l ∷ ls)
some-line [] h = absurd (h refl)
some-line (b ∷ bs) h = by (b == 10) refl
  where
    joined : (ls : List (List ℕ)) → (l : List ℕ) × (ks : List (List ℕ)) × (before b ls ≡ l ∷ ks)
    joined [] = (b ∷ [], [], refl)
    joined (l ∷ ls) = (b ∷ l, ls, refl)

    by : (c : Bool) → (b == 10) ≡ c → (l : List ℕ) × (ls : List (List ℕ)) × (lines (b ∷ bs) ≡ l ∷ ls)
    by true e = (b ∷ [], lines bs, rw e refl)
    by false e = let k = joined (lines bs) in (k.0, k.1, rw e k.2)

-- a line that names none and has one after it
pub too-early : (P : Program) (S : Scenario) (trace line more : List ℕ) (p : Passed P S trace (line ∷ lines more)) (n : ℕ) → site_named line ≡ None → more ≢ [] → n ≡ line_number p → IsVerdict P S trace (No n)
too-early P S trace line more p n e h m =
    let k = some-line more h in
    inl (record {
      line = line;
      more = lines more;
      before = p;
      counted = m;
      misfit = subst (FitsNot P S p.at p.weight p.deeds line (lines more)) (sym (unnamed line e)) (subst (λ (ls : List (List ℕ)). FitsNot P S p.at p.weight p.deeds line ls None) (sym k.2) tt);
    })

-- all lines fit, and the trace is over
pub cut : (P : Program) (S : Scenario) (trace : List ℕ) (p : Passed P S trace []) (n : ℕ) → n ≡ line_number p → IsVerdict P S trace (No n)
cut P S trace p n m = inr (record { before = p; counted = m })

-- a line is not empty
pub has-byte : (bs line : List ℕ) (ls : List (List ℕ)) → lines bs ≡ line ∷ ls → line ≢ []
has-byte [] line ls e = absurd cc
has-byte (b ∷ bs) line ls e = by (b == 10) refl
  where
    joined : (ks : List (List ℕ)) → before b ks ≡ line ∷ ls → line ≢ []
    joined [] k z = cc
    joined (l ∷ ks) k z = cc

    by : (c : Bool) → (b == 10) ≡ c → line ≢ []
    by true q = let k : (b ∷ []) ∷ lines bs ≡ line ∷ ls = rw q at e in λ z. cc
    by false q = let k : before b (lines bs) ≡ line ∷ ls = rw q at e in joined (lines bs) k

-- so where the last line is followed by nothing
pub at-end : (P : Program) (S : Scenario) (trace line : List ℕ) (ls : List (List ℕ)) → ls ≡ [] → (p : Passed P S trace (line ∷ ls)) (n : ℕ) (c : Checked) → site_named line ≡ None → n ≡ line_number p → IsCheckedLast P S p.at p.weight p.deeds line c → IsVerdict P S trace (last_verdict c n)
at-end P S trace line [] e p n c h m a = at-last P S trace line p n c h m a
at-end P S trace line (l ∷ ls) e p n c h m a = absurd cc

pub cut-here : (P : Program) (S : Scenario) (trace : List ℕ) (ls : List (List ℕ)) (n : ℕ) (r : Running) → ls ≡ [] → Stands P S trace ls n r → IsVerdict P S trace (No n)
cut-here P S trace ls n r e s = let z = stands-by P S trace ls [] n r e s in cut P S trace z.passed n z.counted

-- whether bytes are there
pub no-lines : (bs : List ℕ) (b : Bool) → b ≡ (length bs == 0) → b ≡ true → lines bs ≡ []
no-lines [] b e h = refl
no-lines (x ∷ xs) b e h = absurd (let k : length (x ∷ xs) ≡ 0 = eqb-true (length (x ∷ xs)) 0 (sym e ∙ h) in omega (arith, k))

pub some-bytes : (bs : List ℕ) (b : Bool) → b ≡ (length bs == 0) → b ≡ false → bs ≢ []
some-bytes [] b e h = absurd (let k : true ≡ false = sym e ∙ h in cc)
some-bytes (x ∷ xs) b e h = λ k. cc

-- what follows a line is shorter
pub shorter : (rest line more : List ℕ) → lines rest ≡ line ∷ lines more → length line + length more ≡ length rest → length more < length rest
shorter rest line more e k = by line (has-byte rest line (lines more) e) k
  where
    by : (xs : List ℕ) → xs ≢ [] → length xs + length more ≡ length rest → length more < length rest
    by [] h q = absurd (h refl)
    by (x ∷ xs) h q = omega (arith, q)
