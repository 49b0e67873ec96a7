-- Lines that fit are those of a run by the places that its entries name.
use Rattle.std.proofs.Common.{◌≡◌, ◌≢◌, ℕ, ◌≤◌, ◌==◌, Bool, true, false, List, [], ◌∷◌, ◌++◌, map, sum_by, Option, Some, None, refl, sym, ap, subst, ◌∙◌, append_assoc, append-nil, arith}
use Rattle.std.specs.Prelude.{codes}
use Rattle.std.specs.List.{flat_map}
use Rattle.m5_terms.proofs.SiteWorlds.{is-real}
use Rattle.m5_terms.specs.declared.types.World.TheVariants.{Any}
use Rattle.m5_terms.specs.declared.ask.Cause.{Cause}
use Rattle.m5_terms.specs.declared.ask.Entry.{Entry}
use Rattle.m5_meaning.specs.Site.{Program, Item}
use Rattle.m5_script.specs.Scenario.{Scenario, IsScript}
use Rattle.m5_script.specs.Trace.{line_of, last_words}
use Rattle.m5_network.specs.Claim.{has_seal, place_of, stop_count, ending}
use Rattle.m5_network.specs.Entries.{Deed, entry_of, shown}
use Rattle.m5_network.specs.Opening.{opening}
use Rattle.m5_network.specs.Run.{Network, Place, Makes, Step, Run}
use Rattle.m5_replay.specs.Lines.{before, lines, place_named}
use Rattle.m5_replay.specs.Fitting.{deed_line, due_line, Fits, Passes}
use Rattle.m5_replay.specs.Laws.{entries_of, YesIsRun}
use Rattle.m5_replay.proofs.Named.{line-names}

-- a deed is its place's site's
deed-at : (P : Program) (S : Scenario) (N M : Network) (p : Place) (d : Deed Item) (c : Option Cause) → Makes P S N p d M c → (d.session ≡ p.session) × (d.world ≡ p.world)
deed-at P S N M p d None m = (m.session, m.world)
deed-at P S N M p d (Some c) m = (ap (λ (e : Deed Item). e.session) m.deed, ap (λ (e : Deed Item). e.world) m.deed)

-- the line of a deed names the place that its entry does
pub deed-names : (P : Program) (S : Scenario) (N M : Network) (p : Place) (d : Deed Item) → IsScript S → Step P S N p d M → place_named (deed_line d) ≡ Some (place_of (entry_of has_seal d))
deed-names P S N M p d h t =
    let at = deed-at P S N M p d p.cause t.makes in
    let few : d.session ≤ 32 = omega (arith, at.0, t.site.to_last, h.sessions.1) in
    let real : d.world ≢ Any = λ e. is-real p.world t.site.world (sym at.1 ∙ e) in
    line-names d.session d.world (shown has_seal d.query d.reply) few real

-- a line names one place
pub same-some : (p q : Place) → Some p ≡ Some q → p ≡ q
same-some p q e = cc

pub fits-there : (P : Program) (S : Scenario) (N M : Network) (u v : ℕ) (line : List ℕ) (d : Deed Item) → IsScript S → (f : Fits P S N u line d M v) → f.place ≡ place_of (entry_of has_seal d)
fits-there P S N M u v line d h f = same-some f.place (place_of (entry_of has_seal d)) (sym f.named ∙ (ap place_named f.text ∙ deed-names P S N M f.place d h f.step))

pub passes-run : (P : Program) (S : Scenario) (N M : Network) (u v : ℕ) (ls : List (List ℕ)) (ds : List (Deed Item)) → IsScript S → Passes P S N u ls ds M v → Run P S N (map place_of (entries_of ds)) ds M × (ls ≡ map deed_line ds)
passes-run P S N M u v [] [] h r = (r.0, refl)
passes-run P S N M u v [] (d ∷ ds) h r = absurd r
passes-run P S N M u v (l ∷ ls) [] h r = absurd r
passes-run P S N M u v (l ∷ ls) (d ∷ ds) h r =
    let rest = passes-run P S r.0 M r.1 v ls ds h r.3 in
    ((r.0, subst (λ (p : Place). Step P S N p d r.0) (fits-there P S N r.0 u r.1 l d h r.2) r.2.step, rest.0), (λ i. r.2.text i ∷ rest.1 i))

-- the lines of bytes, one after the other, are the bytes
abbrev joined : List (List ℕ) → List ℕ
joined ls = flat_map (λ (l : List ℕ). l) ls

joined-before : (b : ℕ) (ls : List (List ℕ)) → joined (before b ls) ≡ b ∷ joined ls
joined-before b [] = refl
joined-before b (l ∷ ls) = refl

joined-lines : (bs : List ℕ) → joined (lines bs) ≡ bs
joined-lines [] = refl
joined-lines (b ∷ bs) = by (b == 10) refl (joined-lines bs)
  where
    by : (c : Bool) → (b == 10) ≡ c → joined (lines bs) ≡ bs → joined (lines (b ∷ bs)) ≡ b ∷ bs
    by true e rest = rw e (ap (λ xs. b ∷ xs) rest)
    by false e rest = rw e (joined-before b (lines bs) ∙ ap (λ xs. b ∷ xs) rest)

joined-on : (ds : List (Deed Item)) (end : List ℕ) → joined (map deed_line ds ++ end ∷ []) ≡ flat_map line_of (entries_of ds) ++ end
joined-on [] end = simp append-nil
joined-on (d ∷ ds) end = ap (λ xs. deed_line d ++ xs) (joined-on ds end) ∙ sym (append_assoc (deed_line d) (flat_map line_of (entries_of ds)) end)

pub yes-is-run : YesIsRun
yes-is-run P S trace h y =
    let r = passes-run P S (opening P S) y.before.at 0 y.before.weight y.before.first y.before.deeds h y.before.passes in
    let all : lines trace ≡ map deed_line y.before.deeds ++ due_line y.before.deeds ∷ [] = y.before.all ∙ (λ i. r.1 i ++ y.last.due i ∷ []) in
    let text : trace ≡ flat_map line_of (entries_of y.before.deeds) ++ due_line y.before.deeds = sym (joined-lines trace) ∙ (ap joined all ∙ joined-on y.before.deeds (due_line y.before.deeds)) in
    record {
      deeds = y.before.deeds;
      last = y.before.at;
      run = r.0;
      finished = y.last.finished;
      text = text ∙ sym (append_assoc (flat_map line_of (entries_of y.before.deeds)) (last_words (ending (sum_by (λ (e : Entry). stop_count e.act) (entries_of y.before.deeds)))) (codes "\n"));
    }
