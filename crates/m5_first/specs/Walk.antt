-- What the walk knows of its variables, what it appends, and what it answers.
use Rattle.std.specs.Prelude.{◌≡◌, ◌≢◌, ℕ, Bool, true, false, List, [], ◌++◌, Option, Some, None, map}
use Rattle.m5_terms.specs.Expression.{Expression, leaf}
use Rattle.m5_terms.specs.declared.types.Primitive.TheVariants as primitive
use Rattle.m5_terms.specs.declared.form.LeafForm.TheVariants as leaf_form
use Rattle.m5_terms.specs.declared.ask.Entry.{Entry}
use Rattle.m5_terms.specs.declared.ask.End.TheVariants as end
use Rattle.m5_terms.specs.declared.ask.History.{History}
use Rattle.m5_script.specs.Scenario.{silent}
use Rattle.m5_network.specs.Claim.{IsRunOf}
use Rattle.m5_first.specs.Says.{Texts, no_texts, with_text, says_of}
use Rattle.m5_meaning.specs.Site.{Program}
use Rattle.m5_first.specs.Claimed.{said_entry}
use Rattle.m5_first.specs.declared.walk.Scope.{Scope}
use Rattle.m5_first.specs.declared.walk.Scope.TheVariants as scope

-- the texts of a scope's variables
abbrev pub texts_in : Scope → Texts
texts_in scope.Empty = no_texts
texts_in (scope.Bound' x t address outer) = with_text x t.now (texts_in outer)

abbrev pub is_say_term : Expression → Bool
is_say_term (leaf (leaf_form.Extern primitive.Say)) = true
is_say_term _ = false

-- the bytes grow by the text, exactly where there is one
abbrev pub Appended : List ℕ → List ℕ → Option (List ℕ) → Bool → Type 0
Appended old new (Some t) done = (done ≡ true) × (new ≡ old ++ t)
Appended old new None done = done ≡ false

-- the text is answered, exactly where there is one
abbrev pub IsText : Option (List ℕ) → Option (List ℕ) → Type 0
IsText meant answer = answer ≡ meant

-- the entries grow by one for each text that is said, exactly where the term is of the form
abbrev pub AppendedSayings : List Entry → List Entry → Option (List (List ℕ)) → Bool → Type 0
AppendedSayings old new (Some ls) done = (done ≡ true) × (new ≡ old ++ map said_entry ls)
AppendedSayings old new None done = done ≡ false

-- the program declares no function, and its main term says texts alone
pub record SaysTexts (P : Program) : Type 0 where
  pub functions : P.functions ≡ []
  pub says : says_of no_texts P.main ≢ None

-- the history of a run in one session that ends at rest, exactly where the program says texts alone
abbrev pub Walked : Program → Option History → Type 0
Walked P (Some h) = SaysTexts P × IsRunOf P silent h × (h.end ≡ end.Rest)
Walked P None = SaysTexts P → ⊥
