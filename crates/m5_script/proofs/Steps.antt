-- What a chain of steps gives where one of them fails or succeeds.
use Rattle.std.proofs.Common.{◌≡◌, ◌≢◌, List, [], ◌∷◌, length, Option, Some, None, refl, arith}
use Rattle.m5_script.specs.declared.form.LineEnd.{LineEnd}
use Rattle.m5_script.specs.declared.form.LineEnd.TheVariants.{Syntax, Memory}
use Rattle.m5_script.specs.declared.items.SiteName.{SiteName}
use Rattle.m5_script.specs.declared.form.Form.TheVariants.{Order}
use Rattle.m5_script.specs.Fields.{◌>>=◌, Refuses}
use Rattle.m5_script.specs.Line.{some_sites}

pub refuses_first : {A B : Type 0} (e : LineEnd) (o : Option A) (f : A → Option B) → Refuses e o → Refuses e (o >>= f)
refuses_first Memory o f h = tt
refuses_first Syntax o f h = rw h refl

pub refuses_next : {A B : Type 0} (e : LineEnd) (o : Option A) (a : A) (f : A → Option B) → o ≡ Some a → Refuses e (f a) → Refuses e (o >>= f)
refuses_next e o a f is h = rw is h

pub gives_next : {A B : Type 0} (o : Option A) (a : A) (f : A → Option B) (b : B) → o ≡ Some a → f a ≡ Some b → (o >>= f) ≡ Some b
gives_next o a f b is h = rw is h

pub some_order : (o : Option (List SiteName)) (sites : List SiteName) → o ≡ Some sites → length sites ≢ 0 → (o >>= some_sites) ≡ Some (Order sites)
some_order o [] is h = absurd (h refl)
some_order o (site ∷ sites) is h = rw is refl

pub no_order : (o : Option (List SiteName)) (sites : List SiteName) → o ≡ Some sites → length sites ≡ 0 → (o >>= some_sites) ≡ None
no_order o [] is h = rw is refl
no_order o (site ∷ sites) is h = absurd (omega arith)
