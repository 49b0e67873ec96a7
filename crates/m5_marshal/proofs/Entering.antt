-- A label that is entered is there.
use Rattle.std.proofs.Common.{◌≡◌, ℕ, ◌<◌, Bool, true, false, cond, eqb, List, [], ◌∷◌, length, Option, Some, None, slice_get, subst, pos}
use Rattle.std.proofs.lemmas.Option.{slice_get_within}
use Rattle.m5_region.specs.declared.value.Value.TheVariants as values
use Rattle.m5_dictionary.specs.Dictionaries.{Entrance}
use Rattle.m5_message.specs.Reading.{Opening, Parts, entered}

pub entered_within : (labels : List Entrance) (i l : ℕ) (m : Option Entrance) (p : Opening) → slice_get labels l ≡ m → entered i l m ≡ Some p → l < length labels
entered_within labels i l None p e q = absurd (let none : None ≡ Some p = q in cc)
entered_within labels i l (Some ent) p e q = slice_get_within labels l ent e

pub entered_some : (i l : ℕ) (m : Option Entrance) (p : Opening) (ent : Entrance) → m ≡ Some ent → entered i l m ≡ Some p → Parts (values.Int (pos l) ∷ []) ent.environment ≡ p
entered_some i l m p ent is e = by_test (eqb ent.argument i) (subst (λ (x : Option Entrance). entered i l x ≡ Some p) is e)
  where
    by_test : (t : Bool) → cond t (Some (Parts (values.Int (pos l) ∷ []) ent.environment)) None ≡ Some p → Parts (values.Int (pos l) ∷ []) ent.environment ≡ p
    by_test true h = cc
    by_test false h = absurd (let none : None ≡ Some p = h in cc)
