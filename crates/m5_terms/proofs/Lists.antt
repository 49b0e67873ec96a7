-- What holds of each of a list's items, one item after the other.
use Rattle.std.proofs.Common.{List, [], ◌∷◌, ◌++◌}
use Rattle.std.specs.List.{AllByRecursion as Each}

pub each-map : {A : Type 0} → (P Q : A → Type 0) → ((a : A) → P a → Q a) → (l : List A) → Each P l → Each Q l
each-map P Q f [] t = tt
each-map P Q f (a ∷ l) t = (f a t.0, each-map P Q f l t.1)

pub each-append : {A : Type 0} → (P : A → Type 0) (l m : List A) → Each P l → Each P m → Each P (l ++ m)
each-append P [] m s t = t
each-append P (a ∷ l) m s t = (s.0, each-append P l m s.1 t)
