-- What is left in the sink for any input.
use Rattle.std.proofs.Common.{◌≡◌, ℕ, List, Option, Some, None, IfSome, subst}

-- of bytes that may be told
pub always : (left : Option (List ℕ)) (Q : List ℕ → Type 0) → ((xs : List ℕ) → Q xs) → IfSome left Q
always None Q f = tt
always (Some xs) Q f = f xs

-- the same of what is known of them
pub told : (left : Option (List ℕ)) (P Q : List ℕ → Type 0) → IfSome left P → ((xs : List ℕ) → P xs → Q xs) → IfSome left Q
told None P Q h f = tt
told (Some xs) P Q h f = f xs h

-- what holds of the bytes that were read holds of them where they are told
pub moved : (left : Option (List ℕ)) (Q : List ℕ → Type 0) (read bytes : List ℕ) → read ≡ bytes → IfSome left (λ xs. bytes ≡ xs) → Q read → IfSome left Q
moved None Q read bytes e h q = tt
moved (Some xs) Q read bytes e h q = subst Q h (subst Q e q)
