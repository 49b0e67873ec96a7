-- What a map's entries say of their pairs.
use Rattle.std.proofs.Common.{◌≡◌, ℕ, Bool, true, false, List, [], ◌∷◌, if◌then◌else◌, Option, Some, refl, sym, ap}
use Rattle.std.proofs.lemmas.Slice.Eq.{bytes_eq-Decides}
use Rattle.std.specs.Str.{bytes_eq}
use Rattle.std.specs.Global.{Vec}
use Rattle.std.specs.Map.{lookup}
use Rattle.indexmap.specs.IndexMap.{insert_entry}
use Rattle.m5_script.specs.declared.items.TextPair.{TextPair}
use Rattle.m5_script.specs.Pairs.{text_at, set_at}
use Rattle.m5_keys.specs.Views.{pairs_of}

-- equality of bytes is the same from both sides
same-from : (a b : Bool) (x y : List ℕ) → (a ≡ true → x ≡ y) → (x ≡ y → a ≡ true) → (b ≡ true → y ≡ x) → (y ≡ x → b ≡ true) → a ≡ b
same-from true b x y f g h k = sym (k (sym (f refl)))
same-from false true x y f g h k = g (sym (h refl))
same-from false false x y f g h k = refl

turned : (x y : List ℕ) → bytes_eq x y ≡ bytes_eq y x
turned x y =
    same-from (bytes_eq x y) (bytes_eq y x) x y (bytes_eq-Decides x y).0 (bytes_eq-Decides x y).1 (bytes_eq-Decides y x).0 (bytes_eq-Decides y x).1

pub look-up : (key : List ℕ) (es : List (Vec ℕ × List ℕ)) → lookup (λ (k : Vec ℕ). bytes_eq key k.items) es ≡ text_at (pairs_of es) key
look-up key [] = refl
look-up key (e ∷ es) =
    rw (turned key e.0.items) (ap (λ (o : Option (List ℕ)). if bytes_eq e.0.items key then Some e.1 else o) (look-up key es))

-- an entry keeps its key, which is the one that is set
set-in : (b c : Bool) (k : Vec ℕ) (e : Vec ℕ × List ℕ) (text : List ℕ) (es more : List (Vec ℕ × List ℕ)) (ps : List TextPair) →
    b ≡ c → (c ≡ true → e.0.items ≡ k.items) → pairs_of more ≡ ps →
    pairs_of (if b then (e.0, text) ∷ es else e ∷ more) ≡ (if c then record { key = k.items; text = text } ∷ pairs_of es else record { key = e.0.items; text = e.1 } ∷ ps)
set-in true true k e text es more ps s f h = ap (λ (x : List ℕ). record { key = x; text = text } ∷ pairs_of es) (f refl)
set-in true false k e text es more ps s f h = cc
set-in false true k e text es more ps s f h = cc
set-in false false k e text es more ps s f h = ap (λ (x : List TextPair). record { key = e.0.items; text = e.1 } ∷ x) h

pub put-in : (k : Vec ℕ) (text : List ℕ) (es : List (Vec ℕ × List ℕ)) →
    pairs_of (insert_entry (λ (a b : Vec ℕ). bytes_eq a.items b.items) es k text) ≡ set_at (pairs_of es) k.items text
put-in k text [] = refl
put-in k text (e ∷ es) =
    set-in (bytes_eq k.items e.0.items) (bytes_eq e.0.items k.items) k e text es _ _ (turned k.items e.0.items) (bytes_eq-Decides e.0.items k.items).0 (put-in k text es)
