-- What is found and set at a key.
use Rattle.std.proofs.Common.{◌≡◌, ℕ, zero, suc, Bool, true, false, List, [], ◌∷◌, ◌++◌, ◌+◌, ◌<◌, ◌≤◌, length, get_or, take, refl, sym, ◌∙◌, subst, ap, Some, None}
use Rattle.std.specs.Prelude.{All, slice_get, slice_set}
use Rattle.std.proofs.lemmas.List.Elements.{All-head, All-tail, All-more}
use Rattle.std.proofs.lemmas.List.{take_all}
use Rattle.std.proofs.lemmas.Option.{slice_get_read, slice_get-get_or}
use Rattle.std.specs.Str.{bytes_eq}
use Rattle.m5_script.specs.declared.items.TextPair.{TextPair}
use Rattle.m5_script.specs.Pairs.{text_at, set_at}
use Rattle.m5_page.specs.Found.{Differs, IsFoundAt}

pub text-missing : (key : List ℕ) (ps : List TextPair) → All (Differs key) ps → text_at ps key ≡ None
text-missing key [] h = refl
text-missing key (p ∷ ps) h = let d : Differs key p = All-head (Differs key) p ps h in rw d (text-missing key ps (All-tail (Differs key) p ps h))

pub set-missing : (key text : List ℕ) (ps : List TextPair) → All (Differs key) ps → set_at ps key text ≡ ps ++ record { key = key; text = text } ∷ []
set-missing key text [] h = refl
set-missing key text (p ∷ ps) h = let d : Differs key p = All-head (Differs key) p ps h in rw d (ap (λ (xs : List TextPair). p ∷ xs) (set-missing key text ps (All-tail (Differs key) p ps h)))

pub text-found : (key : List ℕ) (ps : List TextPair) (i : ℕ) (p : TextPair) → All (Differs key) (take i ps) → slice_get ps i ≡ Some p → bytes_eq p.key key ≡ true → text_at ps key ≡ Some p.text
text-found key [] i p h e d = cc
text-found key (q ∷ ps) zero p h e d = let k : q ≡ p = cc in rw (k, d) refl
text-found key (q ∷ ps) (suc i) p h e d = let k : Differs key q = All-head (Differs key) q (take i ps) h in rw k (text-found key ps i p (All-tail (Differs key) q (take i ps) h) e d)

pub set-found : (key text : List ℕ) (ps : List TextPair) (i : ℕ) (p : TextPair) → All (Differs key) (take i ps) → slice_get ps i ≡ Some p → bytes_eq p.key key ≡ true → set_at ps key text ≡ slice_set ps i (record { key = key; text = text })
set-found key text [] i p h e d = cc
set-found key text (q ∷ ps) zero p h e d = let k : q ≡ p = cc in rw (k, d) refl
set-found key text (q ∷ ps) (suc i) p h e d = let k : Differs key q = All-head (Differs key) q (take i ps) h in rw k (ap (λ (xs : List TextPair). q ∷ xs) (set-found key text ps i p (All-tail (Differs key) q (take i ps) h) e d))

pub differs-more : (key : List ℕ) (ps : List TextPair) (i : ℕ) (p : TextPair) (b : Bool) → i < length ps → p ≡ get_or ps i p → b ≡ bytes_eq p.key key → b ≡ false → All (Differs key) (take i ps) → All (Differs key) (take (i + 1) ps)
differs-more key ps i p b h e f g a =
    let d : Differs key p = sym f ∙ g in
    All-more (Differs key) ps i p h a (subst (Differs key) e d)

pub differs-all : (key : List ℕ) (ps : List TextPair) (i : ℕ) → length ps ≤ i → All (Differs key) (take i ps) → All (Differs key) ps
differs-all key ps i h a = subst (All (Differs key)) (take_all i ps h) a

read-at : (ps : List TextPair) (i : ℕ) (p : TextPair) → i < length ps → p ≡ get_or ps i p → slice_get ps i ≡ Some p
read-at ps i p h e = slice_get_read ps (length ps) i p refl h e

pub found-text : (key : List ℕ) (ps : List TextPair) (i : ℕ) (p : TextPair) (t : List ℕ) → IsFoundAt key ps i → p ≡ get_or ps i p → t ≡ p.text → Some t ≡ text_at ps key
found-text key ps i p t f e k =
    let r : slice_get ps i ≡ Some p = read-at ps i p f.within e in
    ap Some k ∙ sym (text-found key ps i p f.before r (f.here p r))

pub found-set : (key text : List ℕ) (ps : List TextPair) (i : ℕ) → IsFoundAt key ps i → slice_set ps i (record { key = key; text = text }) ≡ set_at ps key text
found-set key text ps i f =
    let p : TextPair = get_or ps i (record { key = key; text = text }) in
    let r : slice_get ps i ≡ Some p = slice_get-get_or ps i (record { key = key; text = text }) f.within in
    sym (set-found key text ps i p f.before r (f.here p r))
