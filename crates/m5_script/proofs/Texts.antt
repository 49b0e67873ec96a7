-- What one more byte does to a quoted text or to bytes in hexadecimal.
use Rattle.std.proofs.Common.{◌≡◌, ◌≢◌, ℕ, ◌+◌, ◌*◌, ◌≤◌, ◌<◌, Bool, true, false, cond, eqb, List, [], ◌∷◌, ◌++◌, length, drop, get_or, Option, Some, None, refl, subst, sym, ◌∙◌, arith}
use Rattle.std.proofs.lemmas.List.{drop_all}
use Rattle.std.proofs.lemmas.Bool.Decides.{nat_tests}
use Rattle.m5_script.specs.declared.form.LineEnd.{LineEnd}
use Rattle.m5_script.specs.declared.form.LineEnd.TheVariants.{Syntax, Memory}
use Rattle.m5_script.specs.Fields.{skipped, Refuses}
use Rattle.m5_script.specs.Quoted.{is_parted, text_inside, text_at, nibble, bytes_from}
use Rattle.m5_terms.proofs.Rests.{two_at, last_at}

-- ---- a quoted text

pub unquoted : (s : List ℕ) → get_or (skipped s) 0 0 ≢ 34 → text_at s ≡ None
unfolding text_at
unquoted s h =
    let no : eqb (get_or (skipped s) 0 0) 34 ≡ false = grind (arith, nat_tests) in
    rw no refl

pub quote_within : (s : List ℕ) → get_or s 0 0 ≡ 34 → 1 ≤ length s
quote_within [] h = absurd (cc)
quote_within (x ∷ s) h = omega arith

pub text_read : (s inside : List ℕ) (text : List ℕ × List ℕ) → get_or (skipped s) 0 0 ≡ 34 → inside ≡ drop 1 (skipped s) → text_inside inside ≡ Some text
    → is_parted text.1 ≡ true → text_at s ≡ Some text
unfolding text_at
text_read s inside text quote is read parted =
    let read_here : text_inside (drop 1 (skipped s)) ≡ Some text = rw (← is) read in
    rw (quote, read_here, parted) refl

pub text_unparted : (s inside : List ℕ) (text : List ℕ × List ℕ) → get_or (skipped s) 0 0 ≡ 34 → inside ≡ drop 1 (skipped s) → text_inside inside ≡ Some text
    → is_parted text.1 ≡ false → text_at s ≡ None
unfolding text_at
text_unparted s inside text quote is read parted =
    let read_here : text_inside (drop 1 (skipped s)) ≡ Some text = rw (← is) read in
    rw (quote, read_here, parted) refl

pub text_refused : (e : LineEnd) (s inside : List ℕ) → get_or (skipped s) 0 0 ≡ 34 → inside ≡ drop 1 (skipped s) → Refuses e (text_inside inside) → Refuses e (text_at s)
unfolding text_at
text_refused Memory s inside quote is h = tt
text_refused Syntax s inside quote is h =
    let read_here : text_inside (drop 1 (skipped s)) ≡ None = rw (← is) h in
    rw (quote, read_here) refl

-- ---- hexadecimal

-- what is read so far of some bytes, of which the rest of the digits are read on
pub record BytesSoFar (read : List ℕ) (at : ℕ) (digits : List ℕ) : Type 0 where
  pub on : bytes_from read (drop at digits) ≡ bytes_from [] digits
  pub within : at ≤ length digits

pub bytes_on : (v w : List ℕ) (i high low : ℕ) (s : List ℕ) → i + 1 < length s → nibble (get_or s i 0) ≡ Some high → nibble (get_or s (i + 1) 0) ≡ Some low
    → w ≡ v ++ (high * 16 + low) ∷ [] → BytesSoFar v i s → BytesSoFar w (i + 2) s
bytes_on v w i high low s h a b e so_far =
    let step : bytes_from v (drop i s) ≡ bytes_from (v ++ (high * 16 + low) ∷ []) (drop (i + 2) s) = rw (two_at s i h, a, b) refl in
    record { on = rw e (sym step ∙ so_far.on); within = omega arith }

pub bytes_high : (v : List ℕ) (i : ℕ) (s : List ℕ) → i + 1 < length s → nibble (get_or s i 0) ≡ None → bytes_from v (drop i s) ≡ None
bytes_high v i s h a = rw (two_at s i h, a) refl

pub bytes_low : (v : List ℕ) (i high : ℕ) (s : List ℕ) → i + 1 < length s → nibble (get_or s i 0) ≡ Some high → nibble (get_or s (i + 1) 0) ≡ None → bytes_from v (drop i s) ≡ None
bytes_low v i high s h a b = rw (two_at s i h, a, b) refl

pub bytes_odd : (v : List ℕ) (i : ℕ) (s : List ℕ) → i < length s → length s ≤ i + 1 → bytes_from v (drop i s) ≡ None
bytes_odd v i s h k = rw (last_at s i h k) refl

pub bytes_even : (v : List ℕ) (i : ℕ) (s : List ℕ) → length s ≤ i → bytes_from v (drop i s) ≡ Some v
bytes_even v i s h = rw (drop_all i s h) refl
