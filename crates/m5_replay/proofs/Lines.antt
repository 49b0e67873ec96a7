-- The first line of bytes, and the lines of what follows.
use Rattle.std.proofs.Common.{◌≡◌, ◌≢◌, ℕ, suc, ◌+◌, ◌<◌, ◌≤◌, ◌==◌, not, Bool, true, false, List, [], ◌∷◌, length, take, drop, refl, ap, ◌∙◌, arith}
use Rattle.std.specs.List.{prefix_len}
use Rattle.std.proofs.lemmas.List.{take_all, drop_all}
use Rattle.std.proofs.lemmas.List.Folds.{length-prefix_len}
use Rattle.m5_script.specs.Fields.{span}
use Rattle.m5_replay.specs.Lines.{before, lines}
use Rattle.m5_replay.specs.code.Cutting.{in_line}

pub one_more : (test : ℕ → Bool) (b : ℕ) (bs : List ℕ) → test b ≡ true → prefix_len test (b ∷ bs) ≡ suc (prefix_len test bs)
one_more test b bs h = rw h (omega arith)

pub no_more : (test : ℕ → Bool) (b : ℕ) (bs : List ℕ) → test b ≡ false → prefix_len test (b ∷ bs) ≡ 0
no_more test b bs h = rw h refl

-- up to and with the first byte 10
parted : (bs : List ℕ) → prefix_len in_line bs < length bs → lines bs ≡ take (prefix_len in_line bs + 1) bs ∷ lines (drop (prefix_len in_line bs + 1) bs)
parted [] h = absurd (omega (arith, h))
parted (b ∷ bs) h = by (parted bs) (b == 10) refl
  where
    by : (prefix_len in_line bs < length bs → lines bs ≡ take (prefix_len in_line bs + 1) bs ∷ lines (drop (prefix_len in_line bs + 1) bs)) → (c : Bool) → (b == 10) ≡ c → lines (b ∷ bs) ≡ take (prefix_len in_line (b ∷ bs) + 1) (b ∷ bs) ∷ lines (drop (prefix_len in_line (b ∷ bs) + 1) (b ∷ bs))
    by others true e =
        let n : prefix_len in_line (b ∷ bs) ≡ 0 = no_more in_line b bs (ap not e) in
        rw n (rw e refl)
    by others false e =
        let m : prefix_len in_line (b ∷ bs) ≡ suc (prefix_len in_line bs) = one_more in_line b bs (ap not e) in
        let n : prefix_len in_line (b ∷ bs) + 1 ≡ suc (prefix_len in_line bs + 1) = omega (arith, m) in
        rw n (rw e (ap (before b) (others (omega (arith, h, m)))))

-- where no byte 10 is there, all bytes are one line
whole : (bs : List ℕ) → bs ≢ [] → prefix_len in_line bs ≡ length bs → lines bs ≡ bs ∷ []
whole [] n h = absurd (n refl)
whole (b ∷ []) n h = by (b == 10) refl
  where
    by : (c : Bool) → (b == 10) ≡ c → lines (b ∷ []) ≡ (b ∷ []) ∷ []
    by true e = rw e refl
    by false e = rw e refl
whole (b ∷ a ∷ bs) n h = by (whole (a ∷ bs) (λ q. cc)) (b == 10) refl
  where
    by : (prefix_len in_line (a ∷ bs) ≡ length (a ∷ bs) → lines (a ∷ bs) ≡ (a ∷ bs) ∷ []) → (c : Bool) → (b == 10) ≡ c → lines (b ∷ a ∷ bs) ≡ (b ∷ a ∷ bs) ∷ []
    by others true e =
        let m : prefix_len in_line (b ∷ a ∷ bs) ≡ 0 = no_more in_line b (a ∷ bs) (ap not e) in
        absurd (omega (arith, h, m))
    by others false e =
        let m : prefix_len in_line (b ∷ a ∷ bs) ≡ suc (prefix_len in_line (a ∷ bs)) = one_more in_line b (a ∷ bs) (ap not e) in
        rw e (ap (before b) (others (omega (arith, h, m))))

same_span : (bs : List ℕ) → span in_line bs ≡ prefix_len in_line bs
same_span bs = length-prefix_len in_line bs

pub split-parted : (bs first rest : List ℕ) (n : ℕ) → n ≡ span in_line bs → n ≤ length bs → (n ≡ length bs → ⊥) → first ≡ take (n + 1) bs → rest ≡ drop (n + 1) bs → lines bs ≡ first ∷ lines rest
split-parted bs first rest n e w d f g =
    let m : n ≡ prefix_len in_line bs = e ∙ same_span bs in
    let p = parted bs (omega (arith, m, w, d)) in
    cc

pub split-whole : (bs first rest : List ℕ) (n : ℕ) → bs ≢ [] → n ≡ span in_line bs → n ≡ length bs → first ≡ take n bs → rest ≡ drop n bs → lines bs ≡ first ∷ lines rest
split-whole bs first rest n q e d f g =
    let m : n ≡ prefix_len in_line bs = e ∙ same_span bs in
    let p = whole bs q (omega (arith, m, d)) in
    let t : take n bs ≡ bs = take_all n bs (omega (arith, d)) in
    let z : lines rest ≡ [] = ap lines (g ∙ drop_all n bs (omega (arith, d))) in
    cc
