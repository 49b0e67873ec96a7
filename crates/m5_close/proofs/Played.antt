-- What always plays fully with the input of a pass that matches does so with its output.
use Rattle.std.proofs.Common.{◌≡◌, ℕ, zero, suc, ⊎_elim, List, [], ◌∷◌, Option, Some, refl, sym, ap, ◌∙◌, subst}
use Rattle.m5_terms.specs.Machine.{goes, asks, Comes, Machine, Exchange}
use Rattle.m5_terms.specs.Matching.{Reading, then_reads, AsksAlike, Matches, Moments, Meeting, then_meets, MeetsAt, AreMet}
use Rattle.m5_terms.specs.Playing.{AsksToo, AsksFor, Acts, AnswersRead, IsFollowedFully, PlaysFully, PlaysAlwaysFully}
use Rattle.m5_terms.proofs.Matched.{wrong-too, asked, met-later}

-- a state's next ask is one: where it waits, and what the answers make of it
record SameAsk (M : Machine) (a b : M.State) (f g : M.Answer → Option M.State) : Type 0 where
  waits : a ≡ b
  resumes : (c : M.Answer) → f c ≡ g c

one_ask : (M : Machine) (n m : ℕ) (s a b : M.State) (q r : M.Ask) (f g : M.Answer → Option M.State) → Comes M.next n s a → M.next a ≡ asks q f → Comes M.next m s b → M.next b ≡ asks r g → SameAsk M a b f g
one_ask M zero zero s a b q r f g c e d k =
    let w : a ≡ b = sym c ∙ d in
    let same : asks q f ≡ asks r g = sym e ∙ ap M.next w ∙ k in
    record { waits = w; resumes = λ x. cc (same) }
one_ask M zero (suc m) s a b q r f g c e d k = let no : goes d.0 ≡ asks q f = sym d.1 ∙ ap M.next c ∙ e in absurd (cc (no))
one_ask M (suc n) zero s a b q r f g c e d k = let no : goes c.0 ≡ asks r g = sym c.1 ∙ ap M.next d ∙ k in absurd (cc (no))
one_ask M (suc n) (suc m) s a b q r f g c e d k =
    let no : goes c.0 ≡ goes d.0 = sym c.1 ∙ d.1 in
    let w : c.0 ≡ d.0 = cc (no) in
    one_ask M n m c.0 a b q r f g c.2 e (subst (λ z. Comes M.next m z b) (sym w) d.2) k

module _ (A B C : Machine) (R : Reading A B) (Q : Reading B C) (X : Moments A) (Y : Moments B) (Z : Moments C) (E : Meeting A B X Y) (F : Meeting B C Y Z)
    (free : (t : B.State) (b : B.Answer) → B.lawful t b) (M : Matches B C Q) (N : AreMet B C Q Y Z F) where
  abbrev P : Reading A C
  P = then_reads A B C R Q

  abbrev G : Meeting A C X Z
  G = then_meets A B C X Y Z E F

  abbrev too : (b : B.State) (q : B.Ask) (o : C.Ask) (a : A.State) → Q.ask o q → AsksToo A B R q a → AsksToo A C P o a
  too b q o a h y = record { steps = y.steps; waiting = y.waiting; comes = y.comes; ask = y.ask; resume = y.resume; asking = y.asking; reads = (q, h, y.reads) }

  followed : (c : C.State) (b : B.State) (a : A.State) → Q.state c b → IsFollowedFully A B R X Y E b a → IsFollowedFully A C P X Z G c a
  followed c b a r f = record {
    on_ask = λ n at q resume k e. ⊎_elim (λ w. absurd (f.right w)) (λ (z : AsksAlike B C Q at q resume b). too b z.ask q a z.reads (f.on_ask z.steps z.waiting z.ask z.resume z.comes z.asking)) (asked B C Q M n c at q resume b r k e);
    right = λ w. f.right (wrong-too B C Q M c b r w);
    on_moment = λ n at m k. ⊎_elim (λ w. absurd (f.right w)) (λ (y : MeetsAt B C Y Z F at m b).
        let z = f.on_moment y.steps y.at y.moment y.comes in
        record { steps = z.steps; at = z.at; comes = z.comes; moment = z.moment; met = (y.at, y.moment, y.met, z.met) }) (met-later B C Q M Y Z F N n c at m b r k);
  }

  pub plays_on : (xs : List (Exchange C)) (cs : List A.Answer) (c to : C.State) (b : B.State) (a : A.State) → Q.state c b → PlaysAlwaysFully A B R X Y E b a → Acts C xs c to → AnswersRead A C P xs cs → PlaysFully A C P X Z G xs cs to a
  plays_on [] [] c to b a r p k h =
      let now = p [] [] b refl tt in
      let q = subst (λ z. Q.state z b) k r in
      ((b, q, now.0), followed to b a q now.1)
  plays_on [] (d ∷ cs) c to b a r p k h = absurd h
  plays_on (x ∷ xs) [] c to b a r p k h = absurd h
  plays_on (x ∷ xs) (d ∷ cs) c to b a r p k h = ⊎_elim (λ w. absurd ((p [] [] b refl tt).1.right w)) (λ (z : AsksAlike B C Q k.1.waiting x.ask k.1.resume b).
      let y : Exchange B = record { ask = z.ask; answer = h.0.0 } in
      let m = z.after x.answer k.0 h.0.0 h.0.1 (free z.waiting h.0.0) k.1.resumed in
      let acts : AsksFor B b y m.0 = record { steps = z.steps; waiting = z.waiting; comes = z.comes; resume = z.resume; asking = z.asking; resumed = m.1 } in
      let first = p (y ∷ []) (d ∷ []) m.0 (m.0, acts, refl) (h.0.2, tt) in (
        too b z.ask x.ask a z.reads first.0,
        λ l.
            let n = first.1 l in
            let later : PlaysAlwaysFully A B R X Y E m.0 n.0 = λ ys es end k1 h1.
            let whole = p (y ∷ ys) (d ∷ es) end (m.0, acts, k1) (h.0.2, h1) in
            let one = one_ask A first.0.steps whole.0.steps a first.0.waiting whole.0.waiting first.0.ask whole.0.ask first.0.resume whole.0.resume first.0.comes first.0.asking whole.0.comes whole.0.asking in
            let v = whole.1 (subst (λ w. A.lawful w d) one.waits l) in
            let same : Some n.0 ≡ Some v.0 = sym n.1 ∙ one.resumes d ∙ v.1 in
            let s : n.0 ≡ v.0 = cc (same) in
            subst (λ w. PlaysFully A B R X Y E ys es end w) (sym s) v.2 in
            (n.0, n.1, plays_on xs cs k.0 to m.0 n.0 m.2 later k.2 h.1),
      )) (asked B C Q M k.1.steps c k.1.waiting x.ask k.1.resume b r k.1.comes k.1.asking)
