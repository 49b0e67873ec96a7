-- What matches at each state goes on matching, and two passes that match, one after the other, match.
use Rattle.std.proofs.Common.{◌≡◌, ◌⊎◌, ℕ, zero, suc, inl, inr, ⊎_elim, Option, refl, sym, subst}
use Rattle.m5_terms.specs.Machine.{asks, Comes, Machine, GoesWrong}
use Rattle.m5_terms.specs.Matching.{Reading, then_reads, Reaches, AsksAlike, Matches, Moments, Meeting, then_meets, MeetsAt, AreMet}

-- local steps and then more of them
pub further : (M : Machine) (n m : ℕ) (s t u : M.State) → Comes M.next n s t → Comes M.next m t u → (k : ℕ) × Comes M.next k s u
further M zero m s t u c d = (m, subst (λ x. Comes M.next m x u) (sym c) d)
further M (suc n) m s t u c d = let r = further M n m c.0 t u c.2 d in (suc r.0, (c.0, c.1, r.1))

pub wrong-before : (M : Machine) (n : ℕ) (s t : M.State) → Comes M.next n s t → GoesWrong M t → GoesWrong M s
wrong-before M n s t c w = let d = further M n w.steps s t w.at c w.comes in record { steps = d.0; at = w.at; comes = d.1; stuck = w.stuck }

module _ (S T : Machine) (R : Reading S T) (F : Matches S T R) where
  pub reached : (n : ℕ) (t to : T.State) (s : S.State) → R.state t s → Comes T.next n t to → GoesWrong S s ⊎ Reaches S T R to s
  reached zero t to s r c = inr (record { steps = 0; at = s; comes = refl; reads = subst (λ x. R.state x s) c r })
  reached (suc n) t to s r c = ⊎_elim inl (λ (a : Reaches S T R c.0 s).
      ⊎_elim (λ w. inl (wrong-before S a.steps s a.at a.comes w)) (λ (b : Reaches S T R to a.at).
      let d = further S a.steps b.steps s a.at b.at a.comes b.comes in
      inr (record { steps = d.0; at = b.at; comes = d.1; reads = b.reads })) (reached n c.0 to a.at a.reads c.2)) (F.on_step t c.0 s r c.1)

  pub wrong-too : (t : T.State) (s : S.State) → R.state t s → GoesWrong T t → GoesWrong S s
  wrong-too t s r w = ⊎_elim (λ v. v) (λ (y : Reaches S T R w.at s). wrong-before S y.steps s y.at y.comes (F.on_wrong w.at y.at y.reads w.stuck)) (reached w.steps t w.at s r w.comes)

  -- by local steps to the same ask
  pub asked : (n : ℕ) (t at : T.State) (a : T.Ask) (resume : T.Answer → Option T.State) (s : S.State) → R.state t s → Comes T.next n t at → T.next at ≡ asks a resume → GoesWrong S s ⊎ AsksAlike S T R at a resume s
  asked n t at a resume s r c e = ⊎_elim inl (λ (y : Reaches S T R at s).
      ⊎_elim (λ w. inl (wrong-before S y.steps s y.at y.comes w)) (λ (z : AsksAlike S T R at a resume y.at).
      let d = further S y.steps z.steps s y.at z.waiting y.comes z.comes in
      inr (record { steps = d.0; waiting = z.waiting; comes = d.1; ask = z.ask; resume = z.resume; asking = z.asking; reads = z.reads; lawful = z.lawful; after = z.after })) (F.on_ask at a resume y.at y.reads e)) (reached n t at s r c)

  -- by local steps to a moment that is met
  pub met-later : (X : Moments S) (Y : Moments T) (E : Meeting S T X Y) → AreMet S T R X Y E → (n : ℕ) (t at : T.State) (m : Y at) (s : S.State) → R.state t s → Comes T.next n t at → GoesWrong S s ⊎ MeetsAt S T X Y E at m s
  met-later X Y E G n t at m s r c = ⊎_elim inl (λ (y : Reaches S T R at s).
      ⊎_elim (λ w. inl (wrong-before S y.steps s y.at y.comes w)) (λ (z : MeetsAt S T X Y E at m y.at).
      let d = further S y.steps z.steps s y.at z.at y.comes z.comes in
      inr (record { steps = d.0; at = z.at; comes = d.1; moment = z.moment; met = z.met })) (G at y.at y.reads m)) (reached n t at s r c)

module _ (A B C : Machine) (R : Reading A B) (Q : Reading B C) (K : Matches A B R) where
  abbrev pub P : Reading A C
  P = then_reads A B C R Q

  goes-too : (c to : C.State) (b : B.State) (a : A.State) → R.state b a → Reaches B C Q to b → GoesWrong A a ⊎ Reaches A C P to a
  goes-too c to b a r y = ⊎_elim inl (λ (z : Reaches A B R y.at a). inr (record { steps = z.steps; at = z.at; comes = z.comes; reads = (y.at, y.reads, z.reads) })) (reached A B R K y.steps b y.at a r y.comes)

  asks-too : (c : C.State) (q : C.Ask) (resume : C.Answer → Option C.State) (b : B.State) (a : A.State) → R.state b a → AsksAlike B C Q c q resume b → GoesWrong A a ⊎ AsksAlike A C P c q resume a
  asks-too c q resume b a r y = ⊎_elim inl (λ (z : AsksAlike A B R y.waiting y.ask y.resume a). inr (record {
    steps = z.steps;
    waiting = z.waiting;
    comes = z.comes;
    ask = z.ask;
    resume = z.resume;
    asking = z.asking;
    reads = (y.ask, y.reads, z.reads);
    lawful = λ u w h l. y.lawful u h.0 h.1 (z.lawful h.0 w h.2 l);
    after = λ u to w h l e.
        let m = y.after u to h.0 h.1 (z.lawful h.0 w h.2 l) e in
        let n = z.after h.0 m.0 w h.2 l m.1 in
        (n.0, n.1, (m.0, m.2, n.2));
  })) (asked A B R K y.steps b y.waiting y.ask y.resume a r y.comes y.asking)

  pub both-match : Matches B C Q → Matches A C P
  both-match L = record {
    on_step = λ c to a r e. ⊎_elim (λ w. inl (wrong-too A B R K r.0 a r.2 w)) (goes-too c to r.0 a r.2) (L.on_step c to r.0 r.1 e);
    on_ask = λ c q resume a r e. ⊎_elim (λ w. inl (wrong-too A B R K r.0 a r.2 w)) (asks-too c q resume r.0 a r.2) (L.on_ask c q resume r.0 r.1 e);
    on_wrong = λ c a r e. wrong-too A B R K r.0 a r.2 (L.on_wrong c r.0 r.1 e);
  }

  -- moments are met through both
  pub both-met : (X : Moments A) (Y : Moments B) (Z : Moments C) (E : Meeting A B X Y) (F : Meeting B C Y Z) →
      AreMet A B R X Y E → AreMet B C Q Y Z F → AreMet A C P X Z (then_meets A B C X Y Z E F)
  both-met X Y Z E F e f c a r k = ⊎_elim (λ w. inl (wrong-too A B R K r.0 a r.2 w)) (λ (y : MeetsAt B C Y Z F c k r.0).
      ⊎_elim inl (λ (z : MeetsAt A B X Y E y.at y.moment a).
      inr (record { steps = z.steps; at = z.at; comes = z.comes; moment = z.moment; met = (y.at, y.moment, y.met, z.met) })) (met-later A B R K X Y E e y.steps r.0 y.at y.moment a r.2 y.comes)) (f c r.0 r.1 k)

-- a reading by other words for the same
pub reread : (S T : Machine) (R Q : Reading S T) → ((t : T.State) (s : S.State) → R.state t s → Q.state t s) → ((t : T.State) (s : S.State) → Q.state t s → R.state t s) → ((a : T.Ask) (b : S.Ask) → R.ask a b → Q.ask a b) → ((a : T.Answer) (b : S.Answer) → Q.answer a b → R.answer a b) →
    Matches S T R → Matches S T Q
reread S T R Q to from of_asks answers F = record {
  on_step = λ t u s r e. ⊎_elim inl (λ (y : Reaches S T R u s). inr (record { steps = y.steps; at = y.at; comes = y.comes; reads = to u y.at y.reads })) (F.on_step t u s (from t s r) e);
  on_ask = λ t a f s r e. ⊎_elim inl (λ (y : AsksAlike S T R t a f s). inr (record {
    steps = y.steps;
    waiting = y.waiting;
    comes = y.comes;
    ask = y.ask;
    resume = y.resume;
    asking = y.asking;
    reads = of_asks a y.ask y.reads;
    lawful = λ b c h l. y.lawful b c (answers b c h) l;
    after = λ b u c h l e. let m = y.after b u c (answers b c h) l e in (m.0, m.1, to u m.0 m.2);
  })) (F.on_ask t a f s (from t s r) e);
  on_wrong = λ t s r e. F.on_wrong t s (from t s r) e;
}
