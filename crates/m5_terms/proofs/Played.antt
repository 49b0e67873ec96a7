-- What matches plays along with its input, whatever lawful answers that gets; and fully, where the input is sound.
use Rattle.std.proofs.Common.{inl, inr, ⊎_elim, List, [], ◌∷◌, Option, refl, subst}
use Rattle.m5_terms.specs.Machine.{Machine, Exchange, GoesWrong, IsSound}
use Rattle.m5_terms.specs.Matching.{Reading, AsksAlike, Matches, Moments, Meeting, AreMet}
use Rattle.m5_terms.specs.Playing.{AsksToo, Acts, AnswersRead, IsFollowed, Plays, PlaysAlways, IsFollowedFully, PlaysFully, PlaysAlwaysFully}
use Rattle.m5_terms.proofs.Matched.{wrong-too, asked, met-later}

module _ (S T : Machine) (R : Reading S T) (X : Moments S) (Y : Moments T) (E : Meeting S T X Y) where
  module _ (F : Matches S T R) (G : AreMet S T R X Y E) where
    abbrev too : (t : T.State) (a : T.Ask) (resume : T.Answer → Option T.State) (s : S.State) → AsksAlike S T R t a resume s → AsksToo S T R a s
    too t a resume s y = record { steps = y.steps; waiting = y.waiting; comes = y.comes; ask = y.ask; resume = y.resume; asking = y.asking; reads = y.reads }

    followed : (t : T.State) (s : S.State) → R.state t s → IsFollowed S T R X Y E t s
    followed t s r = record {
      on_ask = λ n at a resume c e. ⊎_elim inl (λ y. inr (too at a resume s y)) (asked S T R F n t at a resume s r c e);
      on_wrong = wrong-too S T R F t s r;
      on_moment = λ n at m c. met-later S T R F X Y E G n t at m s r c;
    }

    plays : (xs : List (Exchange T)) (cs : List S.Answer) (t to : T.State) (s : S.State) → R.state t s → Acts T xs t to → AnswersRead S T R xs cs → Plays S T R X Y E xs cs to s
    plays [] [] t to s r a h = let k = subst (λ x. R.state x s) a r in (k, followed to s k)
    plays [] (c ∷ cs) t to s r a h = absurd h
    plays (x ∷ xs) [] t to s r a h = absurd h
    plays (x ∷ xs) (c ∷ cs) t to s r a h = ⊎_elim inl (λ (y : AsksAlike S T R a.1.waiting x.ask a.1.resume s). inr (
      too a.1.waiting x.ask a.1.resume s y,
      λ l.
          let m = y.after x.answer a.0 c h.0 l a.1.resumed in
          (m.0, m.1, plays xs cs a.0 to m.0 m.2 a.2 h.1),
    )) (asked S T R F a.1.steps t a.1.waiting x.ask a.1.resume s r a.1.comes a.1.asking)

    pub plays-always : (t : T.State) (s : S.State) → R.state t s → PlaysAlways S T R X Y E t s
    plays-always t s r xs cs to a h = plays xs cs t to s r a h

  -- a sound input does not go wrong
  never : (s : S.State) → IsSound S s → GoesWrong S s → ⊥
  never s h w = h (record { exchanges = []; at = s; behaves = refl; goes_wrong = w })

  followed-fully : (t : T.State) (s : S.State) → IsSound S s → IsFollowed S T R X Y E t s → IsFollowedFully S T R X Y E t s
  followed-fully t s h f = record {
    on_ask = λ n at a resume c e. ⊎_elim (λ w. absurd (never s h w)) (λ y. y) (f.on_ask n at a resume c e);
    right = λ w. never s h (f.on_wrong w);
    on_moment = λ n at m c. ⊎_elim (λ w. absurd (never s h w)) (λ y. y) (f.on_moment n at m c);
  }

  fully : (xs : List (Exchange T)) (cs : List S.Answer) (to : T.State) (s : S.State) → IsSound S s → Plays S T R X Y E xs cs to s → PlaysFully S T R X Y E xs cs to s
  fully [] [] to s h p = (p.0, followed-fully to s h p.1)
  fully [] (c ∷ cs) to s h p = absurd p
  fully (x ∷ xs) [] to s h p = absurd p
  fully (x ∷ xs) (c ∷ cs) to s h p = ⊎_elim (λ w. absurd (never s h w)) (λ q. (
    q.0,
    λ l.
        let m = q.1 l in
        let next : Exchange S = record { ask = q.0.ask; answer = c } in (
          m.0,
          m.1,
          fully xs cs to m.0 (λ w. h (record {
            exchanges = next ∷ w.exchanges;
            at = w.at;
            behaves = (m.0, record { steps = q.0.steps; waiting = q.0.waiting; comes = q.0.comes; resume = q.0.resume; asking = q.0.asking; lawful = l; resumed = m.1 }, w.behaves);
            goes_wrong = w.goes_wrong;
          })) m.2,
        ),
  )) p

  pub plays-fully : (t : T.State) (s : S.State) → IsSound S s → PlaysAlways S T R X Y E t s → PlaysAlwaysFully S T R X Y E t s
  plays-fully t s h p xs cs to a k = fully xs cs to s h (p xs cs to a k)
