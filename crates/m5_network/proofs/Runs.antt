-- Prefixes of runs, runs that go on, and what the places determine, over any kind of sites.
use Rattle.std.proofs.Common.{◌≡◌, ℕ, zero, suc, Option, Some, None, [], ◌∷◌, refl, sym, ap, subst, ◌∙◌}
use Rattle.m5_terms.specs.declared.ask.AskOf.{AskOf}
use Rattle.m5_terms.specs.declared.ask.AnswerOf.{AnswerOf}
use Rattle.m5_terms.specs.declared.ask.Cause.{Cause}
use Rattle.m5_terms.specs.declared.types.World.{World}
use Rattle.m5_terms.specs.Machine.{Next, goes, asks, Comes}
use Rattle.m5_network.specs.Board.{answer_of}
use Rattle.m5_network.specs.Entries.{Deed}
use Rattle.m5_network.specs.Kinds.{Kind, NetworkOf, NetOf, Place, IsAnswered, MakesDeed, RunOf, with_site}
use Rattle.m5_network.specs.Laws.{PrefixIsRun, PlacesDetermine, RunsCompose}

pub prefix : (K : Kind) → PrefixIsRun K
prefix K n N M [] qs ds r = (N, [], ds, refl, refl, r)
prefix K n N M (p ∷ ps) qs [] r = absurd r
prefix K n N M (p ∷ ps) qs (d ∷ ds) r =
    let rest = prefix K n r.0 M ps qs ds r.2 in
    (rest.0, d ∷ rest.1, rest.2, ap (λ xs. d ∷ xs) rest.3, (r.0, r.1, rest.4), rest.5)

pub compose : (K : Kind) → RunsCompose K
compose K n N L M [] qs [] es r s = subst (λ X. RunOf K n X qs es M) r s
compose K n N L M [] qs (d ∷ ds) es r s = absurd r
compose K n N L M (p ∷ ps) qs [] es r s = absurd r
compose K n N L M (p ∷ ps) qs (d ∷ ds) es r s = (r.0, r.1, compose K n r.0 L M ps qs ds es r.2 s)

-- a machine has one first ask
pub first_ask : (State Ask Answer : Type 0) (next : State → Next State Ask Answer) (n m : ℕ) (s t u : State) (q p : Ask) (f g : Answer → Option State) →
    Comes next n s t → next t ≡ asks q f → Comes next m s u → next u ≡ asks p g → asks q f ≡ asks p g
first_ask State Ask Answer next zero zero s t u q p f g c a d b = sym a ∙ ap next (sym c ∙ d) ∙ b
first_ask State Ask Answer next zero (suc m) s t u q p f g c a d b = let e : next s ≡ asks q f = ap next c ∙ a in let h = d.1 in cc
first_ask State Ask Answer next (suc n) zero s t u q p f g c a d b = let e : next s ≡ asks p g = ap next d ∙ b in let h = c.1 in cc
first_ask State Ask Answer next (suc n) (suc m) s t u q p f g c a d b =
    let same : c.0 ≡ d.0 = goes-inj (next s) c.0 d.0 c.1 d.1 in
    first_ask State Ask Answer next n m c.0 t u q p f g c.2 a (subst (λ x. Comes next m x u) (sym same) d.2) b
  where
    goes-inj : (n : Next State Ask Answer) (x y : State) → n ≡ goes x → n ≡ goes y → x ≡ y
    goes-inj n x y d e = cc

asks-inj : (State Ask Answer : Type 0) (q p : Ask) (f g : Answer → Option State) → asks q f ≡ asks p g → (q ≡ p) × (f ≡ g)
asks-inj State Ask Answer q p f g e = (cc, cc)

some-inj : (A : Type 0) (a b : A) → Some a ≡ Some b → a ≡ b
some-inj A a b e = cc

deed-ext : (Item : Type 0) (d e : Deed Item) → d.session ≡ e.session → d.world ≡ e.world → d.query ≡ e.query → d.reply ≡ e.reply → d ≡ e
deed-ext Item d e p q r s = λ i. record { session = p i; world = q i; query = r i; reply = s i }

answered-once : (State Item : Type 0) (next : State → Next State (AskOf Item) (AnswerOf Item)) (N L M : NetworkOf State Item) (s : ℕ) (w : World) (d e : Deed Item) → IsAnswered next N s w d L → IsAnswered next N s w e M → (d ≡ e) × (L ≡ M)
answered-once State Item next N L M s w d e a b =
    let both = asks-inj State (AskOf Item) (AnswerOf Item) d.query e.query a.resume b.resume (first_ask State (AskOf Item) (AnswerOf Item) next a.next.steps b.next.steps (N.site s w) a.next.waiting b.next.waiting d.query e.query a.resume b.resume a.next.comes a.next.asking b.next.comes b.next.asking) in
    let replies : d.reply ≡ e.reply = a.reply ∙ ap (λ q. (answer_of N.board s w q).reply) both.0 ∙ sym b.reply in
    let sites : a.site ≡ b.site = some-inj State a.site b.site (sym a.resumed ∙ (λ i. both.1 i (replies i)) ∙ b.resumed) in (
      deed-ext Item d e (a.session ∙ sym b.session) (a.world ∙ sym b.world) both.0 replies,
      a.after ∙ (λ i. with_site s w (sites i) (answer_of N.board s w (both.0 i)).board N) ∙ sym b.after,
    )

made-once : (K : Kind) (N L M : NetOf K) (p : Place) (c : Option Cause) (d e : Deed K.Item) → MakesDeed K N p d L c → MakesDeed K N p e M c → (d ≡ e) × (L ≡ M)
made-once K N L M p None d e a b = answered-once K.State K.Item (K.next p.session p.world) N L M p.session p.world d e a b
made-once K N L M p (Some c) d e a b = (a.deed ∙ sym b.deed, a.after ∙ sym b.after)

pub determine : (K : Kind) → PlacesDetermine K
determine K n N L M [] [] [] r s = (refl, r ∙ sym s)
determine K n N L M [] (d ∷ ds) es r s = absurd r
determine K n N L M [] [] (e ∷ es) r s = absurd s
determine K n N L M (p ∷ ps) [] es r s = absurd r
determine K n N L M (p ∷ ps) (d ∷ ds) [] r s = absurd s
determine K n N L M (p ∷ ps) (d ∷ ds) (e ∷ es) r s =
    let first = made-once K N r.0 s.0 p p.cause d e r.1.makes s.1.makes in
    let rest = determine K n r.0 L M ps ds es r.2 (subst (λ X. RunOf K n X ps es M) (sym first.1) s.2) in
    ((λ i. first.0 i ∷ rest.0 i), rest.1)
