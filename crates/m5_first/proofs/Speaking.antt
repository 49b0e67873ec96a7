-- A term of the first form, closed, goes on to unit and asks to say its texts on the way.
use Rattle.std.proofs.Common.{◌≡◌, ℕ, List, [], ◌∷◌, ◌++◌, Option, Some, None, refl, ◌∙◌, subst}
use Rattle.m5_terms.specs.Expression.{Expression, leaf, unary, binary, ternary}
use Rattle.m5_terms.specs.Machine.{asks, Comes}
use Rattle.m5_terms.specs.declared.ask.AskOf.TheVariants as ask
use Rattle.m5_terms.specs.declared.ask.AnswerOf.{AnswerOf}
use Rattle.m5_terms.specs.declared.ask.AnswerOf.TheVariants as answer
use Rattle.m5_terms.specs.declared.types.World.{World}
use Rattle.m5_terms.specs.declared.types.Primitive.TheVariants as primitive
use Rattle.m5_terms.specs.declared.form.LeafForm.{LeafForm}
use Rattle.m5_terms.specs.declared.form.LeafForm.TheVariants as leaf_form
use Rattle.m5_terms.specs.declared.form.BinaryForm.{BinaryForm}
use Rattle.m5_terms.specs.declared.form.BinaryForm.TheVariants as binary_form
use Rattle.m5_terms.specs.declared.thread.Frame.{Frame}
use Rattle.m5_terms.specs.declared.thread.Frame.TheVariants.{Part}
use Rattle.m5_terms.specs.declared.thread.Focus.TheVariants.{Returned}
use Rattle.m5_meaning.specs.Site.{Program, Thread, Site, Item}
use Rattle.m5_meaning.specs.Reduction.{unit_value}
use Rattle.m5_meaning.specs.Step.{site_next, thread_of}
use Rattle.m5_first.specs.Says.{Texts, with_text, text_of, both, Sayings, says_leaf, said, says_with, says_binary, says_of}
use Rattle.m5_first.proofs.Closing.{close, substituted-close}
use Rattle.m5_first.proofs.Steps.{Leads, with_threads, after_step, comes-trans, one, and-then, eval, back}
use Rattle.m5_first.proofs.Texts.{Evaluates, evaluates}

-- a site that asks to say the text, and its threads after the answer
pub record Says (P : Program) (u : World) (s : Site) (before : List Thread) (t : List ℕ) (after_site : Site) (after : List Thread) : Type 0 where
  pub steps : ℕ
  pub waiting : Site
  pub comes : Comes (site_next P u) steps (with_threads s before) waiting
  pub resume : AnswerOf Item → Option Site
  pub asking : site_next P u waiting ≡ asks (ask.Say t) resume
  pub resumed : resume answer.Done ≡ Some (with_threads after_site after)
  pub stopped : after_site.stopped ≡ s.stopped

-- the site asks to say the texts, one after the other, and goes from these threads to those
abbrev pub Speaks : Program → World → Site → List Thread → List (List ℕ) → List Thread → Type 0
Speaks P u s before [] after = Leads P u s before after
Speaks P u s before (t ∷ ls) after = (s1 : Site) × (mid : List Thread) × Says P u s before t s1 mid × Speaks P u s1 mid ls after

pub after-steps : (P : Program) (u : World) (s : Site) (a b c : List Thread) (ls : List (List ℕ)) → Leads P u s a b → ((t : Site) → Speaks P u t b ls c) → Speaks P u s a ls c
after-steps P u s a b c [] p q = and-then P u s a b c p q
after-steps P u s a b c (t ∷ ls) p q =
    let r = q p.1 in
    let joined = comes-trans P u p.0 r.2.steps _ _ _ p.2 r.2.comes in
    (r.0, r.1, record { steps = joined.0; waiting = r.2.waiting; comes = joined.1; resume = r.2.resume; asking = r.2.asking; resumed = r.2.resumed; stopped = r.2.stopped ∙ p.3 }, r.3)

pub both-speak : (P : Program) (u : World) (s : Site) (a b c : List Thread) (ls ms : List (List ℕ)) → Speaks P u s a ls b → ((t : Site) → Speaks P u t b ms c) → Speaks P u s a (ls ++ ms) c
both-speak P u s a b c [] ms p q = after-steps P u s a b c ms p q
both-speak P u s a b c (t ∷ ls) ms p q = (p.0, p.1, p.2, both-speak P u p.0 p.1 b c ls ms p.3 q)

-- unit is returned
abbrev pub ended : List Frame → World → List Thread → List Thread
ended fs w ts = thread_of fs (Returned w unit_value) ∷ ts

abbrev pub SpeaksIn : Program → World → Expression → List (List ℕ) → Type 0
SpeaksIn P u e ls = (s : Site) (fs : List Frame) (ts : List Thread) → Speaks P u s (eval fs u e ts) ls (ended fs u ts)

leaf-speaks : (P : Program) (u : World) (env : Texts) (f : LeafForm) (ls : List (List ℕ)) → says_leaf f ≡ Some ls → SpeaksIn P u (close env (leaf f)) ls
leaf-speaks P u env leaf_form.Unit [] e = λ s fs ts. one P u s _ _ 0 refl
leaf-speaks P u env leaf_form.Unit (l ∷ ls) e = cc
leaf-speaks P u env _ ls e = cc

abbrev say_call : Expression → Expression
say_call a = binary binary_form.Call (leaf (leaf_form.Extern primitive.Say)) a

call-speaks : (P : Program) (u : World) (a : Expression) (t : List ℕ) → Evaluates P u a t → SpeaksIn P u (say_call a) (t ∷ [])
call-speaks P u a t text = λ s fs ts.
    let say_it = leaf (leaf_form.Extern primitive.Say) in
    let outer = Part u (say_call a) 0 in
    let inner = Part u (say_call a) 1 in
    after-steps P u s _ (eval (outer ∷ fs) u say_it ts) _ (t ∷ []) (one P u s _ _ 0 refl) (λ s1.
    after-steps P u s1 _ (thread_of (outer ∷ fs) (Returned u say_it) ∷ ts) _ (t ∷ []) (one P u s1 _ _ 0 refl) (λ s2.
    after-steps P u s2 _ (eval (inner ∷ fs) u a ts) _ (t ∷ []) (one P u s2 _ _ 0 refl) (λ s3.
    after-steps P u s3 _ (back (inner ∷ fs) u t ts) _ (t ∷ []) (text s3 (inner ∷ fs) ts) (λ s4. (
      after_step P 0 s4,
      ended fs u ts,
      record { steps = 0; waiting = with_threads s4 (back (inner ∷ fs) u t ts); comes = refl; resume = _; asking = refl; resumed = refl; stopped = refl },
      (0, after_step P 0 s4, refl, refl),
    )))))

said-speaks : (P : Program) (u : World) (env : Texts) (a b : Expression) (found : Option (List ℕ)) (ls : List (List ℕ))
    → ((t : List ℕ) → found ≡ Some t → Evaluates P u (close env b) t) → said a found ≡ Some ls → SpeaksIn P u (close env (binary binary_form.Call a b)) ls
said-speaks P u env (leaf (leaf_form.Extern primitive.Say)) b (Some t) ls text e =
    let same : t ∷ [] ≡ ls = cc in
    subst (SpeaksIn P u (close env (say_call b))) same (call-speaks P u (close env b) t (text t refl))
said-speaks P u env (leaf (leaf_form.Extern primitive.Say)) b None ls text e = cc
said-speaks P u env _ b found ls text e = cc

do-speaks : (P : Program) (u : World) (a b : Expression) (x y : Sayings) (ls : List (List ℕ))
    → ((r : List (List ℕ)) → x ≡ Some r → SpeaksIn P u a r) → ((r : List (List ℕ)) → y ≡ Some r → SpeaksIn P u b r)
    → both x y ≡ Some ls → SpeaksIn P u (binary binary_form.Do a b) ls
do-speaks P u a b (Some r) (Some q) ls first second e = λ s fs ts.
    let same : r ++ q ≡ ls = cc in
    let frame = Part u (binary binary_form.Do a b) 0 in
    subst (λ z. Speaks P u s (eval fs u (binary binary_form.Do a b) ts) z (ended fs u ts)) same
    (after-steps P u s _ (eval (frame ∷ fs) u a ts) _ (r ++ q) (one P u s _ _ 0 refl) (λ s1.
    both-speak P u s1 _ (ended (frame ∷ fs) u ts) _ r q (first r refl s1 (frame ∷ fs) ts) (λ s2.
    after-steps P u s2 _ (eval fs u b ts) _ q (one P u s2 _ _ 0 refl) (λ s3.
    second q refl s3 fs ts))))
do-speaks P u a b None y ls first second e = cc
do-speaks P u a b (Some r) None ls first second e = cc

val-speaks : (P : Program) (u : World) (env : Texts) (x : ℕ) (a b : Expression) (found : Option (List ℕ)) (ls : List (List ℕ))
    → ((t : List ℕ) → found ≡ Some t → Evaluates P u (close env a) t)
    → ((inner : Texts) (r : List (List ℕ)) → says_of inner b ≡ Some r → SpeaksIn P u (close inner b) r)
    → says_with x found env (λ inner. says_of inner b) ≡ Some ls → SpeaksIn P u (close env (binary (binary_form.Val x) a b)) ls
val-speaks P u env x a b None ls text rest e = cc
val-speaks P u env x a b (Some t) ls text rest e = λ s fs ts.
    let frame = Part u (close env (binary (binary_form.Val x) a b)) 0 in
    after-steps P u s _ (eval (frame ∷ fs) u (close env a) ts) _ ls (one P u s _ _ 0 refl) (λ s1.
    after-steps P u s1 _ (back (frame ∷ fs) u t ts) _ ls (text t refl s1 (frame ∷ fs) ts) (λ s2.
    after-steps P u s2 _ (eval fs u (close (with_text x t env) b) ts) _ ls
    (subst (λ z. Leads P u s2 (back (frame ∷ fs) u t ts) (eval fs u z ts)) (substituted-close b x t env) (one P u s2 _ _ 0 refl)) (λ s3.
    rest (with_text x t env) ls e s3 fs ts)))

binary-speaks : (P : Program) (u : World) (env : Texts) (f : BinaryForm) (a b : Expression) (ls : List (List ℕ))
    → ((r : List (List ℕ)) → says_of env a ≡ Some r → SpeaksIn P u (close env a) r)
    → ((inner : Texts) (r : List (List ℕ)) → says_of inner b ≡ Some r → SpeaksIn P u (close inner b) r)
    → says_binary env f a (text_of env a) (text_of env b) (says_of env a) (λ inner. says_of inner b) ≡ Some ls → SpeaksIn P u (close env (binary f a b)) ls
binary-speaks P u env binary_form.Call a b ls first rest e = said-speaks P u env a b (text_of env b) ls (λ t h. evaluates P u env b t h) e
binary-speaks P u env binary_form.Do a b ls first rest e = do-speaks P u (close env a) (close env b) (says_of env a) (says_of env b) ls first (rest env) e
binary-speaks P u env (binary_form.Val x) a b ls first rest e = val-speaks P u env x a b (text_of env a) ls (λ t h. evaluates P u env a t h) rest e
binary-speaks P u env _ a b ls first rest e = cc

pub speaks : (P : Program) (u : World) (env : Texts) (e : Expression) (ls : List (List ℕ)) → says_of env e ≡ Some ls → SpeaksIn P u (close env e) ls
speaks P u env (leaf f) ls e = leaf-speaks P u env f ls e
speaks P u env (unary f a) ls e = cc
speaks P u env (binary f a b) ls e = binary-speaks P u env f a b ls (λ r h. speaks P u env a r h) (λ inner r h. speaks P u inner b r h) e
speaks P u env (ternary f a b c) ls e = cc
