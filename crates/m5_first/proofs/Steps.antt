-- Local steps of a site's front thread while it evaluates a text.
use Rattle.std.proofs.Common.{◌≡◌, ℕ, zero, suc, ◌+◌, List, ◌∷◌, ◌++◌, length, Some, refl, sym, ◌∙◌, subst}
use Rattle.std.specs.Fmt.{signed_decimal}
use Rattle.m5_terms.specs.Expression.{Expression, leaf, unary, binary}
use Rattle.m5_terms.specs.Machine.{goes, Comes}
use Rattle.m5_terms.specs.declared.types.World.{World}
use Rattle.m5_terms.specs.declared.types.Op.TheVariants as op
use Rattle.m5_terms.specs.declared.form.LeafForm.TheVariants as leaf_form
use Rattle.m5_terms.specs.declared.form.UnaryForm.TheVariants as unary_form
use Rattle.m5_terms.specs.declared.form.BinaryForm.TheVariants as binary_form
use Rattle.m5_terms.specs.declared.thread.Frame.{Frame}
use Rattle.m5_terms.specs.declared.thread.Frame.TheVariants.{Part}
use Rattle.m5_terms.specs.declared.thread.Focus.TheVariants.{Eval, Returned}
use Rattle.m5_meaning.specs.Site.{Program, Thread, Site}
use Rattle.m5_meaning.specs.Step.{site_next, thread_of, step_weight}
use Rattle.m5_first.specs.Says.{number_text}
use Rattle.m5_first.proofs.Closing.{text_value}

abbrev pub with_threads : Site → List Thread → Site
with_threads s ts = record s { threads = ts }

-- one step more
abbrev pub after_step : Program → ℕ → Site → Site
after_step P made s = record s { steps = s.steps + 1; weight = s.weight + step_weight P made }

-- steps one after the other
pub comes-trans : (P : Program) (u : World) (n m : ℕ) (a b c : Site) → Comes (site_next P u) n a b → Comes (site_next P u) m b c → (k : ℕ) × Comes (site_next P u) k a c
comes-trans P u zero m a b c p q = (m, subst (λ s. Comes (site_next P u) m s c) (sym p) q)
comes-trans P u (suc n) m a b c p q = let rest = comes-trans P u n m p.0 b c p.2 q in (suc rest.0, (p.0, p.1, rest.1))

-- a site that is not stopped goes from these threads to those
abbrev pub Leads : Program → World → Site → List Thread → List Thread → Type 0
Leads P u s before after = (n : ℕ) × (t : Site) × Comes (site_next P u) n (with_threads s before) (with_threads t after) × (t.stopped ≡ s.stopped)

-- one step
pub one : (P : Program) (u : World) (s : Site) (before after : List Thread) (made : ℕ)
    → site_next P u (with_threads s before) ≡ goes (with_threads (after_step P made s) after) → Leads P u s before after
one P u s before after made e = (1, after_step P made s, (with_threads (after_step P made s) after, e, refl), refl)

pub and-then : (P : Program) (u : World) (s : Site) (a b c : List Thread) → Leads P u s a b → ((t : Site) → Leads P u t b c) → Leads P u s a c
and-then P u s a b c p q =
    let r = q p.1 in
    let joined = comes-trans P u p.0 r.0 _ _ _ p.2 r.2 in
    (joined.0, r.1, joined.1, r.3 ∙ p.3)

-- ---- a text is evaluated

abbrev pub eval : List Frame → World → Expression → List Thread → List Thread
eval fs w e ts = thread_of fs (Eval w e) ∷ ts

abbrev pub back : List Frame → World → List ℕ → List Thread → List Thread
back fs w t ts = thread_of fs (Returned w (text_value t)) ∷ ts

abbrev pub cat : Expression → Expression → Expression
cat a b = binary (binary_form.Binary op.Cat) a b

-- a text is returned
pub literal : (P : Program) (u w : World) (s : Site) (fs : List Frame) (ts : List Thread) (t : List ℕ) → Leads P u s (eval fs w (text_value t) ts) (back fs w t ts)
literal P u w s fs ts t = one P u s _ _ (length t) refl

pub number : (P : Program) (u w : World) (s : Site) (fs : List Frame) (ts : List Thread) (a : Expression) (t : List ℕ)
    → number_text a ≡ Some t → Leads P u s (eval fs w (unary unary_form.StrOf a) ts) (back fs w t ts)
number P u w s fs ts (leaf (leaf_form.Int n)) t e =
    let N = leaf (leaf_form.Int n) in
    let frame = Part w (unary unary_form.StrOf N) 0 in
    let made : signed_decimal n ≡ t = cc in
    subst (λ r. Leads P u s (eval fs w (unary unary_form.StrOf N) ts) (back fs w r ts)) made
    (and-then P u s _ (eval (frame ∷ fs) w N ts) _ (one P u s _ _ 0 refl) (λ s1.
    and-then P u s1 _ (thread_of (frame ∷ fs) (Returned w N) ∷ ts) _ (one P u s1 _ _ 0 refl) (λ s2.
    one P u s2 _ _ (length (signed_decimal n)) refl)))
number P u w s fs ts _ t e = cc

-- both texts are evaluated, the first one first, and then joined
pub joined : (P : Program) (u w : World) (s : Site) (fs : List Frame) (ts : List Thread) (a b : Expression) (x y : List ℕ)
    → ((s : Site) (fs : List Frame) → Leads P u s (eval fs w a ts) (back fs w x ts))
    → ((s : Site) (fs : List Frame) → Leads P u s (eval fs w b ts) (back fs w y ts))
    → Leads P u s (eval fs w (cat a b) ts) (back fs w (x ++ y) ts)
joined P u w s fs ts a b x y first second =
    let outer = Part w (cat a b) 0 in
    let inner = Part w (cat (text_value x) b) 1 in
    and-then P u s _ (eval (outer ∷ fs) w a ts) _ (one P u s _ _ 0 refl) (λ s1.
    and-then P u s1 _ (back (outer ∷ fs) w x ts) _ (first s1 (outer ∷ fs)) (λ s2.
    and-then P u s2 _ (eval (inner ∷ fs) w b ts) _ (one P u s2 _ _ 0 refl) (λ s3.
    and-then P u s3 _ (back (inner ∷ fs) w y ts) _ (second s3 (inner ∷ fs)) (λ s4.
    one P u s4 _ _ (length (x ++ y)) refl))))
