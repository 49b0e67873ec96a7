-- A term that stands for a text, closed, evaluates to that text.
use Rattle.std.proofs.Common.{◌≡◌, ℕ, List, [], ◌++◌, Option, Some, None, refl, subst}
use Rattle.m5_terms.specs.Expression.{Expression, leaf, unary, binary, ternary}
use Rattle.m5_terms.specs.declared.types.World.{World}
use Rattle.m5_terms.specs.declared.types.Op.TheVariants as op
use Rattle.m5_terms.specs.declared.form.LeafForm.{LeafForm}
use Rattle.m5_terms.specs.declared.form.LeafForm.TheVariants as leaf_form
use Rattle.m5_terms.specs.declared.form.UnaryForm.{UnaryForm}
use Rattle.m5_terms.specs.declared.form.UnaryForm.TheVariants as unary_form
use Rattle.m5_terms.specs.declared.form.BinaryForm.{BinaryForm}
use Rattle.m5_terms.specs.declared.form.BinaryForm.TheVariants as binary_form
use Rattle.m5_terms.specs.declared.thread.Frame.{Frame}
use Rattle.m5_meaning.specs.Site.{Program, Thread, Site}
use Rattle.m5_first.specs.Says.{Texts, text_of, leaf_text, unary_text, number_text, binary_text, both}
use Rattle.m5_first.proofs.Closing.{close, close_leaf, text_value, text_or, without}
use Rattle.m5_first.proofs.Steps.{Leads, eval, back, cat, literal, number, joined}

-- the term, closed, goes to the text
abbrev pub Evaluates : Program → World → Expression → List ℕ → Type 0
Evaluates P u e t = (s : Site) (fs : List Frame) (ts : List Thread) → Leads P u s (eval fs u e ts) (back fs u t ts)

variable : (P : Program) (u : World) (x : ℕ) (found : Option (List ℕ)) (t : List ℕ) → found ≡ Some t → Evaluates P u (text_or found (leaf (leaf_form.Var x))) t
variable P u x None t e = cc
variable P u x (Some r) t e = λ s fs ts. let same : r ≡ t = cc in subst (λ q. Leads P u s (eval fs u (text_value r) ts) (back fs u q ts)) same (literal P u u s fs ts r)

leaf-evaluates : (P : Program) (u : World) (env : Texts) (f : LeafForm) (t : List ℕ) → leaf_text env f ≡ Some t → Evaluates P u (close_leaf env f) t
leaf-evaluates P u env (leaf_form.Str r) t e = variable P u 0 (Some r) t e
leaf-evaluates P u env (leaf_form.Var x) t e = variable P u x (env x) t e
leaf-evaluates P u env _ t e = cc

-- a number has no variables
number-closed : (env : Texts) (a : Expression) (t : List ℕ) → number_text a ≡ Some t → number_text (close env a) ≡ Some t
number-closed env (leaf (leaf_form.Int n)) t e = e
number-closed env _ t e = cc

unary-evaluates : (P : Program) (u : World) (env : Texts) (f : UnaryForm) (a : Expression) (t : List ℕ) → unary_text f a ≡ Some t → Evaluates P u (close env (unary f a)) t
unary-evaluates P u env unary_form.StrOf a t e = λ s fs ts. number P u u s fs ts (close (without [] env) a) t (number-closed (without [] env) a t e)
unary-evaluates P u env _ a t e = cc

both-parts : (P : Program) (u : World) (a b : Expression) (x y : Option (List ℕ)) (t : List ℕ)
    → ((r : List ℕ) → x ≡ Some r → Evaluates P u a r) → ((r : List ℕ) → y ≡ Some r → Evaluates P u b r) → both x y ≡ Some t → Evaluates P u (cat a b) t
both-parts P u a b (Some r) (Some q) t first second e = λ s fs ts.
    let same : r ++ q ≡ t = cc in
    subst (λ z. Leads P u s (eval fs u (cat a b) ts) (back fs u z ts)) same (joined P u u s fs ts a b r q (λ s1 fs1. first r refl s1 fs1 ts) (λ s1 fs1. second q refl s1 fs1 ts))
both-parts P u a b None y t first second e = cc
both-parts P u a b (Some r) None t first second e = cc

-- an operator binds nothing
binary-evaluates : (P : Program) (u : World) (env : Texts) (f : BinaryForm) (a b : Expression) (x y : Option (List ℕ)) (t : List ℕ)
    → ((r : List ℕ) → x ≡ Some r → Evaluates P u (close env a) r) → ((r : List ℕ) → y ≡ Some r → Evaluates P u (close env b) r)
    → binary_text f x y ≡ Some t → Evaluates P u (close env (binary f a b)) t
binary-evaluates P u env (binary_form.Binary op.Cat) a b x y t first second e = both-parts P u (close env a) (close env b) x y t first second e
binary-evaluates P u env _ a b x y t first second e = cc

pub evaluates : (P : Program) (u : World) (env : Texts) (e : Expression) (t : List ℕ) → text_of env e ≡ Some t → Evaluates P u (close env e) t
evaluates P u env (leaf f) t e = leaf-evaluates P u env f t e
evaluates P u env (unary f a) t e = unary-evaluates P u env f a t e
evaluates P u env (binary f a b) t e = binary-evaluates P u env f a b (text_of env a) (text_of env b) t (λ r h. evaluates P u env a r h) (λ r h. evaluates P u env b r h) e
evaluates P u env (ternary f a b c) t e = cc
