-- The code of each typed node of a text fits, and so do the blocks of a program.
use Rattle.std.proofs.Common.{◌≡◌, inl, ℕ, zero, suc, ◌&&◌, IsTrue, List, [], ◌∷◌, map, Some, None, refl, sym, ap, arith, slice_get, true≢false}
use mathlib.Core.Path.{fun_ext}
use Rattle.m5_terms.specs.Expression.{Expression, leaf, unary, binary, ternary}
use Rattle.m5_terms.specs.TypeExpression.{unit}
use Rattle.m5_terms.specs.declared.types.World.TheVariants.{Home}
use Rattle.m5_terms.specs.declared.form.UnaryForm.{UnaryForm}
use Rattle.m5_terms.specs.declared.form.UnaryForm.TheVariants as unary_form
use Rattle.m5_terms.specs.declared.form.BinaryForm.{BinaryForm}
use Rattle.m5_terms.specs.declared.form.BinaryForm.TheVariants as binary_form
use Rattle.m5_terms.specs.declared.form.TernaryForm.{TernaryForm}
use Rattle.m5_terms.specs.declared.form.TernaryForm.TheVariants as ternary_form
use Rattle.m5_typing.specs.Context.{local, Setting, nothing, with}
use Rattle.m5_typing.proofs.Mobile.{both-left, both-right}
use Rattle.m5_cps.specs.Entries.{only, by_call, main_entry}
use Rattle.m5_cps.specs.Values.{put}
use Rattle.m5_cps.specs.Slots.{no_slots, entry_slots}
use Rattle.m5_cps.specs.Fits.{Fits}
use Rattle.m5_cps_convert.specs.Continuations.{Tail, thread_end}
use Rattle.m5_cps_convert.proofs.TypedSlots.{vars_with}
use Rattle.m5_cps_convert.proofs.TypedKonts.{Fit, leaf_fit}
use Rattle.m5_terms.specs.InText.{unary_in_text}
use Rattle.m5_typing.specs.Program.{in_text, ProgramTerm, IsProgram, FunctionTyped, declared_bound, bound_at}
use Rattle.m5_typing.specs.Program as source
use Rattle.m5_typing.specs.declared.functions.Function.{Function}
use Rattle.m5_cps.specs.Program as blocks
use Rattle.m5_cps_convert.specs.Convert.{function_code, function_block, main_code, program_blocks}
use Rattle.m5_cps_convert.proofs.TypedForms.{fst_fit, snd_fit, text_fit, div_fit, new_fit, load_fit, hold_fit, inl_fit, inr_fit, sham_fit, pair_fit, cons_fit, store_fit, operator_fit}
use Rattle.m5_cps_convert.proofs.TypedBinding.{fn_fit, rec_fit, spawn_fit, call_fit, do_fit, val_fit, put_fit, leta_fit, lets_fit}
use Rattle.m5_cps_convert.proofs.TypedChoices.{if_fit, sum_fit, list_fit}
use Rattle.m5_cps_convert.proofs.TypedGets.{get_fit}

module _ (E : Setting) where
  unary_fit : (f : UnaryForm) (a : Expression) → IsTrue (unary_in_text f) → Fit E a → Fit E (unary f a)
  unary_fit (unary_form.Fn x C) a t ua = fn_fit E x C a ua
  unary_fit (unary_form.Rec f x C B) a t ua = rec_fit E f x C B a ua
  unary_fit unary_form.Fst a t ua = fst_fit E a ua
  unary_fit unary_form.Snd a t ua = snd_fit E a ua
  unary_fit (unary_form.Inl T) a t ua = inl_fit E T a ua
  unary_fit (unary_form.Inr T) a t ua = inr_fit E T a ua
  unary_fit unary_form.StrOf a t ua = text_fit E a ua
  unary_fit unary_form.Div a t ua = div_fit E a ua
  unary_fit unary_form.NewCell a t ua = new_fit E a ua
  unary_fit unary_form.Load a t ua = load_fit E a ua
  unary_fit unary_form.Hold a t ua = hold_fit E a ua
  unary_fit (unary_form.Held v) a t ua = absurd (true≢false (sym t))
  unary_fit unary_form.Sham a t ua = sham_fit E a ua
  unary_fit unary_form.Spawn a t ua = spawn_fit E a ua

  binary_fit : (f : BinaryForm) (a c : Expression) → Fit E a → Fit E c → Fit E (binary f a c)
  binary_fit binary_form.Call a c ua uc = call_fit E a c ua uc
  binary_fit binary_form.Pair a c ua uc = pair_fit E a c ua uc
  binary_fit binary_form.Cons a c ua uc = cons_fit E a c ua uc
  binary_fit binary_form.Store a c ua uc = store_fit E a c ua uc
  binary_fit binary_form.Do a c ua uc = do_fit E a c ua uc
  binary_fit binary_form.Get a c ua uc = get_fit E a c ua uc
  binary_fit (binary_form.Binary o) a c ua uc = operator_fit E o a c ua uc
  binary_fit (binary_form.Val z) a c ua uc = val_fit E z a c ua uc
  binary_fit (binary_form.Put z) a c ua uc = put_fit E z a c ua uc
  binary_fit (binary_form.Leta z) a c ua uc = leta_fit E z a c ua uc
  binary_fit (binary_form.Lets z) a c ua uc = lets_fit E z a c ua uc

  ternary_fit : (f : TernaryForm) (a c e : Expression) → Fit E a → Fit E c → Fit E e → Fit E (ternary f a c e)
  ternary_fit ternary_form.If a c e ua uc ue = if_fit E a c e ua uc ue
  ternary_fit (ternary_form.CaseSum y z) a c e ua uc ue = sum_fit E y z a c e ua uc ue
  ternary_fit (ternary_form.CaseList y z) a c e ua uc ue = list_fit E y z a c e ua uc ue

  pub fit : (e : Expression) → IsTrue (in_text e) → Fit E e
  fit (leaf f) t = leaf_fit E f
  fit (unary f a) t = unary_fit f a (both-left (unary_in_text f) (in_text a) t) (fit a (both-right (unary_in_text f) (in_text a) t))
  fit (binary f a c) t = binary_fit f a c (fit a (both-left (in_text a) (in_text c) t)) (fit c (both-right (in_text a) (in_text c) t))
  fit (ternary f a c e) t =
      let u = both-right (in_text a) (in_text c && in_text e) t in
      ternary_fit f a c e (fit a (both-left (in_text a) (in_text c && in_text e) t)) (fit c (both-left (in_text c) (in_text e) u)) (fit e (both-right (in_text c) (in_text e) u))

-- the blocks know of the declared functions what the program does
bound_same : (E : Setting) (gs : List Function) (f : ℕ) → blocks.block_bound (slice_get (map (function_block E) gs) f) ≡ declared_bound (slice_get gs f)
bound_same E [] f = refl
bound_same E (g ∷ gs) zero = refl
bound_same E (g ∷ gs) (suc f) = bound_same E gs f

pub setting_same : (P : ProgramTerm) → source.setting_of P.functions ≡ blocks.setting_of (program_blocks P)
setting_same P = ap (λ h. record { functions = h; cells = λ w. [] }) (fun_ext (λ f. sym (bound_same (source.setting_of P.functions) P.functions f)))

pub function_fits : (P : ProgramTerm) (g : Function) → IsTrue (in_text g.body) → FunctionTyped P.functions g →
    Fits (source.setting_of P.functions) g.world 3 (entry_slots (by_call (only g.world) g.ty g.result) 0 no_slots) (function_code (source.setting_of P.functions) g)
function_fits P g t d =
    fit (source.setting_of P.functions) g.body t (only g.world) g.world (with g.parameter (Some (local g.world g.ty)) nothing) g.result (put g.parameter (Some 1) (λ x. None)) 0 (entry_slots (by_call (only g.world) g.ty g.result) 0 no_slots) 3 (Tail 2) refl d.body
    (vars_with g.world nothing (λ x. None) (entry_slots (by_call (only g.world) g.ty g.result) 0 no_slots) 3 g.parameter 1 (local g.world g.ty) (omega arith) (only g.world, refl, inl refl) (λ x b e u. absurd (cc)))
    (omega arith, (only g.world, refl, inl refl))

pub main_fits : (P : ProgramTerm) → IsProgram P → Fits (source.setting_of P.functions) Home 2 (entry_slots main_entry 0 no_slots) (main_code (source.setting_of P.functions) P.main)
main_fits P d =
    fit (source.setting_of P.functions) P.main d.main_in_text (only Home) Home nothing unit (λ x. None) 0 (entry_slots main_entry 0 no_slots) 2 thread_end refl d.main (λ x b e u. absurd (cc)) (λ R x p i h j q. tt)
