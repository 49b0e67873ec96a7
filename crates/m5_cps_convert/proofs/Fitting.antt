-- The blocks of a program are few, small and typed.
use Rattle.std.proofs.Common.{◌≡◌, ℕ, zero, suc, ◌+◌, ◌*◌, ◌≤◌, List, [], ◌∷◌, map, length, max, fold, sum_by, Some, refl, subst, arith, slice_get}
use Rattle.std.proofs.Math.Nat.{max-le}
use Rattle.std.proofs.lemmas.List.Sums.{sum_by-cons}
use Rattle.std.specs.List.{AllByRecursion as Each}
use Rattle.m5_terms.specs.TypeExpression.{TypeExpression}
use Rattle.m5_terms.specs.TypeExpression as type
use Rattle.m5_terms.specs.Expression.{Expression, leaf, unary, binary, ternary}
use Rattle.m5_terms.specs.declared.form.UnaryForm.{UnaryForm}
use Rattle.m5_terms.specs.declared.form.UnaryForm.TheVariants as unary_form
use Rattle.m5_terms.specs.declared.form.BinaryForm.{BinaryForm}
use Rattle.m5_terms.specs.declared.form.BinaryForm.TheVariants as binary_form
use Rattle.m5_terms.specs.declared.form.TernaryForm.{TernaryForm}
use Rattle.m5_terms.specs.declared.form.TernaryForm.TheVariants as ternary_form
use Rattle.m5_typing.specs.declared.functions.Function.{Function}
use Rattle.m5_cps.specs.Entries.{only, world_of, Entry, by_value, by_call, entry_mode, entry_filled, main_entry}
use Rattle.m5_cps.specs.Blocks.{Code, straight, closure, test, Test, Block}
use Rattle.m5_cps.specs.Blocks as block
use Rattle.m5_cps_convert.specs.Scopes.{fn_scope}
use Rattle.m5_cps_convert.specs.Narrow.{Narrow}
use Rattle.m5_terms.specs.Expression.{node_count}
use Rattle.m5_terms.specs.TypeExpression.{type_node_count}
use Rattle.m5_terms.specs.Substitution.{unary_binders, binary_binders, second_binders, third_binders}
use Rattle.m5_terms.specs.InText.{unary_type_nodes}
use Rattle.m5_terms.specs.declared.types.World.TheVariants.{Home}
use Rattle.m5_typing.specs.Context.{Setting}
use Rattle.m5_typing.specs.Width.{term_width, functions_width, program_width}
use Rattle.m5_typing.specs.Program.{ProgramTerm, IsProgram, in_text, written_nodes, function_nodes, program_nodes}
use Rattle.m5_typing.specs.Program as source
use Rattle.m5_typing.proofs.Declared.{declared_is_typed}
use Rattle.m5_cps.specs.Slots.{no_slots, entry_slots}
use Rattle.m5_cps.specs.Fits.{Fits as TypedFits}
use Rattle.m5_cps.specs.Limits.{parts_then, parts_else, begun_slots, AreLimited}
use Rattle.m5_cps.specs.Program as blocks
use Rattle.m5_cps.specs.Program.{IsBlock, IsFunctionBlock}
use Rattle.m5_cps_convert.specs.Convert.{function_code, function_block, main_code, program_blocks}
use Rattle.m5_cps_convert.specs.Scopes.{empty_scope}
use Rattle.m5_cps_convert.specs.Counted.{counted}
use Rattle.m5_cps_convert.specs.Narrow.{widest, yes_filled, no_filled}
use Rattle.m5_cps_convert.specs.Laws.{BlocksFit, BlocksAreFew}
use Rattle.m5_cps_convert.proofs.Bounds.{Inner, Small, small_at, called_small, start_small}
use Rattle.m5_cps_convert.proofs.Programs.{program_good, main_narrow, all_at}
use Rattle.m5_cps_convert.proofs.TypedWhole.{setting_same, function_fits, main_fits}

filled_least : (y : Entry) → begun_slots y ≤ 4
filled_least (by_value m T) = omega arith
filled_least (by_call m A B) = omega arith

then_filled : (t : Test) (n : ℕ) → yes_filled t n ≡ parts_then t + n
then_filled block.if_true n = omega arith
then_filled block.if_left n = omega arith
then_filled block.if_nil n = omega arith
then_filled block.if_here n = omega arith

else_filled : (t : Test) (n : ℕ) → no_filled t n ≡ parts_else t + n
else_filled block.if_true n = omega arith
else_filled block.if_left n = omega arith
else_filled block.if_nil n = omega arith
else_filled block.if_here n = omega arith

-- what takes at most w slots with it, nests little and fills at most so many
limited : (w L : ℕ) → w + (28 + L) ≤ 65536 → (c : Code) (n : ℕ) → Narrow w c n → Inner L c → AreLimited n c
limited w L h (straight f c) n r i = limited w L h c (suc n) r i
limited w L h (closure y b c) n r i = (record { depth = omega (arith, i.0); slots = omega (arith, h, r.0, i.1, filled_least y) }, limited w L h b (entry_filled y n) r.1 i.2, limited w L h c (suc n) r.2 i.3)
limited w L h (test t x b c) n r i = (subst (λ k. AreLimited k b) (then_filled t n) (limited w L h b (yes_filled t n) r.1 i.0), subst (λ k. AreLimited k c) (else_filled t n) (limited w L h c (no_filled t n) r.2 i.1))
limited w L h (block.ends e) n r i = tt

-- nodes are written, and pay for the width
type_least : (A : TypeExpression) → 1 ≤ type_node_count A
type_least (type.product A B) = omega arith
type_least (type.sum A B) = omega arith
type_least (type.function A B) = omega arith
type_least (type.list A) = omega arith
type_least (type.cell A) = omega arith
type_least (type.sham A) = omega arith
type_least (type.at A w) = omega arith
type_least _ = omega arith

written_least : (e : Expression) → 1 ≤ written_nodes e
written_least (leaf f) = omega arith
written_least (unary f a) = omega arith
written_least (binary f a b) = omega arith
written_least (ternary f a b c) = omega arith

nodes_written : (e : Expression) → node_count e ≤ written_nodes e
nodes_written (leaf f) = omega arith
nodes_written (unary f a) = omega (arith, nodes_written a)
nodes_written (binary f a b) = omega (arith, nodes_written a, nodes_written b)
nodes_written (ternary f a b c) = omega (arith, nodes_written a, nodes_written b, nodes_written c)

unary_written : (f : UnaryForm) → length (unary_binders f) ≤ unary_type_nodes f
unary_written (unary_form.Fn x A) = omega (arith, type_least A)
unary_written (unary_form.Rec g x A B) = omega (arith, type_least A, type_least B)
unary_written _ = omega arith

binary_bound : (f : BinaryForm) → length (binary_binders f) ≤ 1
binary_bound (binary_form.Val x) = omega arith
binary_bound _ = omega arith

second_bound : (f : TernaryForm) → length (second_binders f) ≤ 1
second_bound (ternary_form.CaseSum x y) = omega arith
second_bound _ = omega arith

third_bound : (f : TernaryForm) → length (third_binders f) ≤ 2
third_bound (ternary_form.CaseSum x y) = omega arith
third_bound (ternary_form.CaseList x y) = omega arith
third_bound ternary_form.If = omega arith

width_written : (e : Expression) → term_width e ≤ written_nodes e
width_written (leaf f) = omega arith
width_written (unary f a) = omega (arith, width_written a, unary_written f)
width_written (binary f a b) = max-le {a = term_width a} {b = 1 + (length (binary_binders f) + term_width b)} {k = written_nodes (binary f a b)} (omega (arith, width_written a)) (omega (arith, width_written b, binary_bound f, written_least a))
width_written (ternary f a b c) = max-le {a = term_width a} {b = max (1 + (length (second_binders f) + term_width b)) (1 + (length (third_binders f) + term_width c))} {k = written_nodes (ternary f a b c)} (omega (arith, width_written a))
    (max-le {a = 1 + (length (second_binders f) + term_width b)} {b = 1 + (length (third_binders f) + term_width c)} {k = written_nodes (ternary f a b c)} (omega (arith, width_written b, second_bound f, written_least a)) (omega (arith, width_written c, third_bound f, written_least a, written_least b)))

function_written : (g : Function) → 2 + written_nodes g.body ≤ function_nodes g
function_written g = omega (arith, type_least g.ty, type_least g.result)

functions_within : (gs : List Function) (n k : ℕ) → n ≤ k → sum_by function_nodes gs ≤ k → fold (λ widest g. max widest (1 + term_width g.body)) n gs ≤ k
functions_within [] n k h s = h
functions_within (g ∷ gs) n k h s = functions_within gs (max n (1 + term_width g.body)) k (max-le {a = n} {b = 1 + term_width g.body} {k = k} h (omega (arith, s, sum_by-cons function_nodes g gs, width_written g.body, function_written g))) (omega (arith, s, sum_by-cons function_nodes g gs))

width_within : (P : ProgramTerm) → program_width P ≤ program_nodes P
width_within P = max-le {a = functions_width P.functions} {b = term_width P.main} {k = program_nodes P} (functions_within P.functions 0 (program_nodes P) (omega arith) (omega arith)) (omega (arith, width_written P.main))

function_within : (gs : List Function) (i : ℕ) (g : Function) → slice_get gs i ≡ Some g → function_nodes g ≤ sum_by function_nodes gs
function_within [] i g e = absurd (cc)
function_within (h ∷ gs) zero g e = let q : h ≡ g = cc in subst (λ y. function_nodes y ≤ sum_by function_nodes (h ∷ gs)) q (omega (arith, sum_by-cons function_nodes h gs))
function_within (h ∷ gs) (suc i) g e = omega (arith, function_within gs i g e, sum_by-cons function_nodes h gs)

-- a function's block, and main's
function_small : (E : Setting) (L : ℕ) (g : Function) → 3 * node_count g.body ≤ L → Small L (function_code E g) (3 * node_count g.body) (3 * node_count g.body) 501
function_small E L g h = called_small L E g.body (small_at L E g.body) (fn_scope g.parameter g.ty 0 (empty_scope (only g.world))) 0 refl h

main_small : (E : Setting) (L : ℕ) (e : Expression) → 3 * node_count e ≤ L → Small L (main_code E e) (3 * node_count e) (3 * node_count e) 501
main_small E L e h = start_small L E e (small_at L E e) (empty_scope (only Home)) 0 refl h

each_of : (Q : Block → Type 0) (f : Function → Block) (gs : List Function) → ((i : ℕ) (g : Function) → slice_get gs i ≡ Some g → Q (f g)) → Each Q (map f gs)
each_of Q f [] h = tt
each_of Q f (g ∷ gs) h = (h 0 g refl, each_of Q f gs (λ i k e. h (suc i) k e))

module _ (P : ProgramTerm) (d : IsProgram P) where
  abbrev E : Setting
  E = source.setting_of P.functions

  is_block : (b : Block) → TypedFits E (world_of (entry_mode b.entry)) (entry_filled b.entry 0) (entry_slots b.entry 0 no_slots) b.code → Small 48000 b.code 48000 48000 501 → Narrow (widest P) b.code (entry_filled b.entry 0) → IsBlock (blocks.setting_of (program_blocks P)) b
  is_block b f s r = record {
    fits = subst (λ F. TypedFits F (world_of (entry_mode b.entry)) (entry_filled b.entry 0) (entry_slots b.entry 0 no_slots) b.code) (setting_same P) f;
    limited = record { depth = omega (arith, s.depth); slots = omega (arith, s.path, filled_least b.entry) };
    inner = limited (widest P) 48000 (omega (arith, width_within P, d.size)) b.code (entry_filled b.entry 0) r s.inner;
  }

  at_most : (c : Code) (n : ℕ) → n ≤ 48000 → Small 48000 c n n 501 → Small 48000 c 48000 48000 501
  at_most c n h s = record { blocks = omega (arith, s.blocks, h); path = omega (arith, s.path, h); depth = s.depth; inner = s.inner }

  function_is_block : (i : ℕ) (g : Function) → slice_get P.functions i ≡ Some g → IsFunctionBlock (blocks.setting_of (program_blocks P)) (function_block E g)
  function_is_block i g e =
      let within : 3 * node_count g.body ≤ 48000 = omega (arith, nodes_written g.body, function_written g, function_within P.functions i g e, d.size) in
      record { function = tt; block = is_block (function_block E g) (function_fits P g (all_at (λ h. in_text h.body) P.functions i g d.bodies_in_text e) (declared_is_typed P i g d e)) (at_most (function_code E g) (3 * node_count g.body) within (function_small E 48000 g within)) ((program_good P d).narrow i g e) }

  main_is_block : IsBlock (blocks.setting_of (program_blocks P)) (record { entry = main_entry; code = main_code E P.main })
  main_is_block =
      let within : 3 * node_count P.main ≤ 48000 = omega (arith, nodes_written P.main, d.size) in
      is_block (record { entry = main_entry; code = main_code E P.main }) (main_fits P d) (at_most (main_code E P.main) (3 * node_count P.main) within (main_small E 48000 P.main within)) (main_narrow P d)

pub blocks_fit : BlocksFit
blocks_fit P d = record { functions = each_of (IsFunctionBlock (blocks.setting_of (program_blocks P))) (function_block (source.setting_of P.functions)) P.functions (function_is_block P d); main = main_is_block P d }

function_few : (E : Setting) (g : Function) → counted (function_code E g) ≤ 3 * function_nodes g
function_few E g = let s = function_small E (3 * node_count g.body) g (omega arith) in omega (arith, s.blocks, nodes_written g.body, function_written g)

functions_few : (E : Setting) (gs : List Function) → sum_by (λ (b : Block). counted b.code) (map (function_block E) gs) ≤ 3 * sum_by function_nodes gs
functions_few E [] = omega arith
functions_few E (g ∷ gs) = omega (arith, functions_few E gs, function_few E g, sum_by-cons (λ (b : Block). counted b.code) (function_block E g) (map (function_block E) gs), sum_by-cons function_nodes g gs)

pub blocks_few : BlocksAreFew
blocks_few P =
    let s = main_small (source.setting_of P.functions) (3 * node_count P.main) P.main (omega arith) in
    omega (arith, functions_few (source.setting_of P.functions) P.functions, s.blocks, nodes_written P.main)
