-- The blocks of functions and of main, and a program's whole.
use Rattle.std.proofs.Common.{◌≡◌, ℕ, zero, suc, ◌<◌, ◌≤◌, List, [], ◌∷◌, ◌++◌, length, get_or, take, map, Vec, Global, Option, Some, None, slice_get, refl, sym, ap, ◌∙◌, subst, arith}
use Rattle.std.specs.List.{AllByRecursion as Each}
use Rattle.m5_cps.specs.declared.types.TypeRow.TheVariants as row
use Rattle.m5_cps.proofs.Lists.{item_there}
use Rattle.m5_terms.specs.Expression.{Expression}
use Rattle.m5_terms.specs.TypeExpression.{TypeExpression}
use Rattle.m5_terms.specs.Table.{entries, put}
use Rattle.m5_terms.specs.declared.types.World.{World}
use Rattle.m5_terms.specs.declared.types.World.TheVariants as worlds
use Rattle.m5_terms.specs.declared.table.Binding.TheVariants.{One}
use Rattle.m5_typing.specs.declared.functions.Function.{Function}
use Rattle.m5_typing.specs.Context.{local, Setting}
use Rattle.m5_typing.specs.Program.{ProgramTerm, bound_at, declared_type, declared_bound, setting_of}
use Rattle.m5_cps.specs.Entries as entry
use Rattle.m5_cps.specs.TypeParts.{bound_type}
use Rattle.m5_cps.specs.TypesByNumber.{or_unit, row_type}
use Rattle.m5_cps.specs.Steps.{entry_of, code_at}
use Rattle.m5_cps.specs.Table.{Table, HasCode, BlocksBegin, or_done, block_of, blocks_of}
use Rattle.m5_cps.specs.declared.entry.Entry.TheVariants as ways
use Rattle.m5_cps.specs.declared.entry.Mode.TheVariants.{Only}
use Rattle.m5_cps.specs.declared.step.Step.{Step}
use Rattle.m5_cps.specs.declared.cps.Start.{Start}
use Rattle.m5_cps_convert.specs.Scopes.{empty_scope, fn_scope}
use Rattle.m5_cps_convert.specs.Continuations.{Tail}
use Rattle.m5_cps_convert.specs.Convert.{function_code, function_block, main_code, program_blocks}
use Rattle.m5_cps_convert.specs.declared.walk.Walk.{Walk}
use Rattle.m5_cps_convert.specs.declared.walk.Kind.TheVariants.{Local}
use Rattle.m5_cps_convert.specs.declared.walk.Known.{Known}
use Rattle.m5_cps_convert.specs.declared.walk.Around.{Around}
use Rattle.m5_cps_convert.specs.declared.walk.Goal.TheVariants as goals
use Rattle.m5_cps_convert.specs.declared.walk.Value.{Value}
use Rattle.m5_cps_convert.specs.declared.part_types.FunctionParts.{FunctionParts}
use Rattle.m5_cps_convert.specs.code.Types.{IsAt, RowAdded, TypeAdded}
use Rattle.m5_cps_convert.specs.code.Writing.{Keeps, Grows, Completes}
use Rattle.m5_cps_convert.specs.code.Knowing.{IsKnown, IsDeclared, IsDeclaredNumber, Knows}
use Rattle.m5_cps_convert.specs.code.Emitting.{EmitsWithin}
use Rattle.m5_cps_convert.specs.code.Programs.{AreParts, AreDeclared, Declares, KnowsProgram, IsBlockAt, AreBlocks, WritesFunction, WritesFunctions, FunctionsSoFar, WritesMain}
use Rattle.m5_cps_convert.proofs.Growing.{keeps_self, keeps_trans, keeps_push, grows_self, grows_trans}
use Rattle.m5_cps_convert.proofs.Written.{completes_first, completes_rest}
use Rattle.m5_cps_convert.proofs.Known.{at_kept, knows_bind, local_is_known}
use Rattle.m5_cps_convert.proofs.Headed.{function_added}

pub declared_more : (L M : List TypeExpression) (ns : List ℕ) (gs : List Function) (n : ℕ) (g : Function) → AreDeclared L ns gs → Keeps L M → IsAt M n (declared_type g)
    → AreDeclared M (ns ++ n ∷ []) (gs ++ g ∷ [])
declared_more L M [] [] n g h k i = (i, tt)
declared_more L M (m ∷ ns) (f ∷ gs) n g h k i = (at_kept k h.0, declared_more L M ns gs n g h.1 k i)
declared_more L M [] (f ∷ gs) n g h k i = absurd h
declared_more L M (m ∷ ns) [] n g h k i = absurd h

bare_known : (w : Walk) (E : Setting) (world : World) (at : Around) → at ≡ record { mode = Only world; depth = 0; arms = 0 } → KnowsProgram w E
    → Knows w.types (entries w.names) w.functions.items at E (empty_scope (entry.only world))
bare_known w E world at e k =
    subst (λ (a : Around). Knows w.types (entries w.names) w.functions.items a E (empty_scope (entry.only world))) (sym e)
    (record { names = λ x. subst (λ o. IsKnown w.types 0 o None None) (sym (k.bare x)) (refl, refl); mode = refl; arms = refl; declared = k.declared })

pub function_written : (u w : Walk) (g : Function) (whole : ℕ) (at : Around) (p : FunctionParts) (k : Known) (v : Value) (place : ℕ) → at ≡ record { mode = Only g.world; depth = 0; arms = 0 }
    → AreParts u.types whole p → k ≡ record { kind = Local; depth = at.depth; slot = 1; ty = p.argument } → place ≡ length u.steps
    → EmitsWithin (One g.parameter k) u w at 3 (goals.Tail 2) g.body v
    → WritesFunction u w g whole (record { entry = ways.ByCall at.mode p.argument p.result; place = place })
function_written u w g whole at p k v place ea parts ek ep em = record {
  grows = em.grows;
  stands = λ E kp i T S c.
      let ab = parts.are g.ty g.result i in
      let argument : or_unit (slice_get T p.argument) ≡ g.ty = ap or_unit (c.types.each p.argument g.ty (em.grows.types.each p.argument g.ty ab.0.is)) in
      let result : or_unit (slice_get T p.result) ≡ g.result = ap or_unit (c.types.each p.result g.result (em.grows.types.each p.result g.result ab.1.is)) in
      let scope = fn_scope g.parameter g.ty 0 (empty_scope (entry.only g.world)) in
      let bound : Knows u.types (put g.parameter (Some (record { kind = Local; depth = at.depth; slot = 1; ty = p.argument })) (entries u.names)) u.functions.items at E scope =
      knows_bind g.parameter (record { kind = Local; depth = at.depth; slot = 1; ty = p.argument }) (local g.world g.ty) 1
      (local_is_known u.types at.depth 1 p.argument g.world g.ty ab.0) (bare_known u E g.world at ea kp) in
      let known : Knows u.types (put g.parameter (Some k) (entries u.names)) u.functions.items at E scope =
      subst (λ (q : Known). Knows u.types (put g.parameter (Some q) (entries u.names)) u.functions.items at E scope) (sym ek) bound in
      record {
        entry = ap (λ (a : Around). entry_of T (ways.ByCall a.mode p.argument p.result)) ea
            ∙ (ap (λ A. entry.by_call (entry.only g.world) A (or_unit (slice_get T p.result))) argument ∙ ap (λ B. entry.by_call (entry.only g.world) g.ty B) result);
        code = ap (code_at T S) ep ∙ em.code E scope known T S (Tail 2) c refl;
      };
}

-- the number of a function's type
declared_at : (L : List TypeExpression) (ns : List ℕ) (gs : List Function) (i : ℕ) (n : ℕ) (g : Function) → AreDeclared L ns gs → slice_get ns i ≡ Some n → slice_get gs i ≡ Some g → IsAt L n (declared_type g)
declared_at L (m ∷ ns) (f ∷ gs) zero n g h en eg =
    let same : m ≡ n = cc in
    let of : f ≡ g = cc in
    subst (λ x. IsAt L x (declared_type g)) same (subst (λ (x : Function). IsAt L m (declared_type x)) of h.0)
declared_at L (m ∷ ns) (f ∷ gs) (suc i) n g h en eg = declared_at L ns gs i n g h.1 en eg
declared_at L [] gs i n g h en eg = absurd (cc)
declared_at L (m ∷ ns) [] i n g h en eg = absurd h

pub declared_count : (L : List TypeExpression) (ns : List ℕ) (gs : List Function) → AreDeclared L ns gs → length ns ≡ length gs
declared_count L [] [] h = refl
declared_count L (m ∷ ns) (f ∷ gs) h = ap suc (declared_count L ns gs h.1)
declared_count L [] (f ∷ gs) h = absurd h
declared_count L (m ∷ ns) [] h = absurd h

blocks_more : (E : Setting) (T : List TypeExpression) (S : List Step) (ss : List Start) (gs : List Function) (s : Start) (g : Function) → AreBlocks E T S ss gs → IsBlockAt E T S s g
    → AreBlocks E T S (ss ++ s ∷ []) (gs ++ g ∷ [])
blocks_more E T S [] [] s g h b = (b, tt)
blocks_more E T S (x ∷ ss) (f ∷ gs) s g h b = (h.0, blocks_more E T S ss gs s g h.1 b)
blocks_more E T S [] (f ∷ gs) s g h b = absurd h
blocks_more E T S (x ∷ ss) [] s g h b = absurd h

pub knows_later : (u w : Walk) (E : Setting) → Grows u w → KnowsProgram u E → KnowsProgram w E
knows_later u w E g k = record {
  bare = λ x. ap (λ s. s x) g.names ∙ k.bare x;
  declared = λ f. later (slice_get u.functions.items f) (slice_get w.functions.items f) (E.functions f) (ap (λ l. slice_get l.items f) g.functions) (k.declared f);
}
  where
    kept : (o : Option ℕ) (b : _) → IsDeclared u.types o b → IsDeclared w.types o b
    kept None b h = h
    kept (Some n) b h = at_kept g.types h

    later : (o p : Option ℕ) (b : _) → p ≡ o → IsDeclared u.types o b → IsDeclared w.types p b
    later o p b e h = subst (λ q. IsDeclared w.types q b) (sym e) (kept o b h)

pub functions_begin : (u : Walk) (gs : List Function) (ss : List Start) → ss ≡ [] → FunctionsSoFar u u gs 0 ss
functions_begin u gs ss e = record { grows = grows_self u; stand = λ E k d T S c. subst (λ l. AreBlocks E T S l []) (sym e) tt }

take_more : {A : Type 0} (xs : List A) (i : ℕ) (x : A) → slice_get xs i ≡ Some x → take (suc i) xs ≡ take i xs ++ x ∷ []
take_more [] i x e = absurd (cc)
take_more (y ∷ xs) zero x e = let same : y ≡ x = cc in ap (λ z. z ∷ []) same
take_more (y ∷ xs) (suc i) x e = ap (λ l. y ∷ l) (take_more xs i x e)

pub functions_more : (u v w : Walk) (gs : List Function) (i n whole : ℕ) (g : Function) (ss more : List Start) (s : Start) → FunctionsSoFar u v gs i ss → slice_get gs i ≡ Some g
    → ((E : Setting) → AreDeclared u.types u.functions.items gs → IsAt v.types whole (declared_type g)) → WritesFunction v w g whole s → more ≡ ss ++ s ∷ [] → n ≡ suc i → FunctionsSoFar u w gs n more
functions_more u v w gs i n whole g ss more s f eg wd h em en = record {
  grows = grows_trans f.grows h.grows;
  stand = λ E k d T S c.
      subst (λ j. AreBlocks E T S more (take j gs)) (sym en)
      (subst (λ l. AreBlocks E T S l (take (suc i) gs)) (sym em)
      (subst (λ l. AreBlocks E T S (ss ++ s ∷ []) l) (sym (take_more gs i g eg))
      (blocks_more E T S ss (take i gs) s g (f.stand E k d T S (completes_first T S u v w h.grows c))
      (h.stands E (knows_later u v E f.grows k) (wd E d) T S (completes_rest T S u v w f.grows c)))));
}

-- the number that stands for a function's type
pub whole_at : (u v : Walk) (gs : List Function) (i n : ℕ) (g : Function) → Grows u v → slice_get v.functions.items i ≡ Some n → slice_get gs i ≡ Some g → (E : Setting) → AreDeclared u.types u.functions.items gs
    → IsAt v.types n (declared_type g)
whole_at u v gs i n g gr en eg E d = at_kept gr.types (declared_at u.types u.functions.items gs i n g d (ap (λ f. slice_get f.items i) (sym gr.functions) ∙ en) eg)

-- what the program's setting says is what was declared
bound_is : (w : World) (A : TypeExpression) → bound_type (Some (bound_at w A)) ≡ A
bound_is worlds.Home A = refl
bound_is worlds.Server A = refl
bound_is worlds.Panel A = refl
bound_is worlds.Any A = refl

declared_known : (L : List TypeExpression) (ns : List ℕ) (gs : List Function) (f : ℕ) → AreDeclared L ns gs → IsDeclared L (slice_get ns f) (declared_bound (slice_get gs f))
declared_known L [] [] f h = refl
declared_known L (n ∷ ns) (g ∷ gs) zero h = subst (IsAt L n) (sym (bound_is g.world (declared_type g))) h.0
declared_known L (n ∷ ns) (g ∷ gs) (suc f) h = declared_known L ns gs f h.1
declared_known L [] (g ∷ gs) f h = absurd h
declared_known L (n ∷ ns) [] f h = absurd h

pub program_known : (u : Walk) (gs : List Function) → ((x : ℕ) → entries u.names x ≡ None) → AreDeclared u.types u.functions.items gs → KnowsProgram u (setting_of gs)
program_known u gs b d = record { bare = b; declared = λ f. declared_known u.types u.functions.items gs f d }

have_code : (E : Setting) (t : Table) (ss : List Start) (gs : List Function) → AreBlocks E t.types t.steps ss gs → Each (λ s. HasCode t s.place) ss
have_code E t [] [] h = tt
have_code E t (s ∷ ss) (g ∷ gs) h = (record { code = function_code E g; is = h.0.code }, have_code E t ss gs h.1)
have_code E t [] (g ∷ gs) h = absurd h
have_code E t (s ∷ ss) [] h = absurd h

blocks_are : (E : Setting) (t : Table) (ss : List Start) (gs : List Function) → AreBlocks E t.types t.steps ss gs → map (block_of t) ss ≡ map (function_block E) gs
blocks_are E t [] [] h = refl
blocks_are E t (s ∷ ss) (g ∷ gs) h =
    ap (λ b. b ∷ map (block_of t) ss) (λ i. record { entry = h.0.entry i; code = or_done (h.0.code i) }) ∙ ap (λ l. function_block E g ∷ l) (blocks_are E t ss gs h.1)
blocks_are E t [] (g ∷ gs) h = absurd h
blocks_are E t (s ∷ ss) [] h = absurd h

-- the whole program's blocks
pub record Whole (P : ProgramTerm) (t : Table) : Type 0 where
  pub begin : BlocksBegin t
  pub blocks : blocks_of t ≡ program_blocks P

pub whole_program : (P : ProgramTerm) (u v w : Walk) (ss : List Start) (p : ℕ) → ((x : ℕ) → entries u.names x ≡ None) → AreDeclared u.types u.functions.items P.functions
    → WritesFunctions u v P.functions ss → WritesMain v w P.main p → Whole P (record { types = w.types; steps = w.steps; functions = ss; main = p })
whole_program P u v w ss p b d f m =
    let E = setting_of P.functions in
    let t : Table = record { types = w.types; steps = w.steps; functions = ss; main = p } in
    let k = program_known u P.functions b d in
    let q : Completes w.types w.steps u w = record { types = keeps_self w.types; steps = λ i s l e. e } in
    let fs = f.stand E k d w.types w.steps (completes_first w.types w.steps u v w m.grows q) in
    let ms = m.stands E (knows_later u v E f.grows k) w.types w.steps (completes_rest w.types w.steps u v w f.grows q) in
    record {
      begin = record { functions = have_code E t ss P.functions fs; main = record { code = main_code E P.main; is = ms } };
      blocks = λ i. record { functions = blocks_are E t ss P.functions fs i; main = or_done (ms i) };
    }

take_all : {A : Type 0} (xs : List A) (n : ℕ) → length xs ≤ n → take n xs ≡ xs
take_all [] zero l = refl
take_all [] (suc n) l = refl
take_all (x ∷ xs) zero l = absurd (omega (arith, l))
take_all (x ∷ xs) (suc n) l = ap (λ ys. x ∷ ys) (take_all xs n (omega (arith, l)))

pub declares_more : (L0 L L1 L2 L3 : List TypeExpression) (gs : List Function) (i n : ℕ) (g : Function) (ns more : List ℕ) (argument result whole : ℕ) → Declares L0 L (take i gs) ns
    → i < length gs → g ≡ get_or gs i g → TypeAdded L L1 g.ty argument → TypeAdded L1 L2 g.result result → RowAdded L2 L3 (row.Function argument result) whole → more ≡ ns ++ whole ∷ []
    → n ≡ suc i → Declares L0 L3 (take n gs) more
declares_more L0 L L1 L2 L3 gs i n g ns more argument result whole d l e a b r em en =
    let k2 : Keeps L1 L2 = b.keeps in
    let k3 : Keeps L2 L3 = keeps_push L2 L3 (row_type L2 (row.Function argument result)) r.added in
    let k : Keeps L L3 = keeps_trans a.keeps (keeps_trans k2 k3) in
    record {
      keeps = keeps_trans d.keeps k;
      declared =
          subst (λ j. AreDeclared L3 more (take j gs)) (sym en)
          (subst (λ m. AreDeclared L3 m (take (suc i) gs)) (sym em)
          (subst (λ t. AreDeclared L3 (ns ++ whole ∷ []) t) (sym (take_more gs i g (item_there gs i g l e)))
          (declared_more L L3 ns (take i gs) whole g d.declared k (function_added L2 L3 argument result whole g.ty g.result r (at_kept k2 a.is) b.is))));
    }

pub declares_all : (L0 L : List TypeExpression) (gs : List Function) (i : ℕ) (ns : List ℕ) → Declares L0 L (take i gs) ns → length gs ≤ i → Declares L0 L gs ns
declares_all L0 L gs i ns d l = record { keeps = d.keeps; declared = subst (λ t. AreDeclared L ns t) (take_all gs i l) d.declared }

pub declares_none : (L : List TypeExpression) (ns : List ℕ) → ns ≡ [] → Declares L L [] ns
declares_none L ns e = record { keeps = keeps_self L; declared = subst (λ m. AreDeclared L m []) (sym e) tt }

pub functions_all : (u w : Walk) (gs : List Function) (i : ℕ) (ss : List Start) → FunctionsSoFar u w gs i ss → length gs ≤ i → WritesFunctions u w gs ss
functions_all u w gs i ss f l = record { grows = f.grows; stand = λ E k d T S c. subst (λ t. AreBlocks E T S ss t) (take_all gs i l) (f.stand E k d T S c) }

-- the number of a function that was declared
number_of : (L : List TypeExpression) (ns : List ℕ) (gs : List Function) (i : ℕ) (g : Function) → AreDeclared L ns gs → slice_get gs i ≡ Some g → (n : ℕ) × (slice_get ns i ≡ Some n)
number_of L (m ∷ ns) (f ∷ gs) zero g h e = (m, refl)
number_of L (m ∷ ns) (f ∷ gs) (suc i) g h e = number_of L ns gs i g h.1 e
number_of L [] gs i g h e = absurd (none gs h e)
  where
    none : (gs : List Function) → AreDeclared L [] gs → slice_get gs i ≡ Some g → ⊥
    none [] h e = cc
    none (f ∷ gs) h e = h
number_of L (m ∷ ns) [] i g h e = absurd h

pub functions_step : (u v w : Walk) (gs : List Function) (i n whole : ℕ) (g : Function) (ss more : List Start) (s : Start) → FunctionsSoFar u v gs i ss → i < length gs → g ≡ get_or gs i g
    → IsDeclaredNumber v.types (slice_get v.functions.items i) whole → WritesFunction v w g whole s → more ≡ ss ++ s ∷ [] → n ≡ suc i → FunctionsSoFar u w gs n more
functions_step u v w gs i n whole g ss more s f l e d h em en = functions_more u v w gs i n whole g ss more s f (item_there gs i g l e) at h em en
  where
    at : (E : Setting) → AreDeclared u.types u.functions.items gs → IsAt v.types whole (declared_type g)
    at E k =
        let m = number_of u.types u.functions.items gs i g k (item_there gs i g l e) in
        let there : slice_get v.functions.items i ≡ Some m.0 = ap (λ q. slice_get q.items i) f.grows.functions ∙ m.1 in
        let same : whole ≡ m.0 = subst (λ o. IsDeclaredNumber v.types o whole) there d in
        subst (λ q. IsAt v.types q (declared_type g)) (sym same) (whole_at u v gs i m.0 g f.grows there (item_there gs i g l e) E k)

-- the same, from what `to_cps` has in hand
pub whole_of : (P : ProgramTerm) (L : List TypeExpression) (S : List Step) (N : List (Option Known)) (F : Vec ℕ Global) (v w : Walk) (ss : List Start) (p : ℕ) (gs : List Function) (main : Expression) (L0 : List TypeExpression)
    → gs ≡ P.functions → main ≡ P.main → N ≡ [] → Declares L0 L gs F.items → WritesFunctions (record { types = L; steps = S; names = N; functions = F }) v gs ss → WritesMain v w main p
    → Whole P (record { types = w.types; steps = w.steps; functions = ss; main = p })
whole_of P L S N F v w ss p gs main L0 eg em en d f m =
    let u : Walk = record { types = L; steps = S; names = N; functions = F } in
    whole_program P u v w ss p (λ x. ap (λ l. entries l x) en) (subst (λ g. AreDeclared L F.items g) eg d.declared) (subst (λ g. WritesFunctions u v g ss) eg f)
    (subst (λ e. WritesMain v w e p) em m)
