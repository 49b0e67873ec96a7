-- The steps and labels of a slice are those of the cut.
use Rattle.std.proofs.Common.{◌≡◌, ℕ, zero, suc, ◌+◌, ◌<◌, ◌==◌, Bool, true, false, if◌then◌else◌, List, [], ◌∷◌, ◌++◌, map, take, get_or, length, Option, Some, None, slice_get, refl, sym, ap, ap₂, ◌∙◌, subst, arith}
use Rattle.std.specs.List.{AllByRecursion as Each, AllZip}
use Rattle.std.proofs.lemmas.List.{map_more}
use Rattle.m5_terms.specs.TypeExpression.{TypeExpression, same_world}
use Rattle.m5_terms.specs.Primitives.{primitive_world}
use Rattle.m5_terms.specs.declared.types.World.{World}
use Rattle.m5_cps.specs.Entries.{world_of, entry_mode}
use Rattle.m5_cps.specs.Steps.{entry_of, straight_of, test_of, ending_of}
use Rattle.m5_cps.specs.Blocks as cps
use Rattle.m5_cps.specs.declared.step.Ending.{Ending}
use Rattle.m5_cps.specs.declared.step.Ending.TheVariants as endings
use Rattle.m5_flat.specs.Blocks.{Code, straight, closure, test, ends}
use Rattle.m5_flat.specs.declared.label.Label.{Label}
use Rattle.m5_flat.specs.declared.label.Named.{Named}
use Rattle.m5_flat.specs.declared.step.Step.{Step}
use Rattle.m5_flat.specs.declared.step.Step.TheVariants as steps
use Rattle.m5_flat.specs.Steps.{after, after_both, code_with, code_from, code_at, named_of}
use Rattle.m5_flat.specs.Table.{Table, or_done, HasCode, code_in, block_of, blocks_of, IsTable}
use Rattle.m5_flat.specs.Program.{IsProgram}
use Rattle.m5_flat.proofs.Standing.{ending_stands}
use Rattle.m5_dictionary.specs.declared.line.TypeLine.{TypeLine}
use Rattle.m5_dictionary.specs.Dictionaries.{Entrance, stands_at}
use Rattle.m5_dict.specs.Dictionaries.{IsEntranceOf}
use Rattle.m5_slice.specs.Slicing.{cut_ending, cut_code, is_at, cut_block, cut}
use Rattle.m5_slice.specs.code.Written.{written_ending, written_step, written_steps, written_label}
use Rattle.m5_slice.proofs.Cutting.{cut_is_program}

module _ (w : World) where
  -- what was made of code that is there
  after_as : (f : Code → Code) (o p : Option Code) (c : Code) → ((d : Code) → o ≡ Some d → p ≡ Some (cut_code w d)) → ((d : Code) → cut_code w (f d) ≡ f (cut_code w d)) → after f o ≡ Some c → after f p ≡ Some (cut_code w c)
  after_as f None p c k h e = absurd (cc)
  after_as f (Some d) p c k h e = ap (after f) (k d refl) ∙ ap Some (sym (h d) ∙ ap (cut_code w) (let z : f d ≡ c = cc in z))

  both_as : (t : cps.Test) (x : ℕ) (o p q r : Option Code) (c : Code) → ((d : Code) → o ≡ Some d → p ≡ Some (cut_code w d)) → ((d : Code) → q ≡ Some d → r ≡ Some (cut_code w d)) → after_both (test t x) o q ≡ Some c → after_both (test t x) p r ≡ Some (cut_code w c)
  both_as t x None p q r c k l e = absurd (cc)
  both_as t x (Some d) p None r c k l e = absurd (cc)
  both_as t x (Some d) p (Some b) r c k l e = ap (λ o. after_both (test t x) o r) (k d refl) ∙ ap (after (test t x (cut_code w d))) (l b refl) ∙ ap (λ y. Some (cut_code w y)) (let z : test t x d b ≡ c = cc in z)

  ending_as : (e : Ending) → ending_of (written_ending w e) ≡ cut_ending w (ending_of e)
  ending_as (endings.Ask p x k) = by (same_world (primitive_world p) w)
    where
      by : (q : Bool) → ending_of (if q then endings.Ask p x k else endings.Done) ≡ (if q then cps.ask p x k else cps.done)
      by true = refl
      by false = refl
  ending_as (endings.Go k x) = refl
  ending_as (endings.Call f x k) = refl
  ending_as (endings.Send a k x) = refl
  ending_as endings.Done = refl

  with_as : (types : List TypeExpression) (s : Step) (n : ℕ) (later more : ℕ → Option Code) (c : Code) → ((q : ℕ) (d : Code) → later q ≡ Some d → more q ≡ Some (cut_code w d)) → code_with types s n later ≡ Some c → code_with types (written_step w s) n more ≡ Some (cut_code w c)
  with_as types (steps.Straight f) n later more c k e = after_as (straight (straight_of types f)) (later n) (more n) c (k n) (λ d. refl) e
  with_as types (steps.Closure ls i next) n later more c k e = after_as (closure ls i) (later next) (more next) c (k next) (λ d. refl) e
  with_as types (steps.Test t x second) n later more c k e = both_as (test_of t) x (later n) (more n) (later second) (more second) c (k n) (k second) e
  with_as types (steps.Ends y) n later more c k e = ap (λ z. Some (ends z)) (ending_as y) ∙ ap (λ z. Some (cut_code w z)) (let z : ends (ending_of y) ≡ c = cc in z)

  -- the code that begins at a place, of the steps as they are written
  from_as : (types : List TypeExpression) (p : ℕ) (ss : List Step) (q : ℕ) (c : Code) → code_from types p ss q ≡ Some c → code_from types p (written_steps w ss) q ≡ Some (cut_code w c)
  unfolding code_from
  from_as types p [] q c e = absurd (cc)
  from_as types p (s ∷ ss) q c e = by (q == p) e (λ r d f. from_as types (suc p) ss r d f)
    where
      by : (b : Bool) → (if b then code_with types s (suc p) (code_from types (suc p) ss) else code_from types (suc p) ss q) ≡ Some c →
          ((r : ℕ) (d : Code) → code_from types (suc p) ss r ≡ Some d → code_from types (suc p) (written_steps w ss) r ≡ Some (cut_code w d)) →
          (if b then code_with types (written_step w s) (suc p) (code_from types (suc p) (written_steps w ss)) else code_from types (suc p) (written_steps w ss) q) ≡ Some (cut_code w c)
      by true f later = with_as types s (suc p) (code_from types (suc p) ss) (code_from types (suc p) (written_steps w ss)) c later f
      by false f later = later q c f

  last_step : (ss : List Step) → slice_get (written_steps w ss) (length ss) ≡ Some (steps.Ends endings.Done)
  last_step [] = refl
  last_step (s ∷ ss) = last_step ss

  module _ (t : Table) (ps : List Named) where
    -- the table that is written
    abbrev pub written : Table
    written = record { types = t.types; steps = written_steps w t.steps; labels = map (written_label t.types w (length t.steps)) t.labels; primitives = ps; main = t.main; finish = t.finish }

    kept : (q : ℕ) → HasCode t q → HasCode written q
    kept q h = record { code = cut_code w h.code; is = from_as t.types 0 t.steps q h.code h.is }

    kept_code : (q : ℕ) → HasCode t q → code_in written q ≡ cut_code w (code_in t q)
    kept_code q h = ap or_done (from_as t.types 0 t.steps q h.code h.is) ∙ ap (λ o. cut_code w (or_done o)) (sym h.is)

    end_there : code_at t.types (written_steps w t.steps) (length t.steps) ≡ Some (ends cps.done)
    end_there = ending_stands t.types (written_steps w t.steps) (length t.steps) endings.Done (last_step t.steps)

    label_begins : (l : Label) → HasCode t l.place → HasCode written (written_label t.types w (length t.steps) l).place
    label_begins l h = by (is_at w (block_of t l))
      where
        by : (q : Bool) → HasCode written (if q then l else record l { place = length t.steps }).place
        by true = kept l.place h
        by false = record { code = ends cps.done; is = end_there }

    label_is : (l : Label) → HasCode t l.place → block_of written (written_label t.types w (length t.steps) l) ≡ cut_block w (block_of t l)
    label_is l h = by (is_at w (block_of t l))
      where
        by : (q : Bool) → block_of written (if q then l else record l { place = length t.steps }) ≡ record (block_of t l) { code = if q then cut_code w (code_in t l.place) else ends cps.done }
        by true = ap (λ c. record (block_of t l) { code = c }) (kept_code l.place h)
        by false = ap (λ o. record (block_of t l) { code = or_done o }) end_there

    labels_begin : (ls : List Label) → Each (λ (l : Label). HasCode t l.place) ls → Each (λ (l : Label). HasCode written l.place) (map (written_label t.types w (length t.steps)) ls)
    labels_begin [] h = tt
    labels_begin (l ∷ ls) h = (label_begins l h.0, labels_begin ls h.1)

    labels_are : (ls : List Label) → Each (λ (l : Label). HasCode t l.place) ls → map (block_of written) (map (written_label t.types w (length t.steps)) ls) ≡ map (cut_block w) (map (block_of t) ls)
    labels_are [] h = refl
    labels_are (l ∷ ls) h = ap₂ (λ b bs. b ∷ bs) (label_is l h.0) (labels_are ls h.1)

    -- parts that are what is written are the table's
    pub written_parts : (types : List TypeExpression) (ss : List Step) (ls : List Label) (main finish : ℕ) → types ≡ t.types → ss ≡ written_steps w t.steps → ls ≡ map (written_label t.types w (length t.steps)) t.labels → main ≡ t.main → finish ≡ t.finish →
        written ≡ record { types = types; steps = ss; labels = ls; primitives = ps; main = main; finish = finish }
    written_parts types ss ls main finish a b c d e = cc

    -- it stands for the cut, and is a table
    pub written_is : IsTable t → map named_of ps ≡ (cut w (blocks_of t)).primitives → blocks_of written ≡ cut w (blocks_of t)
    written_is h e = ap₂ (λ bs ns. record (blocks_of t) { table = bs; primitives = ns }) (labels_are t.labels h.begin) e

    pub written_is_table : IsTable t → map named_of ps ≡ (cut w (blocks_of t)).primitives → IsTable written
    written_is_table h e = record { begin = labels_begin t.labels h.begin; program = subst IsProgram (sym (written_is h e)) (cut_is_program w (blocks_of t) h.program) }

module _ (t : Table) (types : List TypeLine) where
  -- each label has its line
  pub same_count : (es : List Entrance) (ls : List Label) → AllZip (IsEntranceOf types) es (map (block_of t) ls) → length es ≡ length ls
  same_count [] [] z = refl
  same_count [] (l ∷ ls) z = absurd z
  same_count (e ∷ es) [] z = absurd z
  same_count (e ∷ es) (l ∷ ls) z = ap suc (same_count es ls z.1)

  world_at : (es : List Entrance) (ls : List Label) (i : ℕ) (e : Entrance) (l : Label) → AllZip (IsEntranceOf types) es (map (block_of t) ls) → i < length ls → (get_or es i e).world ≡ world_of (entry_mode (entry_of t.types (get_or ls i l).entry))
  world_at es [] i e l z lt = absurd (omega (arith, lt))
  world_at [] (m ∷ ls) i e l z lt = absurd z
  world_at (f ∷ es) (m ∷ ls) zero e l z lt = z.0.world
  world_at (f ∷ es) (m ∷ ls) (suc i) e l z lt = world_at es ls i e l z.1 (omega (arith, lt))

  -- one label more
  pub label_more : (w : World) (end : ℕ) (es : List Entrance) (ls out : List Label) (i : ℕ) (e : Entrance) (l : Label) (b : Bool) (x : Label) → e ≡ get_or es i e → l ≡ get_or ls i l → AllZip (IsEntranceOf types) es (map (block_of t) ls) → i < length ls →
      b ≡ stands_at e.world w → x ≡ (if b then l else record l { place = end }) → out ≡ map (written_label t.types w end) (take i ls) → out ++ x ∷ [] ≡ map (written_label t.types w end) (take (i + 1) ls)
  label_more w end es ls out i e l b x he hl z lt hb hx ho =
      let at : e.world ≡ world_of (entry_mode (entry_of t.types l.entry)) = ap (λ (y : Entrance). y.world) he ∙ world_at es ls i e l z lt ∙ ap (λ (y : Label). world_of (entry_mode (entry_of t.types y.entry))) (sym hl) in
      let is : x ≡ written_label t.types w end l = hx ∙ ap (λ q. if q then l else record l { place = end }) (hb ∙ ap (λ v. stands_at v w) at) in
      ap₂ (λ ys y. ys ++ y ∷ []) ho (is ∙ ap (written_label t.types w end) hl) ∙ sym (map_more (written_label t.types w end) ls i l lt)
