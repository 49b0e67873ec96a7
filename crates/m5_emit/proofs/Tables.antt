-- The instructions of a form on a cell, or of one that begins a thread, follow it.
use Rattle.std.proofs.Common.{◌≡◌, ◌<◌, ◌≤◌, ℕ, zero, suc, pos, Bool, true, false, nat_lt, nat_le, if◌then◌else◌, List, [], ◌∷◌, ◌++◌, length, Option, Some, None, is_some, slice_get, slice_set, refl, sym, ap, subst, ◌∙◌, arith, append-nil}
use Rattle.std.proofs.lemmas.Bool.{ltb-true, ltb-false, leb-true, leb-false}
use Rattle.std.specs.List.{AllZip}
use Rattle.m5_terms.specs.TypeExpression.{same_world}
use Rattle.m5_terms.specs.declared.types.World.{World}
use Rattle.m5_terms.specs.declared.form.LeafForm.TheVariants as leaf_form
use Rattle.m5_region.specs.declared.value.Value.{Value}
use Rattle.m5_region.specs.declared.value.Value.TheVariants as values
use Rattle.m5_region.specs.declared.bench.Bench.{Bench}
use Rattle.m5_region.specs.Region.{Object, place_in}
use Rattle.m5_machine.specs.declared.step.Instruction.{Instruction}
use Rattle.m5_machine.specs.declared.step.Instruction.TheVariants as instructions
use Rattle.m5_machine.specs.declared.made.Made.TheVariants.{Gives, NoTable}
use Rattle.m5_machine.specs.Blocks.{Flat, start_of}
use Rattle.m5_machine.specs.Body.{Body, Then}
use Rattle.m5_machine.specs.Operand.{with_one, int_in}
use Rattle.m5_machine.specs.Closure.{entry_at, label_in, is_closure}
use Rattle.m5_machine.specs.Table.{made, given, in_cells, in_threads, new_cell, cell_place, place_in as cell_in, set_cell, new_thread, new_thread_if}
use Rattle.m5_machine.specs.Block.{run_body}
use Rattle.m5_cps.specs.Values.{atom, wrap, join, closed, enter, unit_value}
use Rattle.m5_cps.specs.Made.{makes_cell, loads, stores, fails, at_cell}
use Rattle.m5_cps.specs.Deeds.{Ran, did, loaded, stored, spawned, stops_full}
use Rattle.m5_cps.specs.Running.{last}
use Rattle.m5_flat.specs.Values.{Closure, under, Site, Thread}
use Rattle.m5_flat.specs.Values as flat
use Rattle.m5_emit.specs.Represents.{Represents, IsThread}
use Rattle.m5_emit.specs.Emit.{Rest}
use Rattle.m5_emit.specs.Follows.{Holds, MayEnter, IsSite, Follows}
use Rattle.m5_emit.specs.Laws.{marked, GoOn}
use Rattle.m5_emit.proofs.Instructions.{Hands, gives_on, then_on, finish_on, run_table}

is_lt : (a b : ℕ) → a < b → nat_lt a b ≡ true
is_lt a b h = by_test (nat_lt a b) refl
  where
    by_test : (t : Bool) → nat_lt a b ≡ t → nat_lt a b ≡ true
    by_test true e = e
    by_test false e = absurd (let q : b ≤ a = ltb-false a b e in omega (arith, q, h))

not_lt : (a b : ℕ) → b ≤ a → nat_lt a b ≡ false
not_lt a b h = by_test (nat_lt a b) refl
  where
    by_test : (t : Bool) → nat_lt a b ≡ t → nat_lt a b ≡ false
    by_test false e = e
    by_test true e = absurd (let q : a < b = ltb-true a b e in omega (arith, q, h))

module _ {A B : Type 0} (R : A → B → Type 0) where
  same_length : (xs : List A) (ys : List B) → AllZip R xs ys → length xs ≡ length ys
  same_length [] [] h = refl
  same_length (x ∷ xs) (y ∷ ys) h = ap suc (same_length xs ys h.1)
  same_length [] (y ∷ ys) h = absurd h
  same_length (x ∷ xs) [] h = absurd h

  one_more : (xs : List A) (ys : List B) (x : A) (y : B) → AllZip R xs ys → R x y → AllZip R (xs ++ x ∷ []) (ys ++ y ∷ [])
  one_more [] [] x y h r = (r, tt)
  one_more (z ∷ xs) (w ∷ ys) x y h r = (h.0, one_more xs ys x y h.1 r)
  one_more [] (w ∷ ys) x y h r = absurd h
  one_more (z ∷ xs) [] x y h r = absurd h

  one_set : (xs : List A) (ys : List B) (i : ℕ) (x : A) (y : B) → AllZip R xs ys → R x y → AllZip R (slice_set xs i x) (slice_set ys i y)
  one_set [] [] i x y h r = h
  one_set (z ∷ xs) (w ∷ ys) zero x y h r = (r, h.1)
  one_set (z ∷ xs) (w ∷ ys) (suc i) x y h r = (h.0, one_set xs ys i x y h.1 r)
  one_set [] (w ∷ ys) i x y h r = absurd h
  one_set (z ∷ xs) [] i x y h r = absurd h

  -- what stands at a place
  one_got : (xs : List A) (ys : List B) (i : ℕ) (x : A) → AllZip R xs ys → slice_get xs i ≡ Some x → (y : B) × (i < length ys) × (slice_get ys i ≡ Some y) × R x y
  one_got [] ys i x h e = absurd (cc (e))
  one_got (z ∷ xs) [] i x h e = absurd h
  one_got (z ∷ xs) (w ∷ ys) zero x h e = (w, omega arith, refl, let q : z ≡ x = cc (e) in subst (λ v. R v w) q h.0)
  one_got (z ∷ xs) (w ∷ ys) (suc i) x h e = let k = one_got xs ys i x h.1 e in (k.0, omega (arith, k.1), k.2, k.3)

-- a closure that may be entered is one to the machine
pub is_entered : (code : Flat) (os : List Object) (k : flat.Value) (v : Value) → MayEnter code k → Represents os k v → is_closure code os v ≡ true
is_entered code os (closed (under i n) σ) (values.Array r) p h =
    ap (λ o. is_some (with_one (int_in (place_in o 0)) (λ n. with_one (label_in n) (λ label. entry_at label (start_of code label))))) h.1
    ∙ ap (λ t. is_some (with_one (if t then None else Some i) (λ label. entry_at label (start_of code label)))) (not_lt 65535 i p.0)
    ∙ begins (start_of code i) p.1
  where
    begins : (o : Option ℕ) → is_some o ≡ true → is_some (entry_at i o) ≡ true
    begins (Some start) e = refl
    begins None e = absurd (cc (e))
is_entered code os (closed (under i n) σ) values.Null p h = absurd h.1
is_entered code os (closed (under i n) σ) (values.Bool b) p h = absurd h.1
is_entered code os (closed (under i n) σ) (values.Int b) p h = absurd h.1
is_entered code os (closed (under i n) σ) (values.Text b) p h = absurd h.1
is_entered code os (atom f) v p h = absurd p
is_entered code os (wrap f a) v p h = absurd p
is_entered code os (join f a b) v p h = absurd p

module _ (total : ℕ) (hs : List Value) (H : Site → flat.Value → Type 0) (code : Flat) (u : World) (bench : Bench) (s : Site) (rest : Rest) (go_on : Site → flat.Value → Ran Closure) (h : IsSite total hs bench s) (go : GoOn total hs H code bench rest go_on) (x : ℕ) where
  abbrev F : Ran Closure → Body → Type 0
  F r b = Follows total hs r (run_body code b bench)

  abbrev m : ℕ
  m = length bench.slots

  abbrev R : flat.Value → Value → Type 0
  R = Represents bench.region.objects

  -- a table is full
  full_on : (i : Instruction) (b : Body) → made code i bench ≡ (NoTable, bench) → F (stops_full s) (Then i b)
  full_on i b e = subst (Follows total hs (stops_full s)) (sym (run_table total hs H code i b bench bench e)) (record { site = s; is = refl; fits = h })

  pub new_cells : (a : flat.Value) → Holds bench x a → Hands H (λ g. did u s (makes_cell a) g) → F (did u s (makes_cell a) go_on) (Then (instructions.Cell x) (rest m (suc m)))
  new_cells a k hd = by_test (nat_le 4096 (length s.cells)) refl
    where
      long : length s.cells ≡ length bench.cells
      long = same_length R s.cells bench.cells h.cells

      is : made code (instructions.Cell x) bench ≡ in_cells bench (new_cell bench.cells (Some k.value))
      is = ap (λ o. in_cells bench (new_cell bench.cells o)) k.there

      by_test : (t : Bool) → nat_le 4096 (length s.cells) ≡ t → F (if t then stops_full s else go_on (record s { cells = s.cells ++ a ∷ [] }) (atom (leaf_form.CellAt u (length s.cells)))) (Then (instructions.Cell x) (rest m (suc m)))
      by_test true e =
          let q : 4096 ≤ length s.cells = leb-true _ _ e in
          full_on (instructions.Cell x) _ (is ∙ ap (λ t. in_cells bench (if t then (Gives (values.Int (pos (length bench.cells))), bench.cells ++ k.value ∷ []) else (NoTable, bench.cells))) (not_lt (length bench.cells) 4096 (omega (arith, q, long))))
      by_test false e =
          let q : length s.cells < 4096 = leb-false _ _ e in
          let v : Value = values.Int (pos (length bench.cells)) in
          let new : Bench = record bench { cells = bench.cells ++ k.value ∷ [] } in
          then_on total hs H code (instructions.Cell x) bench new v (rest m (suc m)) (go_on (record s { cells = s.cells ++ a ∷ [] }) (atom (leaf_form.CellAt u (length s.cells))))
          (is ∙ ap (λ t. in_cells bench (if t then (Gives v, bench.cells ++ k.value ∷ []) else (NoTable, bench.cells))) (is_lt (length bench.cells) 4096 (omega (arith, q, long))))
          (finish_on total hs H code bench new v (record s { cells = s.cells ++ a ∷ [] }) (atom (leaf_form.CellAt u (length s.cells))) rest go_on (record { objects = []; slots = v ∷ []; objects_are = sym (append-nil bench.region.objects); slots_are = refl }) refl
          (record { threads = h.threads; cells = one_more R s.cells bench.cells a k.value h.cells k.stands; handlers = h.handlers; units = h.units }) (ap (λ n. values.Int (pos n)) (sym long))
          (hd _ _ (ap (λ t. last (if t then stops_full s else marked (record s { cells = s.cells ++ a ∷ [] }) (atom (leaf_form.CellAt u (length s.cells))))) e)) go)

  -- the place of a cell that is there
  placed : (w : World) (n : ℕ) → Holds bench x (atom (leaf_form.CellAt w n)) → n < length bench.cells → cell_in bench.cells bench.slots x ≡ Some n
  placed w n k lt = ap (λ o. with_one (int_in o) (cell_place bench.cells)) (k.there ∙ ap Some k.stands) ∙ ap (λ t. if t then Some n else None) (is_lt n (length bench.cells) lt)

  pub loads_on : (a : flat.Value) → Holds bench x a → Hands H (λ g. did u s (at_cell u loads a) g) → F (did u s (at_cell u loads a) go_on) (Then (instructions.Load x) (rest m (suc m)))
  loads_on (atom (leaf_form.CellAt w n)) k hd0 = by_world (same_world w u) hd0
    where
      by_cell : (o : Option flat.Value) → slice_get s.cells n ≡ o → Hands H (λ g. loaded s g o) → F (loaded s go_on o) (Then (instructions.Load x) (rest m (suc m)))
      by_cell None e hd = tt
      by_cell (Some a) e hd =
          let g = one_got R s.cells bench.cells n a h.cells e in
          gives_on total hs H code (instructions.Load x) bench g.0 s a rest go_on (ap (λ o. given bench (with_one o (slice_get bench.cells))) (placed w n k g.1) ∙ ap (given bench) g.2) g.3 h (hd s a refl) go

      by_world : (t : Bool) → Hands H (λ g. did u s (if t then loads n else fails) g) → F (did u s (if t then loads n else fails) go_on) (Then (instructions.Load x) (rest m (suc m)))
      by_world true hd = by_cell (slice_get s.cells n) refl hd
      by_world false hd = tt
  loads_on _ k hd = tt

  pub stores_on : (y : ℕ) (a b : flat.Value) → Holds bench x a → Holds bench y b → Hands H (λ g. did u s (at_cell u (λ n. stores n b) a) g) → F (did u s (at_cell u (λ n. stores n b) a) go_on) (Then (instructions.Store x y) (rest m (suc m)))
  stores_on y (atom (leaf_form.CellAt w n)) b k j hd0 = by_world (same_world w u) hd0
    where
      by_cell : (o : Option flat.Value) → slice_get s.cells n ≡ o → Hands H (λ g. stored s g n b o) → F (stored s go_on n b o) (Then (instructions.Store x y) (rest m (suc m)))
      by_cell None e hd = tt
      by_cell (Some a) e hd =
          let g = one_got R s.cells bench.cells n a h.cells e in
          let new : Bench = record bench { cells = slice_set bench.cells n j.value } in
          then_on total hs H code (instructions.Store x y) bench new values.Null (rest m (suc m)) (go_on (record s { cells = slice_set s.cells n b }) unit_value)
          (ap (λ o. in_cells bench (set_cell bench.cells o (slice_get bench.slots y))) (placed w n k g.1) ∙ ap (λ o. in_cells bench (set_cell bench.cells (Some n) o)) j.there)
          (finish_on total hs H code bench new values.Null (record s { cells = slice_set s.cells n b }) unit_value rest go_on (record { objects = []; slots = values.Null ∷ []; objects_are = sym (append-nil bench.region.objects); slots_are = refl }) refl
          (record { threads = h.threads; cells = one_set R s.cells bench.cells n b j.value h.cells j.stands; handlers = h.handlers; units = h.units }) refl (hd _ _ refl) go)

      by_world : (t : Bool) → Hands H (λ g. did u s (if t then stores n b else fails) g) → F (did u s (if t then stores n b else fails) go_on) (Then (instructions.Store x y) (rest m (suc m)))
      by_world true hd = by_cell (slice_get s.cells n) refl hd
      by_world false hd = tt
  stores_on y _ b k j hd = tt

  pub spawns_on : (a : flat.Value) → MayEnter code a → Holds bench x a → Hands H (λ g. spawned s a g) → F (spawned s a go_on) (Then (instructions.Spawn x) (rest m (suc m)))
  spawns_on a p k hd = by_test (nat_le 4096 (suc (length s.threads))) refl
    where
      long : length bench.threads ≡ length s.threads
      long = same_length (IsThread bench.region.objects) bench.threads s.threads h.threads

      is : made code (instructions.Spawn x) bench ≡ in_threads bench (new_thread_if true bench.threads k.value)
      is = ap (λ o. in_threads bench (new_thread code bench.region.objects bench.threads o)) k.there ∙ ap (λ t. in_threads bench (new_thread_if t bench.threads k.value)) (is_entered code bench.region.objects a k.value p k.stands)

      by_test : (t : Bool) → nat_le 4096 (suc (length s.threads)) ≡ t → F (if t then stops_full s else go_on (record s { threads = s.threads ++ enter a unit_value ∷ [] }) unit_value) (Then (instructions.Spawn x) (rest m (suc m)))
      by_test true e =
          let q : 4096 ≤ suc (length s.threads) = leb-true _ _ e in
          full_on (instructions.Spawn x) _ (is ∙ ap (λ t. in_threads bench (if t then (Gives values.Null, bench.threads ++ record { code = k.value; argument = values.Null } ∷ []) else (NoTable, bench.threads))) (not_lt (suc (length bench.threads)) 4096 (omega (arith, q, long))))
      by_test false e =
          let q : suc (length s.threads) < 4096 = leb-false _ _ e in
          let new : Bench = record bench { threads = bench.threads ++ record { code = k.value; argument = values.Null } ∷ [] } in
          then_on total hs H code (instructions.Spawn x) bench new values.Null (rest m (suc m)) (go_on (record s { threads = s.threads ++ enter a unit_value ∷ [] }) unit_value)
          (is ∙ ap (λ t. in_threads bench (if t then (Gives values.Null, bench.threads ++ record { code = k.value; argument = values.Null } ∷ []) else (NoTable, bench.threads))) (is_lt (suc (length bench.threads)) 4096 (omega (arith, q, long))))
          (finish_on total hs H code bench new values.Null (record s { threads = s.threads ++ enter a unit_value ∷ [] }) unit_value rest go_on (record { objects = []; slots = values.Null ∷ []; objects_are = sym (append-nil bench.region.objects); slots_are = refl }) refl
          (record { threads = one_more (IsThread bench.region.objects) bench.threads s.threads _ _ h.threads (k.stands, refl); cells = h.cells; handlers = h.handlers; units = h.units }) refl
          (hd _ _ (ap (λ t. last (if t then stops_full s else marked (record s { threads = s.threads ++ enter a unit_value ∷ [] }) unit_value)) e)) go)
