-- A bench stays sound where an object, a cell or a thread is added.
use Rattle.std.proofs.Common.{◌≡◌, ℕ, zero, suc, pos, ◌-◌, List, [], ◌∷◌, ◌++◌, length, refl, ap, sym, subst, arith, Option, Some, None, Bool, true, false, slice_get, nat_lt, IsSome, IsSomeAnd, ◌⊎◌, inl, inr, if◌then◌else◌}
use Rattle.std.specs.List.{All}
use Rattle.std.proofs.lemmas.List.Elements.{All-weaker, All-set, All-push}
use Rattle.m5_region.specs.declared.value.Ref.{Ref}
use Rattle.m5_region.specs.declared.value.Value.{Value}
use Rattle.m5_region.specs.declared.value.Value.TheVariants.{Null, Bool as Truth, Int, Text, Array}
use Rattle.m5_region.specs.declared.limits.TheConstants.{MOST_ITEMS}
use Rattle.m5_region.specs.declared.queue.Ready.{Ready}
use Rattle.m5_region.specs.declared.bench.Bench.{Bench}
use Rattle.m5_region.specs.Region.{Contents, Object, Refers, units_of, IsArray, place_in, fields_in}
use Rattle.m5_region.proofs.References.{refers_more, all_after}
use Rattle.m5_machine.specs.declared.made.Made.{Made}
use Rattle.m5_machine.specs.declared.made.Made.TheVariants.{Gives, NoRegion, NoTable}
use Rattle.m5_machine.specs.Blocks.{Flat, start_of}
use Rattle.m5_machine.specs.Operand.{with_one, int_in}
use Rattle.m5_machine.specs.Closure.{entry, entry_at, label_in, is_closure, CanRun}
use Rattle.m5_machine.specs.Table.{with_object, added, new_cell, set_cell, loaded, place_in as cell_of, value_or_none, new_thread, new_thread_if, GivesFit}
use Rattle.m5_machine.specs.code.Running.{IsRunning}

-- what holds of all holds of one
pub item_holds : {A : Type 0} (P : A → Type 0) (xs : List A) (i : ℕ) (x : A) → All P xs → Some x ≡ slice_get xs i → P x
item_holds P [] i x h e = absurd (let none : Some x ≡ None = e in cc)
item_holds P (y ∷ xs) zero x h e = let same : y ≡ x = cc in subst P same (h 0 y (omega arith))
item_holds P (y ∷ xs) (suc i) x h e = item_holds P xs i x (λ k d l. h (suc k) d (omega arith)) e

get_more : (P : Object → Type 0) (os : List Object) (o : Object) (n : ℕ) → IsSomeAnd (slice_get os n) P → slice_get (os ++ o ∷ []) n ≡ slice_get os n
get_more P [] o n h = absurd h
get_more P (p ∷ os) o zero h = refl
get_more P (p ∷ os) o (suc n) h = get_more P os o n h

-- a closure enters the same block where an object is added
entry_more : (code : Flat) (os : List Object) (o : Object) (v : Value) → Refers os v → entry code (os ++ o ∷ []) v ≡ entry code os v
entry_more code os o Null h = refl
entry_more code os o (Truth b) h = refl
entry_more code os o (Int n) h = refl
entry_more code os o (Text r) h = refl
entry_more code os o (Array r) h =
    ap (λ (x : Option Object). with_one (int_in (place_in (fields_in x) 0)) (λ n. with_one (label_in n) (λ label. entry_at label (start_of code label)))) (get_more IsArray os o r.0 h)

can_run_more : (code : Flat) (os : List Object) (o : Object) (t : Ready) → CanRun code os t → CanRun code (os ++ o ∷ []) t
can_run_more code os o t h = record {
  code_refers = refers_more os o t.code h.code_refers;
  argument_refers = refers_more os o t.argument h.argument_refers;
  closure = subst IsSome (sym (entry_more code os o t.code h.code_refers)) h.closure;
}

threads_after : (code : Flat) (os os' : List Object) (o : Object) (ts : List Ready) → os' ≡ os ++ o ∷ [] → All (CanRun code os) ts → All (CanRun code os') ts
threads_after code os os' o ts e h = subst (λ (x : List Object). All (CanRun code x) ts) (sym e) (All-weaker (CanRun code os) (CanRun code (os ++ o ∷ [])) (can_run_more code os o) ts h)

grown : (code : Flat) (bench : Bench) (region : Contents) (o : Object) → region.objects ≡ bench.region.objects ++ o ∷ [] → IsRunning code bench → IsRunning code (record bench { region = region })
grown code bench region o e r = record {
  sound = record {
    cells = all_after bench.region.objects region.objects o bench.cells e r.sound.cells;
    threads = threads_after code bench.region.objects region.objects o bench.threads e r.sound.threads;
  };
  slots = all_after bench.region.objects region.objects o bench.slots e r.slots;
}

unchanged : (code : Flat) (bench : Bench) (region : Contents) → region ≡ bench.region → IsRunning code bench → IsRunning code (record bench { region = region })
unchanged code bench region e r = subst (λ (x : Contents). IsRunning code (record bench { region = x })) (sym e) r

either : {X : Type 0} (b : Bool) (p q x : X) → (if b then p else q) ≡ x → (x ≡ p) ⊎ (x ≡ q)
either true p q x e = inl (sym e)
either false p q x e = inr (sym e)

-- a bench after a new object
pub after_object : (code : Flat) (bench : Bench) (o : Object) (v : Ref → Value) (m : Made) (region : Contents) → with_object bench.region o v ≡ (m, region) → IsRunning code bench → IsRunning code (record bench { region = region })
after_object code bench o v m region e r =
    elim (either {X = Made × Contents} (nat_lt bench.region.left (units_of o)) (NoRegion, bench.region) (Gives (v (record { 0 = length bench.region.objects })), record { objects = bench.region.objects ++ o ∷ []; left = bench.region.left - units_of o }) (m, region) e) [
      | inl p ↦ unchanged code bench region (ap (λ (x : Made × Contents). x.1) p) r
      | inr p ↦ grown code bench region o (ap (λ (x : Made × Contents). x.1.objects) p) r
    ]

pub after_added : (code : Flat) (bench : Bench) (o : Option Object) (v : Ref → Value) (m : Made) (region : Contents) → added bench.region o v ≡ (m, region) → IsRunning code bench → IsRunning code (record bench { region = region })
after_added code bench None v m region e r = unchanged code bench region (ap (λ (x : Made × Contents). x.1) (sym e)) r
after_added code bench (Some o) v m region e r = after_object code bench o v m region e r

cells_are : (code : Flat) (bench : Bench) (cells : List Value) → All (Refers bench.region.objects) cells → IsRunning code bench → IsRunning code (record bench { cells = cells })
cells_are code bench cells h r = record { sound = record { cells = h; threads = r.sound.threads }; slots = r.slots }

new_cells : (P : Value → Type 0) (cells : List Value) (v : Option Value) (m : Made) (cells' : List Value) → ((w : Value) → Some w ≡ v → P w) → new_cell cells v ≡ (m, cells') → All P cells → All P cells'
new_cells P cells None m cells' f e h = subst (All P) (ap (λ (x : Made × List Value). x.1) e) h
new_cells P cells (Some v) m cells' f e h =
    elim (either {X = Made × List Value} (nat_lt (length cells) MOST_ITEMS) (Gives (Int (pos (length cells))), cells ++ v ∷ []) (NoTable, cells) (m, cells') e) [
      | inl p ↦ subst (All P) (sym (ap (λ (x : Made × List Value). x.1) p)) (All-push P cells v h (f v refl))
      | inr p ↦ subst (All P) (sym (ap (λ (x : Made × List Value). x.1) p)) h
    ]

-- a bench after a new cell, whose value is a slot's
pub after_cell : (code : Flat) (bench : Bench) (s : ℕ) (m : Made) (cells : List Value) → new_cell bench.cells (slice_get bench.slots s) ≡ (m, cells) → IsRunning code bench → IsRunning code (record bench { cells = cells })
after_cell code bench s m cells e r =
    let P = Refers bench.region.objects in
    cells_are code bench cells (new_cells P bench.cells (slice_get bench.slots s) m cells (λ w f. item_holds P bench.slots s w r.slots f) e r.sound.cells) r

cells_set : (P : Value → Type 0) (cells : List Value) (place : Option ℕ) (v : Option Value) (m : Made) (cells' : List Value) → ((w : Value) → Some w ≡ v → P w) → set_cell cells place v ≡ (m, cells') → All P cells → All P cells'
cells_set P cells None v m cells' f e h = subst (All P) (ap (λ (x : Made × List Value). x.1) e) h
cells_set P cells (Some place) None m cells' f e h = subst (All P) (ap (λ (x : Made × List Value). x.1) e) h
cells_set P cells (Some place) (Some v) m cells' f e h = subst (All P) (ap (λ (x : Made × List Value). x.1) e) (All-set P cells place v (f v refl) h)

-- a bench after a cell was set to a slot's value
pub after_store : (code : Flat) (bench : Bench) (place : Option ℕ) (s : ℕ) (m : Made) (cells : List Value) → set_cell bench.cells place (slice_get bench.slots s) ≡ (m, cells) → IsRunning code bench → IsRunning code (record bench { cells = cells })
after_store code bench place s m cells e r =
    let P = Refers bench.region.objects in
    cells_are code bench cells (cells_set P bench.cells place (slice_get bench.slots s) m cells (λ w f. item_holds P bench.slots s w r.slots f) e r.sound.cells) r

there : (os : List Object) (v : Option Value) → ((w : Value) → Some w ≡ v → Refers os w) → GivesFit os (value_or_none v)
there os None f = tt
there os (Some v) f = f v refl

cell_fits : (os : List Object) (cells : List Value) (place : Option ℕ) → All (Refers os) cells → GivesFit os (value_or_none (with_one place (slice_get cells)))
cell_fits os cells None h = tt
cell_fits os cells (Some place) h = there os (slice_get cells place) (λ w e. item_holds (Refers os) cells place w h e)

-- what a cell holds refers as the cells do
pub load_fits : (os : List Object) (cells slots : List Value) (s : ℕ) → All (Refers os) cells → GivesFit os (value_or_none (loaded cells slots s))
load_fits os cells slots s h = cell_fits os cells (cell_of cells slots s) h

pushed_thread : (code : Flat) (os : List Object) (ts : List Ready) (v : Value) → Refers os v → IsSome (entry code os v) → All (CanRun code os) ts → All (CanRun code os) (ts ++ record { code = v; argument = Null } ∷ [])
pushed_thread code os ts v r c h = All-push (CanRun code os) ts (record { code = v; argument = Null }) h (record { code_refers = r; argument_refers = tt; closure = c })

closure_thread : (code : Flat) (os : List Object) (ts : List Ready) (v : Value) (b : Bool) → b ≡ is_closure code os v → (m : Made) (ts' : List Ready) → Refers os v → new_thread_if b ts v ≡ (m, ts') → All (CanRun code os) ts → All (CanRun code os) ts'
closure_thread code os ts v false b m ts' r e h = subst (All (CanRun code os)) (ap (λ (x : Made × List Ready). x.1) e) h
closure_thread code os ts v true b m ts' r e h =
    elim (either {X = Made × List Ready} (nat_lt (suc (length ts)) MOST_ITEMS) (Gives Null, ts ++ record { code = v; argument = Null } ∷ []) (NoTable, ts) (m, ts') e) [
      | inl p ↦ subst (All (CanRun code os)) (sym (ap (λ (x : Made × List Ready). x.1) p)) (pushed_thread code os ts v r (sym b) h)
      | inr p ↦ subst (All (CanRun code os)) (sym (ap (λ (x : Made × List Ready). x.1) p)) h
    ]

new_threads : (code : Flat) (os : List Object) (ts : List Ready) (v : Option Value) (m : Made) (ts' : List Ready) → ((w : Value) → Some w ≡ v → Refers os w) → new_thread code os ts v ≡ (m, ts') → All (CanRun code os) ts → All (CanRun code os) ts'
new_threads code os ts None m ts' f e h = subst (All (CanRun code os)) (ap (λ (x : Made × List Ready). x.1) e) h
new_threads code os ts (Some v) m ts' f e h = closure_thread code os ts v (is_closure code os v) refl m ts' (f v refl) e h

-- a bench after a new thread, whose code is a slot's value
pub after_thread : (code : Flat) (bench : Bench) (s : ℕ) (m : Made) (threads : List Ready) → new_thread code bench.region.objects bench.threads (slice_get bench.slots s) ≡ (m, threads) → IsRunning code bench → IsRunning code (record bench { threads = threads })
after_thread code bench s m threads e r = record {
  sound = record {
    cells = r.sound.cells;
    threads = new_threads code bench.region.objects bench.threads (slice_get bench.slots s) m threads (λ w f. item_holds (Refers bench.region.objects) bench.slots s w r.slots f) e r.sound.threads;
  };
  slots = r.slots;
}
