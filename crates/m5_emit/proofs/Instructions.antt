-- What one instruction makes, and how the run goes on.
use Rattle.std.proofs.Common.{◌≡◌, inl, inr, ◌<◌, ◌≤◌, ◌+◌, ◌-◌, ℕ, suc, Bool, true, false, nat_lt, if◌then◌else◌, List, [], ◌∷◌, ◌++◌, length, map, Some, None, is_some, unwrap_or, ◌&&◌, slice_get, refl, sym, ap, subst, ◌∙◌, arith, append_assoc, append-nil}
use Rattle.std.proofs.lemmas.Bool.{ltb-true, ltb-false}
use Rattle.std.specs.List.{AllZip, list_all}
use Rattle.m5_region.specs.declared.value.Ref.{Ref}
use Rattle.m5_region.specs.declared.value.Value.{Value}
use Rattle.m5_region.specs.declared.value.Value.TheVariants as values
use Rattle.m5_region.specs.declared.bench.Bench.{Bench}
use Rattle.m5_region.specs.Region.{Object, ArrayOf, units_of, fields_in, field_of, place_in, text_of}
use Rattle.m5_machine.specs.declared.step.Instruction.{Instruction}
use Rattle.m5_machine.specs.declared.step.Instruction.TheVariants as instructions
use Rattle.m5_machine.specs.declared.made.Made.{Made}
use Rattle.m5_machine.specs.declared.made.Made.TheVariants.{Gives, NoRegion, NoTable}
use Rattle.m5_machine.specs.declared.next.Next.{Next}
use Rattle.m5_machine.specs.declared.next.Next.TheVariants.{FullRegion, FullTable}
use Rattle.m5_machine.specs.Blocks.{Flat}
use Rattle.m5_machine.specs.Body.{Body, Then, If}
use Rattle.m5_machine.specs.Operand.{with_one, bool_in, array_in, text_at, text_in}
use Rattle.m5_machine.specs.Table.{made, in_region, with_object, added, array_of, is_filled, value_at, part}
use Rattle.m5_machine.specs.Block.{run_body, and_then, fill_with, choice}
use Rattle.m5_cps.specs.Deeds.{Ran, taking}
use Rattle.m5_cps.specs.Running.{last}
use Rattle.m5_flat.specs.Values.{Closure, Site}
use Rattle.m5_flat.specs.Values as flat
use Rattle.m5_emit.specs.Represents.{IsTextOf, IsArrayOf, Represents}
use Rattle.m5_emit.specs.Emit.{Rest}
use Rattle.m5_emit.specs.Follows.{Grows, Holds, IsSite, Follows}
use Rattle.m5_emit.specs.Laws.{marked, GoOn}
use Rattle.m5_emit.proofs.Standing.{got_on, got_last, stands_on, threads_on, values_on}

pub one_longer : {A : Type 0} (xs : List A) (x : A) → length (xs ++ x ∷ []) ≡ suc (length xs)
one_longer [] x = refl
one_longer (z ∷ xs) x = ap suc (one_longer xs x)

-- the operands of an array
pub array_is : (slots : List Value) (ops : List ℕ) (vs : List Value) → AllZip (λ o v. slice_get slots o ≡ Some v) ops vs → array_of slots ops ≡ Some (ArrayOf vs)
array_is slots ops vs h = ap (λ b. if b then Some (ArrayOf (map (value_at slots) ops)) else None) (filled ops vs h) ∙ ap (λ z. Some (ArrayOf z)) (fields ops vs h)
  where
    filled : (ops : List ℕ) (vs : List Value) → AllZip (λ o v. slice_get slots o ≡ Some v) ops vs → list_all (is_filled slots) ops ≡ true
    filled [] [] h = refl
    filled (o ∷ ops) (v ∷ vs) h = ap (λ z. is_some z && list_all (is_filled slots) ops) h.0 ∙ filled ops vs h.1
    filled [] (v ∷ vs) h = absurd h
    filled (o ∷ ops) [] h = absurd h

    fields : (ops : List ℕ) (vs : List Value) → AllZip (λ o v. slice_get slots o ≡ Some v) ops vs → map (value_at slots) ops ≡ vs
    fields [] [] h = refl
    fields (o ∷ ops) (v ∷ vs) h = ap (λ z. unwrap_or z values.Null ∷ map (value_at slots) ops) h.0 ∙ ap (λ z. v ∷ z) (fields ops vs h.1)
    fields [] (v ∷ vs) h = absurd h
    fields (o ∷ ops) [] h = absurd h

-- a field, and a text
pub part_is : (os : List Object) (slots : List Value) (x place : ℕ) (v : Value) (vs : List Value) → slice_get slots x ≡ Some v → IsArrayOf os vs v → part os slots x place ≡ slice_get vs place
part_is os slots x place (values.Array r) vs e h = ap (λ o. with_one (array_in o) (λ at. field_of os at.0 place)) e ∙ ap (λ f. place_in f place) h
part_is os slots x place _ vs e h = absurd h

pub text_is : (os : List Object) (slots : List Value) (x : ℕ) (v : Value) (t : List ℕ) → slice_get slots x ≡ Some v → IsTextOf os t v → text_at os slots x ≡ Some t
text_is os slots x (values.Text r) t e h = ap (λ o. with_one (text_in o) (λ q. text_of os q.0)) e ∙ h
text_is os slots x _ t e h = absurd h

-- bench with a slot more, and with an object more in it
abbrev pub with_slot : Bench → Value → Bench
with_slot bench v = record bench { slots = bench.slots ++ v ∷ [] }

abbrev pub with_new : Bench → Object → Value → Bench
with_new bench o v = record bench { region = record { objects = bench.region.objects ++ o ∷ []; left = bench.region.left - units_of o }; slots = bench.slots ++ v ∷ [] }

pub grows_on : (a b c : Bench) → Grows a b → Grows b c → Grows a c
grows_on a b c g k = record {
  objects = g.objects ++ k.objects;
  slots = g.slots ++ k.slots;
  objects_are = k.objects_are ∙ ap (λ z. z ++ k.objects) g.objects_are ∙ append_assoc a.region.objects g.objects k.objects;
  slots_are = k.slots_are ∙ ap (λ z. z ++ k.slots) g.slots_are ∙ append_assoc a.slots g.slots k.slots;
}

pub slot_grows : (bench : Bench) (v : Value) → Grows bench (with_slot bench v)
slot_grows bench v = record { objects = []; slots = v ∷ []; objects_are = sym (append-nil bench.region.objects); slots_are = refl }

pub new_grows : (bench : Bench) (o : Object) (v : Value) → Grows bench (with_new bench o v)
new_grows bench o v = record { objects = o ∷ []; slots = v ∷ []; objects_are = refl; slots_are = refl }

-- what a slot holds, it holds on
pub holds_on : (old new : Bench) (x : ℕ) (a : flat.Value) → Grows old new → Holds old x a → Holds new x a
holds_on old new x a g h = record {
  value = h.value;
  there = ap (λ z. slice_get z x) g.slots_are ∙ got_on old.slots g.slots x h.value h.there;
  stands = subst (λ z. Represents z a h.value) (sym g.objects_are) (stands_on old.region.objects g.objects a h.value h.stands);
}

-- the last slot
pub last_holds : (bench new : Bench) (v : Value) (a : flat.Value) → new.slots ≡ bench.slots ++ v ∷ [] → Represents new.region.objects a v → Holds new (length bench.slots) a
last_holds bench new v a e r = record { value = v; there = ap (λ z. slice_get z (length bench.slots)) e ∙ got_last bench.slots v; stands = r }

module _ (total : ℕ) (hs : List Value) (H : Site → flat.Value → Type 0) (code : Flat) where
  run_gives : (i : Instruction) (b : Body) (bench new : Bench) (v : Value) → made code i bench ≡ (Gives v, new) → run_body code (Then i b) bench ≡ run_body code b (with_slot new v)
  unfolding run_body
  run_gives i b bench new v e = ap (λ (m : Made × Bench). and_then (fill_with m.0 m.1).0 (fill_with m.0 m.1).1 (run_body code b)) e

  run_full : (i : Instruction) (b : Body) (bench new : Bench) → made code i bench ≡ (NoRegion, new) → run_body code (Then i b) bench ≡ (FullRegion, new)
  unfolding run_body
  run_full i b bench new e = ap (λ (m : Made × Bench). and_then (fill_with m.0 m.1).0 (fill_with m.0 m.1).1 (run_body code b)) e

  pub run_table : (i : Instruction) (b : Body) (bench new : Bench) → made code i bench ≡ (NoTable, new) → run_body code (Then i b) bench ≡ (FullTable, new)
  unfolding run_body
  run_table i b bench new e = ap (λ (m : Made × Bench). and_then (fill_with m.0 m.1).0 (fill_with m.0 m.1).1 (run_body code b)) e

  pub go_further : (old new : Bench) (rest : Rest) (go_on : Site → flat.Value → Ran Closure) → Grows old new → GoOn total hs H code old rest go_on → GoOn total hs H code new rest go_on
  go_further old new rest go_on g k last s x a hd g1 h v = k last s x a hd (grows_on old new last g g1) h v

  -- an instruction whose value fills the next slot, and which may change what else the bench has
  pub then_on : (i : Instruction) (bench new : Bench) (v : Value) (b : Body) (r : Ran Closure) → made code i bench ≡ (Gives v, new) → Follows total hs r (run_body code b (with_slot new v)) → Follows total hs r (run_body code (Then i b) bench)
  then_on i bench new v b r e k = subst (λ z. Follows total hs r z) (sym (run_gives i b bench new v e)) k

  pub finish_on : (bench new : Bench) (v : Value) (s : Site) (a : flat.Value) (rest : Rest) (go_on : Site → flat.Value → Ran Closure) → Grows bench (with_slot new v) → new.slots ≡ bench.slots → IsSite total hs (with_slot new v) s → Represents new.region.objects a v → H s a → GoOn total hs H code bench rest go_on →
      Follows total hs (go_on s a) (run_body code (rest (length bench.slots) (suc (length bench.slots))) (with_slot new v))
  finish_on bench new v s a rest go_on g e h r hd go =
      let long : length (new.slots ++ v ∷ []) ≡ suc (length bench.slots) = ap (λ z. length (z ++ v ∷ [])) e ∙ one_longer bench.slots v in
      subst (λ z. Follows total hs (go_on s a) (run_body code (rest (length bench.slots) z) (with_slot new v))) long
      (go (with_slot new v) s (length bench.slots) a hd g h (last_holds bench (with_slot new v) v a (ap (λ z. z ++ v ∷ []) e) r))

  pub slot_fits : (bench : Bench) (v : Value) (s : Site) → IsSite total hs bench s → IsSite total hs (with_slot bench v) s
  slot_fits bench v s h = record { threads = h.threads; cells = h.cells; handlers = h.handlers; units = h.units }

  -- an instruction that gives a value and changes nothing
  pub gives_on : (i : Instruction) (bench : Bench) (v : Value) (s : Site) (a : flat.Value) (rest : Rest) (go_on : Site → flat.Value → Ran Closure) → made code i bench ≡ (Gives v, bench) → Represents bench.region.objects a v → IsSite total hs bench s → H s a → GoOn total hs H code bench rest go_on →
      Follows total hs (go_on s a) (run_body code (Then i (rest (length bench.slots) (suc (length bench.slots)))) bench)
  gives_on i bench v s a rest go_on e r h hd go =
      then_on i bench bench v _ _ e (finish_on bench bench v s a rest go_on (slot_grows bench v) refl (slot_fits bench v s h) r hd go)

  new_fits : (bench : Bench) (o : Object) (v : Value) (s : Site) (c : ℕ) → units_of o ≡ c → units_of o ≤ bench.region.left → IsSite total hs bench s → IsSite total hs (with_new bench o v) (record s { units = s.units + c })
  new_fits bench o v s c q le h = record {
    threads = threads_on bench.region.objects (o ∷ []) bench.threads s.threads h.threads;
    cells = values_on bench.region.objects (o ∷ []) s.cells bench.cells h.cells;
    handlers = values_on bench.region.objects (o ∷ []) s.handlers hs h.handlers;
    units = omega (arith, h.units, q, le);
  }

  -- an object is made where it fits
  pub object_on : (i : Instruction) (o : Object) (make : Ref → Value) (c : ℕ) (bench : Bench) (s : Site) (b : Body) (g : Site → Ran Closure) → made code i bench ≡ in_region bench (with_object bench.region o make) → units_of o ≡ c → IsSite total hs bench s →
      (let v : Value = make (record { 0 = length bench.region.objects }) in IsSite total hs (with_new bench o v) (record s { units = s.units + c }) → Follows total hs (g (record s { units = s.units + c })) (run_body code b (with_new bench o v))) →
      Follows total hs (taking c s g) (run_body code (Then i b) bench)
  object_on i o make c bench s b g e q h k = by_test (nat_lt bench.region.left (units_of o)) refl
    where
      by_test : (t : Bool) → nat_lt bench.region.left (units_of o) ≡ t → Follows total hs (taking c s g) (run_body code (Then i b) bench)
      by_test true w =
          let lt : bench.region.left < units_of o = ltb-true _ _ w in
          let is : made code i bench ≡ (NoRegion, bench) = e ∙ ap (λ t. in_region bench (if t then (NoRegion, bench.region) else (Gives (make (record { 0 = length bench.region.objects })), record { objects = bench.region.objects ++ o ∷ []; left = bench.region.left - units_of o }))) w in
          inr (inl (omega (arith, h.units, q, lt), ap (λ (m : Next × Bench). m.0) (run_full i b bench bench is)))
      by_test false w =
          let le : units_of o ≤ bench.region.left = ltb-false _ _ w in
          let v : Value = make (record { 0 = length bench.region.objects }) in
          let new : Bench = record bench { region = record { objects = bench.region.objects ++ o ∷ []; left = bench.region.left - units_of o } } in
          let is : made code i bench ≡ (Gives v, new) = e ∙ ap (λ t. in_region bench (if t then (NoRegion, bench.region) else (Gives v, record { objects = bench.region.objects ++ o ∷ []; left = bench.region.left - units_of o }))) w in
          inr (inr (omega (arith, h.units, q, le), then_on i bench new v b _ is (k (new_fits bench o v s c q le h))))

  -- and its reference is the value that the form makes
  pub makes_on : (i : Instruction) (o : Object) (make : Ref → Value) (c : ℕ) (bench : Bench) (s : Site) (a : flat.Value) (rest : Rest) (go_on : Site → flat.Value → Ran Closure) → made code i bench ≡ in_region bench (with_object bench.region o make) → units_of o ≡ c → Represents (bench.region.objects ++ o ∷ []) a (make (record { 0 = length bench.region.objects })) → IsSite total hs bench s → H (record s { units = s.units + c }) a → GoOn total hs H code bench rest go_on →
      Follows total hs (taking c s (λ s1. go_on s1 a)) (run_body code (Then i (rest (length bench.slots) (suc (length bench.slots)))) bench)
  makes_on i o make c bench s a rest go_on e q r h hd go =
      let v : Value = make (record { 0 = length bench.region.objects }) in
      object_on i o make c bench s _ (λ s1. go_on s1 a) e q h
      (λ h1. finish_on bench (record bench { region = record { objects = bench.region.objects ++ o ∷ []; left = bench.region.left - units_of o } }) v (record s { units = s.units + c }) a rest go_on (new_grows bench o v) refl h1 r hd go)

  -- an array of the values of slots
  pub array_on : (ops : List ℕ) (vs : List Value) (c : ℕ) (bench : Bench) (s : Site) (a : flat.Value) (rest : Rest) (go_on : Site → flat.Value → Ran Closure) → AllZip (λ o v. slice_get bench.slots o ≡ Some v) ops vs → length vs + 1 ≡ c →
      ((os : List Object) (v : Value) → IsArrayOf (bench.region.objects ++ os) vs v → Represents (bench.region.objects ++ os) a v) → IsSite total hs bench s → H (record s { units = s.units + c }) a → GoOn total hs H code bench rest go_on →
      Follows total hs (taking c s (λ s1. go_on s1 a)) (run_body code (Then (instructions.Array ops) (rest (length bench.slots) (suc (length bench.slots)))) bench)
  array_on ops vs c bench s a rest go_on z q r h hd go =
      makes_on (instructions.Array ops) (ArrayOf vs) values.Array c bench s a rest go_on (ap (λ o. in_region bench (added bench.region o values.Array)) (array_is bench.slots ops vs z)) q
      (r (ArrayOf vs ∷ []) (values.Array (record { 0 = length bench.region.objects })) (ap fields_in (got_last bench.region.objects (ArrayOf vs)))) h hd go

  -- and one with a tag or a label before them
  pub tagged_on : (tag : Instruction) (t : Value) (ops : List ℕ) (vs : List Value) (c : ℕ) (bench : Bench) (s : Site) (a : flat.Value) (rest : Rest) (go_on : Site → flat.Value → Ran Closure) → ((b : Bench) → made code tag b ≡ (Gives t, b)) → AllZip (λ o v. slice_get bench.slots o ≡ Some v) ops vs → length vs + 2 ≡ c →
      ((os : List Object) (v : Value) → IsArrayOf (bench.region.objects ++ os) (t ∷ vs) v → Represents (bench.region.objects ++ os) a v) → IsSite total hs bench s → H (record s { units = s.units + c }) a → GoOn total hs H code bench rest go_on →
      Follows total hs (taking c s (λ s1. go_on s1 a)) (run_body code (Then tag (Then (instructions.Array (length bench.slots ∷ ops)) (rest (suc (length bench.slots)) (suc (suc (length bench.slots)))))) bench)
  tagged_on tag t ops vs c bench s a rest go_on e z q r h hd go =
      let mid : Bench = with_slot bench t in
      let n : ℕ = length bench.slots in
      then_on tag bench bench t (Then (instructions.Array (n ∷ ops)) (rest (suc n) (suc (suc n)))) (taking c s (λ s1. go_on s1 a)) (e bench)
      (subst (λ n. Follows total hs (taking c s (λ s1. go_on s1 a)) (run_body code (Then (instructions.Array (length bench.slots ∷ ops)) (rest n (suc n))) mid)) (one_longer bench.slots t)
      (array_on (length bench.slots ∷ ops) (t ∷ vs) c mid s a rest go_on (got_last bench.slots t, on ops vs z) (omega (arith, q)) r (slot_fits bench t s h) hd (go_further bench mid rest go_on (slot_grows bench t) go)))
    where
      on : (ops : List ℕ) (vs : List Value) → AllZip (λ o v. slice_get bench.slots o ≡ Some v) ops vs → AllZip (λ o v. slice_get (bench.slots ++ t ∷ []) o ≡ Some v) ops vs
      on [] [] k = k
      on (o ∷ os) (v ∷ ws) k = (got_on bench.slots (t ∷ []) o v k.0, on os ws k.1)
      on [] (v ∷ ws) k = absurd k
      on (o ∷ os) [] k = absurd k

  -- with the numbers of slots as they are written
  pub tagged_at : (n p q : ℕ) (tag : Instruction) (t : Value) (ops : List ℕ) (vs : List Value) (c : ℕ) (bench : Bench) (s : Site) (a : flat.Value) (rest : Rest) (go_on : Site → flat.Value → Ran Closure) → length bench.slots ≡ n → suc n ≡ p → suc p ≡ q → ((b : Bench) → made code tag b ≡ (Gives t, b)) → AllZip (λ o v. slice_get bench.slots o ≡ Some v) ops vs → length vs + 2 ≡ c →
      ((os : List Object) (v : Value) → IsArrayOf (bench.region.objects ++ os) (t ∷ vs) v → Represents (bench.region.objects ++ os) a v) → IsSite total hs bench s → H (record s { units = s.units + c }) a → GoOn total hs H code bench rest go_on →
      Follows total hs (taking c s (λ s1. go_on s1 a)) (run_body code (Then tag (Then (instructions.Array (n ∷ ops)) (rest p q))) bench)
  tagged_at n p q tag t ops vs c bench s a rest go_on en ep eq e z l r h hd go =
      let r0 : Ran Closure = taking c s (λ s1. go_on s1 a) in
      subst (λ w. Follows total hs r0 (run_body code (Then tag (Then (instructions.Array (n ∷ ops)) (rest p w))) bench)) eq
      (subst (λ w. Follows total hs r0 (run_body code (Then tag (Then (instructions.Array (n ∷ ops)) (rest w (suc w)))) bench)) ep
      (subst (λ w. Follows total hs r0 (run_body code (Then tag (Then (instructions.Array (w ∷ ops)) (rest (suc w) (suc (suc w))))) bench)) en
      (tagged_on tag t ops vs c bench s a rest go_on e z l r h hd go)))

  -- one of two bodies
  pub chosen : (slot : ℕ) (t : Bool) (first second : Body) (bench : Bench) (r : Ran Closure) → slice_get bench.slots slot ≡ Some (values.Bool t) → Follows total hs r (run_body code (if t then first else second) bench) → Follows total hs r (run_body code (If slot first second) bench)
  unfolding run_body
  chosen slot true first second bench r e k = subst (Follows total hs r) (sym (ap (λ o. choice (bool_in o) bench (run_body code first bench) (run_body code second bench)) e)) k
  chosen slot false first second bench r e k = subst (Follows total hs r) (sym (ap (λ o. choice (bool_in o) bench (run_body code first bench) (run_body code second bench)) e)) k

-- what a form goes on with is what H allows
abbrev pub Hands : (Site → flat.Value → Type 0) → ((Site → flat.Value → Ran Closure) → Ran Closure) → Type 0
Hands H r = (s : Site) (a : flat.Value) → last (r marked) ≡ last (marked s a) → H s a
