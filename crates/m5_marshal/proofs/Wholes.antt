-- A message read from its parts, and a region cut back to what it was.
use Rattle.std.proofs.Common.{◌≡◌, ℕ, zero, suc, ◌+◌, ◌-◌, true, false, eqb, get_or, drop, List, [], ◌∷◌, ◌++◌, length, map, take, Option, Some, None, Result, Ok, Err, refl, sym, ap, subst, ◌∙◌, arith, append-nil, length-drop}
use Rattle.std.specs.Prelude.{nat_eq}
use Rattle.std.specs.List.{starts_with}
use Rattle.std.proofs.lemmas.Bool.{eqb-true}
use Rattle.std.proofs.lemmas.List.{take_at}
use Rattle.m5_region.specs.declared.value.Value.{Value}
use Rattle.m5_region.specs.declared.value.Value.TheVariants.{Array}
use Rattle.m5_region.specs.declared.queue.Ready.{Ready}
use Rattle.m5_region.specs.Region.{Object, Contents, units_in}
use Rattle.m5_terms.specs.declared.types.World.{World}
use Rattle.m5_message.specs.declared.format.Format.{Format}
use Rattle.m5_message.specs.declared.format.Format.TheVariants.{First, Second}
use Rattle.m5_dictionary.specs.Dictionaries.{Dictionaries}
use Rattle.m5_message.specs.Numbers.{Read, ◌>>=◌, field, number}
use Rattle.m5_message.specs.Reading.{value_at, contents_at, id_at, ids_at}
use Rattle.m5_message.specs.Message.{Message, NoSeal, root_at, ended, body_at, version_at, by_offset, message_at}
use Rattle.m5_message.specs.Sharing.{shifted, shifted_object}
use Rattle.m5_marshal.specs.code.Adding.{Extends}
use Rattle.m5_marshal.specs.code.Tail.{tail_at, objects_at, ReadsWhole}
use Rattle.m5_marshal.proofs.Gathered.{units_append, shifted_units, take_whole}

pub ids_count : (d : Dictionaries) (n : ℕ) (bytes : List ℕ) (x : List ℕ × List ℕ) → ids_at d n bytes ≡ Ok x → length x.0 ≡ n
unfolding ids_at
ids_count d zero bytes x e = ap (λ (y : List ℕ × List ℕ). length y.0) (let same : x ≡ ([], bytes) = cc in same)
ids_count d (suc n) bytes x e = by_id (id_at d bytes) (λ b y h. ids_count d n b y h) e
  where
    by_ids : (id : ℕ) (r : Read (List ℕ)) → ((y : List ℕ × List ℕ) → r ≡ Ok y → length y.0 ≡ n) → (r >>= λ ids. Ok (id ∷ ids.0, ids.1)) ≡ Ok x → length x.0 ≡ suc n
    by_ids id (Ok y) go h = ap (λ (z : List ℕ × List ℕ). length z.0) (let same : x ≡ (id ∷ y.0, y.1) = cc in same) ∙ ap suc (go y refl)
    by_ids id (Err k) go h = absurd (let bad : Err k ≡ Ok x = h in cc)

    by_id : (m : Option (ℕ × List ℕ)) → ((b : List ℕ) (y : List ℕ × List ℕ) → ids_at d n b ≡ Ok y → length y.0 ≡ n) → (field bytes m >>= λ id. ids_at d n id.1 >>= λ ids. Ok (id.0 ∷ ids.0, ids.1)) ≡ Ok x → length x.0 ≡ suc n
    by_id None go h = absurd (let bad : Err (length bytes) ≡ Ok x = h in cc)
    by_id (Some y) go h = by_ids y.0 (ids_at d n y.1) (go y.1) h

-- ---- the parts

pub body_no_number : (d : Dictionaries) (w : World) (f : Format) (bytes : List ℕ) → number f bytes ≡ None → body_at d w f bytes ≡ Err (length bytes)
unfolding body_at
body_no_number d w f bytes e = rw e refl

pub body_no_ids : (d : Dictionaries) (w : World) (f : Format) (bytes : List ℕ) (n : ℕ) (rest : List ℕ) (k : ℕ) → number f bytes ≡ Some (n, rest) → ids_at d n rest ≡ Err k → body_at d w f bytes ≡ Err k
unfolding body_at
body_no_ids d w f bytes n rest k e h = rw (e, h) refl

abbrev pair_ended : ℕ × Value → List ℕ → Result (ℕ × Value) ℕ
pair_ended x end = ended x end

abbrev message_with : List ℕ → List Object → ℕ → Value → Message
message_with ids os j v = record { ids = ids; objects = os; root = j; argument = v }

pub body_objects : (d : Dictionaries) (w : World) (f : Format) (bytes : List ℕ) (n : ℕ) (rest ids contents : List ℕ) → number f bytes ≡ Some (n, rest) → ids_at d n rest ≡ Ok (ids, contents) → body_at d w f bytes ≡ objects_at d w f n ids contents
unfolding body_at objects_at tail_at
body_objects d w f bytes n rest ids contents e h = rw (e, h) (by_contents (contents_at d f ids 0 ids contents))
  where
    by_end : (os : List Object) (j : ℕ) (v : Value) (end : List ℕ) → ended (message_with ids os j v) end ≡ (pair_ended (j, v) end >>= λ (t : ℕ × Value). Ok (message_with ids os t.0 t.1))
    by_end os j v [] = refl
    by_end os j v (b ∷ end) = refl

    by_value : (os : List Object) (j : ℕ) (r : Read Value) → (r >>= λ v. ended (message_with ids os j v.0) v.1) ≡ ((r >>= λ v. pair_ended (j, v.0) v.1) >>= λ (t : ℕ × Value). Ok (message_with ids os t.0 t.1))
    by_value os j (Ok v) = by_end os j v.0 v.1
    by_value os j (Err k) = refl

    by_root : (os : List Object) (r : Read (ℕ × ℕ)) → (r >>= λ x. value_at d f ids n x.0.1 x.1 >>= λ v. ended (message_with ids os x.0.0 v.0) v.1) ≡ ((r >>= λ x. value_at d f ids n x.0.1 x.1 >>= λ v. pair_ended (x.0.0, v.0) v.1) >>= λ (t : ℕ × Value). Ok (message_with ids os t.0 t.1))
    by_root os (Ok x) = by_value os x.0.0 (value_at d f ids n x.0.1 x.1)
    by_root os (Err k) = refl

    by_contents : (r : Read (List Object)) → (r >>= λ os. root_at d w f n ids os.0 os.1 >>= λ x. value_at d f ids n x.0.1 x.1 >>= λ v. ended (message_with ids os.0 x.0.0 v.0) v.1) ≡ (r >>= λ os. (root_at d w f n ids os.0 os.1 >>= λ x. value_at d f ids n x.0.1 x.1 >>= λ v. pair_ended (x.0.0, v.0) v.1) >>= λ (t : ℕ × Value). Ok (message_with ids os.0 t.0 t.1))
    by_contents (Ok os) = by_root os.0 (root_at d w f n ids os.0 os.1)
    by_contents (Err k) = refl

pub objects_err : (d : Dictionaries) (w : World) (f : Format) (n : ℕ) (ids contents : List ℕ) (k : ℕ) → contents_at d f ids 0 ids contents ≡ Err k → objects_at d w f n ids contents ≡ Err k
unfolding objects_at
objects_err d w f n ids contents k e = rw e refl

pub objects_tail_err : (d : Dictionaries) (w : World) (f : Format) (n : ℕ) (ids contents : List ℕ) (os : List Object) (rest : List ℕ) (k : ℕ) → contents_at d f ids 0 ids contents ≡ Ok (os, rest) → tail_at d w f n ids os rest ≡ Err k → objects_at d w f n ids contents ≡ Err k
unfolding objects_at
objects_tail_err d w f n ids contents os rest k e h = rw (e, h) refl

pub objects_ok : (d : Dictionaries) (w : World) (f : Format) (n : ℕ) (ids contents : List ℕ) (os : List Object) (rest : List ℕ) (j : ℕ) (v : Value) → contents_at d f ids 0 ids contents ≡ Ok (os, rest) → tail_at d w f n ids os rest ≡ Ok (j, v) → objects_at d w f n ids contents ≡ Ok (record { ids = ids; objects = os; root = j; argument = v })
unfolding objects_at
objects_ok d w f n ids contents os rest j v e h = rw (e, h) refl

-- ---- the region

pub added_extends : (old new : Contents) (os : List Object) → new.objects ≡ old.objects ++ map (shifted_object (length old.objects)) os → new.left + units_in os ≡ old.left → Extends old new
added_extends old new os e h = (map (shifted_object (length old.objects)) os, e, omega (arith, shifted_units (length old.objects) os))

pub nothing_added : (old : Contents) → Extends old old
nothing_added old = ([], sym (append-nil old.objects), omega arith)

pub cut_back : (old mid new : Contents) → Extends old mid → new.objects ≡ take (length old.objects) mid.objects → new.left + units_in new.objects ≡ mid.left + units_in mid.objects → new ≡ old
cut_back old mid new x objects left =
    let same : new.objects ≡ old.objects = objects ∙ ap (take (length old.objects)) x.1 ∙ take_at old.objects x.0 (length old.objects) refl in
    let units : new.left ≡ old.left = omega (arith, x.2, left, ap units_in same, ap units_in x.1, units_append old.objects x.0) in
    ap (λ (os : List Object). record { objects = os; left = new.left }) same ∙ ap (λ (n : ℕ). record { objects = old.objects; left = n }) units

-- the closure and the argument, behind so many objects
pub ready_is : (base n root : ℕ) (v : Value) (r : Ready) → base ≡ n → r.code ≡ Array (record { 0 = base + root }) → r.argument ≡ shifted base v → r ≡ record { code = Array (record { 0 = n + root }); argument = shifted n v }
ready_is base n root v r e code argument =
    ap (λ (x : Value). record { code = x; argument = r.argument }) (code ∙ ap (λ (k : ℕ). Array (record { 0 = k + root })) e)
    ∙ ap (λ (x : Value). record { code = Array (record { 0 = n + root }); argument = x }) (argument ∙ ap (λ (k : ℕ). shifted k v) e)

-- ---- the version and the seal

pub version_none : (d : Dictionaries) (w : World) (bytes : List ℕ) → true ≡ eqb (length bytes) 0 → version_at d w bytes ≡ Err 0
unfolding version_at
version_none d w [] e = refl
version_none d w (b ∷ bytes) e = let none : length (b ∷ bytes) ≡ 0 = eqb-true (length (b ∷ bytes)) 0 (sym e) in absurd (omega arith)

pub version_first : (d : Dictionaries) (w : World) (bytes : List ℕ) → false ≡ eqb (length bytes) 0 → get_or bytes 0 0 ≡ 0 → version_at d w bytes ≡ body_at d w First bytes
unfolding version_at
version_first d w [] some e = absurd (let wrong : false ≡ true = some in cc)
version_first d w (zero ∷ bytes) some e = refl
version_first d w (suc b ∷ bytes) some e = absurd (omega arith)

pub version_second : (d : Dictionaries) (w : World) (bytes : List ℕ) → get_or bytes 0 0 ≡ 2 → version_at d w bytes ≡ body_at d w Second (drop 1 bytes)
unfolding version_at
version_second d w [] e = absurd (omega arith)
version_second d w (zero ∷ bytes) e = absurd (omega arith)
version_second d w (suc zero ∷ bytes) e = absurd (omega arith)
version_second d w (suc (suc zero) ∷ bytes) e = refl
version_second d w (suc (suc (suc b)) ∷ bytes) e = absurd (omega arith)

pub version_other : (d : Dictionaries) (w : World) (bytes : List ℕ) → (get_or bytes 0 0 ≡ 0 → ⊥) → (get_or bytes 0 0 ≡ 2 → ⊥) → version_at d w bytes ≡ Err (length bytes)
unfolding version_at
version_other d w [] first second = absurd (first refl)
version_other d w (zero ∷ bytes) first second = absurd (first refl)
version_other d w (suc zero ∷ bytes) first second = refl
version_other d w (suc (suc zero) ∷ bytes) first second = absurd (second refl)
version_other d w (suc (suc (suc b)) ∷ bytes) first second = refl

pub unsealed : (d : Dictionaries) (w : World) (seal bytes : List ℕ) → false ≡ starts_with nat_eq bytes seal → message_at d w seal bytes ≡ Err NoSeal
unfolding message_at
unsealed d w seal bytes e = rw (sym e) refl

pub sealed : (d : Dictionaries) (w : World) (seal bytes : List ℕ) → true ≡ starts_with nat_eq bytes seal → message_at d w seal bytes ≡ by_offset (length bytes) (version_at d w (drop 8 bytes))
unfolding message_at
sealed d w seal bytes e = rw (sym e) refl

-- what is said of an answer that is known
pub whole_when : (d : Dictionaries) (w : World) (old : Contents) (read : Result Message ℕ) (o t : Option Ready) (new : Contents) → o ≡ t → ReadsWhole d w old read (Ok o) new → ReadsWhole d w old read (Ok t) new
whole_when d w old read o t new e h = subst (λ (x : Option Ready). ReadsWhole d w old read (Ok x) new) e h

-- the bytes from a place on, as a slice has them
pub back_is : (n : ℕ) (bytes : List ℕ) → take (length bytes - n) (drop n bytes) ≡ drop n bytes
back_is n bytes = take_whole (drop n bytes) (length bytes - n) (sym (length-drop n bytes))
