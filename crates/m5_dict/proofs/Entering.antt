-- Lines of labels: they stay as lines of types are added, and fit a dictionary.
use Rattle.std.proofs.Common.{◌+◌, ◌<◌, ◌≤◌, zero, suc, [], ◌∷◌, ◌++◌, map, take, length, get_or, subst, refl, ap, arith, ◌≡◌, ◌∙◌, ℕ, List}
use Rattle.std.specs.List.{AllZip, AllByRecursion as Each}
use Rattle.std.proofs.lemmas.List.{take_all, length-map}
use Rattle.std.proofs.lemmas.List.Elements.{All-from_recursion}
use Rattle.m5_cps.specs.Entries.{Entry, by_value, by_call}
use Rattle.m5_cps.specs.Limits.{begun_slots}
use Rattle.m5_flat.specs.Blocks.{Block}
use Rattle.m5_flat.specs.Limits.{IsLimited, path}
use Rattle.m5_flat.specs.Table.{Table, IsTable, block_of, blocks_of}
use Rattle.m5_dictionary.specs.declared.line.TypeLine.{TypeLine}
use Rattle.m5_dictionary.specs.Dictionaries.{Entrance, IsEntrance, IsDictionaries, IsTypeTable}
use Rattle.m5_dict.specs.Lines.{Grows}
use Rattle.m5_dict.specs.Standing.{Sent, Stands, slot_target, entry_target}
use Rattle.m5_dict.specs.Dictionaries.{IsEntranceOf}
use Rattle.m5_dict.proofs.Growing.{still, stay, stay_all, within}

entered : (L M : List TypeLine) (e : Entrance) (b : Block) → Grows L M → IsEntranceOf L e b → IsEntranceOf M e b
entered L M e b g h = record { world = h.world; argument = stay (entry_target b.entry) L M e.argument g h.argument; closure = (h.closure.0, still L M h.closure.0 _ g h.closure.1); environment = stay_all L M e.environment (map slot_target b.environment) g h.environment }

entered_more : {A : Type 0} (f : A → Block) (L M : List TypeLine) (es : List Entrance) (e : Entrance) (xs : List A) (n : ℕ) (d : A) → AllZip (IsEntranceOf L) es (map f (take n xs)) → Grows L M → n < length xs → IsEntranceOf M e (f (get_or xs n d)) → AllZip (IsEntranceOf M) (es ++ e ∷ []) (map f (take (suc n) xs))
entered_more f L M es e [] n d z g lt s = absurd (omega arith)
entered_more f L M [] e (x ∷ xs) zero d z g lt s = (s, tt)
entered_more f L M [] e (x ∷ xs) (suc n) d z g lt s = absurd z
entered_more f L M (o ∷ es) e (x ∷ xs) zero d z g lt s = absurd z
entered_more f L M (o ∷ es) e (x ∷ xs) (suc n) d z g lt s = (entered L M o (f x) g z.0, entered_more f L M es e xs n d z.1 g (omega (arith, lt)) s)

-- a label's line more
pub entered_next : {A : Type 0} (f : A → Block) (L M : List TypeLine) (es : List Entrance) (e : Entrance) (xs : List A) (n : ℕ) (x : A) → x ≡ get_or xs n x → AllZip (IsEntranceOf L) es (map f (take n xs)) → Grows L M → n < length xs → IsEntranceOf M e (f x) → AllZip (IsEntranceOf M) (es ++ e ∷ []) (map f (take (n + 1) xs))
entered_next f L M es e xs n x is z g lt s =
    let more : suc n ≡ n + 1 = omega arith in
    subst (λ k. AllZip (IsEntranceOf M) (es ++ e ∷ []) (map f (take k xs))) more (entered_more f L M es e xs n x z g lt (subst (λ y. IsEntranceOf M e (f y)) is s))

-- lines for all labels
pub entered_all : (t : Table) (L : List TypeLine) (es : List Entrance) (n : ℕ) → AllZip (IsEntranceOf L) es (map (block_of t) (take n t.labels)) → length t.labels ≤ n → AllZip (IsEntranceOf L) es (blocks_of t).table
entered_all t L es n z h = subst (λ ls. AllZip (IsEntranceOf L) es (map (block_of t) ls)) (take_all n t.labels h) z

ids_within : (L : List TypeLine) (is : List ℕ) (Ts : List Sent) → AllZip (Stands L) is Ts → Each (λ i. i < length L) is
ids_within L [] Ts z = tt
ids_within L (i ∷ is) [] z = absurd z
ids_within L (i ∷ is) (T ∷ Ts) z = (within T L i z.0, ids_within L is Ts z.1)

as_many : {A B : Type 0} (R : A → B → Type 0) (xs : List A) (ys : List B) → AllZip R xs ys → length xs ≡ length ys
as_many R [] [] z = refl
as_many R [] (y ∷ ys) z = absurd z
as_many R (x ∷ xs) [] z = absurd z
as_many R (x ∷ xs) (y ∷ ys) z = ap suc (as_many R xs ys z.1)

two_begun : (y : Entry) → 2 ≤ begun_slots y
two_begun (by_value m T) = omega arith
two_begun (by_call m A B) = omega arith

fits : (L : List TypeLine) (e : Entrance) (b : Block) → IsEntranceOf L e b → IsLimited b → IsEntrance (length L) e
fits L e b h l = record {
  argument = within (entry_target b.entry) L e.argument h.argument;
  environment = All-from_recursion (λ i. i < length L) e.environment (ids_within L e.environment (map slot_target b.environment) h.environment);
  short =
      let same : length e.environment ≡ length b.environment = as_many (Stands L) e.environment (map slot_target b.environment) h.environment ∙ length-map b.environment slot_target in
      let two : 2 ≤ begun_slots b.entry = two_begun b.entry in
      let slots : length b.environment + (begun_slots b.entry + path b.code) ≤ 65536 = l.slots in
      omega (arith, same, two, slots);
}

all_fit : (L : List TypeLine) (es : List Entrance) (bs : List Block) → AllZip (IsEntranceOf L) es bs → Each IsLimited bs → Each (IsEntrance (length L)) es
all_fit L [] bs z l = tt
all_fit L (e ∷ es) [] z l = absurd z
all_fit L (e ∷ es) (b ∷ bs) z l = (fits L e b z.0 l.0, all_fit L es bs z.1 l.1)

-- they are dictionaries
pub are_dictionaries : (t : Table) (L : List TypeLine) (es : List Entrance) → IsTable t → length t.labels ≤ 65535 → IsTypeTable L → AllZip (IsEntranceOf L) es (blocks_of t).table → IsDictionaries (record { types = L; labels = es })
are_dictionaries t L es is few lines z = record {
  types = lines;
  labels = record {
    few = (let same : length es ≡ length t.labels = as_many (IsEntranceOf L) es (blocks_of t).table z ∙ length-map t.labels (block_of t) in omega (arith, same, few));
    each = All-from_recursion (IsEntrance (length L)) es (all_fit L es (blocks_of t).table z is.program.limited);
  };
}
