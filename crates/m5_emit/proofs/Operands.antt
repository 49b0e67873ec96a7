-- What two operands are to an instruction.
use Rattle.std.proofs.Common.{◌≡◌, ℕ, ℤ, List, Some, None, slice_get, bytes_eq, refl, ap, ◌∙◌}
use Rattle.std.specs.Ordering.{int_eq}
use Rattle.m5_terms.specs.declared.form.LeafForm.TheVariants as leaf_form
use Rattle.m5_region.specs.declared.value.Value.{Value}
use Rattle.m5_region.specs.declared.value.Value.TheVariants as values
use Rattle.m5_region.specs.declared.bench.Bench.{Bench}
use Rattle.m5_machine.specs.declared.made.Made.TheVariants.{Gives}
use Rattle.m5_machine.specs.Blocks.{Flat}
use Rattle.m5_machine.specs.Operand.{with_two, int_in, text_at}
use Rattle.m5_machine.specs.Table.{made, given, first_there, of_texts}
use Rattle.m5_machine.specs.Table.{equal_texts as equal_texts_in}
use Rattle.m5_cps.specs.Values.{atom}
use Rattle.m5_emit.specs.Represents.{IsTextOf}
use Rattle.m5_emit.specs.Emit.{Dialect, bytecode, script, equal_ints, equal_texts}
use Rattle.m5_emit.specs.Follows.{Holds}
use Rattle.m5_emit.proofs.Instructions.{text_is}

-- the number in a slot
pub int_is : (bench : Bench) (x : ℕ) (n : ℤ) (k : Holds bench x (atom (leaf_form.Int n))) → int_in (slice_get bench.slots x) ≡ Some n
int_is bench x n k = ap int_in (k.there ∙ ap Some k.stands.0)

module _ (bench : Bench) (x y : ℕ) where
  pub both_ints : (f : ℤ → ℤ → Value) (n k : ℤ) → Holds bench x (atom (leaf_form.Int n)) → Holds bench y (atom (leaf_form.Int k)) → with_two (int_in (slice_get bench.slots x)) (int_in (slice_get bench.slots y)) f ≡ Some (f n k)
  both_ints f n k p q = ap (λ o. with_two o (int_in (slice_get bench.slots y)) f) (int_is bench x n p) ∙ ap (λ o. with_two (Some n) o f) (int_is bench y k q)

  pub both_texts : (f : List ℕ → List ℕ → Value) (n k : List ℕ) → Holds bench x (atom (leaf_form.Str n)) → Holds bench y (atom (leaf_form.Str k)) → of_texts bench.region.objects bench.slots x y f ≡ Some (f n k)
  both_texts f n k p q = ap (λ o. with_two o (text_at bench.region.objects bench.slots y) f) (text_is bench.region.objects bench.slots x p.value n p.there p.stands) ∙ ap (λ o. with_two (Some n) o f) (text_is bench.region.objects bench.slots y q.value k q.there q.stands)

  pub no_ints : (f : ℤ → ℤ → Value) (n : List ℕ) → Holds bench x (atom (leaf_form.Str n)) → with_two (int_in (slice_get bench.slots x)) (int_in (slice_get bench.slots y)) f ≡ None
  no_ints f n p = ap (λ o. with_two (int_in o) (int_in (slice_get bench.slots y)) f) p.there ∙ ap (λ o. with_two o (int_in (slice_get bench.slots y)) f) (none p.value p.stands)
    where
      none : (v : Value) → IsTextOf bench.region.objects n v → int_in (Some v) ≡ None
      none (values.Text r) i = refl
      none _ i = absurd i

module _ (code : Flat) (bench : Bench) (x y : ℕ) where
  both_at : (n k : ℤ) → slice_get bench.slots x ≡ Some (values.Int n) → slice_get bench.slots y ≡ Some (values.Int k) → with_two (int_in (slice_get bench.slots x)) (int_in (slice_get bench.slots y)) (λ x y. values.Bool (int_eq x y)) ≡ Some (values.Bool (int_eq n k))
  both_at n k p q = ap (λ o. with_two (int_in o) (int_in (slice_get bench.slots y)) (λ x y. values.Bool (int_eq x y))) p ∙ ap (λ o. with_two (Some n) (int_in o) (λ x y. values.Bool (int_eq x y))) q

  pub equals : (e : Dialect) (n k : ℤ) → Holds bench x (atom (leaf_form.Int n)) → Holds bench y (atom (leaf_form.Int k)) → made code (equal_ints e x y) bench ≡ (Gives (values.Bool (int_eq n k)), bench)
  equals bytecode n k p q = ap (given bench) (both_ints bench x y _ n k p q)
  equals script n k p q = ap (λ o. given bench (first_there o (equal_texts_in bench.region.objects bench.slots x y))) (both_ints bench x y _ n k p q)

  pub equals_texts : (e : Dialect) (n k : List ℕ) → Holds bench x (atom (leaf_form.Str n)) → Holds bench y (atom (leaf_form.Str k)) → made code (equal_texts e x y) bench ≡ (Gives (values.Bool (bytes_eq n k)), bench)
  equals_texts bytecode n k p q = ap (given bench) (both_texts bench x y _ n k p q)
  equals_texts script n k p q = ap (λ o. given bench (first_there o (equal_texts_in bench.region.objects bench.slots x y))) (no_ints bench x y _ n p) ∙ ap (given bench) (both_texts bench x y _ n k p q)

  -- two numbers in slots
  pub equals_at : (e : Dialect) (n k : ℤ) → slice_get bench.slots x ≡ Some (values.Int n) → slice_get bench.slots y ≡ Some (values.Int k) → made code (equal_ints e x y) bench ≡ (Gives (values.Bool (int_eq n k)), bench)
  equals_at bytecode n k p q = ap (given bench) (both_at n k p q)
  equals_at script n k p q = ap (λ o. given bench (first_there o (equal_texts_in bench.region.objects bench.slots x y))) (both_at n k p q)
