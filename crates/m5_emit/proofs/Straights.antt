-- The instructions of a straight form follow it.
use Rattle.std.proofs.Common.{◌≡◌, ◌+◌, ℕ, suc, pos, Bool, true, false, List, [], ◌∷◌, ◌++◌, length, Some, bytes_eq, int_lt, refl, sym, ap, ◌∙◌, arith, append-nil, w64}
use Rattle.std.proofs.lemmas.Int.{SFits-int_wrap, wrapping_add_is, wrapping_sub_is, wrapping_mul_is}
use Rattle.std.specs.Ordering.{int_eq}
use Rattle.std.specs.Fmt.{signed_decimal}
use Rattle.std.specs.Int.{int_wrap}
use Rattle.std.specs.Prelude.{◌+ℤ◌, ◌-ℤ◌, ◌*ℤ◌}
use Rattle.m5_terms.specs.declared.types.World.{World}
use Rattle.m5_terms.specs.declared.types.Op.{Op}
use Rattle.m5_terms.specs.declared.types.Op.TheVariants as op
use Rattle.m5_terms.specs.declared.form.LeafForm.{LeafForm}
use Rattle.m5_terms.specs.declared.form.LeafForm.TheVariants as leaf_form
use Rattle.m5_terms.specs.declared.form.UnaryForm.TheVariants as unary_form
use Rattle.m5_terms.specs.declared.form.BinaryForm.TheVariants as binary_form
use Rattle.m5_region.specs.declared.value.Value.{Value}
use Rattle.m5_region.specs.declared.value.Value.TheVariants as values
use Rattle.m5_region.specs.declared.bench.Bench.{Bench}
use Rattle.m5_region.specs.Region.{Object, TextOf, units_of, bytes_in}
use Rattle.m5_machine.specs.declared.step.Instruction.{Instruction}
use Rattle.m5_machine.specs.declared.step.Instruction.TheVariants as instructions
use Rattle.m5_machine.specs.declared.made.Made.TheVariants.{Gives}
use Rattle.m5_machine.specs.Blocks.{Flat}
use Rattle.m5_machine.specs.Body.{Body, Then}
use Rattle.m5_machine.specs.Operand.{with_one, with_two, text_at}
use Rattle.m5_machine.specs.Table.{made, given, in_region, added}
use Rattle.m5_machine.specs.Block.{run_body}
use Rattle.m5_dictionary.specs.Dictionaries.{code_of_world}
use Rattle.m5_cps.specs.Blocks.{constant}
use Rattle.m5_cps.specs.Values.{Wrap, held, sham, pair, cons, atom, wrap, join, text_value}
use Rattle.m5_cps.specs.Units.{text_units}
use Rattle.m5_cps.specs.Made.{first_of, second_of, text_of, operated, one_units, two_units}
use Rattle.m5_cps.specs.Deeds.{Ran, taking, did_taking, performed, opened_held, opened_sham}
use Rattle.m5_flat.specs.Values.{Closure, Site}
use Rattle.m5_flat.specs.Values as flat
use Rattle.m5_emit.specs.Represents.{IsArrayOf, Represents}
use Rattle.m5_emit.specs.Emit.{Dialect, Rest, tagged, straight_body, operation, equal_ints, equal_texts}
use Rattle.m5_emit.specs.Follows.{Grows, Holds, IsSite, Follows}
use Rattle.m5_emit.specs.Laws.{GoOn, MayRun}
use Rattle.m5_emit.proofs.Standing.{got_last, stands_on}
use Rattle.m5_emit.proofs.Operands.{int_is, both_ints, equals, equals_texts}
use Rattle.m5_emit.proofs.Instructions.{Hands, part_is, text_is, gives_on, makes_on, array_on, tagged_on}

text_long : (t : List ℕ) → units_of (TextOf t) ≡ text_units (length t)
text_long t = omega arith

module _ (total : ℕ) (hs : List Value) (H : Site → flat.Value → Type 0) (code : Flat) (d : Dialect) (u : World) (bench : Bench) (s : Site) (rest : Rest) (go_on : Site → flat.Value → Ran Closure) (h : IsSite total hs bench s) (go : GoOn total hs H code bench rest go_on) where
  abbrev F : Ran Closure → Body → Type 0
  F r b = Follows total hs r (run_body code b bench)

  abbrev m : ℕ
  m = length bench.slots

  -- an instruction that gives a value
  one_value : (i : Instruction) (v : Value) (a : flat.Value) → H s a → made code i bench ≡ (Gives v, bench) → Represents bench.region.objects a v → F (go_on s a) (Then i (rest m (suc m)))
  one_value i v a hd e r = gives_on total hs H code i bench v s a rest go_on e r h hd go

  one_text : (i : Instruction) (t : List ℕ) → H (record s { units = s.units + text_units (length t) }) (text_value t) → made code i bench ≡ in_region bench (added bench.region (Some (TextOf t)) values.Text) → F (taking (text_units (length t)) s (λ s1. go_on s1 (text_value t))) (Then i (rest m (suc m)))
  one_text i t hd e = makes_on total hs H code i (TextOf t) values.Text (text_units (length t)) bench s (text_value t) rest go_on e (text_long t) (ap bytes_in (got_last bench.region.objects (TextOf t))) h hd go

  pub constants : (f : LeafForm) (ρ : ℕ → flat.Value) → MayRun code ρ (constant f) → Hands H (λ g. performed u (constant f) ρ s g) → F (performed u (constant f) ρ s go_on) (straight_body d u (constant f) (λ x. x) m rest)
  constants leaf_form.Unit ρ p hd = one_value instructions.Unit values.Null _ (hd s _ refl) refl refl
  constants (leaf_form.Bool b) ρ p hd = one_value (instructions.Bool b) (values.Bool b) _ (hd s _ refl) refl refl
  constants (leaf_form.Int n) ρ p hd = one_value (instructions.Int n) (values.Int n) _ (hd s _ refl) refl (refl, p)
  constants (leaf_form.Str t) ρ p hd = one_text (instructions.Text t) t (hd _ _ refl) refl
  constants (leaf_form.Addr w) ρ p hd = one_value (instructions.Int (pos (code_of_world w))) (values.Int (pos (code_of_world w))) _ (hd s _ refl) refl refl
  constants leaf_form.Here ρ p hd = one_value (instructions.Int (pos (code_of_world u))) (values.Int (pos (code_of_world u))) _ (hd s _ refl) refl refl
  constants (leaf_form.CellAt w n) ρ p hd = one_value (instructions.Int (pos n)) (values.Int (pos n)) _ (hd s _ refl) refl refl
  constants (leaf_form.Nil A) ρ p hd = tagged_on total hs H code (instructions.Bool false) (values.Bool false) [] [] 2 bench s (atom (leaf_form.Nil A)) rest go_on (λ b. refl) tt refl (λ os v k. k) h (hd _ _ refl) go
  constants (leaf_form.Var x) ρ p hd = absurd p
  constants (leaf_form.Valid x) ρ p hd = absurd p
  constants (leaf_form.Glob x) ρ p hd = absurd p
  constants (leaf_form.Extern x) ρ p hd = absurd p

  module _ (x : ℕ) where
    pub firsts : (a : flat.Value) → Holds bench x a → Hands H (λ g. did_taking u s 0 (first_of a) g) → F (did_taking u s 0 (first_of a) go_on) (Then (instructions.Field x 0) (rest m (suc m)))
    firsts (join pair a b) k hd = one_value (instructions.Field x 0) k.stands.0 a (hd s a refl) (ap (λ o. given bench o) (part_is bench.region.objects bench.slots x 0 k.value _ k.there k.stands.2)) k.stands.3
    firsts _ k hd = tt

    pub seconds : (a : flat.Value) → Holds bench x a → Hands H (λ g. did_taking u s 0 (second_of a) g) → F (did_taking u s 0 (second_of a) go_on) (Then (instructions.Field x 1) (rest m (suc m)))
    seconds (join pair a b) k hd = one_value (instructions.Field x 1) k.stands.1 b (hd s b refl) (ap (λ o. given bench o) (part_is bench.region.objects bench.slots x 1 k.value _ k.there k.stands.2)) k.stands.4
    seconds _ k hd = tt

    pub texts : (a : flat.Value) → Holds bench x a → Hands H (λ g. did_taking u s (one_units unary_form.StrOf (text_of a)) (text_of a) g) → F (did_taking u s (one_units unary_form.StrOf (text_of a)) (text_of a) go_on) (Then (instructions.Str x) (rest m (suc m)))
    texts (atom (leaf_form.Int n)) k hd = one_text (instructions.Str x) (signed_decimal n) (hd _ _ refl) (ap (λ o. in_region bench (added bench.region (with_one o (λ n. Some (TextOf (signed_decimal n)))) values.Text)) (int_is bench x n k))
    texts _ k hd = tt

    -- an injection
    pub injected : (t : Bool) (w : Wrap) (a : flat.Value) → ((os : List Object) (v z : Value) → IsArrayOf os (values.Bool t ∷ z ∷ []) v → Represents os a z → Represents os (wrap w a) v) → Holds bench x a → H (record s { units = s.units + 3 }) (wrap w a) → F (taking 3 s (λ s1. go_on s1 (wrap w a))) (tagged d u (instructions.Bool t) (x ∷ []) m rest)
    injected t w a r k hd =
        tagged_on total hs H code (instructions.Bool t) (values.Bool t) (x ∷ []) (k.value ∷ []) 3 bench s (wrap w a) rest go_on (λ b. refl) (k.there, tt) refl (λ os v i. r (bench.region.objects ++ os) v k.value i (stands_on bench.region.objects os a k.value k.stands)) h hd go

    -- the same slot
    pub same_slot : (a : flat.Value) (b : flat.Value) → Holds bench x a → H s b → ((v : Value) → Represents bench.region.objects a v → Represents bench.region.objects b v) → F (go_on s b) (rest x m)
    same_slot a b k hd r = go bench s x b hd itself h (record { value = k.value; there = k.there; stands = r k.value k.stands })
      where
        itself : Grows bench bench
        itself = record { objects = []; slots = []; objects_are = sym (append-nil bench.region.objects); slots_are = sym (append-nil bench.slots) }

    pub unhelds : (a : flat.Value) → Holds bench x a → Hands H (λ g. opened_held a (g s)) → F (opened_held a (go_on s)) (rest x m)
    unhelds (wrap (held w) a) k hd = same_slot (wrap (held w) a) a k (hd s a refl) (λ v i. i)
    unhelds _ k hd = tt

    pub unshams : (a : flat.Value) → Holds bench x a → Hands H (λ g. opened_sham a (g s)) → F (opened_sham a (go_on s)) (rest x m)
    unshams (wrap sham a) k hd = same_slot (wrap sham a) a k (hd s a refl) (λ v i. i)
    unshams _ k hd = tt

    module _ (y : ℕ) where
      abbrev P : Op → flat.Value → flat.Value → Type 0
      P o a b = Hands H (λ g. did_taking u s (two_units (binary_form.Binary o) (operated o a b)) (operated o a b) g)

      abbrev D : Op → flat.Value → flat.Value → Type 0
      D o a b = F (did_taking u s (two_units (binary_form.Binary o) (operated o a b)) (operated o a b) go_on) (Then (operation d u o x y) (rest m (suc m)))

      adds : (a b : flat.Value) → Holds bench x a → Holds bench y b → P op.Add a b → D op.Add a b
      adds (atom (leaf_form.Int n)) (atom (leaf_form.Int k)) p q hd = one_value (instructions.Add x y) (values.Int (int_wrap w64 (n +ℤ k))) _ (hd s _ refl) (ap (given bench) (both_ints bench x y _ n k p q ∙ ap (λ z. Some (values.Int z)) (wrapping_add_is w64 n k p.stands.1 q.stands.1))) (refl, SFits-int_wrap w64 (n +ℤ k))
      adds _ _ p q hd = tt

      subs : (a b : flat.Value) → Holds bench x a → Holds bench y b → P op.Sub a b → D op.Sub a b
      subs (atom (leaf_form.Int n)) (atom (leaf_form.Int k)) p q hd = one_value (instructions.Sub x y) (values.Int (int_wrap w64 (n -ℤ k))) _ (hd s _ refl) (ap (given bench) (both_ints bench x y _ n k p q ∙ ap (λ z. Some (values.Int z)) (wrapping_sub_is w64 n k p.stands.1 q.stands.1))) (refl, SFits-int_wrap w64 (n -ℤ k))
      subs _ _ p q hd = tt

      muls : (a b : flat.Value) → Holds bench x a → Holds bench y b → P op.Mul a b → D op.Mul a b
      muls (atom (leaf_form.Int n)) (atom (leaf_form.Int k)) p q hd = one_value (instructions.Mul x y) (values.Int (int_wrap w64 (n *ℤ k))) _ (hd s _ refl) (ap (given bench) (both_ints bench x y _ n k p q ∙ ap (λ z. Some (values.Int z)) (wrapping_mul_is w64 n k p.stands.1 q.stands.1))) (refl, SFits-int_wrap w64 (n *ℤ k))
      muls _ _ p q hd = tt

      lesses : (a b : flat.Value) → Holds bench x a → Holds bench y b → P op.Less a b → D op.Less a b
      lesses (atom (leaf_form.Int n)) (atom (leaf_form.Int k)) p q hd = one_value (instructions.Less x y) (values.Bool (int_lt n k)) _ (hd s _ refl) (ap (given bench) (both_ints bench x y _ n k p q)) refl
      lesses _ _ p q hd = tt

      same_ints : (a b : flat.Value) → Holds bench x a → Holds bench y b → P op.EqInt a b → D op.EqInt a b
      same_ints (atom (leaf_form.Int n)) (atom (leaf_form.Int k)) p q hd = one_value (equal_ints d x y) (values.Bool (int_eq n k)) _ (hd s _ refl) (equals code bench x y d n k p q) refl
      same_ints _ _ p q hd = tt

      same_texts : (a b : flat.Value) → Holds bench x a → Holds bench y b → P op.EqStr a b → D op.EqStr a b
      same_texts (atom (leaf_form.Str n)) (atom (leaf_form.Str k)) p q hd = one_value (equal_texts d x y) (values.Bool (bytes_eq n k)) _ (hd s _ refl) (equals_texts code bench x y d n k p q) refl
      same_texts _ _ p q hd = tt

      joins_texts : (a b : flat.Value) → Holds bench x a → Holds bench y b → P op.Cat a b → D op.Cat a b
      joins_texts (atom (leaf_form.Str n)) (atom (leaf_form.Str k)) p q hd =
          one_text (instructions.Cat x y) (n ++ k) (hd _ _ refl) (ap (λ o. in_region bench (added bench.region o values.Text)) (ap (λ o. with_two o (text_at bench.region.objects bench.slots y) (λ a b. TextOf (a ++ b))) (text_is bench.region.objects bench.slots x p.value n p.there p.stands) ∙ ap (λ o. with_two (Some n) o (λ a b. TextOf (a ++ b))) (text_is bench.region.objects bench.slots y q.value k q.there q.stands)))
      joins_texts _ _ p q hd = tt

      pub operations : (o : Op) (a b : flat.Value) → Holds bench x a → Holds bench y b → P o a b → D o a b
      operations op.Add a b p q hd = adds a b p q hd
      operations op.Sub a b p q hd = subs a b p q hd
      operations op.Mul a b p q hd = muls a b p q hd
      operations op.Cat a b p q hd = joins_texts a b p q hd
      operations op.EqInt a b p q hd = same_ints a b p q hd
      operations op.Less a b p q hd = lesses a b p q hd
      operations op.EqStr a b p q hd = same_texts a b p q hd

      pub pairs : (a b : flat.Value) → Holds bench x a → Holds bench y b → H (record s { units = s.units + 3 }) (join pair a b) → F (taking 3 s (λ s1. go_on s1 (join pair a b))) (Then (instructions.Array (x ∷ y ∷ [])) (rest m (suc m)))
      pairs a b p q hd =
          array_on total hs H code (x ∷ y ∷ []) (p.value ∷ q.value ∷ []) 3 bench s (join pair a b) rest go_on (p.there, (q.there, tt)) refl
          (λ os v i. (p.value, q.value, i, stands_on bench.region.objects os a p.value p.stands, stands_on bench.region.objects os b q.value q.stands)) h hd go

      pub conses : (a b : flat.Value) → Holds bench x a → Holds bench y b → H (record s { units = s.units + 4 }) (join cons a b) → F (taking 4 s (λ s1. go_on s1 (join cons a b))) (tagged d u (instructions.Bool true) (x ∷ y ∷ []) m rest)
      conses a b p q hd =
          tagged_on total hs H code (instructions.Bool true) (values.Bool true) (x ∷ y ∷ []) (p.value ∷ q.value ∷ []) 4 bench s (join cons a b) rest go_on (λ b. refl) (p.there, (q.there, tt)) refl
          (λ os v i. (p.value, q.value, i, stands_on bench.region.objects os a p.value p.stands, stands_on bench.region.objects os b q.value q.stands)) h hd go
