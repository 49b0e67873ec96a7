-- What the blocks of a slice become: bodies over the machines' slots.
use Rattle.std.specs.Prelude.{ℕ, zero, suc, ◌+◌, true, false, pos, List, [], ◌∷◌, map}
use Rattle.m5_terms.specs.declared.types.World.{World}
use Rattle.m5_terms.specs.declared.types.World.TheVariants.{Home, Server, Panel, Any}
use Rattle.m5_terms.specs.declared.types.Op.{Op}
use Rattle.m5_terms.specs.declared.types.Op.TheVariants as op
use Rattle.m5_terms.specs.declared.types.Primitive.{Primitive}
use Rattle.m5_terms.specs.declared.types.Primitive.TheVariants as primitive
use Rattle.m5_terms.specs.declared.form.LeafForm.{LeafForm}
use Rattle.m5_terms.specs.declared.form.LeafForm.TheVariants as leaf_form
use Rattle.m5_terms.specs.declared.form.UnaryForm.{UnaryForm}
use Rattle.m5_terms.specs.declared.form.UnaryForm.TheVariants as unary_form
use Rattle.m5_terms.specs.declared.form.BinaryForm.{BinaryForm}
use Rattle.m5_terms.specs.declared.form.BinaryForm.TheVariants as binary_form
use Rattle.m5_machine.specs.declared.step.Instruction.{Instruction}
use Rattle.m5_machine.specs.declared.step.Instruction.TheVariants.{Unit as Null, Bool, Int, Text, Array, Field, Add, Sub, Mul, Quo, Cat, Str, Less, EqualInts, EqualTexts, Same, Cell, Load, Store, Spawn}
use Rattle.m5_machine.specs.Body.{Body, Then, If, Go, Ask, Send, Done}
use Rattle.m5_dictionary.specs.Dictionaries.{code_of_world}
use Rattle.m5_cps.specs.Entries.{Entry, by_value, by_call}
use Rattle.m5_cps.specs.Blocks.{Straight, constant, one, two, unheld, unsham, spawn, Test, if_true, if_left, if_nil, if_here, Ending, go, call, ask, send, done}
use Rattle.m5_cps.specs.Values.{put, put_all, filled_by}
use Rattle.m5_flat.specs.Blocks.{Code, straight, closure, test, ends, Block, Named}

-- the server's instructions tell equality of numbers from that of texts; the page's have one for both
pub data Dialect : Type 0 where
  bytecode script : Dialect

abbrev pub equal_ints : Dialect → ℕ → ℕ → Instruction
equal_ints bytecode a b = EqualInts a b
equal_ints script a b = Same a b

abbrev pub equal_texts : Dialect → ℕ → ℕ → Instruction
equal_texts bytecode a b = EqualTexts a b
equal_texts script a b = Same a b

abbrev pub code_of_primitive : Primitive → ℕ
code_of_primitive primitive.Say = 0
code_of_primitive primitive.SetText = 1
code_of_primitive primitive.GetText = 2
code_of_primitive primitive.On = 3
code_of_primitive primitive.Read = 4
code_of_primitive primitive.Write = 5
code_of_primitive primitive.Watch = 6
code_of_primitive primitive.Show = 7

-- what comes next, by the slot of the value that was made and the number of slots that are filled
abbrev pub Rest : Type 0
Rest = ℕ → ℕ → Body

-- either way of a test, by the places of the parts and the number of slots that are filled
abbrev pub Way : Type 0
Way = List ℕ → ℕ → Body

module _ (d : Dialect) (u : World) where
  -- one instruction's value is in the next slot
  abbrev pub by : Instruction → ℕ → Rest → Body
  by i m rest = Then i (rest m (suc m))

  -- a tag, and then the array that has it first
  abbrev pub tagged : Instruction → List ℕ → ℕ → Rest → Body
  tagged tag xs m rest = Then tag (Then (Array (m ∷ xs)) (rest (suc m) (suc (suc m))))

  abbrev pub constant_body : LeafForm → ℕ → Rest → Body
  constant_body (leaf_form.Bool b) m rest = by (Bool b) m rest
  constant_body (leaf_form.Int n) m rest = by (Int n) m rest
  constant_body (leaf_form.Str t) m rest = by (Text t) m rest
  constant_body (leaf_form.Addr w) m rest = by (Int (pos (code_of_world w))) m rest
  constant_body leaf_form.Here m rest = by (Int (pos (code_of_world u))) m rest
  constant_body (leaf_form.Nil A) m rest = tagged (Bool false) [] m rest
  constant_body (leaf_form.CellAt w n) m rest = by (Int (pos n)) m rest
  constant_body _ m rest = by Null m rest

  -- the parts a and b, then zero, and whether b is zero: unit on the left, else the quotient on the right
  abbrev pub divided_body : ℕ → ℕ → Rest → Body
  divided_body x m rest =
      Then (Field x 0) (Then (Field x 1) (Then (Int (pos 0)) (Then (equal_ints d (m + 1) (m + 2))
      (If (m + 3)
      (Then Null (Then (Bool false) (Then (Array ((m + 5) ∷ (m + 4) ∷ [])) (rest (m + 6) (m + 7)))))
      (Then (Quo m (m + 1)) (Then (Bool true) (Then (Array ((m + 5) ∷ (m + 4) ∷ [])) (rest (m + 6) (m + 7)))))))))

  -- what is held, or in a sham, is what it was
  abbrev pub one_body : UnaryForm → ℕ → ℕ → Rest → Body
  one_body unary_form.Fst x m rest = by (Field x 0) m rest
  one_body unary_form.Snd x m rest = by (Field x 1) m rest
  one_body unary_form.StrOf x m rest = by (Str x) m rest
  one_body unary_form.Div x m rest = divided_body x m rest
  one_body unary_form.NewCell x m rest = by (Cell x) m rest
  one_body unary_form.Load x m rest = by (Load x) m rest
  one_body (unary_form.Inl T) x m rest = tagged (Bool false) (x ∷ []) m rest
  one_body (unary_form.Inr T) x m rest = tagged (Bool true) (x ∷ []) m rest
  one_body _ x m rest = rest x m

  abbrev pub operation : Op → ℕ → ℕ → Instruction
  operation op.Add x y = Add x y
  operation op.Sub x y = Sub x y
  operation op.Mul x y = Mul x y
  operation op.Cat x y = Cat x y
  operation op.EqInt x y = equal_ints d x y
  operation op.Less x y = Less x y
  operation op.EqStr x y = equal_texts d x y

  abbrev pub two_body : BinaryForm → ℕ → ℕ → ℕ → Rest → Body
  two_body binary_form.Pair x y m rest = by (Array (x ∷ y ∷ [])) m rest
  two_body binary_form.Cons x y m rest = tagged (Bool true) (x ∷ y ∷ []) m rest
  two_body binary_form.Store x y m rest = by (Store x y) m rest
  two_body (binary_form.Binary o) x y m rest = by (operation o x y) m rest
  two_body _ x y m rest = rest x m

  -- a straight form over slots that stand at these places, where m slots are filled
  abbrev pub straight_body : Straight → (ℕ → ℕ) → ℕ → Rest → Body
  straight_body (constant f) at m rest = constant_body f m rest
  straight_body (one f x) at m rest = one_body f (at x) m rest
  straight_body (two f x y) at m rest = two_body f (at x) (at y) m rest
  straight_body (unheld x) at m rest = rest (at x) m
  straight_body (unsham x) at m rest = rest (at x) m
  straight_body (spawn x) at m rest = by (Spawn (at x)) m rest

  -- a closure's label, and then the slots that it takes
  abbrev pub closure_body : List ℕ → ℕ → (ℕ → ℕ) → ℕ → Rest → Body
  closure_body ls i at m rest = tagged (Int (pos i)) (map at ls) m rest

  abbrev pub test_body : Test → ℕ → ℕ → Way → Way → Body
  test_body if_true x m this that = If x (this [] m) (that [] m)
  test_body if_left x m this that =
      Then (Field x 0) (If m (Then (Field x 1) (that ((m + 1) ∷ []) (m + 2))) (Then (Field x 1) (this ((m + 1) ∷ []) (m + 2))))
  test_body if_nil x m this that =
      Then (Field x 0) (If m (Then (Field x 1) (Then (Field x 2) (that ((m + 1) ∷ (m + 2) ∷ []) (m + 3)))) (this [] (m + 1)))
  test_body if_here x m this that =
      Then (Int (pos (code_of_world u))) (Then (equal_ints d x m) (If (m + 1) (this [] (m + 2)) (that [] (m + 2))))

  -- the function's label is compared with those of primitives, which are asked; else the array of the call is made
  abbrev pub called_body : List Named → ℕ → ℕ → ℕ → ℕ → ℕ → Body
  called_body [] label f x k m = Then (Array (x ∷ k ∷ [])) (Go f m)
  called_body (a ∷ ps) label f x k m =
      Then (Int (pos a.label)) (Then (equal_ints d label m)
      (If (m + 1) (Ask (code_of_primitive a.primitive) x k) (called_body ps label f x k (m + 2))))

  abbrev pub other_worlds : World → List World
  other_worlds Home = Server ∷ Panel ∷ []
  other_worlds Server = Home ∷ Panel ∷ []
  other_worlds Panel = Home ∷ Server ∷ []
  other_worlds Any = []

  -- the address is compared with those of other worlds
  abbrev pub sent_body : List World → ℕ → ℕ → ℕ → ℕ → Body
  sent_body [] a k x m = Done
  sent_body (w ∷ ws) a k x m =
      Then (Int (pos (code_of_world w))) (Then (equal_ints d a m)
      (If (m + 1) (Send (code_of_world w) k x) (sent_body ws a k x (m + 2))))

  abbrev pub ending_body : List Named → Ending → (ℕ → ℕ) → ℕ → Body
  ending_body ps (go k x) at m = Go (at k) (at x)
  ending_body ps (call f x k) at m = Then (Field (at f) 0) (called_body ps m (at f) (at x) (at k) (m + 1))
  ending_body ps (ask p x k) at m = Ask (code_of_primitive p) (at x) (at k)
  ending_body ps (send a k x) at m = sent_body (other_worlds u) (at a) (at k) (at x) m
  ending_body ps done at m = Done

  -- a block's code with n slots, which stand at these places among m that are filled
  abbrev pub code_body : List Named → Code → ℕ → (ℕ → ℕ) → ℕ → Body
  code_body ps (straight f c) n at m = straight_body f at m (λ p k. code_body ps c (suc n) (put n p at) k)
  code_body ps (closure ls i c) n at m = closure_body ls i at m (λ p k. code_body ps c (suc n) (put n p at) k)
  code_body ps (test t x b c) n at m =
      test_body t (at x) m (λ qs k. code_body ps b (filled_by qs n) (put_all n qs at) k) (λ qs k. code_body ps c (filled_by qs n) (put_all n qs at) k)
  code_body ps (ends e) n at m = ending_body ps e at m

  -- the closure is in slot 0, and in slot 1 the argument, or the array of a call; what the closure has taken stands from slot 2 on
  abbrev pub fields_then : ℕ → ℕ → Body → Body
  fields_then place zero rest = rest
  fields_then place (suc k) rest = Then (Field 0 place) (fields_then (suc place) k rest)

  abbrev pub entry_place : Entry → ℕ → ℕ → ℕ
  entry_place (by_value m T) k = put (suc k) 1 (put k 0 (λ j. j + 2))
  entry_place (by_call m A T) k = put (suc (suc k)) (k + 3) (put (suc k) (k + 2) (put k 0 (λ j. j + 2)))

  abbrev pub entry_body : List Named → Entry → ℕ → Code → Body
  entry_body ps (by_value m T) k c = code_body ps c (suc (suc k)) (entry_place (by_value m T) k) (k + 2)
  entry_body ps (by_call m A T) k c = Then (Field 1 0) (Then (Field 1 1) (code_body ps c (suc (suc (suc k))) (entry_place (by_call m A T) k) (k + 4)))

  -- the body of a block whose closure has taken k values
  abbrev pub block_body : List Named → Block → ℕ → Body
  block_body ps b k = fields_then 1 k (entry_body ps b.entry k b.code)
