-- What a term of the first form says, where its variables stand for texts.
use Rattle.std.specs.Prelude.{ℕ, ◌==◌, if◌then◌else◌, List, [], ◌∷◌, ◌++◌, Option, Some, None}
use Rattle.std.specs.Option.{option_map}
use Rattle.std.specs.Fmt.{signed_decimal}
use Rattle.m5_terms.specs.Expression.{Expression, leaf, unary, binary, ternary}
use Rattle.m5_terms.specs.declared.types.Primitive.TheVariants as primitive
use Rattle.m5_terms.specs.declared.types.Op.TheVariants as op
use Rattle.m5_terms.specs.declared.form.LeafForm.{LeafForm}
use Rattle.m5_terms.specs.declared.form.LeafForm.TheVariants as leaf_form
use Rattle.m5_terms.specs.declared.form.UnaryForm.{UnaryForm}
use Rattle.m5_terms.specs.declared.form.UnaryForm.TheVariants as unary_form
use Rattle.m5_terms.specs.declared.form.BinaryForm.{BinaryForm}
use Rattle.m5_terms.specs.declared.form.BinaryForm.TheVariants as binary_form

-- what each variable stands for
abbrev pub Texts : Type 0
Texts = ℕ → Option (List ℕ)

abbrev pub no_texts : Texts
no_texts x = None

abbrev pub with_text : ℕ → List ℕ → Texts → Texts
with_text x t env = λ y. if y == x then Some t else env y

-- both lists joined, where both are there
abbrev pub both : {A : Type 0} → Option (List A) → Option (List A) → Option (List A)
both (Some a) (Some b) = Some (a ++ b)
both _ _ = None

abbrev pub leaf_text : Texts → LeafForm → Option (List ℕ)
leaf_text env (leaf_form.Str t) = Some t
leaf_text env (leaf_form.Var x) = env x
leaf_text env _ = None

abbrev pub number_text : Expression → Option (List ℕ)
number_text (leaf (leaf_form.Int n)) = Some (signed_decimal n)
number_text _ = None

abbrev pub unary_text : UnaryForm → Expression → Option (List ℕ)
unary_text unary_form.StrOf a = number_text a
unary_text _ a = None

abbrev pub binary_text : BinaryForm → Option (List ℕ) → Option (List ℕ) → Option (List ℕ)
binary_text (binary_form.Binary op.Cat) a b = both a b
binary_text _ a b = None

-- a literal, a variable, a number's text, or two texts joined
abbrev pub text_of : Texts → Expression → Option (List ℕ)
text_of env (leaf f) = leaf_text env f
text_of env (unary f a) = unary_text f a
text_of env (binary f a b) = binary_text f (text_of env a) (text_of env b)
text_of env (ternary f a b c) = None

-- what is said, in order
abbrev pub Sayings : Type 0
Sayings = Option (List (List ℕ))

abbrev pub says_leaf : LeafForm → Sayings
says_leaf leaf_form.Unit = Some []
says_leaf _ = None

abbrev pub said : Expression → Option (List ℕ) → Sayings
said (leaf (leaf_form.Extern primitive.Say)) text = option_map (λ t. t ∷ []) text
said _ text = None

abbrev pub says_with : ℕ → Option (List ℕ) → Texts → (Texts → Sayings) → Sayings
says_with x None env rest = None
says_with x (Some t) env rest = rest (with_text x t env)

-- by the first part, both parts' texts, what the first says, and what the second says by the texts there
abbrev pub says_binary : Texts → BinaryForm → Expression → Option (List ℕ) → Option (List ℕ) → Sayings → (Texts → Sayings) → Sayings
says_binary env binary_form.Call a first_text second_text first rest = said a second_text
says_binary env binary_form.Do a first_text second_text first rest = both first (rest env)
says_binary env (binary_form.Val x) a first_text second_text first rest = says_with x first_text env rest
says_binary env _ a first_text second_text first rest = None

-- unit says nothing, `say` its text, `do` its part and then the rest, `val` the rest with the variable's text
abbrev pub says_of : Texts → Expression → Sayings
says_of env (leaf f) = says_leaf f
says_of env (unary f a) = None
says_of env (binary f a b) = says_binary env f a (text_of env a) (text_of env b) (says_of env a) (λ inner. says_of inner b)
says_of env (ternary f a b c) = None
