-- Slots read as what an instruction wants there: None where a slot is not filled or holds another
-- kind.
use Rattle.std.specs.Prelude.{ℕ, ℤ, List, Option, Some, None, Bool, slice_get}
use Rattle.m5_region.specs.declared.value.Ref.{Ref}
use Rattle.m5_region.specs.declared.value.Value.{Value}
use Rattle.m5_region.specs.declared.value.Value.TheVariants as values
use Rattle.m5_region.specs.Region.{Object, text_of}

abbrev pub bool_in : Option Value → Option Bool
bool_in None = None
bool_in (Some values.Null) = None
bool_in (Some (values.Bool b)) = Some b
bool_in (Some (values.Int n)) = None
bool_in (Some (values.Text at)) = None
bool_in (Some (values.Array at)) = None

abbrev pub int_in : Option Value → Option ℤ
int_in None = None
int_in (Some values.Null) = None
int_in (Some (values.Bool b)) = None
int_in (Some (values.Int n)) = Some n
int_in (Some (values.Text at)) = None
int_in (Some (values.Array at)) = None

abbrev pub text_in : Option Value → Option Ref
text_in None = None
text_in (Some values.Null) = None
text_in (Some (values.Bool b)) = None
text_in (Some (values.Int n)) = None
text_in (Some (values.Text at)) = Some at
text_in (Some (values.Array at)) = None

abbrev pub array_in : Option Value → Option Ref
array_in None = None
array_in (Some values.Null) = None
array_in (Some (values.Bool b)) = None
array_in (Some (values.Int n)) = None
array_in (Some (values.Text at)) = None
array_in (Some (values.Array at)) = Some at

-- what is made of one and of two things, where they are there
abbrev pub with_one : {A B : Type 0} → Option A → (A → Option B) → Option B
with_one None f = None
with_one (Some x) f = f x

abbrev pub with_two : {A B C : Type 0} → Option A → Option B → (A → B → C) → Option C
with_two None y f = None
with_two (Some x) None f = None
with_two (Some x) (Some y) f = Some (f x y)

-- the bytes of the text in a slot
abbrev pub text_at : List Object → List Value → ℕ → Option (List ℕ)
text_at os slots s = with_one (text_in (slice_get slots s)) (λ r. text_of os r.0)
