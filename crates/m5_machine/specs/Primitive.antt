-- What the primitives take, by their codes: 0 say, 1 set_text, 2 get_text, 3 on, 4 read, 5 write, 6
-- watch, 7 show.
use Rattle.std.specs.Prelude.{ℕ, List, [], ◌∷◌, Option, Some, None, Bool, false, is_some, ◌==◌, ◌&&◌, if◌then◌else◌}
use Rattle.m5_region.specs.declared.value.Value.{Value}
use Rattle.m5_region.specs.Region.{Object, fields_of}
use Rattle.m5_machine.specs.declared.primitive.Shape.{Shape}
use Rattle.m5_machine.specs.declared.primitive.Shape.TheVariants.{OneText, TwoTexts, TextAndHandler, NoShape}
use Rattle.m5_machine.specs.Blocks.{Flat}
use Rattle.m5_machine.specs.Operand.{with_one, array_in, text_in}
use Rattle.m5_machine.specs.Closure.{is_closure}

abbrev pub shape_of : ℕ → Shape
shape_of p =
    if p == 0 then OneText
    else (if p == 1 then TwoTexts
    else (if p == 2 then OneText
    else (if p == 3 then TextAndHandler
    else (if p == 4 then OneText
    else (if p == 5 then TwoTexts
    else (if p == 6 then TextAndHandler
    else (if p == 7 then OneText
    else NoShape)))))))

abbrev pub two_in : Option (List Value) → Option (Value × Value)
two_in None = None
two_in (Some []) = None
two_in (Some (a ∷ [])) = None
two_in (Some (a ∷ b ∷ [])) = Some (a, b)
two_in (Some (a ∷ b ∷ c ∷ vs)) = None

-- the fields of an array of exactly two
abbrev pub two_parts : List Object → Value → Option (Value × Value)
two_parts os v = with_one (array_in (Some v)) (λ at. two_in (fields_of os at.0))

abbrev pub is_text : Value → Bool
is_text v = is_some (text_in (Some v))

abbrev pub both_fit : Option (Value × Value) → (Value → Bool) → (Value → Bool) → Bool
both_fit None p q = false
both_fit (Some parts) p q = p parts.0 && q parts.1

abbrev pub has_shape : Flat → List Object → Shape → Value → Bool
has_shape code os OneText v = is_text v
has_shape code os TwoTexts v = both_fit (two_parts os v) is_text is_text
has_shape code os TextAndHandler v = both_fit (two_parts os v) is_text (is_closure code os)
has_shape code os NoShape v = false

-- a value is of the kind that the primitive takes
abbrev pub takes : Flat → List Object → ℕ → Value → Bool
takes code os p v = has_shape code os (shape_of p) v
