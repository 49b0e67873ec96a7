-- Texts: what is typed has texts that are texts, and so have numbers written out.
use Rattle.std.proofs.Common.{ℕ, ◌+◌, ℤ, pos, negsuc, zero, suc, ◌<◌, ◌≤◌, ◌/◌, ◌%◌, ◌==◌, Bool, true, false, IsTrue, ◌||◌, nat_le, if◌then◌else◌, List, [], ◌∷◌, ◌++◌, refl, sym, subst, arith}
use Rattle.std.specs.List.{list_all}
use Rattle.std.specs.Fmt.{decimal, signed_decimal, digits, digits_onto, digit_glyph}
use Rattle.std.proofs.lemmas.List.Folds.{list_all-append}
use Rattle.std.proofs.lemmas.Bool.{lt-ltb, le-leb}
use Rattle.m5_terms.specs.Expression.{Expression, leaf, unary, binary, ternary}
use Rattle.m5_terms.specs.TypeExpression.{TypeExpression}
use Rattle.m5_terms.specs.Text.{text_byte, IsText}
use Rattle.m5_terms.specs.declared.types.World.{World}
use Rattle.m5_terms.specs.declared.form.LeafForm.{LeafForm}
use Rattle.m5_terms.specs.declared.form.LeafForm.TheVariants as leaf_form
use Rattle.m5_typing.specs.Context.{Setting, Context}
use Rattle.m5_typing.specs.Rules.{LeafRule}
use Rattle.m5_typing.specs.Typing.{Typed}
use Rattle.m5_site_sound.specs.Texts.{LeafHasTexts, HasTexts}
use Rattle.m5_site_sound.proofs.Parts.{both-are}

leaf-texts : (E : Setting) (G : Context) (w : World) (f : LeafForm) (A : TypeExpression) → LeafRule E G w f A → LeafHasTexts f
leaf-texts E G w (leaf_form.Str s) A d = d.1
leaf-texts E G w _ A d = tt

pub typed-texts : (E : Setting) (e : Expression) (G : Context) (w : World) (A : TypeExpression) → Typed E G w e A → HasTexts e
typed-texts E (leaf f) G w A d = leaf-texts E G w f A d.0
typed-texts E (unary f a) G w A d = typed-texts E a _ _ _ d.part
typed-texts E (binary f a b) G w A d = (typed-texts E a _ _ _ d.first, typed-texts E b _ _ _ d.second)
typed-texts E (ternary f a b c) G w A d = (typed-texts E a _ _ _ d.first, typed-texts E b _ _ _ d.second, typed-texts E c _ _ _ d.third)

pub text-append : (s t : List ℕ) → IsText s → IsText t → IsText (s ++ t)
text-append s t i j = subst IsTrue (sym (list_all-append text_byte s t)) (both-are (list_all text_byte s) (list_all text_byte t) i j)

or-last : (p q r : Bool) → IsTrue r → IsTrue (p || q || r)
or-last true q r e = refl
or-last false true r e = refl
or-last false false r e = e

printable : (b : ℕ) → 32 ≤ b → b ≤ 126 → IsTrue (text_byte b)
printable b l h = or-last (b == 9) (b == 10) _ (both-are (nat_le 32 b) (nat_le b 126) (le-leb 32 b l) (le-leb b 126 h))

digit-byte : (d : ℕ) → d < 10 → IsTrue (text_byte (digit_glyph false d))
digit-byte d h = subst (λ t. IsTrue (text_byte (if t then 48 + d else 87 + d))) (sym (lt-ltb d 10 h)) (printable (48 + d) (omega arith) (omega (arith, h)))

digits-text : (k n : ℕ) (acc : List ℕ) → IsText acc → IsText (digits_onto k 10 false n acc)
digits-text zero n acc i = i
digits-text (suc k) n acc i =
    let j : IsText (digit_glyph false (n % 10) ∷ acc) = both-are (text_byte (digit_glyph false (n % 10))) (list_all text_byte acc) (digit-byte (n % 10) (omega arith)) i in
    by (n / 10 == 0) (digit_glyph false (n % 10) ∷ acc) (digits_onto k 10 false (n / 10) (digit_glyph false (n % 10) ∷ acc)) j (digits-text k (n / 10) (digit_glyph false (n % 10) ∷ acc) j)
  where
    by : (t : Bool) (xs ys : List ℕ) → IsText xs → IsText ys → IsText (if t then xs else ys)
    by true xs ys i j = i
    by false xs ys i j = j

decimal-text : (n : ℕ) → IsText (decimal n)
unfolding digits
decimal-text n = digits-text 64 n [] refl

pub signed-text : (n : ℤ) → IsText (signed_decimal n)
signed-text (pos n) = decimal-text n
signed-text (negsuc n) = decimal-text (suc n)
