-- What is known of a scope stays known as types are added, inside binders, in blocks and under shams.
use Rattle.std.proofs.Common.{◌≡◌, ◌==◌, ◌<◌, ◌≤◌, ◌⊎◌, inl, inr, ℕ, suc, Bool, true, false, if◌then◌else◌, List, Option, Some, None, slice_get, refl, sym, ap, ◌∙◌, subst, arith}
use Rattle.std.proofs.lemmas.Bool.Decides.{eqb_tells}
use Rattle.m5_terms.specs.TypeExpression.{TypeExpression}
use Rattle.m5_terms.specs.Table.{put}
use Rattle.m5_terms.specs.declared.types.World.{World}
use Rattle.m5_typing.specs.Context.{Bound, local, valid, Setting, if_valid}
use Rattle.m5_cps.specs.Entries as entry
use Rattle.m5_cps.specs.Steps.{mode_of}
use Rattle.m5_cps.specs.declared.entry.Mode.{Mode}
use Rattle.m5_cps.specs.declared.entry.Mode.TheVariants as modes
use Rattle.m5_cps_convert.specs.Scopes.{Scope, bind, in_block, in_arm, in_sham}
use Rattle.m5_cps_convert.specs.declared.walk.Kind.{Kind}
use Rattle.m5_cps_convert.specs.declared.walk.Kind.TheVariants.{Local, Valid}
use Rattle.m5_cps_convert.specs.declared.walk.Known.{Known}
use Rattle.m5_cps_convert.specs.declared.walk.Around.{Around}
use Rattle.m5_cps_convert.specs.code.Types.{IsAt}
use Rattle.m5_cps_convert.specs.code.Writing.{Keeps}
use Rattle.m5_cps_convert.specs.code.Knowing.{IsLocal, HasBound, IsKnown, IsDeclared, Knows}

pub at_kept : {L M : List TypeExpression} {n : ℕ} {A : TypeExpression} → Keeps L M → IsAt L n A → IsAt M n A
at_kept {L} {M} {n} {A} k a = record { is = k.each n A a.is }

bound_kept : {L M : List TypeExpression} (d : ℕ) (kind : Kind) (own ty : ℕ) (b : Option Bound) → Keeps L M → HasBound L d kind own ty b → HasBound M d kind own ty b
bound_kept d Local own ty b k h = record { type_is = h.type_is; at = at_kept k h.at; shallow = h.shallow; seen = h.seen; hidden = h.hidden }
bound_kept d Valid own ty b k h = record { type_is = h.type_is; at = at_kept k h.at; is = h.is }

known_kept : {L M : List TypeExpression} (d : ℕ) (e : Option Known) (b : Option Bound) (o : Option ℕ) → Keeps L M → IsKnown L d e b o → IsKnown M d e b o
known_kept d None b o k h = h
known_kept d (Some e) b o k h = (bound_kept d e.kind e.depth e.ty b k h.0, h.1)

declared_kept : {L M : List TypeExpression} (n : Option ℕ) (b : Option Bound) → Keeps L M → IsDeclared L n b → IsDeclared M n b
declared_kept None b k h = h
declared_kept (Some n) b k h = at_kept k h

pub knows_kept : {L M : List TypeExpression} {s : ℕ → Option Known} {F : List ℕ} {at : Around} {E : Setting} {Γ : Scope} → Keeps L M → Knows L s F at E Γ → Knows M s F at E Γ
knows_kept {L} {M} {s} {F} {at} {E} {Γ} k h = record {
  names = λ x. known_kept at.depth (s x) (Γ.bounds x) (Γ.slots x) k (h.names x);
  mode = h.mode;
  arms = h.arms;
  declared = λ f. declared_kept (slice_get F f) (E.functions f) k (h.declared f);
}

-- a variable more
known_bound : (L : List TypeExpression) (d : ℕ) (t : Bool) (k : Known) (e : Option Known) (b c : Option Bound) (o p : Option ℕ) → IsKnown L d (Some k) b p → IsKnown L d e c o
    → IsKnown L d (if t then Some k else e) (if t then b else c) (if t then p else o)
known_bound L d true k e b c o p h r = h
known_bound L d false k e b c o p h r = r

pub local_is_known : (L : List TypeExpression) (d l ty : ℕ) (w : World) (A : TypeExpression) → IsAt L ty A
    → IsKnown L d (Some (record { kind = Local; depth = d; slot = l; ty = ty })) (Some (local w A)) (Some l)
local_is_known L d l ty w A a =
    (record { type_is = A; at = a; shallow = omega arith; seen = λ e. (w, refl); hidden = λ i. absurd (omega (arith, i)) }, refl)

pub valid_is_known : (L : List TypeExpression) (d l ty : ℕ) (A : TypeExpression) → IsAt L ty A
    → IsKnown L d (Some (record { kind = Valid; depth = d; slot = l; ty = ty })) (Some (valid A)) (Some l)
valid_is_known L d l ty A a = (record { type_is = A; at = a; is = refl }, refl)

pub knows_bind : {L : List TypeExpression} {s : ℕ → Option Known} {F : List ℕ} {at : Around} {E : Setting} {Γ : Scope} (x : ℕ) (k : Known) (b : Bound) (l : ℕ)
    → IsKnown L at.depth (Some k) (Some b) (Some l) → Knows L s F at E Γ → Knows L (put x (Some k) s) F at E (bind x b l Γ)
knows_bind {L} {s} {F} {at} {E} {Γ} x k b l i h = record {
  names = λ y. known_bound L at.depth (y == x) k (s y) (Some b) (Γ.bounds y) (Γ.slots y) (Some l) i (h.names y);
  mode = h.mode;
  arms = h.arms;
  declared = h.declared;
}

-- in a block of its own
pub knows_block : {L : List TypeExpression} {s : ℕ → Option Known} {F : List ℕ} {at : Around} {E : Setting} {Γ : Scope} (m : Mode) (n : entry.Mode) → n ≡ mode_of m → Knows L s F at E Γ
    → Knows L s F (record { mode = m; depth = at.depth; arms = 0 }) E (in_block n Γ)
knows_block m n e h = record { names = h.names; mode = e; arms = refl; declared = h.declared }

pub knows_arm : {L : List TypeExpression} {s : ℕ → Option Known} {F : List ℕ} {at : Around} {E : Setting} {Γ : Scope} (a : ℕ) → a ≡ suc at.arms → Knows L s F at E Γ
    → Knows L s F (record at { arms = a }) E (in_arm Γ)
knows_arm a e h = record { names = h.names; mode = h.mode; arms = ap suc h.arms ∙ sym e; declared = h.declared }

-- under a sham local variables are of no use
hides : (L : List TypeExpression) (d own ty : ℕ) (b : Option Bound) → IsLocal L d own ty b → if_valid b ≡ None
hides L d own ty b h = apart (split own d h.shallow)
  where
    split : (m n : ℕ) → m ≤ n → (m ≡ n) ⊎ (m < n)
    split m n l = elim (eqb_tells m n) [ inl e ↦ inl e.1 | inr e ↦ inr (omega (arith, l, e.1)) ]

    apart : (own ≡ d) ⊎ (own < d) → if_valid b ≡ None
    apart (inl e) = ap if_valid (h.seen e).1
    apart (inr i) = ap if_valid (h.hidden i)

under_sham : (L : List TypeExpression) (d : ℕ) (kind : Kind) (own ty : ℕ) (b : Option Bound) → HasBound L d kind own ty b → HasBound L (suc d) kind own ty (if_valid b)
under_sham L d Local own ty b h = record {
  type_is = h.type_is;
  at = h.at;
  shallow = omega (arith, h.shallow);
  seen = λ e. absurd (omega (arith, e, h.shallow));
  hidden = λ i. hides L d own ty b h;
}
under_sham L d Valid own ty b h = record { type_is = h.type_is; at = h.at; is = ap if_valid h.is }

sham_known : (L : List TypeExpression) (d : ℕ) (e : Option Known) (b : Option Bound) (o : Option ℕ) → IsKnown L d e b o → IsKnown L (suc d) e (if_valid b) o
sham_known L d None b o h = (ap if_valid h.0, h.1)
sham_known L d (Some k) b o h = (under_sham L d k.kind k.depth k.ty b h.0, h.1)

pub knows_sham : {L : List TypeExpression} {s : ℕ → Option Known} {F : List ℕ} {at : Around} {E : Setting} {Γ : Scope} (d : ℕ) → d ≡ suc at.depth → Knows L s F at E Γ
    → Knows L s F (record { mode = modes.Everywhere; depth = d; arms = at.arms }) E (in_sham Γ)
knows_sham {L} {s} {F} {at} {E} {Γ} d e h = record {
  names = λ x. subst (λ n. IsKnown L n (s x) (if_valid (Γ.bounds x)) (Γ.slots x)) (sym e) (sham_known L at.depth (s x) (Γ.bounds x) (Γ.slots x) (h.names x));
  mode = refl;
  arms = h.arms;
  declared = h.declared;
}

-- the entries may be given by another function that is the same
pub knows_same : {L : List TypeExpression} {s r : ℕ → Option Known} {F : List ℕ} {at : Around} {E : Setting} {Γ : Scope} → s ≡ r → Knows L r F at E Γ → Knows L s F at E Γ
knows_same {L} {s} {r} {F} {at} {E} {Γ} e h = subst (λ q. Knows L q F at E Γ) (sym e) h
