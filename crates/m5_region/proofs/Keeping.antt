-- The lists keep what is true of them.
use Rattle.std.specs.Vec.{vec_capacity}
use Rattle.m5_region.specs.declared.region.Region.TheInside.{Inside}
use Rattle.std.proofs.Common.{Vec, Global, ◌≡◌, ℕ, ◌+◌, ◌-◌, ◌*◌, ◌≤◌, ◌<◌, ◌∙◌, List, [], ◌∷◌, ◌++◌, length, ap, sym, arith, length-append, Option, Some, None, slice_get}
use Rattle.m5_region.specs.declared.value.Ref.{Ref}
use Rattle.std.specs.List.{All}
use Rattle.m5_region.specs.Region.{Object, ArrayOf, TextOf, Contents, units_of, Adds, Joins, text_of, bytes_in}
use Rattle.m5_region.specs.Layout.{kinds_of, content_of}
use Rattle.m5_region.specs.code.Stored.{Spells, objects_in}
use Rattle.m5_region.specs.Region.{MayFollow}
use Rattle.m5_region.specs.code.Keeps.{Keeps}
use Rattle.m5_region.proofs.Adding.{Added, added, stands, spelled, count_within, starts_length, units_length}
use Rattle.m5_region.proofs.Reading.{content_start}

pub record Roomy (ks : List ℕ) (room kc bc sc : ℕ) : Type 0 where
  pub within : length ks ≤ room
  pub small : room ≤ 1048640
  pub kinds_fit : room ≤ kc
  pub content_fit : 8 * room ≤ bc
  pub starts_fit : room ≤ sc

pub keeps : (ks bs ss : List ℕ) (os : List Object) (room kc bc sc : ℕ) → Spells ks bs ss os → Roomy ks room kc bc sc → Keeps ks bs ss room kc bc sc
keeps ks bs ss os room kc bc sc s r =
    let same = spelled ks bs ss os s in
    record {
      spells = stands ks bs ss os s;
      counted = ap length s.starts_are ∙ starts_length 0 os ∙ ap length (sym same);
      starts_within = rw (s.starts_are, s.kinds_are) (count_within 0 os);
      eight = rw (s.kinds_are, s.content_are) (content_start os);
      within = r.within;
      small = r.small;
      kinds_fit = r.kinds_fit;
      content_fit = r.content_fit;
      starts_fit = r.starts_fit;
    }

-- the lists before and after an object's units were added
pub record Grows (ks bs ss : List ℕ) (room kc bc sc : ℕ) (o : Object) (ks' bs' ss' : List ℕ) (kc' bc' sc' : ℕ) : Type 0 where
  pub kept : Keeps ks bs ss room kc bc sc
  pub fits : MayFollow (objects_in ks bs) o
  pub kinds : ks' ≡ ks ++ kinds_of o
  pub content : bs' ≡ bs ++ content_of o
  pub starts : ss' ≡ ss ++ length ks ∷ []
  pub room_is : length ks + units_of o ≤ room
  pub kinds_fit : kc ≤ kc'
  pub content_fit : bc ≤ bc'
  pub starts_fit : sc ≤ sc'

grown : (ks bs ss : List ℕ) (room kc bc sc : ℕ) (o : Object) (ks' bs' ss' : List ℕ) (kc' bc' sc' : ℕ) → Grows ks bs ss room kc bc sc o ks' bs' ss' kc' bc' sc' → Added ks' bs' ss' (objects_in ks bs ++ o ∷ [])
grown ks bs ss room kc bc sc o ks' bs' ss' kc' bc' sc' g = added ks bs ss ks' bs' ss' o g.kept.spells g.fits g.kinds g.content g.starts

pub keeps_grown : (ks bs ss : List ℕ) (room kc bc sc : ℕ) (o : Object) (ks' bs' ss' : List ℕ) (kc' bc' sc' : ℕ) → Grows ks bs ss room kc bc sc o ks' bs' ss' kc' bc' sc' → Keeps ks' bs' ss' room kc' bc' sc'
keeps_grown ks bs ss room kc bc sc o ks' bs' ss' kc' bc' sc' g =
    keeps ks' bs' ss' _ room kc' bc' sc' (grown ks bs ss room kc bc sc o ks' bs' ss' kc' bc' sc' g).spells
    (record {
      within = rw g.kinds (omega (arith, length-append ks (kinds_of o), units_length o, g.room_is));
      small = g.kept.small;
      kinds_fit = omega (arith, g.kept.kinds_fit, g.kinds_fit);
      content_fit = omega (arith, g.kept.content_fit, g.content_fit);
      starts_fit = omega (arith, g.kept.starts_fit, g.starts_fit);
    })

-- what callers see of it
pub adds_grown : (ks bs ss : List ℕ) (room kc bc sc : ℕ) (o : Object) (ks' bs' ss' : List ℕ) (kc' bc' sc' : ℕ) (at : ℕ) → Grows ks bs ss room kc bc sc o ks' bs' ss' kc' bc' sc' → at ≡ length ss →
    (at ≡ length (objects_in ks bs)) × (objects_in ks' bs' ≡ objects_in ks bs ++ o ∷ []) × (room - length ks' + units_of o ≡ room - length ks)
adds_grown ks bs ss room kc bc sc o ks' bs' ss' kc' bc' sc' at g e = (
  e ∙ g.kept.counted,
  (grown ks bs ss room kc bc sc o ks' bs' ss' kc' bc' sc' g).objects,
  rw g.kinds (omega (arith, length-append ks (kinds_of o), units_length o, g.room_is)),
)

pub nothing_spelled : (ks bs ss : List ℕ) → ks ≡ [] → bs ≡ [] → ss ≡ [] → Spells ks bs ss []
nothing_spelled ks bs ss k b s = record {
  kinds_are = k;
  content_are = b;
  starts_are = s;
  older = λ n o e. absurd (let none : None ≡ Some o = e in cc);
}

pub same_contents : (os os' : List Object) (left left' : ℕ) → os ≡ os' → left ≡ left' → (let a : Contents = record { objects = os; left = left } in a) ≡ (let b : Contents = record { objects = os'; left = left' } in b)
same_contents os os' left left' p q = cc

-- the same, of a region's fields and the lists that came of them
abbrev pub GrowsTo : Inside → Object → Vec ℕ Global → Vec ℕ Global → Vec ℕ Global → Type 0
GrowsTo i o kinds content starts =
    Grows i.kinds.items i.content.items i.starts.items i.room (vec_capacity i.kinds) (vec_capacity i.content) (vec_capacity i.starts) o
    kinds.items content.items starts.items (vec_capacity kinds) (vec_capacity content) (vec_capacity starts)

text_is : (o : Option Object) (bytes : List ℕ) → bytes_in o ≡ Some bytes → o ≡ Some (TextOf bytes)
text_is None bytes e = absurd (let none : None ≡ Some bytes = e in cc)
text_is (Some (ArrayOf vs)) bytes e = absurd (let none : None ≡ Some bytes = e in cc)
text_is (Some (TextOf b)) bytes e = let same : b ≡ bytes = cc in ap (λ (x : List ℕ). Some (TextOf x)) same

pub text_fits : (ks bs ss : List ℕ) (os : List Object) (at : ℕ) (bytes : List ℕ) → Spells ks bs ss os → text_of os at ≡ Some bytes → All (λ b. b < 256) bytes
text_fits ks bs ss os at bytes s e = (s.older at (TextOf bytes) (text_is (slice_get os at) bytes e)).1

pub joins_from : (old new : Contents) (first second : ℕ) (a b : List ℕ) (result : Option Ref) → text_of old.objects first ≡ Some a → text_of old.objects second ≡ Some b → Adds old (TextOf (a ++ b)) result new → Joins old first second result new
joins_from old new first second a b result e f h = rw (e, f) h

pub joins_some : (os os' : List Object) (left left' first second at : ℕ) (a b : List ℕ) → text_of os first ≡ Some a → text_of os second ≡ Some b →
    (at ≡ length os) × (os' ≡ os ++ TextOf (a ++ b) ∷ []) × (left' + units_of (TextOf (a ++ b)) ≡ left) →
    Joins (record { objects = os; left = left }) first second (Some (record { 0 = at })) (record { objects = os'; left = left' })
joins_some os os' left left' first second at a b e f h = joins_from (record { objects = os; left = left }) (record { objects = os'; left = left' }) first second a b (Some (record { 0 = at })) e f h
