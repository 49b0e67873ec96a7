-- What one more byte or word does to a field that is being read.
use Rattle.std.proofs.Common.{◌≡◌, ◌≢◌, ℕ, ◌+◌, ◌≤◌, ◌<◌, ◌&&◌, Bool, true, false, cond, IfSome, not, eqb, List, [], ◌∷◌, ◌++◌, length, take, drop, get_or, Option, Some, None, refl, ap, sym, ◌∙◌, arith}
use Rattle.std.specs.List.{slice_split, position_or_len, find, list_all, AllPass, AllByRecursion as Each}
use Rattle.std.proofs.Math.Bool.{and-true}
use Rattle.std.proofs.lemmas.Bool.Decides.{nat_tests}
use Rattle.std.proofs.lemmas.List.{drop_all, take_all, drop-drop, length-drop}
use Rattle.std.proofs.lemmas.List.Folds.{length-prefix_len}
use Rattle.std.proofs.lemmas.List.Elements.{All-push}
use Rattle.std.proofs.lemmas.List.Sums.{fails_before_first, AllPass-from_list_all}
use Rattle.std.proofs.lemmas.List.Splits.{slice_split_first, slice_split_none}
use Rattle.std.specs.Str.{bytes_eq}
use Rattle.m5_terms.specs.Decimal.{is_digit}
use Rattle.m5_terms.specs.Worlds.{site_worlds}
use Rattle.m5_terms.proofs.SiteWorlds.{none-any}
use Rattle.m5_terms.specs.declared.types.World.{World}
use Rattle.m5_terms.specs.declared.types.World.TheVariants.{Any}
use Rattle.m5_script.specs.Trace.{world_word}
use Rattle.m5_script.specs.declared.items.SiteName.{SiteName}
use Rattle.m5_script.specs.Fields.{◌>>=◌, is_blank, is_solid, span, before_dot, is_number, number_of, site_of, sites_from}
use Rattle.m5_script.specs.Line.{AreSites}

-- ---- worlds

-- what is found in a list without any is not any
among_real : (test : World → Bool) (ws : List World) → Each (λ (w : World). w ≢ Any) ws → IfSome (find test ws) (λ w. w ≢ Any)
among_real test [] h = tt
among_real test (w ∷ ws) h = by (test w) (among_real test ws h.1)
  where
    by : (b : Bool) → IfSome (find test ws) (λ v. v ≢ Any) → IfSome (cond b (Some w) (find test ws)) (λ v. v ≢ Any)
    by true k = h.0
    by false k = k

pub named_real : (word : List ℕ) → IfSome (find (λ w. bytes_eq word (world_word w)) site_worlds) (λ w. w ≢ Any)
named_real word = among_real (λ w. bytes_eq word (world_word w)) site_worlds none-any

-- ---- sites

-- what fails at its second step fails
abbrev no_site : ℕ → Option SiteName
no_site session = None

second_fails : (o : Option ℕ) → (o >>= no_site) ≡ None
second_fails None = refl
second_fails (Some n) = refl

-- a word without a dot names no site
pub no_dot : (word : List ℕ) → span before_dot word ≡ length word → site_of word ≡ None
unfolding site_of
no_dot word h =
    let past : drop (span before_dot word + 1) word ≡ [] = drop_all (span before_dot word + 1) word (omega arith) in
    rw past (second_fails (number_of (take (span before_dot word) word)))

pub named : (sites : List SiteName) (word : List ℕ) (site : SiteName) (words : List (List ℕ)) → 0 < length word → site_of word ≡ Some site
    → sites_from sites (word ∷ words) ≡ sites_from (sites ++ site ∷ []) words
named sites [] site words some h = absurd (omega arith)
named sites (byte ∷ bytes) site words some h = rw h refl

pub misnamed : (sites : List SiteName) (word : List ℕ) (words : List (List ℕ)) → 0 < length word → site_of word ≡ None
    → sites_from sites (word ∷ words) ≡ None
misnamed sites [] words some h = absurd (omega arith)
misnamed sites (byte ∷ bytes) words some h = rw h refl

pub unnamed : (sites : List SiteName) (word : List ℕ) (words : List (List ℕ)) → length word ≡ 0
    → sites_from sites (word ∷ words) ≡ sites_from sites words
unnamed sites [] words h = refl
unnamed sites (byte ∷ bytes) words h = absurd (omega arith)

pub sites_push : (sites : List SiteName) (site : SiteName) → AreSites sites → site.world ≢ Any → AreSites (sites ++ site ∷ [])
sites_push sites site h k = All-push (λ (s : SiteName). s.world ≢ Any) sites site h k

-- ---- words

pub split_more : (s : List ℕ) → span is_solid s < length s → slice_split is_blank s ≡ take (span is_solid s) s ∷ slice_split is_blank (drop (span is_solid s + 1) s)
split_more s h =
    let same : span is_solid s ≡ position_or_len is_blank s = length-prefix_len is_solid s in
    let near : position_or_len is_blank s < length s = omega arith in
    rw same (slice_split_first is_blank s 0 near)

pub split_last : (s : List ℕ) → length s ≤ span is_solid s → slice_split is_blank s ≡ take (span is_solid s) s ∷ []
split_last s h =
    let same : span is_solid s ≡ position_or_len is_blank s = length-prefix_len is_solid s in
    let none : slice_split is_blank s ≡ s ∷ [] = slice_split_none is_blank s (λ k d near. fails_before_first is_blank s k d (omega arith)) in
    none ∙ ap (λ (w : List ℕ). w ∷ []) (sym (take_all (span is_solid s) s h))

-- ---- the words of an order

-- the last word was taken
pub order_ends : (old new : List SiteName) (rest word after : List ℕ) (n : ℕ) → n ≡ span is_solid rest → word ≡ take n rest → after ≡ drop n rest → length after ≡ 0
    → ((words : List (List ℕ)) → sites_from old (word ∷ words) ≡ sites_from new words) → sites_from old (slice_split is_blank rest) ≡ Some new
order_ends old new rest word after n count is left none step =
    let short : length rest ≤ span is_solid rest = omega (arith, length-drop n rest, ap length left) in
    let here : word ≡ take (span is_solid rest) rest = is ∙ ap (λ (k : ℕ). take k rest) count in
    ap (sites_from old) (split_last rest short ∙ ap (λ (w : List ℕ). w ∷ []) (sym here)) ∙ step []

-- a word was taken, and more follow after a blank
pub order_goes : (old new : List SiteName) (rest word after next : List ℕ) (n : ℕ) → n ≡ span is_solid rest → word ≡ take n rest → after ≡ drop n rest → length after ≢ 0
    → next ≡ drop 1 after → ((words : List (List ℕ)) → sites_from old (word ∷ words) ≡ sites_from new words)
    → sites_from old (slice_split is_blank rest) ≡ sites_from new (slice_split is_blank next)
order_goes old new rest word after next n count is left some then step =
    let near : span is_solid rest < length rest = omega (arith, length-drop n rest, ap length left) in
    let here : word ≡ take (span is_solid rest) rest = is ∙ ap (λ (k : ℕ). take k rest) count in
    let there : next ≡ drop (span is_solid rest + 1) rest = then ∙ ap (drop 1) left ∙ drop-drop 1 n rest ∙ ap (λ (k : ℕ). drop (k + 1) rest) count in
    ap (sites_from old) (split_more rest near ∙ ap (λ (w : List ℕ). w ∷ slice_split is_blank (drop (span is_solid rest + 1) rest)) (sym here))
    ∙ step (slice_split is_blank (drop (span is_solid rest + 1) rest)) ∙ ap (λ (r : List ℕ). sites_from new (slice_split is_blank r)) (sym there)

-- ---- numbers

pub number_none : (word : List ℕ) → length word ≡ 0 → is_number word ≡ false
number_none [] none = refl
number_none (a ∷ word) none = absurd (omega arith)

-- a single digit is a number
pub number_one : (word : List ℕ) → length word ≡ 1 → is_number word ≡ list_all is_digit word
number_one [] one = absurd (omega arith)
number_one (a ∷ []) one = sym (and-true (is_digit a))
number_one (a ∷ b ∷ word) one = absurd (omega arith)

-- more of them are one where the first is no 0
pub number_zero : (word : List ℕ) → length word ≢ 0 → length word ≢ 1 → get_or word 0 0 ≡ 48 → is_number word ≡ false
number_zero [] some more first = absurd (some refl)
number_zero (a ∷ []) some more first = absurd (more refl)
number_zero (a ∷ b ∷ word) some more first = rw first refl

pub number_more : (word : List ℕ) → length word ≢ 0 → length word ≢ 1 → get_or word 0 0 ≢ 48 → is_number word ≡ list_all is_digit word
number_more [] some more first = absurd (some refl)
number_more (a ∷ []) some more first = absurd (more refl)
number_more (a ∷ b ∷ word) some more first = let other : eqb a 48 ≡ false = grind (arith, nat_tests) in rw other refl

second_true : (a b : Bool) → (a && b) ≡ true → b ≡ true
second_true true b h = h
second_true false b h = absurd cc

pub number_digits : (word : List ℕ) → is_number word ≡ true → AllPass is_digit word
number_digits [] h = absurd cc
number_digits (a ∷ []) h = AllPass-from_list_all is_digit (a ∷ []) (and-true (is_digit a) ∙ h)
number_digits (a ∷ b ∷ word) h =
    AllPass-from_list_all is_digit (a ∷ b ∷ word) (second_true (not (eqb a 48)) (list_all is_digit (a ∷ b ∷ word)) h)
