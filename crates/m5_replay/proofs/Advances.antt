-- What a line that fits makes of a run on its way.
use Rattle.std.proofs.Common.{◌≡◌, ℕ, ◌+◌, ◌-◌, Bool, true, false, IsTrue, List, [], ◌∷◌, ◌++◌, map, sum_by, Option, Some, None, refl, sym, ap, ◌∙◌, eq-eqb}
use Rattle.std.proofs.lemmas.List.Sums.{sum_by_push}
use Rattle.m5_terms.specs.TypeExpression.{same_world}
use Rattle.m5_terms.specs.declared.types.World.{World}
use Rattle.m5_terms.specs.declared.types.World.TheVariants.{Home, Server, Panel, Any}
use Rattle.m5_terms.specs.declared.ask.Act.{Act}
use Rattle.m5_terms.specs.declared.ask.Entry.{Entry}
use Rattle.m5_meaning.specs.Site.{Program, Site, Item}
use Rattle.m5_script.specs.Scenario.{Scenario}
use Rattle.m5_script.specs.Fields.{◌>>=◌}
use Rattle.m5_script.specs.Trace.{line_of}
use Rattle.m5_script.specs.declared.items.SiteName.{SiteName}
use Rattle.m5_network.specs.Board.{Board}
use Rattle.m5_network.specs.Claim.{has_seal, stop_count}
use Rattle.m5_network.specs.Entries.{Deed, entry_of}
use Rattle.m5_network.specs.Run.{Network, Place, IsSite, Step, with_site}
use Rattle.m5_network.proofs.Places.{at-place}
use Rattle.m5_board.specs.Boards.{board_of}
use Rattle.m5_sites.specs.Sites.{kept, site_at, with_site_at}
use Rattle.m5_sites.proofs.SiteMaps.{put-back}
use Rattle.m5_replay.specs.Lines.{site_named, place_at, place_named}
use Rattle.m5_replay.specs.Settling.{Settles}
use Rattle.m5_replay.specs.Fitting.{deed_line, weight_after, Misfits}
use Rattle.m5_replay.specs.code.Making.{MakesDeed}
use Rattle.m5_replay.specs.code.Running.{stops_of, StandsBut, Advances}
use Rattle.m5_replay.specs.declared.running.Running.{Running}
use Rattle.m5_replay.proofs.Makings.{one-deed}

same-self : (w : World) → same_world w w ≡ true
same-self Home = refl
same-self Server = refl
same-self Panel = refl
same-self Any = refl

-- what was put at a place stands there
there : (s : ℕ) (w : World) (x : Site) (b : Board Item) (N : Network) → (with_site s w x b N).site s w ≡ x
there s w x b N = rw (eq-eqb s s refl) (rw (same-self w) refl)

-- one deed more
mapped-on : (g : Deed Item → Entry) (ds : List (Deed Item)) (d : Deed Item) → map g (ds ++ d ∷ []) ≡ map g ds ++ g d ∷ []
mapped-on g [] d = refl
mapped-on g (e ∷ ds) d = ap (λ xs. g e ∷ xs) (mapped-on g ds d)

stops-on : (ds : List (Deed Item)) (d : Deed Item) → stops_of (ds ++ d ∷ []) ≡ stops_of ds + stop_count (entry_of has_seal d).act
stops-on ds d = ap (sum_by (λ (e : Entry). stop_count e.act)) (mapped-on (entry_of has_seal) ds d) ∙ sum_by_push (λ (e : Entry). stop_count e.act) (map (entry_of has_seal) ds) (entry_of has_seal d)

-- a line that begins with a site names its place
pub named-place : (line : List ℕ) (x : SiteName) → site_named line ≡ Some x → place_named line ≡ Some (place_at line x)
named-place line x e = ap (λ (o : Option SiteName). o >>= λ y. Some (place_at line y)) e

abbrev entry_at : SiteName → Act → Entry
entry_at x a = record { session = x.session; world = x.world; act = a }

pub advances : (P : Program) (S : Scenario) (N : Network) (before start ran after : ℕ) (ds : List (Deed Item)) (line : List ℕ) (x : SiteName) (settled : Site) (left : Option Site) (shown : Act) (old new : Running) →
    StandsBut S old N before ds x → MakesDeed P S N (place_at line x) old.board left after shown → Settles P S x.world (place_at line x).cause before (N.site x.session x.world) settled → start ≡ (N.site x.session x.world).weight → ran ≡ settled.weight → site_named line ≡ Some x →
    line ≡ line_of (entry_at x shown) → site_at new.sites.items ≡ with_site_at x.session x.world left (site_at old.sites.items) → new.board ≡ old.board → new.weight ≡ old.weight + (ran - start) + (after - ran) → new.stops ≡ old.stops + stop_count shown → Advances P S N before ds line new
advances P S N before start ran after ds line x settled left shown old new h m k from to named text put board weight stops =
    let M : Network = with_site x.session x.world m.site (board_of old.board) N in
    let here : M.site x.session x.world ≡ m.site = there x.session x.world m.site (board_of old.board) N in
    let rows : site_at new.sites.items ≡ with_site_at x.session x.world left h.whole = put-back x.session x.world None left h.whole (site_at old.sites.items) (site_at new.sites.items) h.taken put in
    let Held : ℕ → World → Site → Option Site → Type 0 = λ z v a o. IsSite S z v → o ≡ kept a in
    let held : (z : ℕ) (v : World) → Held z v (M.site z v) (with_site_at x.session x.world left h.whole z v) = at-place Held x.session x.world m.site left N.site h.whole (λ j. m.left_is) h.sites in
    let after_is : new.weight ≡ weight_after before (N.site x.session x.world) settled (M.site x.session x.world) =
    weight ∙ (λ i. h.weighs i + (to i - from i) + (m.weighs i - to i)) ∙ ap (λ (z : Site). weight_after before (N.site x.session x.world) settled z) (sym here) in
    record {
      deed = m.deed;
      network = M;
      weight = new.weight;
      fits = record {
        place = place_at line x;
        named = named-place line x named;
        settled = settled;
        settles = k;
        step = m.step;
        text = text ∙ ap line_of (sym m.entry);
        weight = after_is;
      };
      stands = record {
        board = ap board_of board;
        sites = λ z v i. ap (λ (f : ℕ → World → Option Site). f z v) rows ∙ held z v i;
        weighs = refl;
        stops = stops ∙ ap (λ (n : ℕ). n + stop_count shown) h.stops ∙ ap (λ (e : Entry). stops_of ds + stop_count e.act) (sym m.entry) ∙ sym (stops-on ds m.deed);
      };
    }

-- another text than that of the deed does not fit
pub other-text : (P : Program) (S : Scenario) (N : Network) (before : ℕ) (line : List ℕ) (x : SiteName) (settled : Site) (p : Place) (M : Network) (d : Deed Item) → Step P S N p d M → (line ≡ deed_line d → ⊥) → Settles P S p.world p.cause before (N.site p.session p.world) settled → Misfits P S N before line p
other-text P S N before line x settled p M d t n k = record {
  differs = λ e L u q. n (q ∙ ap deed_line (one-deed P S N L M p e d u t));
  within = λ i. (settled, k);
}

pub not-true : (b : Bool) → b ≡ false → IsTrue b → ⊥
not-true b e t = cc
