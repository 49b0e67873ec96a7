-- What one turn makes of a run on its way.
use Rattle.std.proofs.Common.{◌≡◌, ℕ, ◌++◌, true, false, List, [], ◌∷◌, length, Option, Some, None, inl, inr, refl, sym, ap, subst, ◌∙◌, append-nil}
use Rattle.m5_terms.specs.declared.types.World.{World}
use Rattle.m5_script.specs.declared.items.SiteName.{SiteName}
use Rattle.m5_network.specs.Entries.{Deed, entry_of}
use Rattle.m5_network.specs.Claim.{IsAtItsWorld, primitive_of}
use Rattle.m5_network.specs.Kinds.{IsAmong, with_site}
use Rattle.m5_network.specs.Plain.{TurnOf}
use Rattle.m5_network.proofs.Places.{at-place}
use Rattle.m5_board.specs.Boards.{board_of}
use Rattle.m5_shared.specs.Shared.{SharedBoard, is_sealed}
use Rattle.m5_sites.proofs.SiteMaps.{stays-at, put-back}
use Rattle.m5_site.specs.declared.state.State.{State}
use Rattle.m5_site.specs.declared.state.Limits.{Limits}
use Rattle.m5_site.specs.Held.{Held}
use Rattle.m5_site.specs.Kind.{object_kind}
use Rattle.m5_site.specs.Object.{Bundle}
use Rattle.m5_net.specs.Running.{StandsFor, IsReady, StaysReady, TakesTurn, IsOwnDeed}
use Rattle.m5_net.specs.Sites.{site_at, with_site_at}
use Rattle.m5_net.specs.Turning.{Net, IsAhead, IsLeft, IsReadySite, IsReadyLeft, IsReadyTurned, IsTurned, MakesDeed, FindsNothing}
use Rattle.m5_net.specs.declared.running.Running.{Running}
use Rattle.m5_net.specs.declared.turn.Turned.{Turned}

abbrev Sites : Type 0
Sites = ℕ → World → Option Held

-- in the name of the site that was taken
abbrev Turns : (O : Bundle) → Held → SharedBoard → SharedBoard → Turned → ℕ → World → Type 0
Turns O x old new t s w = (n : Limits) (N : Net O n) → (N.site s w).stopped ≡ false → board_of old.board ≡ N.board → IsAhead O s w (N.site s w) x → IsTurned O n N s w old new t

pub by_name : (O : Bundle) (x : Held) (old new : SharedBoard) (t : Turned) (s : ℕ) (w : World) → IsReadySite O s w x → Turns O x old new t x.session x.world → Turns O x old new t s w
by_name O x old new t s w r h =
    subst (λ (v : World). Turns O x old new t s v) r.world (subst (λ (k : ℕ). Turns O x old new t k x.world) r.session h)

pub ready_by_name : (O : Bundle) (x : Held) (t : Turned) (s : ℕ) (w : World) → IsReadySite O s w x → IsReadyTurned O x.session x.world t → IsReadyTurned O s w t
ready_by_name O x t s w r h =
    subst (λ (v : World). IsReadyTurned O s v t) r.world (subst (λ (k : ℕ). IsReadyTurned O k x.world t) r.session h)

pub taken_ready : (O : Bundle) (s : ℕ) (w : World) (x : Held) (m : Option Held) → m ≡ Some x → IsReadyLeft O s w m → IsReadySite O s w x
taken_ready O s w x m e h = subst (IsReadyLeft O s w) e h

pub taken_ahead : (O : Bundle) (s : ℕ) (w : World) (y : State) (x : Held) (m : Option Held) → m ≡ Some x → IsLeft O s w y m → (y.stopped ≡ false) × IsAhead O s w y x
taken_ahead O s w y x m e h = subst (IsLeft O s w y) e h

-- whose deed a turn makes
deed_session : (O : Bundle) (n : Limits) (N M : Net O n) (x : SiteName) (d : Deed (List ℕ)) → TurnOf (object_kind O n) N x (d ∷ []) M → d.session ≡ x.session
deed_session O n N M x d (i, inl a) = a.session
deed_session O n N M x d (i, inr p) = ap (λ (e : Deed (List ℕ)). e.session) p.1.deed

deed_world : (O : Bundle) (n : Limits) (N M : Net O n) (x : SiteName) (d : Deed (List ℕ)) → TurnOf (object_kind O n) N x (d ∷ []) M → d.world ≡ x.world
deed_world O n N M x d (i, inl a) = a.world
deed_world O n N M x d (i, inr p) = ap (λ (e : Deed (List ℕ)). e.world) p.1.deed

own_deed : (d : Deed (List ℕ)) (s : ℕ) (w : World) → d.session ≡ s → d.world ≡ w → IsAtItsWorld (primitive_of (entry_of (is_sealed s) d).act) w → IsOwnDeed d
own_deed d s w es ew h =
    subst (λ (k : ℕ). IsAtItsWorld (primitive_of (entry_of (is_sealed k) d).act) d.world) (sym es)
    (subst (λ (v : World). IsAtItsWorld (primitive_of (entry_of (is_sealed s) d).act) v) (sym ew) h)

-- a site that was gone stays gone
stays_gone : (s : ℕ) (w : World) (old new : Sites) → None ≡ old s w → new ≡ with_site_at s w None old → new ≡ old
stays_gone s w old new e h = h ∙ (λ i. λ z. λ v. stays-at s w None old e z v i)

pub skips : (O : Bundle) (n : Limits) (count : ℕ) (N : Net O n) (x : SiteName) (old new : Running) → StandsFor O n count old N → IsAmong count x.session x.world →
    None ≡ site_at old.sites.items x.session x.world → site_at new.sites.items ≡ with_site_at x.session x.world None (site_at old.sites.items) → new.shared ≡ old.shared → TakesTurn O n count N x old new
skips O n count N x old new h i none rows same =
    let gone : (N.site x.session x.world).stopped ≡ true = subst (IsLeft O x.session x.world (N.site x.session x.world)) (sym none) (h.sites x.session x.world i) in
    let sites : site_at new.sites.items ≡ site_at old.sites.items = stays_gone x.session x.world (site_at old.sites.items) (site_at new.sites.items) none rows in
    record {
      deeds = [];
      after = N;
      turn = (refl, inr gone);
      made = record {
        stands = record { board = ap (λ (b : SharedBoard). board_of b.board) same ∙ h.board; sites = λ z v j. subst (λ (f : Sites). IsLeft O z v (N.site z v) (f z v)) (sym sites) (h.sites z v j) };
        entries = ap (λ (b : SharedBoard). b.entries) same ∙ sym (append-nil old.shared.entries);
        own = tt;
      };
    }

pub acts : (O : Bundle) (n : Limits) (count : ℕ) (N : Net O n) (x : SiteName) (old mid new : Running) (left : Option Held) → StandsFor O n count old N →
    site_at mid.sites.items ≡ with_site_at x.session x.world None (site_at old.sites.items) → site_at new.sites.items ≡ with_site_at x.session x.world left (site_at mid.sites.items) →
    MakesDeed O n N x.session x.world old.shared new.shared left → TakesTurn O n count N x old new
acts O n count N x old mid new left h taken put m =
    let after : Net O n = with_site x.session x.world m.site (board_of new.shared.board) N in
    let rows : site_at new.sites.items ≡ with_site_at x.session x.world left (site_at old.sites.items) = put-back x.session x.world None left (site_at old.sites.items) (site_at mid.sites.items) (site_at new.sites.items) taken put in
    let Q : ℕ → World → State → Option Held → Type 0 = λ z v a b. IsAmong count z v → IsLeft O z v a b in
    let sites : (z : ℕ) (v : World) → Q z v (after.site z v) (with_site_at x.session x.world left (site_at old.sites.items) z v) =
    at-place Q x.session x.world m.site left N.site (site_at old.sites.items) (λ j. m.left) h.sites in
    let es = deed_session O n N after x m.deed m.turn in
    let ew = deed_world O n N after x m.deed m.turn in
    record {
      deeds = m.deed ∷ [];
      after = after;
      turn = m.turn;
      made = record {
        stands = record { board = refl; sites = λ z v. subst (λ (f : Sites). Q z v (after.site z v) (f z v)) (sym rows) (sites z v) };
        entries = m.entry ∙ ap (λ (k : ℕ). old.shared.entries ++ entry_of (is_sealed k) m.deed ∷ []) (sym es);
        own = (own_deed m.deed x.session x.world es ew m.own, tt);
      };
    }

pub rests : (O : Bundle) (n : Limits) (count : ℕ) (N : Net O n) (x : SiteName) (old mid new : Running) (left : Held) → StandsFor O n count old N → (N.site x.session x.world).stopped ≡ false →
    site_at mid.sites.items ≡ with_site_at x.session x.world None (site_at old.sites.items) → site_at new.sites.items ≡ with_site_at x.session x.world (Some left) (site_at mid.sites.items) →
    FindsNothing O n N x.session x.world old.shared new.shared left → TakesTurn O n count N x old new
rests O n count N x old mid new left h i taken put m =
    let rows : site_at new.sites.items ≡ with_site_at x.session x.world (Some left) (site_at old.sites.items) = put-back x.session x.world None (Some left) (site_at old.sites.items) (site_at mid.sites.items) (site_at new.sites.items) taken put in
    let Q : ℕ → World → State → Option Held → Type 0 = λ z v a b. IsAmong count z v → IsLeft O z v a b in
    let sites : (z : ℕ) (v : World) → Q z v (N.site z v) (with_site_at x.session x.world (Some left) (site_at old.sites.items) z v) =
    λ z v. subst (λ (a : State). Q z v a (with_site_at x.session x.world (Some left) (site_at old.sites.items) z v)) (stays-at x.session x.world (N.site x.session x.world) N.site refl z v)
    (at-place Q x.session x.world (N.site x.session x.world) (Some left) N.site (site_at old.sites.items) (λ j. (i, m.ahead)) h.sites z v) in
    record {
      deeds = [];
      after = N;
      turn = m.turn;
      made = record {
        stands = record { board = m.board; sites = λ z v. subst (λ (f : Sites). Q z v (N.site z v) (f z v)) (sym rows) (sites z v) };
        entries = m.entries ∙ sym (append-nil old.shared.entries);
        own = tt;
      };
    }

-- what is held stays ready
abbrev Ready : Bundle → Sites → Type 0
Ready O f = (z : ℕ) (v : World) → IsReadyLeft O z v (f z v)

pub ready_after : (O : Bundle) (x : SiteName) (left : Option Held) (old new : Running) → IsReady O old → site_at new.sites.items ≡ with_site_at x.session x.world left (site_at old.sites.items) → IsReadyLeft O x.session x.world left →
    length new.sites.items ≡ length old.sites.items → length new.shared.board.desks ≡ length old.shared.board.desks → StaysReady O old new
ready_after O x left old new h rows here sessions desks =
    let Q : ℕ → World → Option Held → Option Held → Type 0 = λ z v a b. IsReadyLeft O z v a in
    record {
      count = sessions;
      ready = record {
        desks = desks ∙ (h.desks ∙ sym sessions);
        sites = subst (Ready O) (sym rows) (at-place Q x.session x.world left left (site_at old.sites.items) (site_at old.sites.items) here h.sites);
      };
    }

pub ready_back : (O : Bundle) (x : SiteName) (left : Option Held) (old mid new : Running) → IsReady O old → site_at mid.sites.items ≡ with_site_at x.session x.world None (site_at old.sites.items) → site_at new.sites.items ≡ with_site_at x.session x.world left (site_at mid.sites.items) → IsReadyLeft O x.session x.world left →
    length new.sites.items ≡ length old.sites.items → length new.shared.board.desks ≡ length old.shared.board.desks → StaysReady O old new
ready_back O x left old mid new h taken put = ready_after O x left old new h (put-back x.session x.world None left (site_at old.sites.items) (site_at mid.sites.items) (site_at new.sites.items) taken put)
