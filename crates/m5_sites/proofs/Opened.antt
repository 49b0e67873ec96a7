-- The sites and the board as a run opens: each site of the run, and nothing with free variables.
use Rattle.std.proofs.Common.{◌≡◌, ◌≢◌, ℕ, zero, suc, ◌<◌, ◌≤◌, List, [], ◌∷◌, length, Option, Some, All, refl, sym, ap, subst, ◌∙◌, arith}
use Rattle.std.specs.Prelude.{slice_get, replicate}
use Rattle.std.proofs.lemmas.List.{length-replicate, get_or-replicate}
use Rattle.std.proofs.lemmas.Option.{slice_get-get_or}
use Rattle.std.proofs.lemmas.List.Elements.{All-nil, All-cons, All-map}
use Rattle.m5_terms.specs.declared.types.World.{World}
use Rattle.m5_terms.specs.declared.types.World.TheVariants.{Home, Server, Panel, Any}
use Rattle.m5_meaning.specs.Site.{Program, Item, raw}
use Rattle.m5_script.specs.Scenario.{Scenario}
use Rattle.m5_script.specs.declared.items.RawItem.{RawItem}
use Rattle.m5_network.specs.Opening.{opening_board, opening_site, opening_threads, raw_items, raws_for}
use Rattle.m5_terms.specs.declared.per_world.PerWorld.{PerWorld}
use Rattle.m5_terms.specs.PerWorld.{at, each}
use Rattle.m5_terms.proofs.PerWorlds.{each-at}
use Rattle.m5_terms.proofs.SiteWorlds.{is-real}
use Rattle.m5_source_site.specs.ClosedSite.{IsClosedFrame, IsClosedThread, IsClosedSite, IsClosedProgram, IsClosedItem}
use Rattle.m5_terms.specs.Closed.{IsClosed}
use Rattle.m5_meaning.specs.Site.{Site}
use Rattle.m5_sites.specs.ClosedSites.{IsClosedBoard, IsClosedLeft}
use Rattle.m5_sites.specs.Opening.{sites_opened}
use Rattle.m5_sites.specs.Sites.{SessionSites, site_in, site_of_session, site_at}

-- each of the copies is the one that was copied
copied : {A : Type 0} (n k : ℕ) (x : A) → k < n → slice_get (replicate n x) k ≡ Some x
copied n k x h =
    let within : k < length (replicate n x) = rw (length-replicate n x) h in
    slice_get-get_or (replicate n x) k x within ∙ ap Some (get_or-replicate n k x x h)

in-row : (P : Program) (w : World) → w ≢ Any → site_in (sites_opened P) w ≡ Some (opening_site (opening_threads P w))
in-row P Home n = refl
in-row P Server n = refl
in-row P Panel n = refl
in-row P Any n = absurd (n refl)

-- each site of a session stands in its row
pub opened-at : (P : Program) (n s : ℕ) (w : World) → w ≢ Any → 1 ≤ s → s ≤ n → site_at (replicate n (sites_opened P)) s w ≡ Some (opening_site (opening_threads P w))
opened-at P n zero w r h k = absurd (omega (arith, h))
opened-at P n (suc s) w r h k = ap (λ (o : Option SessionSites). site_of_session o w) (copied n s (sites_opened P) (omega (arith, k))) ∙ in-row P w r

main-closed : (P : Program) → IsClosedProgram P → IsClosedSite (opening_site (opening_threads P Home))
main-closed P h = record {
  threads = All-cons IsClosedThread _ [] (record { frames = All-nil IsClosedFrame; focus = h.main }) (All-nil IsClosedThread);
  cells = All-nil IsClosed;
  handlers = All-nil IsClosed;
}

idle-closed : IsClosedSite (opening_site [])
idle-closed = record { threads = All-nil IsClosedThread; cells = All-nil IsClosed; handlers = All-nil IsClosed }

row-closed : (P : Program) → IsClosedProgram P → (w : World) → IsClosedLeft (site_in (sites_opened P) w)
row-closed P h Home = main-closed P h
row-closed P h Server = idle-closed
row-closed P h Panel = idle-closed
row-closed P h Any = tt

of-copies : (P : Program) → IsClosedProgram P → (n k : ℕ) (w : World) → IsClosedLeft (site_of_session (slice_get (replicate n (sites_opened P)) k) w)
of-copies P h zero k w = tt
of-copies P h (suc n) zero w = row-closed P h w
of-copies P h (suc n) (suc k) w = of-copies P h n k w

pub rows-closed : (P : Program) → IsClosedProgram P → (n s : ℕ) (w : World) → IsClosedLeft (site_at (replicate n (sites_opened P)) s w)
rows-closed P h n zero w = tt
rows-closed P h n (suc s) w = of-copies P h n s w

abbrev IsClosedRaw : RawItem → Type 0
IsClosedRaw r = IsClosedItem (raw r.bytes)

raws-closed : (rs : List RawItem) → All IsClosedRaw rs
raws-closed [] = All-nil IsClosedRaw
raws-closed (r ∷ rs) = All-cons IsClosedRaw r rs tt (raws-closed rs)

-- the links of the opening hold raw bytes alone
pub links-closed : (S : Scenario) → IsClosedBoard (opening_board S)
links-closed S = λ s v w.
    each-at (λ (r : PerWorld (List Item)). All IsClosedItem (at r w)) (λ u. each (λ x. raw_items s u x S.raws)) v
    (λ u. each-at (All IsClosedItem) (λ x. raw_items s u x S.raws) w (λ x. All-map IsClosedItem (λ (r : RawItem). raw r.bytes) (raws_for s u x S.raws) (raws-closed (raws_for s u x S.raws))))
