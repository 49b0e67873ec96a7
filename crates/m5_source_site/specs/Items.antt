-- What the items of links stand for, and how a proof tells such items apart.
use Rattle.std.specs.Prelude.{◌≡◌, ℕ, List, ◌⊎◌, refl}
use Rattle.std.proofs.Common.{inl, inr}
use Rattle.std.specs.Coded.{Coded, code_by, coded⊎, coded_list, coded_ℕ}
use Rattle.m5_meaning.specs.Site.{Thread, Item, thread, raw}
use Rattle.m5_source_site.specs.declared.item.SiteItem.{SiteItem}
use Rattle.m5_source_site.specs.declared.item.SiteItem.TheVariants as site_item
use Rattle.m5_source_site.specs.Codes.{thread_code}

-- the definitions' item
abbrev pub item_of : SiteItem → Item
item_of (site_item.Thread t) = thread t
item_of (site_item.Raw bytes) = raw bytes

abbrev pub parted : Item → Thread ⊎ List ℕ
parted (thread t) = inl t
parted (raw bytes) = inr bytes

abbrev pub joined : Thread ⊎ List ℕ → Item
joined (inl t) = thread t
joined (inr bytes) = raw bytes

pub same_again : (i : Item) → joined (parted i) ≡ i
same_again (thread t) = refl
same_again (raw bytes) = refl

abbrev pub item_code : Coded Item
item_code = code_by (Thread ⊎ List ℕ) (coded⊎ thread_code (coded_list coded_ℕ)) parted joined same_again
