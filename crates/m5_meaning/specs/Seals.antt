-- Which items have a seal.
use Rattle.std.specs.Prelude.{Bool, true, false}
use Rattle.m5_meaning.specs.Site.{Item, thread, raw}

-- a thread has the seal of the site that it left, and raw bytes have none
abbrev pub has_seal : Item → Bool
has_seal (thread t) = true
has_seal (raw bytes) = false
