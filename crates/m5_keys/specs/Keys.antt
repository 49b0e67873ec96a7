-- The key store, and who watches a key.
use Rattle.std.specs.Prelude.{ℕ, if◌then◌else◌, List, [], ◌∷◌}
use Rattle.std.specs.Str.{bytes_eq}
use Rattle.m5_script.specs.declared.items.TextPair.{TextPair}
use Rattle.m5_keys.specs.declared.watch.Watch.{Watch}
use Rattle.m5_keys.specs.declared.watch.Watcher.{Watcher}

-- a pair for each key that has a text, and the watches in order of registration
pub record KeyStore : Type 0 where
  pub pairs : List TextPair
  pub watches : List Watch

-- who watches the key, in order of registration
abbrev pub watchers_of : List Watch → List ℕ → List Watcher
watchers_of [] key = []
watchers_of (w ∷ ws) key = if bytes_eq w.key key then record { session = w.session; number = w.number } ∷ watchers_of ws key else watchers_of ws key
