-- A session's page, and the handlers of an element.
use Rattle.std.specs.Prelude.{ℕ, if◌then◌else◌, List, [], ◌∷◌}
use Rattle.std.specs.Str.{bytes_eq}
use Rattle.m5_script.specs.declared.items.TextPair.{TextPair}
use Rattle.m5_page.specs.declared.row.Handler.{Handler}

-- the texts of elements, and the handlers in order of registration
pub record PageRecord : Type 0 where
  pub texts : List TextPair
  pub handlers : List Handler

-- the numbers of an element's handlers, in order of registration
abbrev pub handlers_of : List Handler → List ℕ → List ℕ
handlers_of [] element = []
handlers_of (h ∷ hs) element = if bytes_eq h.element element then h.number ∷ handlers_of hs element else handlers_of hs element
