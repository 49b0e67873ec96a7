-- Texts that are a browser's code, and the first line of one that is none.
use Rattle.std.specs.Prelude.{◌≡◌, ℕ, ◌+◌, List, [], ◌∷◌, ◌++◌, length, All}
use Rattle.std.specs.List.{flat_map}
use Rattle.m5_machine.specs.Blocks.{Flat}
use Rattle.m5_machine.specs.Labelled.{Labelled}
use Rattle.m5_machine.specs.Numbers.{IsStep}
use Rattle.m5_machine.specs.code.Flattened.{AllFit, Rising, EachBlock}
use Rattle.m5_js.specs.declared.reading.JsEnd.{JsEnd}
use Rattle.m5_js.specs.declared.reading.JsEnd.TheVariants.{Bad, Memory}
use Rattle.m5_js.specs.Page.{IsPageCode}
use Rattle.m5_js.specs.Spelling.{line_text, page_text}
use Rattle.m5_js.specs.Page.{IsPageStep}

-- the code is a browser's, its numbers are ones that the types hold, and it has this text
pub record Spells (code : Flat) (text : List ℕ) : Type 0 where
  pub page : IsPageCode code
  pub numbers : All IsStep code.steps
  pub spelled : page_text code ≡ text

-- blocks that a browser's code may have
pub record ArePageBlocks (bs : List Labelled) : Type 0 where
  pub rising : Rising 0 bs
  pub fit : AllFit bs
  pub good : EachBlock IsPageStep bs

-- the lines before it are such blocks, and with no line more they are the beginning of the text
pub record FirstBad (text : List ℕ) (line : ℕ) : Type 0 where
  pub before : List Labelled
  pub rest : List ℕ
  pub is : text ≡ flat_map line_text before ++ rest
  pub blocks : ArePageBlocks before
  pub line_is : line ≡ length before + 1
  pub none : (b : Labelled) (behind : List ℕ) → ArePageBlocks (before ++ b ∷ []) → rest ≡ line_text b ++ behind → ⊥

-- want of memory may end a reading anywhere, a fault where no code has the text
abbrev pub NoPage : JsEnd → List ℕ → Type 0
NoPage (Bad place) text = FirstBad text place.line × (place.column ≡ 1) × ((code : Flat) → Spells code text → ⊥)
NoPage Memory text = Unit {0}
