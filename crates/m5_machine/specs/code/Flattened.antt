-- A body as a list of steps, and blocks laid out one after the other.
use Rattle.std.specs.Prelude.{◌≡◌, ℕ, ◌+◌, ◌≤◌, ◌<◌, List, [], ◌∷◌, ◌++◌, length}
use Rattle.std.specs.List.{flat_map}
use Rattle.m5_machine.specs.declared.step.Step.{Step}
use Rattle.m5_machine.specs.declared.step.Step.TheVariants as steps
use Rattle.m5_machine.specs.Body.{Body, Then, If, Go, Ask, Send, Done, fills, depth}
use Rattle.m5_machine.specs.Labelled.{Labelled, blocks_of}

-- in the order in which a body is written, the place of each second body left open
unfoldable pub flattened : Body → List Step
flattened (Then i b) = steps.Fill i ∷ flattened b
flattened (If s a b) = steps.If s 0 ∷ (flattened a ++ flattened b)
flattened (Go closure value) = steps.Go closure value ∷ []
flattened (Ask primitive argument next) = steps.Ask primitive argument next ∷ []
flattened (Send world closure value) = steps.Send world closure value ∷ []
flattened Done = steps.Done ∷ []

abbrev pub laid : Labelled → List Step
laid b = flattened b.body

-- each start is the place of a step, or stands for none
abbrev pub StartsWithin : ℕ → List ℕ → Type 0
StartsWithin n [] = Unit {0}
StartsWithin n (start ∷ starts) = ((start ≡ 4294967295 → ⊥) → start < n) × StartsWithin n starts

-- blocks laid out one after the other, and where they begin
pub record IsLaid (starts : List ℕ) (ss : List Step) (bs : List Labelled) : Type 0 where
  pub steps : ss ≡ flat_map laid bs
  pub blocks : blocks_of (record { starts = starts; steps = ss }) ≡ bs
  pub within : StartsWithin (length ss) starts

-- bodies that blocks may have
abbrev pub AllFit : List Labelled → Type 0
AllFit [] = Unit {0}
AllFit (b ∷ bs) = (fills b.body ≤ 65534) × (depth b.body ≤ 1000) × AllFit bs

-- labels from one on, in rising order
abbrev pub Rising : ℕ → List Labelled → Type 0
Rising n [] = Unit {0}
Rising n (b ∷ bs) = (n ≤ b.label) × (b.label < 65536) × Rising (b.label + 1) bs

-- what holds of each step of a body, and of bodies
unfoldable pub EachStep : (Step → Type 0) → Body → Type 0
EachStep P (Then i b) = P (steps.Fill i) × EachStep P b
EachStep P (If s a b) = P (steps.If s 0) × EachStep P a × EachStep P b
EachStep P (Go closure value) = P (steps.Go closure value)
EachStep P (Ask primitive argument next) = P (steps.Ask primitive argument next)
EachStep P (Send world closure value) = P (steps.Send world closure value)
EachStep P Done = P steps.Done

abbrev pub EachBlock : (Step → Type 0) → List Labelled → Type 0
EachBlock P [] = Unit {0}
EachBlock P (b ∷ bs) = EachStep P b.body × EachBlock P bs
