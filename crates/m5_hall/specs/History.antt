-- A history as entries with the numbers of the passes that made them, and lists of own entries.
use Rattle.std.specs.Prelude.{◌≡◌, ℕ, ◌==◌, List, map, length, All, Contains}
use Rattle.std.specs.List.{filter, sum_by, count_by}

module _ {E : Type 0} where
  -- the history itself
  abbrev pub entries : List (ℕ × E) → List E
  entries log = map (λ x. x.1) log

  -- the entries that the pass of this number made, in order
  abbrev pub made_by : ℕ → List (ℕ × E) → List E
  made_by n log = map (λ x. x.1) (filter (λ x. x.0 == n) log)

  -- how many entries these lists have
  abbrev pub entry_count : List (ℕ × List E) → ℕ
  entry_count own = sum_by (λ x. length x.1) own

  -- how often this number has a list among them
  abbrev pub times : ℕ → List (ℕ × List E) → ℕ
  times n own = count_by (λ x. x.0 == n) own

  -- the entries of a history have numbers, and each list has those of its number. Where the lists have as many entries as the history, there are no others
  pub record HasOwn (history : List E) (own : List (ℕ × List E)) : Type 0 where
    pub log : List (ℕ × E)
    pub log_is : entries log ≡ history
    pub own_is : All (λ x. made_by x.0 log ≡ x.1) own
    pub no_others : entry_count own ≡ length history → All (λ x. Contains (map (λ o. o.0) own) x.0) log
