-- Two passes over sites of different items, one after the other, are one pass by both items.
use Rattle.m5_terms.specs.Matching.{then_reads, Matches}
use Rattle.m5_terms.specs.declared.types.World.{World}
use Rattle.m5_terms.specs.Related.{Asking, asking_machine, reads_items, through, state_through}
use Rattle.m5_terms.proofs.Matched.{both-match, reread}
use Rattle.m5_terms.proofs.Lifted.{ask-through, answer-between}

pub items-match : (A B C : Asking) (Q : B.State → A.State → Type 0) (R : C.State → B.State → Type 0) (I : World → B.Item → A.Item → Type 0) (J : World → C.Item → B.Item → Type 0) (w : World) →
    Matches (asking_machine A) (asking_machine B) (reads_items A B Q I w) → Matches (asking_machine B) (asking_machine C) (reads_items B C R J w) →
    Matches (asking_machine A) (asking_machine C) (reads_items A C (state_through Q R) (through I J) w)
items-match A B C Q R I J w F G =
    let over = reads_items A B Q I w in
    let under = reads_items B C R J w in
    let whole = reads_items A C (state_through Q R) (through I J) w in
    reread (asking_machine A) (asking_machine C) (then_reads (asking_machine A) (asking_machine B) (asking_machine C) over under) whole (λ c a r. r) (λ c a r. r)
    (λ q p k. ask-through I J q k.0 p k.1 k.2) (λ r p k. answer-between (I w) (J w) r p k) (both-match (asking_machine A) (asking_machine B) (asking_machine C) over under F G)
